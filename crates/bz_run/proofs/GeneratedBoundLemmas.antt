-- How much a generated job counts at most.
use Rattle.std.proofs.Common.{◌≡◌, ℕ, zero, suc, ◌+◌, ◌*◌, ◌/◌, ◌%◌, ◌<◌, ◌≤◌, Bool, true, false, cond, not, List, [], ◌∷◌, length, map, Option, Some, None, Result, Ok, Err, refl, sym, ap, subst, ◌∙◌, arith}
use Rattle.std.proofs.Math.Nat.{mod-lt}
use Rattle.std.proofs.lemmas.List.{length-map}
use Rattle.std.proofs.lemmas.List.Sums.{count_by-le-length, sum_by-cons}
use Rattle.bz_base.specs.Answer.{Answer, Call, Site, in_batch}
use Rattle.bz_base.specs.Answer.Answer.{Known, Unknown}
use Rattle.bz_base.specs.Chain.{around, chain, chain_from, depths, inner, link}
use Rattle.bz_base.specs.declared.error.Error.{Error}
use Rattle.bz_base.specs.declared.types.FindSymOpts.{FindSymOpts}
use Rattle.bz_base.specs.declared.types.FindSymOpts.TheVariants as asked
use Rattle.bz_base.specs.declared.types.Reason.TheVariants as reasons
use Rattle.bz_base.proofs.SeenLaws.{calls_rotated}
use Rattle.bz_breakpad.specs.Locations.{Location, by_line, by_seen, call_name, call_site, calls_asked, line_at, location_at, seen_from, site_in}
use Rattle.bz_breakpad.specs.Plain.{any_between, batch, by_function, by_location, by_public, by_records, function_at, plain, public_at, public_symbol_at}
use Rattle.bz_breakpad.specs.Table.{Function, Inlinee, PublicSymbol, SourceLine, Table}
use Rattle.bz_breakpad.proofs.AddressLaws.{known_at}
use Rattle.bz_canon.specs.Generated.{address_by, addresses_after, next_number}
use Rattle.bz_run.specs.GeneratedSummary.{Fits, calls_in, inlined, is_known, offset_in, offsets, tally_of}

-- a chain has no more records than there are depths
module _ {X : Type 0} (depth start size : X → ℕ) (records : List X) (addr : ℕ) where
  few_linked : (found : Option X) (rest : ℕ → List X) (most : ℕ) → length (rest 0) ≤ most → length (link depth start size found rest) ≤ suc most
  few_linked None rest most few = omega arith
  few_linked (Some x) rest most few = omega (arith, few)

  few_from : (most at : ℕ) → length (chain_from depth start size records addr most at) ≤ most
  unfolding chain_from
  few_from zero at = omega arith
  few_from (suc most) at = few_linked (around depth start size addr (inner depth start at addr records)) (λ _. chain_from depth start size records addr most (at + 1)) most (few_from most (at + 1))

  few_in_chain : length (chain depth start size records addr) ≤ depths
  unfolding chain
  few_in_chain = few_from depths 0

module _ (table : Table) (addr : ℕ) where
  -- what is seen has as many calls as there are around the address
  as_many_seen : (calls : List Inlinee) (line : SourceLine) (seen : Site × List Call) → seen_from table calls line ≡ Some seen → length seen.1 ≡ length calls
  as_many_seen calls line seen is =
      let names = ((calls_rotated (call_site table) (call_name table) (site_in table line.file line.line) calls seen).0 is).names_are in
      sym (length-map seen.1 (λ (call : Call). Some call.name)) ∙ ap length names ∙ length-map calls (call_name table)

  few_seen : (calls : List Inlinee) (line : SourceLine) (location : Location) (seen : Option (Site × List Call)) → seen_from table calls line ≡ seen → by_seen seen ≡ Ok location →
      length calls ≤ depths → length location.calls ≤ depths
  few_seen calls line location None found is few = cc
  few_seen calls line location (Some seen) found is few =
      let same : record { site = Some seen.0; calls = seen.1 } ≡ location = cc in
      subst (λ (p : Location). length p.calls ≤ depths) same (rw (as_many_seen calls line seen found) few)

  few_asked : (opts : FindSymOpts) (inlinees : List Inlinee) → length (calls_asked opts addr inlinees) ≤ depths
  few_asked asked.Basic inlinees = omega arith
  few_asked asked.CodeInfo inlinees = omega arith
  few_asked asked.CodeInfoAndInlined inlinees = few_in_chain (λ (i : Inlinee). i.depth) (λ i. i.start) (λ i. i.size) inlinees addr

  few_by_line : (opts : FindSymOpts) (f : Function) (location : Location) (line : Option SourceLine) → by_line table opts f addr line ≡ Ok location → length location.calls ≤ depths
  few_by_line opts f location None is =
      let same : record { site = None; calls = [] } ≡ location = cc in
      subst (λ (p : Location). length p.calls ≤ depths) same (omega arith)
  few_by_line opts f location (Some line) is = few_seen (calls_asked opts addr f.inlinees) line location (seen_from table (calls_asked opts addr f.inlinees) line) refl is (few_asked opts f.inlinees)

  few_located : (opts : FindSymOpts) (f : Function) (location : Location) → location_at table opts f addr ≡ Ok location → length location.calls ≤ depths
  few_located asked.Basic f location is =
      let same : record { site = None; calls = [] } ≡ location = cc in
      subst (λ (p : Location). length p.calls ≤ depths) same (omega arith)
  few_located asked.CodeInfo f location is = few_by_line asked.CodeInfo f location (line_at addr f.lines) is
  few_located asked.CodeInfoAndInlined f location is = few_by_line asked.CodeInfoAndInlined f location (line_at addr f.lines) is

  -- so an answer has no more inlined calls
  module _ (opts : FindSymOpts) where
    few_by_location : (f : Function) (location : Result Location Error) → location_at table opts f addr ≡ location → calls_in (in_batch (by_location table f addr location)) ≤ depths
    few_by_location f (Ok location) is = few_located opts f location is
    few_by_location f (Err e) is = omega arith

    few_if_public : (p : PublicSymbol) (between : Bool) → calls_in (cond {A = Answer} between (Unknown reasons.UnknownAddr) (Known (public_symbol_at table p addr))) ≤ depths
    few_if_public p true = omega arith
    few_if_public p false = omega arith

    few_by_public : (found : Option PublicSymbol) → calls_in (by_public table addr found) ≤ depths
    few_by_public None = omega arith
    few_by_public (Some p) = few_if_public p (any_between p.start addr (map (λ (f : Function). f.start) table.functions))

    few_by_function : (found : Option Function) → calls_in (in_batch (by_function table opts addr found)) ≤ depths
    few_by_function None = few_by_public (public_at addr table.publics)
    few_by_function (Some f) = few_by_location f (location_at table opts f addr) refl

    few_by_records : (functions : List Function) (publics : List PublicSymbol) → calls_in (in_batch (by_records table opts addr functions publics)) ≤ depths
    few_by_records [] [] = omega arith
    few_by_records [] (p ∷ ps) = few_by_function None
    few_by_records (f ∷ fs) ps = few_by_function (function_at addr (f ∷ fs))

    few_calls : calls_in (in_batch (plain table opts addr)) ≤ depths
    few_calls = few_by_records table.functions table.publics

    -- and no symbol starts further below the address than address 0
    near : (given : Result Answer Error) → plain table opts addr ≡ given → offset_in (in_batch given) ≤ addr
    near (Ok (Known symbol)) is = let whole = known_at table opts addr symbol is in omega (arith, whole)
    near (Ok (Unknown reason)) is = omega arith
    near (Err e) is = omega arith

    near_start : offset_in (in_batch (plain table opts addr)) ≤ addr
    near_start = near (plain table opts addr) refl

module _ (table : Table) (opts : FindSymOpts) where
  calls_bounded : (addrs : List ℕ) → inlined (batch table opts addrs) ≤ length addrs * depths
  calls_bounded [] = omega arith
  calls_bounded (addr ∷ addrs) =
      let cons = sum_by-cons calls_in (in_batch (plain table opts addr)) (batch table opts addrs) in
      omega (arith, cons, few_calls table addr opts, calls_bounded addrs)

  module _ (functions : ℕ) (few : functions ≤ 100000) where
    address_bounded : (x : ℕ) → address_by functions x ≤ 6404160
    address_bounded x = let less : (x / 65536) % (64 * functions + 64) < 64 * functions + 64 = mod-lt (x / 65536) (omega arith) in omega (arith, less, few)

    offsets_bounded : (x n : ℕ) → offsets (batch table opts (addresses_after functions x n)) ≤ n * 6404160
    unfolding addresses_after
    offsets_bounded x zero = omega arith
    offsets_bounded x (suc n) =
        let next = next_number x in
        let addr = address_by functions next in
        let cons = sum_by-cons offset_in (in_batch (plain table opts addr)) (batch table opts (addresses_after functions next n)) in
        omega (arith, cons, near_start table addr opts, address_bounded next, offsets_bounded next n)

as_many_addresses : (functions x n : ℕ) → length (addresses_after functions x n) ≡ n
unfolding addresses_after
as_many_addresses functions x zero = refl
as_many_addresses functions x (suc n) = ap suc (as_many_addresses functions (next_number x) n)

-- what a generated job counts has 64 bits
pub generated_fits : (table : Table) (opts : FindSymOpts) (functions seed addresses : ℕ) → functions ≤ 100000 → addresses ≤ 100000 →
    Fits (tally_of (batch table opts (addresses_after functions seed addresses)))
generated_fits table opts functions seed addresses few some =
    let addrs = addresses_after functions seed addresses in
    let answers = batch table opts addrs in
    let long : length answers ≡ addresses = length-map addrs (λ addr. in_batch (plain table opts addr)) ∙ as_many_addresses functions seed addresses in
    let calls : inlined answers ≤ addresses * depths = subst (λ (n : ℕ). inlined answers ≤ n * depths) (as_many_addresses functions seed addresses) (calls_bounded table opts addrs) in
    record {
      known = omega (arith, count_by-le-length is_known answers, long, some);
      unknown = omega (arith, count_by-le-length (λ answer. not (is_known answer)) answers, long, some);
      inlined = omega (arith, calls, some);
      offsets = omega (arith, offsets_bounded table opts functions few seed addresses, some);
    }
