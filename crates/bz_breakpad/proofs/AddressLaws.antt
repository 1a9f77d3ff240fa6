-- Where a symbol lies that answers for an address.
use Rattle.std.proofs.Common.{◌≡◌, ℕ, ◌+◌, ◌≤◌, Bool, true, false, cond, map, List, [], ◌∷◌, Option, Some, None, Result, Ok, Err, refl, subst, arith}
use Rattle.bz_base.specs.Answer.{Answer, Symbol}
use Rattle.bz_base.specs.Answer.Answer.{Known, Unknown}
use Rattle.bz_base.specs.declared.error.Error.{Error}
use Rattle.bz_base.specs.declared.types.FindSymOpts.{FindSymOpts}
use Rattle.bz_base.specs.declared.types.Reason.TheVariants as reasons
use Rattle.bz_base.proofs.NearestLemmas.{nearest_covering_is}
use Rattle.bz_breakpad.specs.Plain.{any_between, by_function, by_location, by_public, by_records, function_at, plain, public_at, public_symbol_at, symbol_at}
use Rattle.bz_breakpad_function.specs.Locations.{Location, location_at}
use Rattle.bz_breakpad_lines.specs.Table.{Function, PublicSymbol, Table}
use Rattle.bz_breakpad.proofs.PublicLemmas.{public_one}

-- what covers an address starts at or below it
pub starts_below : (addr : ℕ) (functions : List Function) (f : Function) → function_at addr functions ≡ Some f → f.start ≤ addr
starts_below addr functions f found =
    let is = rw found at (nearest_covering_is (λ (f : Function). f.start) (λ f. f.size) addr functions) in is.1.not_above

-- what is found of the PUBLIC records starts at or below the address
pub public_below : (addr : ℕ) (publics : List PublicSymbol) (p : PublicSymbol) → public_at addr publics ≡ Some p → p.start ≤ addr
public_below addr publics p found = (public_one addr publics p found).below

-- a symbol's start and offset make up the address
pub known_at : (table : Table) (opts : FindSymOpts) (addr : ℕ) (s : Symbol) → plain table opts addr ≡ Ok (Known s) → s.addr + s.offset ≡ addr
known_at table opts addr s is = by_list table.functions table.publics is where
  with_location : (f : Function) → f.start ≤ addr → (location : Result Location Error) → by_location table f addr location ≡ Ok (Known s) → s.addr + s.offset ≡ addr
  with_location f below (Ok location) is =
      let same : symbol_at table f addr location ≡ s = cc in
      subst (λ (s : Symbol). s.addr + s.offset ≡ addr) same (omega (arith, below))
  with_location f below (Err e) is = cc

  by_clear : (p : PublicSymbol) → p.start ≤ addr → (between : Bool) → cond {A = Answer} between (Unknown reasons.UnknownAddr) (Known (public_symbol_at table p addr)) ≡ Known s → s.addr + s.offset ≡ addr
  by_clear p below true is = cc
  by_clear p below false is =
      let same : public_symbol_at table p addr ≡ s = cc in
      subst (λ (s : Symbol). s.addr + s.offset ≡ addr) same (omega (arith, below))

  by_one : (o : Option PublicSymbol) → public_at addr table.publics ≡ o → by_public table addr o ≡ Known s → s.addr + s.offset ≡ addr
  by_one None found is = cc
  by_one (Some p) found is = by_clear p (public_below addr table.publics p found) (any_between p.start addr (map (λ (f : Function). f.start) table.functions)) is

  by_found : (functions : List Function) (o : Option Function) → function_at addr functions ≡ o → by_function table opts addr o ≡ Ok (Known s) → s.addr + s.offset ≡ addr
  by_found functions None found is = by_one (public_at addr table.publics) refl (cc)
  by_found functions (Some f) found is = with_location f (starts_below addr functions f found) (location_at table opts f addr) is

  by_list : (functions : List Function) (publics : List PublicSymbol) → by_records table opts addr functions publics ≡ Ok (Known s) → s.addr + s.offset ≡ addr
  by_list [] [] is = cc
  by_list [] (p ∷ ps) is = by_found [] None refl is
  by_list (f ∷ fs) ps is = by_found (f ∷ fs) (function_at addr (f ∷ fs)) refl is
