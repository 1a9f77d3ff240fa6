-- What is kept of a perf map answers as its functions do.
use Rattle.std.proofs.Common.{◌≡◌, ℕ, ◌≤◌, Bool, true, false, List, map, Option, Some, None, option_and_then, option_map, Ok, Err, refl, sym, ap, subst, ◌∙◌}
use Rattle.bz_base.specs.Answer.{Resolved}
use Rattle.bz_base.specs.Nearest.{IsTable, candidate, if_covers, nearest_covering}
use Rattle.bz_base.specs.Span.{covers}
use Rattle.bz_base.specs.Starts.{NeverDescends}
use Rattle.bz_base.specs.declared.types.Reason.TheVariants as reasons
use Rattle.bz_base.proofs.NearestLemmas.{candidate_is, nearest_covering_is}
use Rattle.bz_base.proofs.ViewLemmas.{covering_through, table_itself}
use Rattle.bz_proc.specs.PerfKept.{IsKept, IsNamed, function_at}
use Rattle.bz_proc.specs.PerfLine.{PerfFunction}
use Rattle.bz_proc.specs.PerfMap.{found, functions, plain, resolved}
use Rattle.bz_proc.specs.declared.perf_map.entry.PerfEntry.{PerfEntry}
use Rattle.bz_base.proofs.InTableLemmas.{at_place, starts_ascend}

module _ (bytes : List ℕ) (entries : List PerfEntry) (is : IsKept bytes entries) where
  -- the entries are a table of themselves
  pub own_table : IsTable (λ e. e.start) (λ e. e.size) entries entries
  own_table = table_itself (λ (f : PerfFunction). f.start) (λ f. f.size) (function_at bytes) (functions bytes) entries is.functions_are

  pub never_descends : NeverDescends (map (λ (e : PerfEntry). e.start) entries)
  never_descends = starts_ascend (λ (e : PerfEntry). e.start) (λ e. e.size) entries entries own_table

  module _ (addr : ℕ) where
    abbrev nearest : Option PerfEntry
    nearest = nearest_covering (λ e. e.start) (λ e. e.size) addr entries

    through : plain bytes addr ≡ found (option_map (function_at bytes) nearest)
    through = ap found (sym (covering_through (λ (f : PerfFunction). f.start) (λ f. f.size) (function_at bytes) (functions bytes) entries is.functions_are addr))

    pub unknown : None ≡ nearest → plain bytes addr ≡ Err reasons.UnknownAddr
    unknown none = through ∙ ap (λ o. found (option_map (function_at bytes) o)) (sym none)

    pub known : (entry : PerfEntry) → Some entry ≡ nearest → plain bytes addr ≡ Ok (resolved (function_at bytes entry))
    known entry one = through ∙ ap (λ o. found (option_map (function_at bytes) o)) (sym one)

    pub named : (entry : PerfEntry) → Some entry ≡ nearest → IsNamed bytes entry
    named entry one =
        let near = rw (← one) at (nearest_covering_is (λ (e : PerfEntry). e.start) (λ e. e.size) addr entries) in
        at_place (IsNamed bytes) entries is.named near.0 entry near.1.there

-- What answers an address starts there or before it.
module _ (addr : ℕ) where
  found_start : (f : PerfFunction) (r : Resolved) → found (Some f) ≡ Ok r → r.addr ≡ f.start
  found_start f r is = cc is

  by_cover : (f g : PerfFunction) (b : Bool) → covers f.start f.size addr ≡ b → if_covers (λ (h : PerfFunction). h.start) (λ h. h.size) addr f ≡ Some g → f ≡ g
  by_cover f g true is same = let some = rw is at same in cc some
  by_cover f g false is same = let none = rw is at same in absurd (cc none)

  by_candidate : (list : List PerfFunction) (near : Option PerfFunction) → candidate (λ (f : PerfFunction). f.start) (λ f. f.size) addr list ≡ near → (g : PerfFunction) →
      option_and_then (if_covers (λ (f : PerfFunction). f.start) (λ f. f.size) addr) near ≡ Some g → g.start ≤ addr
  by_candidate list None is g same = absurd (cc same)
  by_candidate list (Some near) is g same =
      let tried = candidate_is (λ (f : PerfFunction). f.start) (λ f. f.size) addr list near is in
      subst (λ (f : PerfFunction). f.start ≤ addr) (by_cover near g (covers near.start near.size addr) refl same) tried.1.not_above

  by_found : (list : List PerfFunction) (answer : Option PerfFunction) → nearest_covering (λ (f : PerfFunction). f.start) (λ f. f.size) addr list ≡ answer → (r : Resolved) →
      found answer ≡ Ok r → r.addr ≤ addr
  by_found list None is r given = absurd (cc given)
  by_found list (Some f) is r given =
      subst (λ (n : ℕ). n ≤ addr) (sym (found_start f r given)) (by_candidate list (candidate (λ (h : PerfFunction). h.start) (λ h. h.size) addr list) refl f is)

  pub starts_before : (bytes : List ℕ) (r : Resolved) → plain bytes addr ≡ Ok r → r.addr ≤ addr
  starts_before bytes r given = by_found (functions bytes) (nearest_covering (λ (f : PerfFunction). f.start) (λ f. f.size) addr (functions bytes)) refl r given
