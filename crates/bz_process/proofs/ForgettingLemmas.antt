-- The answers of a dispatcher that stay where others are forgotten.
use Rattle.std.proofs.Common.{◌≡◌, ℕ, Bool, true, false, not, cond, List, Option, Some, None, refl, sym, ap, ap₂, ◌∙◌}
use Rattle.std.specs.BTreeMap.{is_at}
use Rattle.std.specs.Cmp.{Equal-is}
use Rattle.std.specs.Cmp.Lexicographic.{slice_cmp}
use Rattle.std.specs.Ordering.{is_eq, nat_cmp, ordering_then}
use Rattle.std.specs.String.{string_bytes}
use Rattle.std.specs.declared.cmp.Ordering.{Ordering}
use Rattle.std.specs.declared.cmp.Ordering.TheVariants.{Less, Equal, Greater}
use Rattle.std.proofs.lemmas.Bool.{false≢true}
use Rattle.std.proofs.lemmas.Map.Entries.{lookup-filter-keys}
use Rattle.bz_cache.proofs.Naming.{paths_apart}
use Rattle.bz_proc.specs.Maps.{Name, File, Component, name_of}
use Rattle.bz_proc.specs.NameOrder.{name_order}
use Rattle.bz_proc.specs.declared.maps.PathName.{PathName}
use Rattle.bz_proc.specs.declared.maps.PathName.TheVariants as names
use Rattle.bz_process.specs.Dispatch.{DispatchAnswers, Test, kept_for}
use Rattle.bz_process.specs.Forgetting.{answers_without, has_path}
use Rattle.bz_process.specs.ProcessAsk.{AreAllowed}

-- two orders that tie one after another
both_tie : (r s : Ordering) → is_eq (ordering_then r s) ≡ true → (is_eq r ≡ true) × (is_eq s ≡ true)
both_tie Less s is = absurd (false≢true is)
both_tie Equal s is = (refl, is)
both_tie Greater s is = absurd (false≢true is)

-- texts that tie are the same
same_text : (a b : List ℕ) → is_eq (slice_cmp nat_cmp a b) ≡ true → a ≡ b
same_text a b is = paths_apart a b ((Equal-is (slice_cmp nat_cmp a b)).0 is)

-- names that tie have the same texts
same_name : (a b : PathName) → is_at (name_order a) b ≡ true → name_of a ≡ name_of b
same_name (names.Path a) (names.Path b) is =
    let both = both_tie (slice_cmp nat_cmp (string_bytes a.maps_file) (string_bytes b.maps_file)) (slice_cmp nat_cmp (string_bytes a.symbolic_path) (string_bytes b.symbolic_path)) is in
    ap₂ File (same_text _ _ both.0) (same_text _ _ both.1)
same_name (names.Component a) (names.Component b) is = ap Component (same_text (string_bytes a) (string_bytes b) is)
same_name (names.Path a) (names.Component b) is = absurd (false≢true is)
same_name (names.Component a) (names.Path b) is = absurd (false≢true is)

module _ {R : Type 0} (path : List ℕ) (answers : DispatchAnswers R) where
  -- what is kept for a name once those for a path are forgotten
  kept_without : (name : PathName) → kept_for (answers_without path answers) name ≡ cond (not (has_path path (name_of name))) (kept_for answers name) None
  kept_without name =
      lookup-filter-keys (is_at (name_order name)) (λ (key : PathName). not (has_path path (name_of key))) (not (has_path path (name_of name)))
      (λ key at. ap (λ (n : Name). not (has_path path n)) (sym (same_name name key at))) answers

  -- an answer that stays was kept
  was_kept : (b : Bool) (found : Option (Option R)) (answer : Option R) → cond b found None ≡ Some answer → found ≡ Some answer
  was_kept true found answer is = is
  was_kept false found answer is = cc is

  -- so all that stay are allowed
  pub allowed_without : (test : Test R) → AreAllowed test answers → AreAllowed test (answers_without path answers)
  allowed_without test allowed name answer kept =
      allowed name answer (was_kept (not (has_path path (name_of name))) (kept_for answers name) answer (sym (kept_without name) ∙ kept))
