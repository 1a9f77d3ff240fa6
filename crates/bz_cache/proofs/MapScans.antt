-- The entries and the length of what a std map reads as.
use Rattle.std.proofs.Common.{◌≡◌, List, [], ◌∷◌, map, length, sym, ap, ◌∙◌, refl, arith}
use Rattle.std.proofs.lemmas.List.{length-map}
use Rattle.std.specs.List.Sorted.{IsStrictlySortedBy}
use Rattle.std.specs.Cmp.{IsTotalOrder}
use Rattle.std.specs.declared.cmp.Ordering.{Ordering}
use Rattle.std.specs.FinMap.{from_entries, put, entries, entries-insert, len-entries, len-empty}
use Rattle.std.specs.FinMap.Entries.{by_order}
use Rattle.std.specs.FinMap as finmap
use Rattle.bz_cache.proofs.MapViews.{read_entries}

-- a list of no length is empty
no_length : {A : Type 0} (xs : List A) → length xs ≡ 0 → xs ≡ []
no_length [] e = refl
no_length (x ∷ xs) e = absurd (omega arith)

module _ {K B X Y : Type 0} (R : B → B → Ordering) (f : K → B) (g : X → Y) (o : IsTotalOrder R) where
  -- an entry below all others goes to the front
  put_first : (k : K) (v : Y) (es : List (K × X)) → IsStrictlySortedBy (λ x y. R (f x) (f y)) (k ∷ map (λ e. e.0) es) → put R (f k) v (read_entries R f g es) ≡ (f k, v) ∷ read_entries R f g es
  unfolding IsStrictlySortedBy
  put_first k v [] sorted = refl
  put_first k v (e ∷ es) sorted = ap (λ r. by_order r ((f k, v) ∷ read_entries R f g (e ∷ es)) ((f e.0, v) ∷ read_entries R f g es) ((f e.0, g e.1) ∷ put R (f k) v (read_entries R f g es))) sorted.0.0

  -- the entries are those of the map, where its keys ascend
  pub entries_read : (es : List (K × X)) → IsStrictlySortedBy (λ x y. R (f x) (f y)) (map (λ e. e.0) es) → entries (from_entries {R = R} (read_entries R f g es)) ≡ read_entries R f g es
  unfolding IsStrictlySortedBy
  entries_read [] sorted = no_length _ (sym (len-entries _) ∙ len-empty R Y)
  entries_read (e ∷ es) sorted = entries-insert o _ (f e.0) (g e.1) ∙ ap (put R (f e.0) (g e.1)) (entries_read es sorted.1) ∙ put_first e.0 (g e.1) es sorted

  -- how many there are
  pub len_read : (es : List (K × X)) → IsStrictlySortedBy (λ x y. R (f x) (f y)) (map (λ e. e.0) es) → finmap.len (from_entries {R = R} (read_entries R f g es)) ≡ length es
  len_read es sorted = len-entries _ ∙ ap length (entries_read es sorted) ∙ length-map es _
