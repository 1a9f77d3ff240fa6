-- What the kept map says.
use Rattle.std.proofs.Common.{◌≡◌, ℕ, Bool, true, false, cond, List, Option, Some, None, Vec, option_map, refl, sym, ap, subst, ◌∙◌}
use Rattle.std.specs.BTreeMap.{BTreeMap, IsOrdered, UpdatesBy, get_by}
use Rattle.std.specs.Prelude.{flat_map}
use Rattle.std.specs.Map.{AreApart, IsKeyTest, KeepsOthers, lookup}
use Rattle.std.specs.Ordering.{eq_by_cmp, is_eq, nat_cmp}
use Rattle.std.specs.Cmp.{eq_by_cmp_equiv}
use Rattle.std.specs.Cmp.Lexicographic.{slice_cmp, nat_list_cmp_total}
use Rattle.std.specs.FinMap.{slice_cmp-IsAntisymmetric, nat_cmp-IsAntisymmetric}
use Rattle.std.specs.FinMap as finite
use Rattle.bz_cache.proofs.MapScans.{entries_read}
use Rattle.bz_cache.proofs.MapViews.{get_read, read_insert}
use Rattle.bz_stacks.specs.Folding.{Folding, Sums}
use Rattle.bz_stacks.specs.Stored.{kept_sums}
use Rattle.bz_stacks.specs.Text.{line_of, lines_of, text_of}
use Rattle.bz_stacks.proofs.Grouping.{same_path}

same : (o : Option ℕ) → option_map (λ (v : ℕ). v) o ≡ o
same None = refl
same (Some v) = refl

-- the sum at a path is what the map has there
pub sum_read : {A : Type 0} (m : BTreeMap (Vec ℕ A) ℕ) (path : List ℕ) → finite.get (kept_sums m) path ≡ get_by (λ k. slice_cmp nat_cmp path k.items) m
sum_read {A} m path = get_read (slice_cmp nat_cmp) (λ (k : Vec ℕ A). k.items) (λ (v : ℕ). v) nat_list_cmp_total m.entries path ∙ same _

module _ {A : Type 0} (m n : BTreeMap (Vec ℕ A) ℕ) (p : List ℕ) (w : Option ℕ) (updates : UpdatesBy (λ (x y : Vec ℕ A). slice_cmp nat_cmp x.items y.items) (λ k. slice_cmp nat_cmp p k.items) m n w) where
  abbrev at : List ℕ → Vec ℕ A → Bool
  at q k = is_eq (slice_cmp nat_cmp q k.items)

  key_test : (q : List ℕ) → IsKeyTest (eq_by_cmp (λ (x y : Vec ℕ A). slice_cmp nat_cmp x.items y.items)) (at q)
  key_test q = λ x y is. ap (λ l. is_eq (slice_cmp nat_cmp l y.items)) (same_path q x.items is)

  apart : (q : List ℕ) → is_eq (slice_cmp nat_cmp p q) ≡ false → AreApart (at p) (at q)
  apart q other = λ k is. ap (λ l. is_eq (slice_cmp nat_cmp q l)) (sym (same_path p k.items is)) ∙ (eq_by_cmp_equiv nat_list_cmp_total).symm q p ∙ other

  -- after a change at a path, what the map has at each path
  at_each : (q : List ℕ) → lookup (at q) n.entries ≡ cond (is_eq (slice_cmp nat_cmp p q)) w (lookup (at q) m.entries)
  unfolding KeepsOthers
  at_each q = (elim (is_eq (slice_cmp nat_cmp p q)) as (λ b. is_eq (slice_cmp nat_cmp p q) ≡ b → lookup (at q) n.entries ≡ cond b w (lookup (at q) m.entries)) [
    | true ↦ λ t. subst (λ l. lookup (at l) n.entries ≡ w) (same_path p q t) updates.1
    | false ↦ λ other. updates.3 (at q) (key_test q) (apart q other)
  ]) refl

  -- a sum that was put in
  pub sum_put : (v : ℕ) → w ≡ Some v → kept_sums n ≡ finite.insert (kept_sums m) p v
  sum_put v is = read_insert (slice_cmp nat_cmp) (λ (k : Vec ℕ A). k.items) (λ (v : ℕ). v) nat_list_cmp_total (slice_cmp-IsAntisymmetric nat_cmp-IsAntisymmetric) m.entries n.entries p w at_each v is

abbrev pub folding_with : ℕ → Sums → Folding
folding_with stacks sums = record { sums = sums; stacks = stacks }

-- the lines of the map's entries are the text of what it says
pub text_read : {A : Type 0} (m : BTreeMap (Vec ℕ A) ℕ) → IsOrdered (λ (x y : Vec ℕ A). slice_cmp nat_cmp x.items y.items) m → lines_of m.entries ≡ text_of (kept_sums m)
text_read {A} m ordered = ap (flat_map line_of) (sym (entries_read (slice_cmp nat_cmp) (λ (k : Vec ℕ A). k.items) (λ (v : ℕ). v) nat_list_cmp_total m.entries ordered))
