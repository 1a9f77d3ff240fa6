-- Functions as they are kept, beside those of the file.
use Rattle.std.proofs.Common.{◌≡◌, ℕ, zero, suc, List, [], ◌∷◌, length, Some, refl, ap, subst}
use Rattle.std.specs.List.{slice_get}
use Rattle.std.proofs.lemmas.Option.{none-some, same_Some}
use Rattle.bz_breakpad_table.specs.Kept.{AreNested, IsNested}
use Rattle.bz_breakpad_lines.specs.Table.{Function}

-- there are as many
pub nested_length : (fs ks : List Function) → AreNested fs ks → length fs ≡ length ks
nested_length [] [] are = refl
nested_length [] (k ∷ ks) are = absurd are
nested_length (f ∷ fs) [] are = absurd are
nested_length (f ∷ fs) (k ∷ ks) are = ap (λ n. suc n) (nested_length fs ks are.1)

-- a function that is kept is one of the file's, with its calls in order
pub nested_get : (fs ks : List Function) → AreNested fs ks → (i : ℕ) (f : Function) → slice_get fs i ≡ Some f → (k : Function) × (slice_get ks i ≡ Some k) × IsNested f k
nested_get [] ks are i f there = absurd (none-some f there)
nested_get (g ∷ fs) [] are i f there = absurd are
nested_get (g ∷ fs) (k ∷ ks) are zero f there = (k, refl, subst (λ h. IsNested h k) (same_Some g f there) are.0)
nested_get (g ∷ fs) (k ∷ ks) are (suc i) f there = nested_get fs ks are.1 i f there
