-- What comes of a value that may be there.
use Rattle.std.proofs.Common.{◌≡◌, Option, Some, option_and_then}
use Rattle.std.proofs.lemmas.Option.{option_and_then_some}
pub use Rattle.bz_base.proofs.PieceOfBytesLemmas.{map_some}

-- what comes of a value comes of some value
pub then_some : {A B : Type 0} (f : A → Option B) (o : Option A) (y : B) → option_and_then f o ≡ Some y → (x : A) × (o ≡ Some x) × (f x ≡ Some y)
then_some f o y is = option_and_then_some f o y is (λ x there comes. (x, there, comes))
