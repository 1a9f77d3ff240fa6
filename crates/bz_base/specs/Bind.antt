-- The next step of reading, where the first found something.
use Rattle.std.specs.Prelude.{Option, Some, None}

-- what is read next, where the first was there
infixl 10 ◌>>=◌
abbrev pub ◌>>=◌ : {A B : Type 0} → Option A → (A → Option B) → Option B
None >>= f = None
(Some x) >>= f = f x
