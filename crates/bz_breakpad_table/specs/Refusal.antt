-- When the bytes of a Breakpad file are refused.
use Rattle.std.specs.Prelude.{◌≡◌, Option, None}
use Rattle.bz_base.specs.declared.error.Error.{Error}
use Rattle.bz_base.specs.declared.error.Error.TheVariants as errors

-- InvalidInput comes only where nothing is read of the bytes; want of memory may come anywhere,
-- and nothing else comes
abbrev pub Refuses : {A : Type 0} → Option A → Error → Type 0
Refuses read errors.InvalidInput = read ≡ None
Refuses read errors.OutOfMemory = Unit {0}
Refuses read _ = ⊥
