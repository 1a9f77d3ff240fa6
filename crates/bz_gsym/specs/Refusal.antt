-- Which refusals an address may meet, and when bytes of a GSYM file are refused.
use Rattle.std.specs.Prelude.{◌≡◌, Option, None}
use Rattle.bz_base.specs.declared.error.Error.{Error}
use Rattle.bz_base.specs.declared.error.Error.TheVariants as errors
use Rattle.bz_base.specs.declared.types.FindSymOpts.{FindSymOpts}
use Rattle.bz_base.specs.declared.types.FindSymOpts.TheVariants as asked

-- an address is refused by these alone: what is asked of it isn't in the format, or memory ran out.
-- Inlined calls alone take memory
abbrev pub IsAnswerRefusal : FindSymOpts → Error → Type 0
IsAnswerRefusal opts errors.InvalidData = Unit {0}
IsAnswerRefusal opts errors.OutOfMemory = opts ≡ asked.CodeInfoAndInlined
IsAnswerRefusal opts _ = ⊥

-- InvalidData exactly where nothing is read of the bytes; want of memory may come anywhere, and nothing
-- else comes
abbrev pub Refuses : {A : Type 0} → Option A → Error → Type 0
Refuses read errors.InvalidData = read ≡ None
Refuses read errors.OutOfMemory = Unit {0}
Refuses read _ = ⊥
