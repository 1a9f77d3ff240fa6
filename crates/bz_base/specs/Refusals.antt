-- Which refusals bytes may meet.
use Rattle.bz_base.specs.declared.error.Error.{Error}
use Rattle.bz_base.specs.declared.error.Error.TheVariants as errors

-- a format refuses bytes by one of these alone
abbrev pub IsFormatRefusal : Error → Type 0
IsFormatRefusal errors.Unsupported = Unit {0}
IsFormatRefusal errors.InvalidInput = Unit {0}
IsFormatRefusal errors.InvalidData = Unit {0}
IsFormatRefusal _ = ⊥

-- what reads or answers from bytes is refused by one of these; want of memory may come anywhere
abbrev pub MayRefuse : Error → Type 0
MayRefuse errors.OutOfMemory = Unit {0}
MayRefuse e = IsFormatRefusal e

-- these say that something failed, and nothing of what was asked
abbrev pub IsFailure : Error → Type 0
IsFailure errors.ReadFault = Unit {0}
IsFailure errors.OutOfMemory = Unit {0}
IsFailure _ = ⊥

-- memory runs out only where this holds
abbrev pub WantsMemory : Type 0 → Error → Type 0
WantsMemory needed errors.OutOfMemory = needed
WantsMemory needed _ = Unit {0}
