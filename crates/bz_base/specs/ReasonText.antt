-- The texts of the reasons why an address has no symbol, as blazesym prints them.
use Rattle.std.specs.Prelude.{ℕ, List, codes}
use Rattle.bz_base.specs.declared.types.Reason.{Reason}
use Rattle.bz_base.specs.declared.types.Reason.TheVariants as reasons

abbrev pub text_of : Reason → List ℕ
text_of reasons.Unmapped = codes "absolute address not found in virtual memory map of process"
text_of reasons.InvalidFileOffset = codes "file offset does not map to a valid piece of code/data"
text_of reasons.MissingComponent = codes "proc maps entry has no component"
text_of reasons.MissingSyms = codes "symbolization source has no or no relevant symbols"
text_of reasons.Unsupported = codes "address belongs to unsupported entity"
text_of reasons.UnknownAddr = codes "address not found in symbolization source"
text_of reasons.IgnoredError = codes "an error occurred but was ignored in batch mode"
