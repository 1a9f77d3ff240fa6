-- The names of refusals of a conversion, as they are printed.
use Rattle.std.specs.Prelude.{ℕ, List, codes}
use Rattle.bz_convert.specs.declared.error.ConvertError.{ConvertError}
use Rattle.bz_convert.specs.declared.error.ConvertError.TheVariants as refusals

-- a refusal has the name of its variant
abbrev pub name_of : ConvertError → List ℕ
name_of (refusals.ZeroSize addr) = codes "ZeroSize"
name_of (refusals.EqualStarts addr) = codes "EqualStarts"
name_of (refusals.LineGap func addr) = codes "LineGap"
name_of (refusals.NotNested func depth addr) = codes "NotNested"
name_of (refusals.Overlap func depth addr) = codes "Overlap"
name_of (refusals.NoFile func id) = codes "NoFile"
name_of (refusals.NoOrigin func id) = codes "NoOrigin"
name_of (refusals.ZeroByte func) = codes "ZeroByte"
name_of (refusals.TooLarge bytes) = codes "TooLarge"
name_of refusals.OutOfMemory = codes "OutOfMemory"
