-- How reading a text of the system is refused.
use Rattle.bz_base.specs.declared.error.Error.{Error}
use Rattle.bz_base.specs.declared.error.Error.TheVariants as errors

-- reading is refused by one of these
abbrev pub IsReadRefusal : Error → Type 0
IsReadRefusal errors.NotFound = Unit {0}
IsReadRefusal errors.PermissionDenied = Unit {0}
IsReadRefusal errors.InvalidData = Unit {0}
IsReadRefusal errors.ReadFault = Unit {0}
IsReadRefusal errors.OutOfMemory = Unit {0}
IsReadRefusal _ = ⊥
