-- The kinds of refusal, and their names as they are printed.
use Rattle.std.specs.Prelude.{ℕ, List, codes}
use Rattle.bz_base.specs.declared.error.Error.{Error}
use Rattle.bz_base.specs.declared.error.Error.TheVariants as errors
use Rattle.bz_base.specs.declared.error.ErrorKind.{ErrorKind}
use Rattle.bz_base.specs.declared.error.ErrorKind.TheVariants as kinds

-- the kind of a refusal has its name
abbrev pub kind_of : Error → ErrorKind
kind_of errors.Unsupported = kinds.Unsupported
kind_of errors.NotFound = kinds.NotFound
kind_of errors.PermissionDenied = kinds.PermissionDenied
kind_of errors.InvalidInput = kinds.InvalidInput
kind_of errors.InvalidData = kinds.InvalidData
kind_of errors.UnexpectedEof = kinds.UnexpectedEof
kind_of errors.AlreadyExists = kinds.AlreadyExists
kind_of errors.ReadFault = kinds.ReadFault
kind_of errors.OutOfMemory = kinds.OutOfMemory

-- a refusal prints as the name of its variant
abbrev pub name_of : Error → List ℕ
name_of errors.Unsupported = codes "Unsupported"
name_of errors.NotFound = codes "NotFound"
name_of errors.PermissionDenied = codes "PermissionDenied"
name_of errors.InvalidInput = codes "InvalidInput"
name_of errors.InvalidData = codes "InvalidData"
name_of errors.UnexpectedEof = codes "UnexpectedEof"
name_of errors.AlreadyExists = codes "AlreadyExists"
name_of errors.ReadFault = codes "ReadFault"
name_of errors.OutOfMemory = codes "OutOfMemory"
