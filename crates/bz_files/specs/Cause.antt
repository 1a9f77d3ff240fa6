-- Which failed look a failure of the system is.
use Rattle.std.specs.Prelude.{Bool, true, false}
use Rattle.std.specs.declared.io.ErrorKind.{ErrorKind}
use Rattle.std.specs.declared.io.ErrorKind.TheVariants as kinds
use Rattle.bz_files.specs.declared.files.FileError.{FileError}
use Rattle.bz_files.specs.declared.files.FileError.TheVariants as errors

-- by whether the path has a zero byte, and the kind of the failure: a path at which no file can be is
-- absent
abbrev pub failure_of : Bool → ErrorKind → FileError
failure_of zero kinds.NotFound = errors.NotFound
failure_of zero kinds.NotADirectory = errors.NotFound
failure_of zero kinds.InvalidFilename = errors.NotFound
failure_of true kinds.InvalidInput = errors.NotFound
failure_of false kinds.InvalidInput = errors.Fault
failure_of zero kinds.PermissionDenied = errors.Denied
failure_of zero kinds.OutOfMemory = errors.OutOfMemory
failure_of zero _ = errors.Fault
