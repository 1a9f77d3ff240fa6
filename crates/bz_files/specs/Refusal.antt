-- Which refusal a failed look at a file is.
use Rattle.bz_base.specs.declared.error.Error.{Error}
use Rattle.bz_base.specs.declared.error.Error.TheVariants as errors
use Rattle.bz_files.specs.declared.files.FileError.{FileError}
use Rattle.bz_files.specs.declared.files.FileError.TheVariants as file_errors

abbrev pub error_of : FileError → Error
error_of file_errors.NotFound = errors.NotFound
error_of file_errors.Denied = errors.PermissionDenied
error_of file_errors.Fault = errors.ReadFault
error_of file_errors.OutOfMemory = errors.OutOfMemory
