-- The mappings of a process, by what lies at the path of their text.
use Rattle.std.specs.Prelude.{◌≡◌, ℕ, List, ◌++◌, codes, Option, Some, None, Result, Ok, Err}
use Rattle.bz_base.specs.Pid.{pid_text}
use Rattle.bz_base.specs.declared.error.Error.{Error}
use Rattle.bz_base.specs.declared.error.Error.TheVariants as errors
use Rattle.bz_base.specs.declared.pid.Pid.{Pid}
use Rattle.bz_files.specs.World.{Entry, Denied, Present}
use Rattle.bz_proc.specs.Maps.{Mapping, maps_in}

-- where the text lies
abbrev pub maps_path : Pid → List ℕ
maps_path pid = codes "/proc/" ++ (pid_text pid ++ codes "/maps")

-- the mappings, if the text tells some
abbrev pub or_invalid_data : Option (List Mapping) → Result (List Mapping) Error
or_invalid_data None = Err errors.InvalidData
or_invalid_data (Some mappings) = Ok mappings

-- the mappings, or why there are none
abbrev pub maps_told : Pid → Option Entry → Result (List Mapping) Error
maps_told pid None = Err errors.NotFound
maps_told pid (Some Denied) = Err errors.PermissionDenied
maps_told pid (Some (Present stamp bytes)) = or_invalid_data (maps_in pid bytes)

-- whatever is told, some text tells these mappings
pub record AreOfText (pid : Pid) (mappings : List Mapping) : Type 0 where
  pub text : List ℕ
  pub tells : maps_in pid text ≡ Some mappings
