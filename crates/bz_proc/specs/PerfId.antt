-- The id by which a process knows itself, as its status tells it.
use Rattle.std.specs.Prelude.{◌≡◌, ℕ, List, ◌++◌, Option, Some, None, Result, Ok, Err, codes}
use Rattle.bz_base.specs.Pid.{pid_text, resolved}
use Rattle.bz_base.specs.declared.error.Error.{Error}
use Rattle.bz_base.specs.declared.error.Error.TheVariants as errors
use Rattle.bz_base.specs.declared.pid.Pid.{Pid}
use Rattle.bz_files.specs.World.{Entry, Denied, Present}
use Rattle.bz_proc.specs.Status.{ns_tgid_in}

-- where the status of a process lies
abbrev pub status_path : Pid → List ℕ
status_path pid = codes "/proc/" ++ (pid_text pid ++ codes "/status")

-- the id that a status tells, or else the process's own; none where the text isn't a status
abbrev pub by_status : Pid → ℕ → Option (Option ℕ) → Result ℕ Error
by_status pid own None = Err errors.InvalidData
by_status pid own (Some None) = Ok (resolved pid own)
by_status pid own (Some (Some id)) = Ok id

-- the id by which a process knows itself, by what lies at the path of its status
abbrev pub ns_tgid_of : Pid → ℕ → Option Entry → Result ℕ Error
ns_tgid_of pid own None = Err errors.NotFound
ns_tgid_of pid own (Some Denied) = Err errors.PermissionDenied
ns_tgid_of pid own (Some (Present stamp bytes)) = by_status pid own (ns_tgid_in bytes)

-- whatever is told, some text is a status by which the process knows itself so
pub record IsOfStatus (pid : Pid) (own id : ℕ) : Type 0 where
  pub text : List ℕ
  pub tells : by_status pid own (ns_tgid_in text) ≡ Ok id
