-- What a dispatcher is asked for.
use Rattle.std.specs.Prelude.{ℕ}
use Rattle.bz_base.specs.declared.error.Error.{Error}
use Rattle.bz_base.specs.declared.error.Error.TheVariants as errors
use Rattle.bz_proc.specs.Maps.{Mapping, Name, name_of}
use Rattle.bz_process.specs.declared.dispatch.ProcessMemberInfo.{ProcessMemberInfo}

-- what a process has mapped: its first address, the one past its last, and what it is
pub record Member : Type 0 where
  pub start : ℕ
  pub past : ℕ
  pub name : Name

abbrev pub member_of : ProcessMemberInfo → Member
member_of info = record { start = info.range.start; past = info.range.«end»; name = name_of info.member_entry.now }

-- a mapping with this name, as a member
abbrev pub as_member : Mapping → Name → Member
as_member mapping name = record { start = mapping.start; past = mapping.past; name = name }

-- a dispatcher refuses a member by one of these
abbrev pub MayRefuseMember : Error → Type 0
MayRefuseMember errors.Unsupported = Unit {0}
MayRefuseMember errors.NotFound = Unit {0}
MayRefuseMember errors.PermissionDenied = Unit {0}
MayRefuseMember errors.InvalidInput = Unit {0}
MayRefuseMember errors.InvalidData = Unit {0}
MayRefuseMember errors.UnexpectedEof = Unit {0}
MayRefuseMember errors.OutOfMemory = Unit {0}
MayRefuseMember _ = ⊥
