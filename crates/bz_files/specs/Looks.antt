-- What can be told of the files of the system: how often a look failed and a file was read.
use Rattle.std.specs.Prelude.{ℕ, Result, Ok, Err}
use Rattle.bz_files.specs.declared.files.FileError.{FileError}
use Rattle.bz_files.specs.declared.files.FileError.TheVariants as errors
use Rattle.bz_files.specs.Count.{counted}

-- how many looks failed, how many files were read, and the id of the own process
pub record Looks : Type 0 where
  pub faults : ℕ
  pub opens : ℕ
  pub pid : ℕ

-- the greatest length of a file of the system that is read
abbrev pub most_bytes : ℕ
most_bytes = 1073741824

-- after a look that failed so: a fault is counted
abbrev pub after_failure : FileError → Looks → Looks
after_failure errors.NotFound looks = looks
after_failure errors.Denied looks = looks
after_failure errors.Fault looks = record looks { faults = counted looks.faults }
after_failure errors.OutOfMemory looks = looks

-- after a look with this answer
abbrev pub after_look : {A : Type 0} → Result A FileError → Looks → Looks
after_look (Ok _) looks = looks
after_look (Err failed) looks = after_failure failed looks

-- after a read with this answer: a file that was read is counted
abbrev pub after_read : {A : Type 0} → Result A FileError → Looks → Looks
after_read (Ok _) looks = record looks { opens = counted looks.opens }
after_read (Err failed) looks = after_failure failed looks
