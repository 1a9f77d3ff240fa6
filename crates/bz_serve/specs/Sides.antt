-- At which side of a run a call failed.
use Rattle.std.specs.Prelude.{◌≡◌, ◌↔◌, Option, Some, IsSome}
use Rattle.bz_files.specs.Count.{CountsFaults}
use Rattle.bz_files.specs.declared.files.Files as files_trait
use Rattle.bz_files.specs.declared.text.TextIn as input_trait
use Rattle.bz_files.specs.declared.text.TextOut as output_trait
use Rattle.bz_symq.specs.Run.{Side, AtInput, AtFiles, AtOutput}
use Rattle.bz_symq.specs.declared.status.Status.{Status}
use Rattle.bz_symq.specs.declared.status.Status.TheVariants as statuses

-- a run ends by status 4 exactly where a call failed, at one side. There the count of faults is one
-- more, and at the others it stands still: no failed call is hidden behind another status
pub record FailsAtOneSide {R W F : Type 0} (reads : input_trait.Ghosts R) (writes : output_trait.Ghosts W) (looks : files_trait.Ghosts F) (ended : Status)
    (input_before input_after : R) (output_before output_after : W) (files_before files_after : F) : Type 0 where
  pub failed : Option Side
  pub fault : (ended ≡ statuses.Fault) ↔ IsSome failed
  pub input_faults : CountsFaults (reads.faults input_before) (reads.faults input_after) (failed ≡ Some AtInput)
  pub output_faults : CountsFaults (writes.faults output_before) (writes.faults output_after) (failed ≡ Some AtOutput)
  pub files_faults : CountsFaults (looks.faults files_before) (looks.faults files_after) (failed ≡ Some AtFiles)
  -- where the input failed, no file was looked at and nothing was written
  pub unreached : failed ≡ Some AtInput → (files_after ≡ files_before) × (output_after ≡ output_before)
