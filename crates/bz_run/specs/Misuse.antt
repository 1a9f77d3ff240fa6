-- Words that give no command.
use Rattle.std.specs.Prelude.{◌≡◌, codes}
use Rattle.bz_files.specs.declared.text.TextOut as output_trait
use Rattle.bz_symq.specs.Outcome.{Outcome}
use Rattle.bz_symq.specs.Writing.{Finishes}
use Rattle.bz_symq.specs.declared.status.Status.{Status}
use Rattle.bz_symq.specs.declared.status.Status.TheVariants as statuses

-- how the program is called
abbrev pub usage : Outcome
usage = record { status = statuses.Usage; text = codes "usage: symq [OPTION] KIND [ARG]...\n" }

-- the usage was to be written
pub record Misused {R W F : Type 0} (writes : output_trait.Ghosts W) (ended : Status) (input_before input_after : R) (output_before output_after : W) (files_before files_after : F) : Type 0 where
  -- it was, and the run ended by status 2, or writing failed after a front of it
  pub usage_written : Finishes writes usage ended output_before output_after
  -- neither the input nor a file is touched
  pub unread : input_after ≡ input_before
  pub unlooked : files_after ≡ files_before
