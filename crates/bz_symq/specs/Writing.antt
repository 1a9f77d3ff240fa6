-- What the writing of a text, and of a reply, does to the output.
use Rattle.std.specs.Prelude.{◌≡◌, ℕ, List, [], ◌++◌, Some, Result, OnOk, OnErr, IsErrOf}
use Rattle.bz_files.specs.Count.{CountsFaults}
use Rattle.bz_files.specs.World.{Told}
use Rattle.bz_files.specs.declared.text.IoFault.{IoFault}
use Rattle.bz_files.specs.declared.text.IoFault.TheVariants as faults
use Rattle.bz_files.specs.declared.text.TextOut as output_trait
use Rattle.bz_symq.specs.Outcome.{Outcome}
use Rattle.bz_symq.specs.Run.{Ends, IsOrFails, WritesFront}
use Rattle.bz_symq.specs.declared.status.Status.{Status}
use Rattle.bz_symq.specs.declared.status.Status.TheVariants as statuses

-- a text was to be written
pub record WritesText {W A : Type 0} (writes : output_trait.Ghosts W) (text : List ℕ) (result : Result A IoFault) (before after : W) : Type 0 where
  -- the whole text was written after what stood there
  pub whole : Told (writes.written before) (λ old. OnOk result (writes.written after ≡ Some (old ++ text)))
  -- or a front of it, where the call failed
  pub front : Told (writes.written before) (λ old. OnErr result (WritesFront text old (writes.written after)))
  -- of an empty text nothing: the output is left alone
  pub silent : text ≡ [] → after ≡ before
  pub counts : CountsFaults (writes.faults before) (writes.faults after) (IsErrOf result faults.Fault)

-- a reply was to be written, and the run ended
pub record Finishes {W : Type 0} (writes : output_trait.Ghosts W) (reply : Outcome) (ended : Status) (before after : W) : Type 0 where
  -- its text was written, and the run ended with its status; or a front of the
  -- text, where writing failed
  pub ends : Told (writes.written before) (λ old. Ends reply old ended (writes.written after))
  pub status : IsOrFails reply.status ended
  pub silent : reply.text ≡ [] → after ≡ before
  pub counts : CountsFaults (writes.faults before) (writes.faults after) (ended ≡ statuses.Fault)
