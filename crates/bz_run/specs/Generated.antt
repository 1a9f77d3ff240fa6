-- What a run of the generated job promises.
use Rattle.std.specs.Prelude.{◌≡◌, ℕ}
use Rattle.bz_files.specs.declared.text.TextOut as output_trait
use Rattle.bz_run.specs.Generating.{Generates}
use Rattle.bz_requests.specs.declared.requests.Config.{Config}
use Rattle.bz_symq.specs.declared.status.Status.{Status}

-- the generated job was to be done
pub record RunsGenerated {R W F : Type 0} (writes : output_trait.Ghosts W) (config : Config) (seed functions addresses : ℕ) (ended : Status)
    (input_before input_after : R) (output_before output_after : W) (files_before files_after : F) : Type 0 where
  -- its summary was written, or a front of it
  pub generated : Generates writes config seed functions addresses ended output_before output_after
  -- neither the input nor a file is touched
  pub unread : input_after ≡ input_before
  pub unlooked : files_after ≡ files_before
