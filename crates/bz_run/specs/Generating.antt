-- What the generated job promises.
use Rattle.std.specs.Prelude.{◌≡◌, ℕ, List}
use Rattle.bz_base.specs.Answer.{Answer}
use Rattle.bz_files.specs.Count.{CountsFaults}
use Rattle.bz_files.specs.World.{Told}
use Rattle.bz_files.specs.declared.text.TextOut as output_trait
use Rattle.bz_breakpad.specs.Plain.{batch}
use Rattle.bz_canon.specs.Generated.{addresses_after}
use Rattle.bz_canon.specs.GeneratedTable.{generated_table}
use Rattle.bz_requests.specs.declared.requests.Config.{Config}
use Rattle.bz_symq.specs.Kept.{settings_of}
use Rattle.bz_symq.specs.Outcome.{done_with}
use Rattle.bz_symbolize.specs.State.{opts_of}
use Rattle.bz_symq.specs.Run.{Ends, IsOrFails}
use Rattle.bz_symq.specs.declared.status.Status.{Status}
use Rattle.bz_symq.specs.declared.status.Status.TheVariants as statuses
use Rattle.bz_run.specs.GeneratedSummary.{summary_text}

-- the plain answers of the generated text's table at the generated addresses
abbrev pub generated_answers : Config → ℕ → ℕ → ℕ → List Answer
generated_answers config seed functions addresses = batch (generated_table functions) (opts_of (settings_of config)) (addresses_after functions seed addresses)

abbrev pub generated_summary : Config → ℕ → ℕ → ℕ → List ℕ
generated_summary config seed functions addresses = summary_text functions addresses (generated_answers config seed functions addresses)

-- all that the generated job promises
pub record Generates {W : Type 0} (writes : output_trait.Ghosts W) (config : Config) (seed functions addresses : ℕ) (ended : Status) (before after : W) : Type 0 where
  -- status 0 means that the summary is what was written, and status 4 or 5 that a front of it is
  pub ends : Told (writes.written before) (λ was. Ends (done_with (generated_summary config seed functions addresses)) was ended (writes.written after))
  -- no other status comes
  pub status : IsOrFails statuses.Done ended
  -- a fault comes exactly where one call of the output failed
  pub fails : CountsFaults (writes.faults before) (writes.faults after) (ended ≡ statuses.Fault)
