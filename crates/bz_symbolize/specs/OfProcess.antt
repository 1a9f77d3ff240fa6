-- What a call of a symbolizer promises where its source is a process, and that the processes stay as
-- they were where it isn't.
use Rattle.std.specs.Prelude.{◌≡◌, ℕ, List, Result}
use Rattle.bz_base.specs.Answer.{Answer}
use Rattle.bz_base.specs.InputKind.{AddressKind}
use Rattle.bz_base.specs.declared.error.Error.{Error}
use Rattle.bz_base.specs.declared.resolve.Symbolize.{Ghosts as Finds}
use Rattle.bz_base.specs.declared.resolve.TranslateFileOffset.{Ghosts as Translates}
use Rattle.bz_files.specs.World.{Told, in_view}
use Rattle.bz_files.specs.declared.files.Files.{Ghosts}
use Rattle.bz_process.specs.Asked.{asked_of}
use Rattle.bz_process.specs.Dispatch.{Test}
use Rattle.bz_process.specs.Processes.{SymbolizesAddress, SymbolizesProcess}
use Rattle.bz_process.specs.declared.query.ProcessQuery.{ProcessQuery}
use Rattle.bz_symbolize.specs.History.{LooksLead}
use Rattle.bz_symbolize.specs.Sources.{OnProcess, UnlessProcess}
use Rattle.bz_symbolize.specs.State.{WholeState, opts_of}
use Rattle.bz_symbolize.specs.declared.source.Source.{Source}

-- a call by its source: what a process promises, beside which the call changes ELF files alone
pub record OfProcess {D R X : Type 0} (files : Ghosts X) (source : Source) (promise : ProcessQuery → Type 0) (old now : WholeState D R) (before : X) : Type 0 where
  pub asked : OnProcess source promise
  -- the files of other formats stay as they were, and so do the settings
  pub rest : OnProcess source (λ query. now.files ≡ record old.files { elf = now.files.elf })
  -- so in a history the call stands as looks at mapped files and perf maps, all in its world
  pub history : OnProcess source (λ query. Told (in_view (files.worlds before)) (λ world. LooksLead world old.files now.files old.processes.perf_maps now.processes.perf_maps))
  -- of any other source, what is kept to answer for processes stays as it was
  pub others : UnlessProcess source (now.processes ≡ old.processes)

module _ {A D R X : Type 0} (files : Ghosts X) where
  -- a batch: a process is asked under the symbolizer's options, over the ELF files that are kept for
  -- all sources
  abbrev pub BatchOfProcess : (A → List Answer) → Test R → Translates R → Finds R → Source → AddressKind → List ℕ → Result A Error → WholeState D R → WholeState D R → X → X → Type 0
  BatchOfProcess reading test translates finds source kind addrs result old now before after =
      OfProcess files source (λ query. SymbolizesProcess files reading test translates finds (opts_of old.files.settings) (asked_of (files.pid before) query) kind addrs result old.files.elf now.files.elf old.processes now.processes before after) old now before

  -- an address alone
  abbrev pub AddressOfProcess : (A → Answer) → Test R → Translates R → Finds R → Source → AddressKind → ℕ → Result A Error → WholeState D R → WholeState D R → X → X → Type 0
  AddressOfProcess reading test translates finds source kind addr result old now before after =
      OfProcess files source (λ query. SymbolizesAddress files reading test translates finds (opts_of old.files.settings) (asked_of (files.pid before) query) kind addr result old.files.elf now.files.elf old.processes now.processes before after) old now before
