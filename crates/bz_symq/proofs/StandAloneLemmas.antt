-- What a process answers at an address doesn't depend on what else is asked, where equal
-- stamps mean equal bytes.
use Rattle.std.proofs.Common.{◌≡◌, ℕ, List, [], ◌∷◌, map, Some, None, Result, Ok, refl, sym, ap, ap₂, ◌∙◌}
use Rattle.std.specs.Prelude.{⊤}
use Rattle.bz_base.specs.Answer.{Answer, in_batch}
use Rattle.bz_base.specs.declared.error.Error.{Error}
use Rattle.bz_files.specs.Agreement.{AgreeOn}
use Rattle.bz_files.specs.World.{World}
use Rattle.bz_cache.proofs.CoherenceLaws.{new_coherent}
use Rattle.bz_cache.proofs.Naming.{consistent_new}
use Rattle.bz_elf.specs.Format as elf
use Rattle.bz_proc.specs.Maps.{Mapping}
use Rattle.bz_proc.specs.PerfMap as perf
use Rattle.bz_proc.proofs.MapsLemmas.{maps_again}
use Rattle.bz_process.specs.Caches.{ProcessCaches}
use Rattle.bz_process.specs.InView.{CoheresIn, address_in_view, process_in_view, told_in_view}
use Rattle.bz_process.specs.Mapped.{some_mappings}
use Rattle.bz_process.specs.Process.{at_address, batched, unsaid}
use Rattle.bz_process.specs.ProcessCall.{Reaches}
use Rattle.bz_process.proofs.LookedLemmas.{reached_looked}
use Rattle.bz_process.proofs.ProcessLemmas.{reaches_both, reaches_same}
use Rattle.bz_process.proofs.StepLemmas.{address_leads, coheres_after}
use Rattle.bz_process.proofs.ViewLemmas.{InFile, InNoFile, address_same, address_shown}
use Rattle.bz_requests.specs.declared.requests.Config.{Config}
use Rattle.bz_symq.specs.Command.{Asking, OneProcess}
use Rattle.bz_symq.specs.Processes.{IsProcessBatch, asked_by, maps_of, nothing_kept, pid_of}
use Rattle.bz_symq.specs.Targets.{AnswersIn, HasFile}

-- what nothing is kept of coheres with each world in which equal stamps have equal bytes
nothing_coheres : (config : Config) (world : World) → AgreeOn world world → CoheresIn ⊤ ⊤ world (nothing_kept config)
nothing_coheres config world agrees = record {
  elf = consistent_new elf.format_test config.reload;
  perf_maps = consistent_new perf.format_test config.reload;
  elf_coheres = λ used. new_coherent config.reload world;
  perf_maps_cohere = λ used. new_coherent config.reload world;
  agrees = agrees;
}

module _ (config : Config) (number own : ℕ) (world : World) (agrees : AgreeOn world world) where
  -- what the process answers at an address, by these mappings
  abbrev in_view_at : List Mapping → ℕ → Answer
  in_view_at mappings addr = in_batch (address_in_view (asked_by config number own) world (nothing_kept config) mappings addr)

  -- an address after others of the batch
  later_shown : (mappings : List Mapping) (now : ProcessCaches) (addr : ℕ) → Reaches own (Some world) (nothing_kept config) now →
      in_batch (at_address (asked_by config number own) mappings (unsaid addr) world now).answer ≡ in_view_at mappings addr
  later_shown mappings now addr reached =
      let asked = asked_by config number own in
      let before = nothing_coheres config world agrees in
      let after = coheres_after world own (nothing_kept config) now reached before in
      let file : InFile ⊤ mappings addr = λ mapping maps_file symbolic_path owns named. tt in
      let no_file : InNoFile ⊤ asked mappings addr = λ asks mapping owns none. tt in
      ap in_batch (address_shown asked world now after mappings addr file no_file
      ∙ address_same asked world (nothing_kept config) now before after (reached_looked world own (nothing_kept config) now reached) mappings addr file no_file)

  -- every entry of a batch is what is in view for its address alone
  batch_shown : (mappings : List Mapping) (now : ProcessCaches) (addrs : List ℕ) → Reaches own (Some world) (nothing_kept config) now →
      (batched (asked_by config number own) mappings (map unsaid addrs) world now).answers ≡ map (in_view_at mappings) addrs
  batch_shown mappings now [] reached = refl
  batch_shown mappings now (addr ∷ addrs) reached =
      let asked = asked_by config number own in
      ap₂ (λ (first : Answer) (rest : List Answer). first ∷ rest) (later_shown mappings now addr reached)
      (batch_shown mappings (at_address asked mappings (unsaid addr) world now).left addrs (reaches_both own (Some world) (nothing_kept config) now _ reached (address_leads world asked mappings (unsaid addr) now)))

  -- so are the answers of the process in the world
  pub answers_in_view : (addrs : List ℕ) (answers : List Answer) → HasFile (λ text. IsProcessBatch config number own world text addrs answers) (maps_of number world) →
      answers ≡ map (λ addr. in_batch (process_in_view (asked_by config number own) world (nothing_kept config) None addr)) addrs
  answers_in_view addrs answers has =
      let mappings = has.such.tells.0 ∷ has.such.tells.1 in
      let told : (some_mappings (pid_of number) None world (nothing_kept config)).answer ≡ Ok mappings = rw (has.present, maps_again (pid_of number) has.bytes mappings has.such.tells.2) refl in
      has.such.answers_are ∙ (batch_shown mappings (nothing_kept config) addrs (reaches_same own (Some world) (nothing_kept config))
      ∙ ap (λ (given : Result (List Mapping) Error). map (λ addr. in_batch (told_in_view (asked_by config number own) world (nothing_kept config) given addr)) addrs) (sym told))

-- where a process is asked, those that are given
pub process_in_answers : (asking : Asking) (number own : ℕ) (world : World) (addrs : List ℕ) (answers : List Answer) → asking.target ≡ OneProcess number → AnswersIn asking world own addrs answers →
    HasFile (λ text. IsProcessBatch asking.config number own world text addrs answers) (maps_of number world)
process_in_answers asking number own world addrs answers is has = rw is at has.are
