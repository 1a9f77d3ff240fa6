-- All that a call on a process promises, from what it asks.
use Rattle.std.proofs.Common.{◌≡◌, ℕ, true, List, [], ◌∷◌, Result, Vec, Global, sym, ◌∙◌}
use Rattle.bz_base.specs.Answer.{reading}
use Rattle.bz_base.specs.InputKind.{AddressKind}
use Rattle.bz_base.specs.declared.error.Error.{Error}
use Rattle.bz_base.specs.declared.resolve.Symbolize.{Ghosts as Finds}
use Rattle.bz_base.specs.declared.resolve.TranslateFileOffset.{Ghosts as Translates}
use Rattle.bz_base.specs.declared.types.FindSymOpts.{FindSymOpts}
use Rattle.bz_base.specs.declared.types.Symbolized.{Symbolized}
use Rattle.bz_files.specs.declared.files.Files.{Ghosts}
use Rattle.bz_cache.specs.Cache.{Cache}
use Rattle.bz_process.specs.Asked.{Asked}
use Rattle.bz_process.specs.Dispatch.{Test}
use Rattle.bz_process.specs.Mapped.{AsksProcess, AsksProcessAt}
use Rattle.bz_process.specs.ProcessAsk.{come_to, readings}
use Rattle.bz_process.specs.Processes.{AreWellKept, KeptProcesses, SymbolizesAddress, SymbolizesProcess, caches_of, is_in_process, kept_mappings}
use Rattle.bz_process.proofs.NobodyLemmas.{allowed_after, by_mappings, by_mappings_at, nobody_said, nobody_said_at}

module _ {D R X : Type 0} (files : Ghosts X) (test : Test R) (translates : Translates R) (finds : Finds R) (opts : FindSymOpts) (asked : Asked) (kind : AddressKind)
    (elf elf_now : Cache) (old now : KeptProcesses D R) (before after : X) where
  module _ (addrs : List ℕ) (result : Result (Vec Symbolized Global) Error) where
    abbrev Asks : Type 0
    Asks = AsksProcess files readings test translates finds opts asked (kept_mappings old asked.pid) addrs result (caches_of elf old) (caches_of elf_now now) old.answers now.answers before after

    pub promised : is_in_process kind ≡ true → AreWellKept test old → Asks → now.mappings ≡ old.mappings → now.dispatcher ≡ old.dispatcher →
        SymbolizesProcess files readings test translates finds opts asked kind addrs result elf elf_now old now before after
    promised taken well asks mappings dispatcher = record {
      untaken = λ not. cc (sym taken ∙ not);
      asks = λ t. asks;
      exact = λ none t. nobody_said test translates finds opts none files readings asked (kept_mappings old asked.pid) addrs result (caches_of elf old) (caches_of elf_now now) old.answers now.answers before after well.answers asks;
      untold = λ none t. by_mappings test translates finds opts none files readings asked (kept_mappings old asked.pid) addrs result (caches_of elf old) (caches_of elf_now now) old.answers now.answers before after well.answers asks;
      mappings = mappings;
      dispatcher = dispatcher;
    }

    -- and what is kept stays well kept
    pub stays_well : AreWellKept test old → Asks → AreWellKept test now
    stays_well well asks = record {
      perf_maps = asks.step.perf_maps.consistent well.perf_maps;
      answers = allowed_after test asks.mappings (come_to asks.front asks.rest) old.answers now.answers well.answers asks.adds;
    }

  -- the same of an address alone
  module _ (addr : ℕ) (result : Result Symbolized Error) where
    abbrev AsksAt : Type 0
    AsksAt = AsksProcessAt files reading test translates finds opts asked (kept_mappings old asked.pid) addr result (caches_of elf old) (caches_of elf_now now) old.answers now.answers before after

    pub promised_at : is_in_process kind ≡ true → AreWellKept test old → AsksAt → now.mappings ≡ old.mappings → now.dispatcher ≡ old.dispatcher →
        SymbolizesAddress files reading test translates finds opts asked kind addr result elf elf_now old now before after
    promised_at taken well asks mappings dispatcher = record {
      untaken = λ not. cc (sym taken ∙ not);
      asks = λ t. asks;
      exact = λ none t. nobody_said_at test translates finds opts none files asked (kept_mappings old asked.pid) addr (caches_of elf old) (caches_of elf_now now) before after result old.answers now.answers well.answers asks;
      untold = λ none t. by_mappings_at test translates finds opts none files asked (kept_mappings old asked.pid) addr (caches_of elf old) (caches_of elf_now now) before after result old.answers now.answers well.answers asks;
      mappings = mappings;
      dispatcher = dispatcher;
    }

    pub stays_well_at : AreWellKept test old → AsksAt → AreWellKept test now
    stays_well_at well asks = record {
      perf_maps = asks.step.perf_maps.consistent well.perf_maps;
      answers = allowed_after test asks.mappings (addr ∷ []) old.answers now.answers well.answers asks.adds;
    }
