-- Calls on processes that are over, as laws speak of them.
use Rattle.std.specs.Prelude.{◌≡◌, ℕ, ◌+◌, ◌≤◌, List, Option, Some, Result}
use Rattle.bz_base.specs.Answer.{Answer, in_batch}
use Rattle.bz_base.specs.InputKind.{AddressKind}
use Rattle.bz_base.specs.declared.error.Error.{Error}
use Rattle.bz_base.specs.declared.resolve.Symbolize.{Ghosts as Finds}
use Rattle.bz_base.specs.declared.resolve.TranslateFileOffset.{Ghosts as Translates}
use Rattle.bz_base.specs.declared.types.FindSymOpts.{FindSymOpts}
use Rattle.bz_files.specs.World.{World, in_view}
use Rattle.bz_files.specs.declared.files.Files.{Ghosts}
use Rattle.bz_cache.specs.Cache.{Cache}
use Rattle.bz_proc.specs.Maps.{Mapping}
use Rattle.bz_process.specs.Asked.{Asked}
use Rattle.bz_process.specs.Caches.{ProcessCaches}
use Rattle.bz_process.specs.Dispatch.{Test}
use Rattle.bz_process.specs.InView.{CoheresFor, process_in_view}
use Rattle.bz_process.specs.ProcessAsk.{GivesNone}
use Rattle.bz_process.specs.Processes.{KeptProcesses, SymbolizesAddress, SymbolizesProcess, caches_of, kept_mappings}
use Rattle.bz_process.specs.Reads.{CoverMapped, reads_once}

-- calls over such files, with a dispatcher and resolvers that may say what these tests allow
module _ {D R X : Type 0} (files : Ghosts X) (test : D → Test R) (translates : Translates R) (finds : Finds R) where
  -- what it was asked and what it gave, and what was there before and after it
  pub record ProcessCalled (A B Q : Type 0) : Type 0 where
    pub opts : FindSymOpts
    pub asked : Asked
    -- its addresses, or its one address, and of which kind they are
    pub kind : AddressKind
    pub input : Q
    -- what it gave, and how that is read as plain data
    pub result : Result A Error
    pub reading : A → B
    -- the ELF files that are kept
    pub elf : Cache
    pub elf_now : Cache
    -- what is kept beside them
    pub old : KeptProcesses D R
    pub now : KeptProcesses D R
    -- the files
    pub before : X
    pub after : X

-- a call that was asked for a batch of addresses
abbrev pub BatchCalled : {D R X : Type 0} → Type 0 → Ghosts X → (D → Test R) → Translates R → Finds R → Type 0
BatchCalled A files test translates finds = ProcessCalled files test translates finds A (List Answer) (List ℕ)

-- a call that was asked for an address alone
abbrev pub SingleCalled : {D R X : Type 0} → Type 0 → Ghosts X → (D → Test R) → Translates R → Finds R → Type 0
SingleCalled A files test translates finds = ProcessCalled files test translates finds A Answer ℕ

module _ {A D R X : Type 0} {files : Ghosts X} {test : D → Test R} {translates : Translates R} {finds : Finds R} where
  -- it does all that a batch of addresses promises
  abbrev pub SymbolizesBatch : BatchCalled A files test translates finds → Type 0
  SymbolizesBatch call = SymbolizesProcess files call.reading (test call.old.dispatcher) translates finds call.opts call.asked call.kind call.input call.result call.elf call.elf_now call.old call.now call.before call.after

  -- it does all that a single address promises
  abbrev pub SymbolizesSingle : SingleCalled A files test translates finds → Type 0
  SymbolizesSingle call = SymbolizesAddress files call.reading (test call.old.dispatcher) translates finds call.opts call.asked call.kind call.input call.result call.elf call.elf_now call.old call.now call.before call.after

module _ {A B Q D R X : Type 0} {files : Ghosts X} {test : D → Test R} {translates : Translates R} {finds : Finds R} where
  -- the world in view before it, where one is told
  abbrev pub view_before : ProcessCalled files test translates finds A B Q → Option World
  view_before call = in_view (files.worlds call.before)

  -- the files that answered for processes before it, and what was remembered of processes
  abbrev pub caches_before : ProcessCalled files test translates finds A B Q → ProcessCaches
  caches_before call = caches_of call.elf call.old

  -- the same after it
  abbrev pub caches_after : ProcessCalled files test translates finds A B Q → ProcessCaches
  caches_after call = caches_of call.elf_now call.now

  -- the mappings of its process that were kept before it
  abbrev pub mappings_before : ProcessCalled files test translates finds A B Q → Option (List Mapping)
  mappings_before call = kept_mappings call.old call.asked.pid

  -- what is in view before it answers at an address alone
  abbrev pub answer_in_view : World → ProcessCalled files test translates finds A B Q → ℕ → Result Answer Error
  answer_in_view world call addr = process_in_view call.asked world (caches_before call) (mappings_before call) addr

  -- that as an entry of a batch, where a refusal is an ignored error
  abbrev pub entry_in_view : World → ProcessCalled files test translates finds A B Q → ℕ → Answer
  entry_in_view world call addr = in_batch (answer_in_view world call addr)

  -- for these addresses it goes by what is in view alone
  pub record GoesByView (world : World) (call : ProcessCalled files test translates finds A B Q) (addrs : List ℕ) : Type 0 where
    -- its dispatcher gives no resolver and refuses nothing
    pub none : GivesNone (test call.old.dispatcher)
    -- this world is in view before it, and those kept versions that the addresses use cohere with it
    pub seen : view_before call ≡ Some world
    pub coheres : CoheresFor call.asked (mappings_before call) world (caches_before call) addrs

  -- these paths have those of the mapped files of its addresses
  abbrev pub CoverAddresses : World → List (List ℕ) → ProcessCalled files test translates finds A B Q → List ℕ → Type 0
  CoverAddresses world paths call addrs = CoverMapped call.asked world paths (mappings_before call) (caches_before call) addrs

  -- how many files it may read once, where the files that are mapped lie at these paths
  abbrev pub once_read : World → List (List ℕ) → ProcessCalled files test translates finds A B Q → ℕ
  once_read world paths call = reads_once call.asked world paths (mappings_before call) (caches_before call)

  -- it reads so many files at most
  abbrev pub ReadsAtMost : ProcessCalled files test translates finds A B Q → ℕ → Type 0
  ReadsAtMost call most = files.opens call.after ≤ files.opens call.before + most
