-- What each request comes to: the text that is written, and the state of the symbolizer after it.
use Rattle.std.specs.Prelude.{ℕ, Bool, true, List, codes, map, Result, Ok, Err}
use Rattle.bz_base.specs.Answer.{Answer}
use Rattle.bz_base.specs.InputKind.{AddressKind}
use Rattle.bz_base.specs.declared.error.Error.{Error}
use Rattle.bz_files.specs.World.{World}
use Rattle.bz_process.specs.Asked.{asked_of}
use Rattle.bz_process.specs.Mapped.{asks_process, asks_process_at}
use Rattle.bz_process.specs.Process as process
use Rattle.bz_process.specs.Process.{count_of, unsaid}
use Rattle.bz_process.specs.Processes.{kept_mappings}
use Rattle.bz_process.specs.declared.query.ProcessQuery.{ProcessQuery}
use Rattle.bz_symbolize.specs.Caching.{caching}
use Rattle.bz_symbolize.specs.Evicting.{evicting}
use Rattle.bz_symbolize.specs.FileCall.{Query, batch_of, single_of}
use Rattle.bz_symbolize.specs.Lookup.{answer_of, opens_of, state_of}
use Rattle.bz_symbolize.specs.Requests.{ToCache, ToEvict, CacheElf as KeepElf, CacheProcess as KeepProcess, EvictElf as ForgetElf, EvictProcess as ForgetProcess}
use Rattle.bz_symbolize.specs.Sources.{SourceForm, OneFile, OneProcess}
use Rattle.bz_symbolize.specs.State.{opts_of}
use Rattle.bz_requests.specs.Requests.{Request, Batch, CacheElf, CacheProcess, EvictElf, EvictProcess, Single, Target, Breakpad, Elf, Gsym, Process, usual_kind}
use Rattle.bz_canon.specs.AnswerText.{answer_text, answer_texts}
use Rattle.bz_symq.specs.FileSources.{breakpad_file, elf_file, gsym_file}
use Rattle.bz_symq.specs.Outcome.{refused}
use Rattle.bz_symq.specs.Kept.{KeptState, caches_in, with_caches}
use Rattle.bz_symq.specs.Processes.{pid_of}

-- a process is asked with its perf map, and by the setting with the paths that stand for its mappings
abbrev pub query_by : Bool → ℕ → ProcessQuery
query_by map_files number = record { pid = pid_of number; perf_map = true; map_files = map_files }

-- what the target's source is
abbrev pub target_form : Bool → Target → SourceForm
target_form map_files (Breakpad path) = OneFile (breakpad_file path)
target_form map_files (Gsym path) = OneFile (gsym_file path)
target_form map_files (Elf path) = OneFile (elf_file path)
target_form map_files (Process number) = OneProcess (query_by map_files number)

-- a call of a symbolizer in its state and a world
pub record Doing (B : Type 0) : Type 0 where
  -- what it answers
  pub answer : KeptState → World → Result B Error
  -- the state that it leaves
  pub after : KeptState → World → KeptState
  -- how many files it reads at most
  pub reads : KeptState → World → ℕ

-- a source that is a file or bytes is asked
abbrev pub asking : {B : Type 0} → SourceForm → Query B → Doing B
asking form query = record {
  answer = λ kept world. answer_of (opts_of kept.files.settings) kept.files form query world;
  after = λ kept world. record kept { files = state_of kept.files form query.kind world };
  reads = λ kept world. count_of (opens_of kept.files form query.kind world);
}

-- a process is asked, step by step
abbrev pub stepping : {B : Type 0} → (KeptState → process.Step B) → Doing B
stepping step = record {
  answer = λ kept world. (step kept world (caches_in kept)).answer;
  after = λ kept world. with_caches kept (step kept world (caches_in kept)).left;
  reads = λ kept world. (step kept world (caches_in kept)).opens;
}

-- a batch of addresses, by the id of the own process
abbrev pub asking_batch : ℕ → SourceForm → AddressKind → List ℕ → Doing (List Answer)
asking_batch own (OneProcess query) kind addrs = stepping (λ kept. asks_process (asked_of own query) (kept_mappings kept.processes query.pid) (map unsaid addrs))
asking_batch own form kind addrs = asking form (batch_of kind addrs)

-- an address alone
abbrev pub asking_single : ℕ → SourceForm → AddressKind → ℕ → Doing Answer
asking_single own (OneProcess query) kind addr = stepping (λ kept. asks_process_at (asked_of own query) (kept_mappings kept.processes query.pid) (unsaid addr))
asking_single own form kind addr = asking form (single_of kind addr)

-- an answer leaves the new state, and a refusal the old one
abbrev pub unless_refused : {B : Type 0} → Result B Error → KeptState → KeptState → KeptState
unless_refused (Ok given) old new = new
unless_refused (Err e) old new = old

-- of a process, all that may be kept
abbrev pub process_by : ℕ → ToCache
process_by number = KeepProcess (record { pid = pid_of number; cache_vmas = true; cache_perf_map = true })

-- something is kept ahead of addresses, all of it or nothing
abbrev pub keeping : ℕ → ToCache → Doing (Unit {0})
keeping own asked = record {
  answer = λ kept world. (caching asked own world kept).answer;
  after = λ kept world. unless_refused (caching asked own world kept).answer kept (caching asked own world kept).left;
  reads = λ kept world. (caching asked own world kept).opens;
}

-- something is forgotten, which is never refused
abbrev pub forgetting : ToEvict → Doing (Unit {0})
forgetting asked = record { answer = λ kept world. Ok tt; after = λ kept world. evicting asked kept; reads = λ kept world. 0 }

-- what a request comes to: the text that is written, the state of the symbolizer after it, and how many
-- files are read at most
pub record RequestOutcome : Type 0 where
  pub text : List ℕ
  pub state : KeptState
  pub reads : ℕ

-- an answer is written by its text, and a refusal by its name
abbrev pub said : {B : Type 0} → (B → List ℕ) → Result B Error → List ℕ
said text_of (Ok given) = text_of given
said text_of (Err e) = (refused e).text

-- the step that is one call, whose answer is written so
abbrev pub done_by : {B : Type 0} → (B → List ℕ) → Doing B → KeptState → World → RequestOutcome
done_by text_of doing kept world = record { text = said text_of (doing.answer kept world); state = doing.after kept world; reads = doing.reads kept world }

-- a call that gives nothing is answered so
abbrev pub okay : Unit {0} → List ℕ
okay done = codes "ok\n"

-- the step that a request is: by the id of the own process, and by the setting for paths that stand for
-- mappings
abbrev pub step : Bool → ℕ → Request → KeptState → World → RequestOutcome
step map_files own (Batch target addrs) = done_by (answer_texts addrs) (asking_batch own (target_form map_files target) (usual_kind target) addrs)
step map_files own (Single target addr) = done_by (answer_text addr) (asking_single own (target_form map_files target) (usual_kind target) addr)
step map_files own (CacheElf path) = done_by okay (keeping own (KeepElf path))
step map_files own (CacheProcess number) = done_by okay (keeping own (process_by number))
step map_files own (EvictElf path) = done_by okay (forgetting (ForgetElf path))
step map_files own (EvictProcess number) = done_by okay (forgetting (ForgetProcess (pid_of number)))
