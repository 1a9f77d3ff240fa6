-- What may be replied to a request, whatever the files tell.
use Rattle.std.specs.Prelude.{◌≡◌, ◌⊎◌, ℕ, Bool, List, ◌++◌, Option, Some, None, Result, Ok, Err}
use Rattle.std.specs.List.{AllZip, concat}
use Rattle.bz_base.specs.Answer.{Answer}
use Rattle.bz_base.specs.declared.error.Error.{Error}
use Rattle.bz_base.specs.declared.error.Error.TheVariants as errors
use Rattle.bz_base.specs.declared.types.FindSymOpts.{FindSymOpts}
use Rattle.bz_process.specs.Asked.{Asked, asked_of}
use Rattle.bz_process.specs.Caches.{ProcessCaches}
use Rattle.bz_process.specs.Mapped.{AreByMappings, IsByMappings}
use Rattle.bz_process.specs.Untold.{Unfailing}
use Rattle.bz_symbolize.specs.FileCall.{Query, batch_of, single_of}
use Rattle.bz_symbolize.specs.Promise.{IsBreakpadAnswer, IsElfAnswer, IsGsymAnswer}
use Rattle.bz_symbolize.specs.Requests.{ToCache, CacheElf as KeepElf, CacheProcess as KeepProcess}
use Rattle.bz_symbolize.specs.declared.source.Source.{Source}
use Rattle.bz_requests.specs.Requests.{Request, Batch, CacheElf, CacheProcess, EvictElf, EvictProcess, Single, Target, Breakpad, Elf, Gsym, Process, usual_kind}
use Rattle.bz_canon.specs.AnswerText.{answer_text, answer_texts}
use Rattle.bz_symq.specs.Command.{FileTarget, Breakpad as BreakpadFile, Elf as ElfFile, Gsym as GsymFile}
use Rattle.bz_symq.specs.Reply.{IsSomeRefusal}
use Rattle.bz_symq.specs.Targets.{IsSomeFileCause, IsSomeProcessCause, IsSourceOf}
use Rattle.bz_serve.specs.RequestSteps.{okay, process_by, query_by}

-- where the target is a file, the source is that file
abbrev pub IsSourceFor : Target → Source → Type 0
IsSourceFor (Breakpad path) source = IsSourceOf (BreakpadFile path) source
IsSourceFor (Gsym path) source = IsSourceOf (GsymFile path) source
IsSourceFor (Elf path) source = IsSourceOf (ElfFile path) source
IsSourceFor (Process number) source = Unit {0}

-- the bytes are in the file's format, and answer the query so, or refuse it
abbrev pub IsAnswerBy : {B : Type 0} → FindSymOpts → FileTarget → List ℕ → Query B → Result B Error → Type 0
IsAnswerBy opts (BreakpadFile path) bytes query answer = IsBreakpadAnswer opts bytes query answer
IsAnswerBy opts (GsymFile path) bytes query answer = IsGsymAnswer opts bytes query answer
IsAnswerBy opts (ElfFile path) bytes query answer = IsElfAnswer path bytes query answer

-- some bytes in the file's format answer the query so, or refuse it so
abbrev pub IsSomeAnswer : {B : Type 0} → FindSymOpts → FileTarget → Query B → Result B Error → Type 0
IsSomeAnswer opts file query answer = (bytes : List ℕ) × IsAnswerBy opts file bytes query answer

-- the text is that of something for which this holds, or names a refusal by such a cause
abbrev pub SaysSome : {B : Type 0} → (B → List ℕ) → (B → Type 0) → (Error → Type 0) → List ℕ → Type 0
SaysSome {B} text_of Given Cause text = ((given : B) × Given given × (text ≡ text_of given)) ⊎ IsSomeRefusal Cause text

-- a file may be refused for a cause of its own, or as some bytes in its format themselves refuse what
-- is asked
abbrev pub IsAskedCause : {B : Type 0} → FindSymOpts → FileTarget → Query B → Error → Type 0
IsAskedCause opts file query e = IsSomeFileCause file e ⊎ IsSomeAnswer opts file query (Err e)

-- a file may say such a text
abbrev pub FileMaySay : {B : Type 0} → (B → List ℕ) → FindSymOpts → FileTarget → Query B → List ℕ → Type 0
FileMaySay text_of opts file query text = SaysSome text_of (λ given. IsSomeAnswer opts file query (Ok given)) (λ e. IsAskedCause opts file query e) text

-- what a process is asked under: the id of the own one, and the setting for paths that stand for
-- mappings. And what is kept before the request and after it
pub record Circumstances : Type 0 where
  pub own : ℕ
  pub map_files : Bool
  pub old : ProcessCaches
  pub now : ProcessCaches

-- how the process with a number is asked under them
abbrev pub asked_under : Circumstances → ℕ → Asked
asked_under so number = asked_of so.own (query_by so.map_files number)

-- the process with this number gave these answers, by mappings that some text tells, kept or not
abbrev pub AreSomeGiven : ℕ → List ℕ → List Answer → Type 0
AreSomeGiven number addrs answers = (so : Circumstances) × AreByMappings (asked_under so number) None addrs answers so.old so.now

-- and so it answered or refused an address alone
abbrev pub IsSomeGiven : ℕ → ℕ → Result Answer Error → Type 0
IsSomeGiven number addr given = (so : Circumstances) × IsByMappings (asked_under so number) None addr given so.old so.now

-- a process may say such a text to addresses: answers, or why it lacks mappings
abbrev pub ProcessMaySay : ℕ → List ℕ → List ℕ → Type 0
ProcessMaySay number addrs text = SaysSome (answer_texts addrs) (λ answers. AreSomeGiven number addrs answers) IsSomeProcessCause text

-- it may refuse an address alone where it lacks mappings, or by them, without a failure
abbrev pub IsAddressCause : ℕ → ℕ → Error → Type 0
IsAddressCause number addr e = IsSomeProcessCause e ⊎ (Unfailing (Err e) × IsSomeGiven number addr (Err e))

-- and so it may say such a text to it
abbrev pub ProcessMaySayAlone : ℕ → ℕ → List ℕ → Type 0
ProcessMaySayAlone number addr text = SaysSome (answer_text addr) (λ answer. IsSomeGiven number addr (Ok answer)) (λ e. IsAddressCause number addr e) text

-- and a target: its file, or else its process
abbrev pub TargetMaySay : {B : Type 0} → (B → List ℕ) → FindSymOpts → Query B → (ℕ → List ℕ → Type 0) → Target → List ℕ → Type 0
TargetMaySay text_of opts query OfProcess (Breakpad path) text = FileMaySay text_of opts (BreakpadFile path) query text
TargetMaySay text_of opts query OfProcess (Gsym path) text = FileMaySay text_of opts (GsymFile path) query text
TargetMaySay text_of opts query OfProcess (Elf path) text = FileMaySay text_of opts (ElfFile path) query text
TargetMaySay text_of opts query OfProcess (Process number) text = OfProcess number text

-- a text of the system may be absent, may not be read, or is malformed
abbrev pub IsSomeReadCause : Error → Type 0
IsSomeReadCause errors.NotFound = Unit {0}
IsSomeReadCause errors.PermissionDenied = Unit {0}
IsSomeReadCause errors.InvalidData = Unit {0}
IsSomeReadCause e = ⊥

-- why something may not be kept
abbrev pub IsSomeKeepingCause : ToCache → Error → Type 0
IsSomeKeepingCause (KeepElf path) e = IsSomeFileCause (ElfFile path) e
IsSomeKeepingCause (KeepProcess asked) e = IsSomeReadCause e

-- the text says that something is kept, or why it may not be
abbrev pub KeepingMaySay : ToCache → List ℕ → Type 0
KeepingMaySay asked text = SaysSome okay (λ done. Unit {0}) (IsSomeKeepingCause asked) text

-- the text may be replied to the request, under these options of a look-up
abbrev pub MayReply : FindSymOpts → Request → List ℕ → Type 0
MayReply opts (Batch target addrs) text = TargetMaySay (answer_texts addrs) opts (batch_of (usual_kind target) addrs) (λ number. ProcessMaySay number addrs) target text
MayReply opts (Single target addr) text = TargetMaySay (answer_text addr) opts (single_of (usual_kind target) addr) (λ number. ProcessMaySayAlone number addr) target text
MayReply opts (CacheElf path) text = KeepingMaySay (KeepElf path) text
MayReply opts (CacheProcess number) text = KeepingMaySay (process_by number) text
MayReply opts (EvictElf path) text = text ≡ okay tt
MayReply opts (EvictProcess number) text = text ≡ okay tt

-- the text is one reply after another, one to each request, each of which that request may have
pub record AreReplies {A : Type 0} (MaySay : A → List ℕ → Type 0) (requests : List A) (text : List ℕ) : Type 0 where
  pub texts : List (List ℕ)
  pub each : AllZip MaySay requests texts
  pub text_is : text ≡ concat texts

-- such a text was written after what stood there
abbrev pub WritesReplies : {A : Type 0} → (A → List ℕ → Type 0) → List A → List ℕ → Option (List ℕ) → Type 0
WritesReplies MaySay requests old new = (text : List ℕ) × AreReplies MaySay requests text × (new ≡ Some (old ++ text))
