-- The mappings that a process is answered by: the kept ones, else those of the text that lies there.
use Rattle.std.specs.Prelude.{◌≡◌, ◌⊎◌, ℕ, List, [], ◌∷◌, ◌++◌, map, Option, Some, None, Result, Ok, Err, IfErr, IsErr, OnOk}
use Rattle.std.specs.Global.{Vec}
use Rattle.bz_base.specs.Answer.{Answer, reading}
use Rattle.bz_base.specs.declared.error.Error.{Error}
use Rattle.bz_base.specs.declared.error.Error.TheVariants as errors
use Rattle.bz_base.specs.declared.resolve.Symbolize.{Ghosts as Finds}
use Rattle.bz_base.specs.declared.resolve.TranslateFileOffset.{Ghosts as Translates}
use Rattle.bz_base.specs.declared.types.FindSymOpts.{FindSymOpts}
use Rattle.bz_base.specs.declared.types.Symbolized.{Symbolized}
use Rattle.bz_files.specs.World.{Entry, Told, entry_at, has_file, in_view}
use Rattle.bz_files.specs.declared.files.Files.{Ghosts}
use Rattle.bz_cache.specs.InsertMap.{value_at}
use Rattle.bz_proc.specs.Maps.{Mapping}
use Rattle.bz_proc.specs.MapsFile.{AreOfText, maps_path, maps_told}
use Rattle.bz_proc.specs.SystemText.{IsReadRefusal}
use Rattle.bz_base.specs.declared.pid.Pid.{Pid}
use Rattle.bz_process.specs.Dispatch.{DispatchAnswers, Keeps, Test}
use Rattle.bz_process.specs.Process.{Said, Step, and_then, at_address, at_addresses, count_of, gives, pid_cmp, unsaid}
use Rattle.bz_process.specs.ProcessAsk.{AddsAmong, IsSaidAt, SaidInTurn, come_to, next_of, readings}
use Rattle.bz_process.specs.ProcessCall.{TakesStep, UnlessFailed}
use Rattle.bz_process.specs.Asked.{Asked}
use Rattle.bz_process.specs.Caches.{ProcessCaches}
use Rattle.bz_process.specs.Terms.{KeptToAnswer, Terms}
use Rattle.bz_process.specs.Untold.{SaysNoFault, SomeAtAddress, SomeAtAddresses, SomeBatch, as_read}

-- what a text at a path tells
abbrev pub of_text : {B : Type 0} → (Option Entry → Result B Error) → List ℕ → Step B
of_text told path world kept = record { answer = told (entry_at world path); left = kept; opens = count_of (has_file (entry_at world path)) }

-- the mappings, if there are any
abbrev pub if_some : List Mapping → Result (List Mapping) Error
if_some [] = Err errors.UnexpectedEof
if_some (mapping ∷ later) = Ok (mapping ∷ later)

-- the mappings as a step, which is refused where there are none
abbrev pub checked : List Mapping → Step (List Mapping)
checked mappings world kept = record { answer = if_some mappings; left = kept; opens = 0 }

-- the kept mappings, else those that are told
abbrev pub mappings_of : Pid → Option (List Mapping) → Step (List Mapping)
mappings_of pid (Some mappings) = gives mappings
mappings_of pid None = of_text (maps_told pid) (maps_path pid)

-- the same, of which there are some
abbrev pub some_mappings : Pid → Option (List Mapping) → Step (List Mapping)
some_mappings pid kept = and_then (mappings_of pid kept) checked

-- whatever is told, where mappings come from: they are the kept ones, or else those of some text
abbrev pub AreFrom : Pid → Option (List Mapping) → List Mapping → Type 0
AreFrom pid (Some kept) mappings = mappings ≡ kept
AreFrom pid None mappings = AreOfText pid mappings

-- and then a process is answered by them, of which there are some
pub record AreUsed (pid : Pid) (kept : Option (List Mapping)) (mappings : List Mapping) : Type 0 where
  pub from : AreFrom pid kept mappings
  pub positive : if_some mappings ≡ Ok mappings

-- a process lacks mappings where its text is refused, or tells none
abbrev pub MayLackMappings : Error → Type 0
MayLackMappings errors.UnexpectedEof = Unit {0}
MayLackMappings e = IsReadRefusal e

-- kept mappings are refused only where there are none, but for want of memory
abbrev pub LacksMappings : Option (List Mapping) → Error → Type 0
LacksMappings kept errors.OutOfMemory = Unit {0}
LacksMappings (Some kept) e = if_some kept ≡ Err e
LacksMappings None e = MayLackMappings e

-- a call was refused before it had mappings, and nothing has changed
pub record RefusedUnmapped {A R : Type 0} (kept : Option (List Mapping)) (result : Result A Error) (old now : ProcessCaches) (answers answers_now : DispatchAnswers R) : Type 0 where
  pub refused : IsErr result
  pub refusal : IfErr result (LacksMappings kept)
  pub unchanged : now ≡ old
  pub unsaid : answers_now ≡ answers

-- whatever is told: the call went by these mappings, and what it did follows from them, or it was
-- refused before it had any
abbrev pub UsesMappings : {A R : Type 0} → Type 0 → Pid → Option (List Mapping) → List Mapping → Result A Error → ProcessCaches → ProcessCaches → DispatchAnswers R → DispatchAnswers R → Type 0
UsesMappings Follows pid kept mappings result old now answers answers_now = (AreUsed pid kept mappings × Follows) ⊎ RefusedUnmapped kept result old now answers answers_now

-- whatever is told, a process with nobody in charge gave these answers, by the kept mappings or else
-- those of some text. Each is by some version that a look gave, or refused as a look is, or such as no
-- look is needed for
pub record AreByMappings (asked : Asked) (kept : Option (List Mapping)) (addrs : List ℕ) (answers : List Answer) (old now : ProcessCaches) : Type 0 where
  pub mappings : List Mapping
  pub used : AreUsed asked.pid kept mappings
  pub untold : SomeAtAddresses asked mappings (map unsaid addrs) answers old now

-- and so it answered or refused an address alone
pub record IsByMappings (asked : Asked) (kept : Option (List Mapping)) (addr : ℕ) (given : Result Answer Error) (old now : ProcessCaches) : Type 0 where
  pub mappings : List Mapping
  pub used : AreUsed asked.pid kept mappings
  pub untold : SomeAtAddress asked given old now mappings (unsaid addr)

-- all that is asked of a process: its mappings, and the addresses one after another
abbrev pub asks_process : Asked → Option (List Mapping) → List (ℕ × Said) → Step (List Answer)
asks_process asked kept items = and_then (some_mappings asked.pid kept) (λ mappings. at_addresses asked mappings items)

-- a process was asked by these mappings: something allowed was said for a front of the addresses, and
-- for all where the call is answered
pub record AsksProcess {A R X : Type 0} (files : Ghosts X) (reading : A → List Answer) (test : Test R) (translates : Translates R) (finds : Finds R) (opts : FindSymOpts)
    (asked : Asked) (kept : Option (List Mapping)) (addrs : List ℕ) (result : Result A Error) (old now : ProcessCaches) (answers answers_now : DispatchAnswers R) (before after : X) : Type 0 where
  pub mappings : List Mapping
  pub mapped : Told (in_view (files.worlds before)) (λ world. OnOk result ((some_mappings asked.pid kept world old).answer ≡ Ok mappings))
  -- also after a refusal or a failure, unless nothing has changed
  pub tied : Told (in_view (files.worlds before)) (λ world. ((some_mappings asked.pid kept world old).answer ≡ Ok mappings) ⊎ ((now ≡ old) × (answers_now ≡ answers)))
  pub front : List (ℕ × Said)
  pub rest : List ℕ
  pub addrs_are : map (λ item. item.0) front ++ rest ≡ addrs
  pub all : OnOk result (rest ≡ [])
  pub allowed : SaidInTurn test translates finds opts mappings front answers answers_now
  -- whatever is told, the mappings are the kept ones, or else those of some text. Each answer is by
  -- some version that a look gave, or refused as a look is. A failure ends the batch, and no address
  -- after it is asked
  pub used : UsesMappings (SomeBatch (in_view (files.worlds before)) reading asked mappings front rest result old now) asked.pid kept mappings result old now answers answers_now
  -- kept answers stay, and others are added for owners of the addresses alone that were come to
  pub keeps : Keeps answers answers_now
  pub adds : AddsAmong test mappings (come_to front rest) answers answers_now
  pub step : TakesStep files asked.own reading (asks_process asked kept (front ++ map unsaid (next_of rest))) result old now before after

-- all that is asked of a process for an address alone
abbrev pub asks_process_at : Asked → Option (List Mapping) → ℕ × Said → Step Answer
asks_process_at asked kept item = and_then (some_mappings asked.pid kept) (λ mappings. at_address asked mappings item)

-- a process was asked for an address alone: by these mappings something allowed was said
pub record AsksProcessAt {A R X : Type 0} (files : Ghosts X) (reading : A → Answer) (test : Test R) (translates : Translates R) (finds : Finds R) (opts : FindSymOpts)
    (asked : Asked) (kept : Option (List Mapping)) (addr : ℕ) (result : Result A Error) (old now : ProcessCaches) (answers answers_now : DispatchAnswers R) (before after : X) : Type 0 where
  pub mappings : List Mapping
  pub mapped : Told (in_view (files.worlds before)) (λ world. UnlessFailed result ((told : List Mapping) → (some_mappings asked.pid kept world old).answer ≡ Ok told → told ≡ mappings))
  -- also after a refusal or a failure, unless nothing has changed
  pub tied : Told (in_view (files.worlds before)) (λ world. ((some_mappings asked.pid kept world old).answer ≡ Ok mappings) ⊎ ((now ≡ old) × (answers_now ≡ answers)))
  pub said : Said
  pub allowed : UnlessFailed result (IsSaidAt test translates finds opts mappings addr answers answers_now said)
  pub faultless : SaysNoFault said
  -- whatever is told, the mappings are the kept ones, or else those of some text. The answer is by some
  -- version that a look gave, or refused as a look is
  pub used : UsesMappings (SomeAtAddress asked (as_read reading result) old now mappings (addr, said)) asked.pid kept mappings result old now answers answers_now
  pub keeps : Keeps answers answers_now
  pub adds : AddsAmong test mappings (addr ∷ []) answers answers_now
  pub step : TakesStep files asked.own reading (asks_process_at asked kept (addr, said)) result old now before after

-- a call under these terms, where these mappings are kept of processes
module _ {R X : Type 0} (files : Ghosts X) (terms : Terms R) (mappings : List (Pid × List Mapping)) where
  -- its process was asked for a batch of addresses
  abbrev pub AsksBatch : List ℕ → Result (Vec Symbolized) Error → KeptToAnswer R → KeptToAnswer R → X → X → Type 0
  AsksBatch addrs result old now before after =
      AsksProcess files readings terms.test terms.translates terms.finds terms.opts terms.asked (value_at pid_cmp mappings terms.asked.pid) addrs result
      old.caches now.caches old.answers now.answers before after

  -- for an address alone
  abbrev pub AsksSingle : ℕ → Result Symbolized Error → KeptToAnswer R → KeptToAnswer R → X → X → Type 0
  AsksSingle addr result old now before after =
      AsksProcessAt files reading terms.test terms.translates terms.finds terms.opts terms.asked (value_at pid_cmp mappings terms.asked.pid) addr result
      old.caches now.caches old.answers now.answers before after
