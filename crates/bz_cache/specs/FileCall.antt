-- What a call on one file in one cache does, whatever the format of the file and the question.
use Rattle.std.specs.Prelude.{◌≡◌, ◌⊎◌, ℕ, Bool, true, false, ◌&&◌, cond, List, map, Option, Some, None, IsSome, Result, Ok, Err, IsErr, IsErrOf, IfErr, OnOk}
use denote.Ref.{Bor}
use Rattle.bz_base.specs.Answer.{Answer, Gives, Resolved, in_batch}
use Rattle.bz_base.specs.InputKind.{AddressKind, address_kind, payload}
use Rattle.bz_base.specs.declared.error.Error.{Error}
use Rattle.bz_base.specs.declared.error.Error.TheVariants as errors
use Rattle.bz_base.specs.declared.input.Input.{Input}
use Rattle.bz_base.specs.Resolution as resolution
use Rattle.bz_base.specs.declared.types.FindSymOpts.{FindSymOpts}
use Rattle.bz_base.specs.declared.types.Reason.{Reason}
use Rattle.bz_files.specs.Looked.{Faulted, Looked, ReadsOne}
use Rattle.bz_files.specs.World.{World, Entry, Told, in_view, entry_at}
use Rattle.bz_files.specs.declared.files.Files.{Ghosts}
use Rattle.bz_cache.specs.Cache.{Cache, Consistent}
use Rattle.bz_cache.specs.Format.{GivesOrFaults, MayFail}
use Rattle.bz_cache.specs.Look.{look, will_open, opens_after, IsKeptAt, IsSomeLook}
use Rattle.bz_cache.specs.View.{View, answer_of_view, fixed, if_formed, view}

-- what a call asks of a file: which refusal bytes give, whether the kind of address is taken, and what
-- bytes in the format answer. The kind is seen before the look
pub record Question (B : Type 0) : Type 0 where
  pub test : List ℕ → Option Error
  pub taken : Bool
  pub given : List ℕ → Result B Error

-- what a version answers
abbrev pub by_version : {B : Type 0} → Question B → List ℕ → Result B Error
by_version asked bytes = if_formed asked.given bytes (asked.test bytes)

-- what the version that a look gave answers, or the look's refusal
abbrev pub by_look : {B : Type 0} → Question B → Result (List ℕ) Error → Result B Error
by_look asked (Ok bytes) = by_version asked bytes
by_look asked (Err e) = Err e

-- the answer, by what lies at the path
abbrev pub file_answer : {B : Type 0} → Question B → Cache → List ℕ → Option Entry → Result B Error
file_answer asked cache path there = cond asked.taken (by_look asked (look asked.test cache path there).0) (Err errors.Unsupported)

-- what the version in view answers
abbrev pub by_view : {B : Type 0} → Question B → View → Result B Error
by_view asked shown = answer_of_view asked.test asked.given shown

-- what a call on one file answers, by what is in view
abbrev pub shown_answer : {B : Type 0} → Question B → View → Result B Error
shown_answer asked shown = cond asked.taken (by_view asked shown) (Err errors.Unsupported)

-- what a call on the file at a path answers, by the cache and the world in view
abbrev pub view_answer : {B : Type 0} → Question B → Cache → World → List ℕ → Result B Error
view_answer asked cache world path = shown_answer asked (view cache world path)

-- the cache that is left, by the test and by whether the kind of address is taken
abbrev pub file_cache : (List ℕ → Option Error) → Bool → Cache → List ℕ → Option Entry → Cache
file_cache test taken cache path there = cond taken (look test cache path there).1 cache

-- whether the file is read
abbrev pub file_opens : Bool → Cache → List ℕ → Option Entry → Bool
file_opens taken cache path there = taken && will_open cache path there

-- what a call leaves: what is expected; after a fault what was; where memory ran out either of them
abbrev pub Leaves : {A S : Type 0} → Result A Error → S → S → S → Type 0
Leaves (Err errors.ReadFault) old expected now = now ≡ old
Leaves (Err errors.OutOfMemory) old expected now = (now ≡ old) ⊎ (now ≡ expected)
Leaves _ old expected now = now ≡ expected

-- a call where it is told what lies at the path
pub record FileTold {A B : Type 0} (reading : A → B) (asked : Question B) (path : List ℕ) (result : Result A Error) (old now : Cache)
    (there : Option Entry) (before after : ℕ) : Type 0 where
  -- its answer, and what it leaves
  pub answer : GivesOrFaults reading (file_answer asked old path there) result
  pub state : Leaves result old (file_cache asked.test asked.taken old path there) now
  -- an answered call reads the file exactly where it has to; no call reads it where it needn't
  pub opened : OnOk result (after ≡ opens_after (file_opens asked.taken old path there) before)
  pub spared : file_opens asked.taken old path there ≡ false → after ≡ before

-- a call that no version answered is refused as a look at files of its format is. It may also be
-- refused by `Unsupported`, if this holds: its kind of address isn't taken
abbrev pub MayBeRefused : Type 0 → (List ℕ → Option Error) → Error → Type 0
MayBeRefused untaken test errors.Unsupported = untaken ⊎ MayFail test errors.Unsupported
MayBeRefused untaken test e = MayFail test e

-- some look at the path gave a version and left it kept there, and the call answers by that version
pub record ByVersion {A B : Type 0} (reading : A → B) (asked : Question B) (path : List ℕ) (result : Result A Error) (old now : Cache) : Type 0 where
  pub bytes : List ℕ
  pub kept : IsKeptAt asked.test now path bytes
  pub looked : IsSomeLook asked.test old now path bytes
  pub given : Gives reading (asked.given bytes) result

-- the call was refused before a version was kept, and nothing has changed
pub record RefusedFirst {A B : Type 0} (asked : Question B) (result : Result A Error) (old now : Cache) : Type 0 where
  pub refused : IsErr result
  pub refusal : IfErr result (MayBeRefused (asked.taken ≡ false) asked.test)
  pub unchanged : now ≡ old

-- whatever is told: a version answered, or the call was refused before one was kept
abbrev pub FileSome : {A B : Type 0} → (A → B) → Question B → List ℕ → Result A Error → Cache → Cache → Type 0
FileSome reading asked path result old now = ByVersion reading asked path result old now ⊎ RefusedFirst asked result old now

-- all that a call on one file in one cache does
pub record CallsFile {A B X : Type 0} (files : Ghosts X) (reading : A → B) (asked : Question B) (path : List ℕ) (result : Result A Error)
    (old now : Cache) (before after : X) : Type 0 where
  -- where it is told what lies at the path, the answer, the cache that is left and the file that is
  -- read are the expected ones
  pub told : Told (in_view (files.worlds before)) (λ world.
      FileTold reading asked path result old now (entry_at world path) (files.opens before) (files.opens after))
  -- whatever is told, a version answered, or the call was refused first
  pub untold : FileSome reading asked path result old now
  -- a kind of address that isn't taken is refused before any look
  pub untaken : asked.taken ≡ false → IsErrOf result errors.Unsupported × (now ≡ old) × (after ≡ before)
  -- a path that is held and isn't looked at anew stays as it is, and its version answers without a look
  pub stays : IsSome (fixed old path) → (now ≡ old) × (after ≡ before)
  pub ready : IsSome (fixed old path) → asked.taken ≡ true → ByVersion reading asked path result old now
  -- the cache stays well kept
  pub consistent : Consistent asked.test old → Consistent asked.test now
  pub reload : now.reload ≡ old.reload
  -- of the files: they are only looked at, and one at most is read
  pub looked : Looked files before after (Faulted result)
  pub most : ReadsOne files before after

-- what was found as the answer for the address, or its refusal
abbrev pub as_answer : ℕ → Result (Result Resolved Reason) Error → Result Answer Error
as_answer addr (Ok found) = Ok (resolution.answer_at addr found)
as_answer addr (Err e) = Err e

-- how a format answers
pub record Answering : Type 0 where
  -- which kinds of address are taken before the file is looked at, and which ones a version answers
  pub takes : AddressKind → Bool
  pub serves : AddressKind → Bool
  -- what a version answers at an address alone, or its refusal: by the options, the path, its bytes,
  -- and the address's kind
  pub single : FindSymOpts → List ℕ → List ℕ → AddressKind → ℕ → Result Answer Error

-- what is asked of a version: at addresses of which kind, and what is made of its answers at each
-- address alone
pub record Query (B : Type 0) : Type 0 where
  pub kind : AddressKind
  pub given : (ℕ → Result Answer Error) → Result B Error

-- a batch: the answers at the addresses, in their order, where a refused address is an ignored error
abbrev pub batch_of : AddressKind → List ℕ → Query (List Answer)
batch_of kind addrs = record { kind = kind; given = λ answer_at. Ok (map (λ addr. in_batch (answer_at addr)) addrs) }

-- a single address: its answer, or its refusal
abbrev pub single_of : AddressKind → ℕ → Query Answer
single_of kind addr = record { kind = kind; given = λ answer_at. answer_at addr }

-- what is held of a version: its answer, or its refusal, at each address alone
abbrev pub each_of : AddressKind → Query (ℕ → Result Answer Error)
each_of kind = record { kind = kind; given = λ answer_at. Ok answer_at }

-- the same of inputs
abbrev pub batch_query : Input (Bor (List ℕ)) → Query (List Answer)
batch_query input = batch_of (address_kind input) (payload input).now

abbrev pub single_query : Input ℕ → Query Answer
single_query input = single_of (address_kind input) (payload input)

-- what a version answers, or the refusal of another kind of address
abbrev pub query_given : {B : Type 0} → Answering → FindSymOpts → List ℕ → Query B → List ℕ → Result B Error
query_given answering opts path query bytes =
    cond (answering.serves query.kind) (query.given (λ addr. answering.single opts path bytes query.kind addr)) (Err errors.Unsupported)

-- what a query asks of a file
abbrev pub query_asked : {B : Type 0} → (List ℕ → Option Error) → Answering → FindSymOpts → List ℕ → Query B → Question B
query_asked test answering opts path query = record { test = test; taken = answering.takes query.kind; given = query_given answering opts path query }
