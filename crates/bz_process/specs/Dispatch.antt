-- What a dispatcher and its resolvers may say, and which of its answers are kept.
use Rattle.std.specs.Prelude.{◌≡◌, ◌⊎◌, ℕ, true, List, Option, Some, None, Result, Ok, Err, OnOk, OnErr, IfErr}
use Rattle.std.specs.BTreeMap.{is_at}
use Rattle.bz_base.specs.Answer.{Answer, Resolved, Unknown, reading}
use Rattle.bz_base.specs.Refusals.{IsFailure, IsFormatRefusal}
use Rattle.bz_base.specs.Resolution.{StartsBefore}
use Rattle.bz_base.specs.declared.error.Error.{Error}
use Rattle.bz_base.specs.declared.error.Error.TheVariants as errors
use Rattle.bz_base.specs.declared.resolve.Symbolize.{Ghosts as Finds}
use Rattle.bz_base.specs.declared.resolve.TranslateFileOffset.{Ghosts as Translates}
use Rattle.bz_base.specs.declared.types.FindSymOpts.{FindSymOpts}
use Rattle.bz_base.specs.declared.types.Reason.{Reason}
use Rattle.bz_base.specs.declared.types.Reason.TheVariants as reasons
use Rattle.bz_base.specs.declared.types.Symbolized.{Symbolized}
use Rattle.bz_cache.specs.InsertMap.{value_at}
use Rattle.bz_proc.specs.Maps.{Mapping, name_of}
use Rattle.bz_proc.specs.NameOrder.{name_order}
use Rattle.bz_proc.specs.declared.maps.PathName.{PathName}
use Rattle.bz_process.specs.Member.{Member, MayRefuseMember, as_member}
use Rattle.bz_process.specs.Process.{Said, offset_in}
use Rattle.bz_cache.specs.FileCall.{as_answer}

-- the answers of a dispatcher that are kept, by what they are for
abbrev pub DispatchAnswers : Type 0 → Type 0
DispatchAnswers R = List (PathName × Option R)

abbrev pub kept_for : {R : Type 0} → DispatchAnswers R → PathName → Option (Option R)
kept_for answers name = value_at name_order answers name

-- each answer that was kept is still kept
abbrev pub Keeps : {R : Type 0} → DispatchAnswers R → DispatchAnswers R → Type 0
Keeps {R} old now = (name : PathName) (answer : Option R) → kept_for old name ≡ Some answer → kept_for now name ≡ Some answer

-- what a resolver finds for an address starts there or before it; and it is refused as bytes are
abbrev pub IsResolution : ℕ → Result (Result Resolved Reason) Error → Type 0
IsResolution addr (Ok found) = StartsBefore addr found
IsResolution addr (Err e) = IsFormatRefusal e

-- what a resolver may say of an offset in the member, as its tests allow
module _ {R : Type 0} (translates : Translates R) (finds : Finds R) (opts : FindSymOpts) (resolver : R) where
  abbrev pub MayFind : Result (Option ℕ) Error → Result Answer Error → Type 0
  MayFind (Err e) said = IsFormatRefusal e × (said ≡ Err e)
  MayFind (Ok None) said = said ≡ Ok (Unknown reasons.InvalidFileOffset)
  MayFind (Ok (Some addr)) said = (found : Result (Result Resolved Reason) Error) × finds.may_find resolver opts addr found × IsResolution addr found × (said ≡ as_answer addr found)

  abbrev pub MaySay : Option ℕ → Result Answer Error → Type 0
  MaySay None said = said ≡ Ok (Unknown reasons.InvalidFileOffset)
  MaySay (Some offset) said = (translated : Result (Option ℕ) Error) × translates.may_translate resolver offset translated × MayFind translated said

-- the test of a dispatcher
abbrev pub Test : Type 0 → Type 1
Test R = Member → Result (Option R) Error → Type 0

module _ {R : Type 0} (test : Test R) (translates : Translates R) (finds : Finds R) (opts : FindSymOpts) where
  -- what is said by the answer that is kept: the resolver's answer or refusal; nothing where none is in
  -- charge
  abbrev pub SaysKept : Option ℕ → Option (Option R) → Said → Type 0
  SaysKept offset None said = ⊥
  SaysKept offset (Some None) said = said ≡ None
  SaysKept offset (Some (Some resolver)) said = (given : Result Answer Error) × (said ≡ Some given) × MaySay translates finds opts resolver offset given

  -- nothing was kept, and the dispatcher refused the member, by one of the refusals of members; a
  -- failure is none
  pub record RefusesMember (mapping : Mapping) (name : PathName) (old : DispatchAnswers R) (said : Said) : Type 0 where
    pub refusal : Error
    pub asked : kept_for old name ≡ None
    pub allowed : test (as_member mapping (name_of name)) (Err refusal)
    pub refuses : MayRefuseMember refusal
    pub unfailing : IsFailure refusal → ⊥
    pub is : said ≡ Some (Err refusal)

  -- what is said for an address of a mapping with this name
  abbrev pub IsSaid : Mapping → PathName → ℕ → DispatchAnswers R → DispatchAnswers R → Said → Type 0
  IsSaid mapping name addr old now said = RefusesMember mapping name old said ⊎ SaysKept (offset_in mapping addr) (kept_for now name) said

-- what was said, as plain data
abbrev pub said_of : Result (Option Symbolized) Error → Said
said_of (Ok None) = None
said_of (Ok (Some answer)) = Some (Ok (reading answer))
said_of (Err e) = Some (Err e)

-- an answer that was added is for the name of the mapping, and the dispatcher's test allows it
abbrev pub Adds : {R : Type 0} → Test R → Mapping → PathName → DispatchAnswers R → DispatchAnswers R → Type 0
Adds {R} test mapping name old now = (other : PathName) (answer : Option R) → kept_for now other ≡ Some answer →
    (kept_for old other ≡ Some answer) ⊎ ((is_at (name_order other) name ≡ true) × test (as_member mapping (name_of name)) (Ok answer))

-- the dispatcher was asked for a mapping with this name, where none of its answers was kept
pub record Asks {R : Type 0} (test : Test R) (mapping : Mapping) (name : PathName) (result : Result (Unit {0}) Error) (old now : DispatchAnswers R) : Type 0 where
  -- an answer is kept then, and what was kept before is as it was
  pub kept : OnOk result ((answer : Option R) × (kept_for now name ≡ Some answer))
  pub keeps : Keeps old now
  pub adds : Adds test mapping name old now
  -- or the dispatcher refused the member, or memory ran out
  pub refused : IfErr result (λ e. (e ≡ errors.OutOfMemory) ⊎ ((kept_for old name ≡ None) × test (as_member mapping (name_of name)) (Err e)))
  pub refusal : IfErr result MayRefuseMember
  pub err : OnErr result (now ≡ old)
