-- What a call asks of a process with a dispatcher: what was said for each address, and what the steps
-- are then.
use Rattle.std.specs.Prelude.{◌≡◌, ◌⊎◌, ℕ, true, List, [], ◌∷◌, ◌++◌, map, Option, Some, None, Result, Ok, OnOk, Contains}
use Rattle.std.specs.BTreeMap.{is_at}
use Rattle.std.specs.Global.{Vec}
use Rattle.bz_base.specs.Answer.{Answer, reading}
use Rattle.bz_base.specs.declared.error.Error.{Error}
use Rattle.bz_base.specs.declared.resolve.Symbolize.{Ghosts as Finds}
use Rattle.bz_base.specs.declared.resolve.TranslateFileOffset.{Ghosts as Translates}
use Rattle.bz_base.specs.declared.types.FindSymOpts.{FindSymOpts}
use Rattle.bz_base.specs.declared.types.Symbolized.{Symbolized}
use Rattle.bz_files.specs.World.{in_view}
use Rattle.bz_files.specs.declared.files.Files.{Ghosts}
use Rattle.bz_proc.specs.Maps.{Mapping, Name, name_of, owner_of}
use Rattle.bz_proc.specs.NameOrder.{name_order}
use Rattle.bz_proc.specs.declared.maps.PathName.{PathName}
use Rattle.bz_process.specs.Dispatch.{DispatchAnswers, IsSaid, Keeps, Test, kept_for}
use Rattle.bz_process.specs.Member.{Member, as_member}
use Rattle.bz_process.specs.Process.{Said, Step, at_address, at_addresses, by_mapping, unsaid}
use Rattle.bz_process.specs.ProcessCall.{TakesStep, UnlessFailed}
use Rattle.bz_process.specs.Caches.{ProcessCaches}
use Rattle.bz_process.specs.Terms.{KeptToAnswer, Terms}
use Rattle.bz_process.specs.Untold.{SaysNoFault, SomeAtAddress, SomeAtAddresses, SomeBatch, SomeByMapping, as_read}

-- something allowed was said, and the step is the one that is expected then; after a failure nothing
-- needs to have been said. Whatever is told, what was given and is left is what may be shown then
pub record AsksOne {A B X : Type 0} (files : Ghosts X) (own : ℕ) (reading : A → B) (IsAllowed Shows : Said → Type 0) (expected : Said → Step B) (result : Result A Error)
    (old now : ProcessCaches) (before after : X) : Type 0 where
  pub said : Said
  pub allowed : UnlessFailed result (IsAllowed said)
  pub faultless : SaysNoFault said
  pub untold : Shows said
  pub step : TakesStep files own reading (expected said) result old now before after

module _ {R : Type 0} (test : Test R) (translates : Translates R) (finds : Finds R) (opts : FindSymOpts) where
  -- what is said for an address of a mapping
  abbrev pub IsSaidIn : Mapping → Option Name → ℕ → DispatchAnswers R → DispatchAnswers R → Said → Type 0
  IsSaidIn mapping None addr old now said = said ≡ None
  IsSaidIn mapping (Some name) addr old now said = (own : PathName) × (name_of own ≡ name) × IsSaid test translates finds opts mapping own addr old now said

  -- by the mapping that answers for it
  abbrev pub IsSaidBy : Option Mapping → ℕ → DispatchAnswers R → DispatchAnswers R → Said → Type 0
  IsSaidBy None addr old now said = said ≡ None
  IsSaidBy (Some mapping) addr old now said = IsSaidIn mapping mapping.name addr old now said

  abbrev pub IsSaidAt : List Mapping → ℕ → DispatchAnswers R → DispatchAnswers R → Said → Type 0
  IsSaidAt mappings addr old now said = IsSaidBy (owner_of mappings addr) addr old now said

  -- something allowed is said for addresses one after another, for each by the answers that are kept
  -- when it is come to; kept answers stay
  abbrev pub SaidInTurn : List Mapping → List (ℕ × Said) → DispatchAnswers R → DispatchAnswers R → Type 0
  SaidInTurn mappings [] old now = Keeps old now
  SaidInTurn mappings (item ∷ items) old now = (left : DispatchAnswers R) × Keeps old left × IsSaidAt mappings item.0 old left item.1 × SaidInTurn mappings items left now

-- an answer for this was added by the test of a dispatcher: some address has it
pub record IsAdded {R : Type 0} (test : Test R) (mappings : List Mapping) (addrs : List ℕ) (other : PathName) (answer : Option R) : Type 0 where
  pub addr : ℕ
  pub there : Contains addrs addr
  pub mapping : Mapping
  pub owner : owner_of mappings addr ≡ Some mapping
  pub name : PathName
  pub named : mapping.name ≡ Some (name_of name)
  pub same : is_at (name_order other) name ≡ true
  pub allowed : test (as_member mapping (name_of name)) (Ok answer)

-- an answer was added for this mapping alone
abbrev pub AddsIn : {R : Type 0} → Test R → Mapping → DispatchAnswers R → DispatchAnswers R → Type 0
AddsIn {R} test mapping old now = (other : PathName) (answer : Option R) → kept_for now other ≡ Some answer →
    (kept_for old other ≡ Some answer) ⊎ ((name : PathName) × (mapping.name ≡ Some (name_of name)) × (is_at (name_order other) name ≡ true) × test (as_member mapping (name_of name)) (Ok answer))

-- answers were added for owners of these addresses alone
abbrev pub AddsAmong : {R : Type 0} → Test R → List Mapping → List ℕ → DispatchAnswers R → DispatchAnswers R → Type 0
AddsAmong {R} test mappings addrs old now = (other : PathName) (answer : Option R) → kept_for now other ≡ Some answer →
    (kept_for old other ≡ Some answer) ⊎ IsAdded test mappings addrs other answer

-- the next of the addresses that are left, if there is one
abbrev pub next_of : List ℕ → List ℕ
next_of [] = []
next_of (addr ∷ later) = addr ∷ []

-- the addresses that a batch came to: those that it answered, and the next one
abbrev pub come_to : List (ℕ × Said) → List ℕ → List ℕ
come_to front rest = map (λ item. item.0) front ++ next_of rest

-- answers as plain data
abbrev pub readings : Vec Symbolized → List Answer
readings answers = map reading answers.items

module _ {R X : Type 0} (files : Ghosts X) (terms : Terms R) where
  -- an address of a mapping was asked, where this name is given to what the mapping is of, or none is
  abbrev pub AsksNamed : Mapping → Option Name → ℕ → Result Symbolized Error → KeptToAnswer R → KeptToAnswer R → X → X → Type 0
  AsksNamed mapping name addr result old now before after =
      AsksOne files terms.asked.own reading
      (IsSaidIn terms.test terms.translates terms.finds terms.opts mapping name addr old.answers now.answers)
      (λ said. SomeByMapping terms.asked (as_read reading result) old.caches now.caches mapping addr said name)
      (λ said. by_mapping terms.asked mapping addr said name) result old.caches now.caches before after

  abbrev pub AsksMapping : Mapping → ℕ → Result Symbolized Error → KeptToAnswer R → KeptToAnswer R → X → X → Type 0
  AsksMapping mapping addr result old now before after = AsksNamed mapping mapping.name addr result old now before after

  -- an address was asked, by the mappings of its process
  abbrev pub AsksAddress : List Mapping → ℕ → Result Symbolized Error → KeptToAnswer R → KeptToAnswer R → X → X → Type 0
  AsksAddress mappings addr result old now before after =
      AsksOne files terms.asked.own reading
      (IsSaidAt terms.test terms.translates terms.finds terms.opts mappings addr old.answers now.answers)
      (λ said. SomeAtAddress terms.asked (as_read reading result) old.caches now.caches mappings (addr, said))
      (λ said. at_address terms.asked mappings (addr, said)) result old.caches now.caches before after

  -- addresses were asked one after another: something allowed was said for a front of them, and for all
  -- where the call is answered. The step is that of the front and of the next address, as where no
  -- resolver is in charge of that one
  pub record AsksAll (mappings : List Mapping) (addrs : List ℕ) (result : Result (Vec Symbolized) Error) (old now : KeptToAnswer R) (before after : X) : Type 0 where
    pub front : List (ℕ × Said)
    pub rest : List ℕ
    pub addrs_are : map (λ item. item.0) front ++ rest ≡ addrs
    pub all : OnOk result (rest ≡ [])
    pub allowed : SaidInTurn terms.test terms.translates terms.finds terms.opts mappings front old.answers now.answers
    -- whatever is told, each answer is by some version that a look gave, or refused as a look is; and a
    -- failure ends the batch
    pub untold : SomeBatch (in_view (files.worlds before)) readings terms.asked mappings front rest result old.caches now.caches
    pub adds : AddsAmong terms.test mappings (come_to front rest) old.answers now.answers
    pub step : TakesStep files terms.asked.own readings (at_addresses terms.asked mappings (front ++ map unsaid (next_of rest))) result old.caches now.caches before after

  -- these addresses were asked and answered, and something allowed was said for each
  pub record AsksFront (mappings : List Mapping) (addrs : List ℕ) (given : Vec Symbolized) (old now : KeptToAnswer R) (before after : X) : Type 0 where
    pub front : List (ℕ × Said)
    pub addrs_are : map (λ item. item.0) front ≡ addrs
    pub allowed : SaidInTurn terms.test terms.translates terms.finds terms.opts mappings front old.answers now.answers
    pub untold : SomeAtAddresses terms.asked mappings front (readings given) old.caches now.caches
    pub step : TakesStep files terms.asked.own readings (at_addresses terms.asked mappings front) (Ok given) old.caches now.caches before after
    pub keeps : Keeps old.answers now.answers
    pub adds : AddsAmong terms.test mappings addrs old.answers now.answers

-- every answer that is kept is one that the dispatcher's test allows
abbrev pub AreAllowed : {R : Type 0} → Test R → DispatchAnswers R → Type 0
AreAllowed {R} test answers = (name : PathName) (answer : Option R) → kept_for answers name ≡ Some answer → (member : Member) × test member (Ok answer)

-- a dispatcher that never gives a resolver, and never refuses
abbrev pub GivesNone : {R : Type 0} → Test R → Type 0
GivesNone {R} test = (member : Member) (answer : Result (Option R) Error) → test member answer → answer ≡ Ok None
