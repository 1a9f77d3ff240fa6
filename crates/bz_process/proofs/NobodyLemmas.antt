-- A dispatcher that never gives a resolver: nothing is said for any address, so the steps are those of
-- the definitions alone.
use Rattle.std.proofs.Common.{◌≡◌, ◌⊎◌, ◌≤◌, ℕ, arith, List, [], ◌∷◌, ◌++◌, map, Option, Some, None, Result, Ok, Err, IfOk, OnOk, append-nil, inl, inr, refl, sym, ap, ap₂, subst, ◌∙◌}
use Rattle.std.proofs.lemmas.Bool.{false≢true}
use Rattle.std.proofs.lemmas.List.{map-append}
use Rattle.bz_base.specs.Answer.{Answer, reading}
use Rattle.bz_base.specs.Refusals.{IsFailure}
use Rattle.bz_base.specs.declared.error.Error.{Error}
use Rattle.bz_base.specs.declared.error.Error.TheVariants as errors
use Rattle.bz_base.specs.declared.resolve.Symbolize.{Ghosts as Finds}
use Rattle.bz_base.specs.declared.resolve.TranslateFileOffset.{Ghosts as Translates}
use Rattle.bz_base.specs.declared.types.FindSymOpts.{FindSymOpts}
use Rattle.bz_base.specs.declared.types.Symbolized.{Symbolized}
use Rattle.bz_files.specs.World.{World}
use Rattle.bz_files.specs.declared.files.Files.{Ghosts}
use Rattle.bz_cache.specs.Format.{FailsAs}
use Rattle.bz_proc.specs.Maps.{Mapping, Name, name_of, owner_of}
use Rattle.bz_proc.specs.declared.maps.PathName.{PathName}
use Rattle.bz_process.specs.Dispatch.{DispatchAnswers, IsSaid, Keeps, SaysKept, Test, kept_for}
use Rattle.bz_process.specs.Mapped.{AreByMappings, AsksProcess, AsksProcessAt, IsByMappings, RefusedUnmapped, UsesMappings, asks_process, asks_process_at, some_mappings}
use Rattle.bz_process.specs.Member.{Member, as_member}
use Rattle.bz_process.specs.Process.{Said, at_address, at_addresses, batched, by_mapping, by_owner, by_said, followed, offset_in, unsaid}
use Rattle.bz_process.specs.ProcessAsk.{AddsAmong, AreAllowed, GivesNone, IsAdded, IsSaidAt, IsSaidBy, IsSaidIn, SaidInTurn, come_to, next_of}
use Rattle.bz_process.specs.ProcessCall.{HasOutcome, TakesStep, UnlessFailed}
use Rattle.bz_process.specs.Asked.{Asked}
use Rattle.bz_process.specs.Caches.{ProcessCaches}
use Rattle.bz_process.specs.Untold.{SomeAtAddress, SomeAtAddresses, as_read}
use Rattle.bz_process.proofs.AskLemmas.{comes_failed, left_failed}

-- kept answers stay allowed, as each that is added is
pub allowed_after : {R : Type 0} (test : Test R) (mappings : List Mapping) (addrs : List ℕ) (old now : DispatchAnswers R) → AreAllowed test old → AddsAmong test mappings addrs old now → AreAllowed test now
allowed_after {R} test mappings addrs old now allowed adds name answer kept = by_added (adds name answer kept)
  where
    by_added : (kept_for old name ≡ Some answer) ⊎ IsAdded test mappings addrs name answer → (member : Member) × test member (Ok answer)
    by_added (inl was) = allowed name answer was
    by_added (inr added) = (as_member added.mapping (name_of added.name), added.allowed)

-- for fewer addresses no more files are read
few_next : (asked : Asked) (mappings : List Mapping) (front : List (ℕ × Said)) (rest : List ℕ) (world : World) (kept : ProcessCaches) →
    (batched asked mappings (front ++ map unsaid (next_of rest)) world kept).opens ≤ (batched asked mappings (front ++ map unsaid rest) world kept).opens
few_next asked mappings [] [] world kept = omega arith
few_next asked mappings [] (addr ∷ rest) world kept = omega arith
few_next asked mappings (item ∷ front) rest world kept = omega (arith, few_next asked mappings front rest world (at_address asked mappings item world kept).left)

-- where an answer is expected, only a failure comes in its place
failed_of : {B : Type 0} (given : B) (e : Error) → FailsAs (Ok given) e → IsFailure e
failed_of given errors.ReadFault fails = tt
failed_of given errors.OutOfMemory fails = tt
failed_of given _ fails = cc fails

-- a batch that failed may be one of more addresses
more_failed : {A : Type 0} (reading : A → List Answer) (asked : Asked) (front : List (ℕ × Said)) (rest : List ℕ) (e : Error) (told : Result (List Mapping) Error) (left : ProcessCaches) (opens : ℕ) (now : ProcessCaches) (world : World) (before after : ℕ) →
    HasOutcome reading (followed told left opens (λ mappings l. at_addresses asked mappings (front ++ map unsaid (next_of rest)) world l)) (Err e) now before after →
    HasOutcome reading (followed told left opens (λ mappings l. at_addresses asked mappings (front ++ map unsaid rest) world l)) (Err e) now before after
more_failed {A} reading asked front rest e (Err refusal) left opens now world before after has = record { answer = has.answer; left = has.left; opened = has.opened }
more_failed {A} reading asked front rest e (Ok mappings) left opens now world before after has =
    let failure : IsFailure e = failed_of _ e has.answer in
    record { answer = comes_failed reading _ e failure; left = left_failed A e _ failure; opened = omega (arith, has.opened, few_next asked mappings front rest world left) }

-- a batch that came to some addresses is one of all
pub step_of_all : {A X : Type 0} (files : Ghosts X) (reading : A → List Answer) (asked : Asked) (known : Option (List Mapping)) (front : List (ℕ × Said)) (rest : List ℕ) (result : Result A Error) (old now : ProcessCaches) (before after : X) →
    OnOk result (rest ≡ []) → TakesStep files asked.own reading (asks_process asked known (front ++ map unsaid (next_of rest))) result old now before after →
    TakesStep files asked.own reading (asks_process asked known (front ++ map unsaid rest)) result old now before after
step_of_all files reading asked known front rest (Ok given) old now before after all step =
    subst (λ (xs : List ℕ). TakesStep files asked.own reading (asks_process asked known (front ++ map unsaid xs)) (Ok given) old now before after) (ap next_of all ∙ sym all) step
step_of_all files reading asked known front rest (Err e) old now before after all step = record {
  told = λ world seen.
      let mapped = some_mappings asked.pid known world old in
      more_failed reading asked front rest e mapped.answer mapped.left mapped.opens now world _ _ (step.told world seen);
  reached = step.reached;
  elf = step.elf;
  perf_maps = step.perf_maps;
  looked = step.looked;
}

-- where nothing is left, all were in front
all_in_front : (front rest addrs : List ℕ) → front ++ rest ≡ addrs → rest ≡ [] → front ≡ addrs
all_in_front front rest addrs are none = sym (append-nil front) ∙ ap (λ (later : List ℕ). front ++ later) (sym none) ∙ are

module _ {R : Type 0} (test : Test R) (translates : Translates R) (finds : Finds R) (opts : FindSymOpts) (none : GivesNone test) where
  none_kept : (offset : Option ℕ) (kept : Option (Option R)) (said : Said) → ((answer : Option R) → kept ≡ Some answer → (member : Member) × test member (Ok answer)) →
      SaysKept test translates finds opts offset kept said → said ≡ None
  none_kept offset None said allowed is = absurd is
  none_kept offset (Some None) said allowed is = is
  none_kept offset (Some (Some resolver)) said allowed is =
      let by = allowed (Some resolver) refl in cc (none by.0 (Ok (Some resolver)) by.1)

  none_said : (mapping : Mapping) (name : PathName) (addr : ℕ) (old now : DispatchAnswers R) (said : Said) → AreAllowed test now → IsSaid test translates finds opts mapping name addr old now said → said ≡ None
  none_said mapping name addr old now said allowed (inl refused) = cc (none _ (Err refused.refusal) refused.allowed)
  none_said mapping name addr old now said allowed (inr kept) = none_kept (offset_in mapping addr) (kept_for now name) said (λ answer is. allowed name answer is) kept

  none_in : (mapping : Mapping) (name : Option Name) (addr : ℕ) (old now : DispatchAnswers R) (said : Said) → AreAllowed test now → IsSaidIn test translates finds opts mapping name addr old now said → said ≡ None
  none_in mapping None addr old now said allowed is = is
  none_in mapping (Some name) addr old now said allowed is = none_said mapping is.0 addr old now said allowed is.2

  none_by : (owner : Option Mapping) (addr : ℕ) (old now : DispatchAnswers R) (said : Said) → AreAllowed test now → IsSaidBy test translates finds opts owner addr old now said → said ≡ None
  none_by None addr old now said allowed is = is
  none_by (Some mapping) addr old now said allowed is = none_in mapping mapping.name addr old now said allowed is

  -- what is kept when an address is come to stays
  stays_kept : (mappings : List Mapping) (old now : DispatchAnswers R) (front : List (ℕ × Said)) → SaidInTurn test translates finds opts mappings front old now → Keeps old now
  stays_kept mappings old now [] turn = turn
  stays_kept mappings old now (item ∷ front) turn = λ name answer kept. stays_kept mappings turn.0 now front turn.3 name answer (turn.1 name answer kept)

  unsaid_all : (mappings : List Mapping) (old now : DispatchAnswers R) (front : List (ℕ × Said)) → AreAllowed test now →
      SaidInTurn test translates finds opts mappings front old now → front ≡ map unsaid (map (λ item. item.0) front)
  unsaid_all mappings old now [] allowed turn = refl
  unsaid_all mappings old now (item ∷ front) allowed turn =
      let allowed_then : AreAllowed test turn.0 = λ name answer kept. allowed name answer (stays_kept mappings turn.0 now front turn.3 name answer kept) in
      ap₂ (λ (first : ℕ × Said) (rest : List (ℕ × Said)). first ∷ rest)
      (ap (λ (said : Said). (item.0, said)) (none_by (owner_of mappings item.0) item.0 old turn.0 item.1 allowed_then turn.2)) (unsaid_all mappings turn.0 now front allowed turn.3)

  -- so a process is asked as the definitions say, with nobody in charge
  pub nobody_said : {A X : Type 0} (files : Ghosts X) (reading : A → List Answer) (asked : Asked) (known : Option (List Mapping)) (addrs : List ℕ) (result : Result A Error) (old now : ProcessCaches) (answers answers_now : DispatchAnswers R) (before after : X) →
      AreAllowed test answers → AsksProcess files reading test translates finds opts asked known addrs result old now answers answers_now before after →
      TakesStep files asked.own reading (asks_process asked known (map unsaid addrs)) result old now before after
  nobody_said files reading asked known addrs result old now answers answers_now before after allowed asks =
      let still : AreAllowed test answers_now = allowed_after test asks.mappings (come_to asks.front asks.rest) answers answers_now allowed asks.adds in
      let items : asks.front ++ map unsaid asks.rest ≡ map unsaid addrs =
      ap (λ (xs : List (ℕ × Said)). xs ++ map unsaid asks.rest) (unsaid_all asks.mappings answers answers_now asks.front still asks.allowed)
      ∙ sym (map-append unsaid (map (λ (item : ℕ × Said). item.0) asks.front) asks.rest)
      ∙ ap (map unsaid) asks.addrs_are in
      subst (λ (xs : List (ℕ × Said)). TakesStep files asked.own reading (asks_process asked known xs) result old now before after) items
      (step_of_all files reading asked known asks.front asks.rest result old now before after asks.all asks.step)

  -- and whatever is told, its answers are by some mappings
  pub by_mappings : {A X : Type 0} (files : Ghosts X) (reading : A → List Answer) (asked : Asked) (known : Option (List Mapping)) (addrs : List ℕ) (result : Result A Error) (old now : ProcessCaches) (answers answers_now : DispatchAnswers R) (before after : X) →
      AreAllowed test answers → AsksProcess files reading test translates finds opts asked known addrs result old now answers answers_now before after →
      IfOk result (λ given. AreByMappings asked known addrs (reading given) old now)
  by_mappings files reading asked known addrs (Err e) old now answers answers_now before after allowed asks = tt
  by_mappings files reading asked known addrs (Ok given) old now answers answers_now before after allowed asks =
      let still : AreAllowed test answers_now = allowed_after test asks.mappings (come_to asks.front asks.rest) answers answers_now allowed asks.adds in
      let items : asks.front ≡ map unsaid addrs =
      unsaid_all asks.mappings answers answers_now asks.front still asks.allowed
      ∙ ap (map unsaid) (all_in_front (map (λ (item : ℕ × Said). item.0) asks.front) asks.rest addrs asks.addrs_are asks.all) in
      elim asks.used [
        | inl used ↦ record {
          mappings = asks.mappings;
          used = used.0;
          untold = subst (λ (xs : List (ℕ × Said)). SomeAtAddresses asked asks.mappings xs (reading given) old now) items used.1;
        }
        | inr refused ↦ absurd (false≢true refused.refused)
      ]

-- where nothing is said, no fewer files are read
module _ (asked : Asked) (addr : ℕ) (said : Said) (world : World) (kept : ProcessCaches) where
  opens_said : (mapping : Mapping) (name : Name) (other : Said) → (by_said asked mapping addr name other world kept).opens ≤ (by_said asked mapping addr name None world kept).opens
  opens_said mapping name None = omega arith
  opens_said mapping name (Some given) = omega arith

  opens_in : (mapping : Mapping) (name : Option Name) → (by_mapping asked mapping addr said name world kept).opens ≤ (by_mapping asked mapping addr None name world kept).opens
  opens_in mapping None = omega arith
  opens_in mapping (Some name) = opens_said mapping name said

  opens_by : (owner : Option Mapping) → (by_owner asked addr said owner world kept).opens ≤ (by_owner asked addr None owner world kept).opens
  opens_by None = omega arith
  opens_by (Some mapping) = opens_in mapping mapping.name

opens_after : (asked : Asked) (addr : ℕ) (said : Said) (world : World) (answer : Result (List Mapping) Error) (left : ProcessCaches) (opens : ℕ) →
    (followed answer left opens (λ maps l. at_address asked maps (addr, said) world l)).opens ≤ (followed answer left opens (λ maps l. at_address asked maps (addr, None) world l)).opens
opens_after asked addr said world (Ok maps) left opens = let le = opens_by asked addr said world left (owner_of maps addr) in omega (arith, le)
opens_after asked addr said world (Err e) left opens = omega arith

module _ {R : Type 0} (test : Test R) (translates : Translates R) (finds : Finds R) (opts : FindSymOpts) (none : GivesNone test) where
  module _ {X : Type 0} (files : Ghosts X) (asked : Asked) (known : Option (List Mapping)) (addr : ℕ) (old now : ProcessCaches) (before after : X) where
    abbrev Steps : Result Symbolized Error → Said → Type 0
    Steps result said = TakesStep files asked.own reading (asks_process_at asked known (addr, said)) result old now before after

    -- after a failure it doesn't matter what was said
    failed_so : (e : Error) (said : Said) → IsFailure e → Steps (Err e) said → Steps (Err e) None
    failed_so errors.ReadFault said failed step = record {
      told = λ world seen. let read = (step.told world seen).opened in
          let le = opens_after asked addr said world (some_mappings asked.pid known world old).answer (some_mappings asked.pid known world old).left (some_mappings asked.pid known world old).opens in
          record { answer = tt; left = tt; opened = omega (arith, read, le) };
      reached = step.reached;
      elf = step.elf;
      perf_maps = step.perf_maps;
      looked = step.looked;
    }
    failed_so errors.OutOfMemory said failed step = record {
      told = λ world seen. let read = (step.told world seen).opened in
          let le = opens_after asked addr said world (some_mappings asked.pid known world old).answer (some_mappings asked.pid known world old).left (some_mappings asked.pid known world old).opens in
          record { answer = tt; left = tt; opened = omega (arith, read, le) };
      reached = step.reached;
      elf = step.elf;
      perf_maps = step.perf_maps;
      looked = step.looked;
    }
    failed_so _ said failed step = absurd failed

    -- so an address of a process is asked as the definitions say, with nobody in charge
    pub nobody_said_at : (result : Result Symbolized Error) (answers answers_now : DispatchAnswers R) → AreAllowed test answers →
        AsksProcessAt files reading test translates finds opts asked known addr result old now answers answers_now before after → Steps result None
    nobody_said_at result answers answers_now allowed asks = by_result result asks.allowed asks.step
      where
        still : AreAllowed test answers_now
        still = allowed_after test asks.mappings (addr ∷ []) answers answers_now allowed asks.adds

        nothing : (result : Result Symbolized Error) → IsSaidAt test translates finds opts asks.mappings addr answers answers_now asks.said → Steps result asks.said → Steps result None
        nothing result said step = subst (Steps result) (none_by test translates finds opts none (owner_of asks.mappings addr) addr answers answers_now asks.said still said) step

        by_result : (result : Result Symbolized Error) → UnlessFailed result (IsSaidAt test translates finds opts asks.mappings addr answers answers_now asks.said) → Steps result asks.said → Steps result None
        by_result (Ok x) said step = nothing (Ok x) said step
        by_result (Err errors.ReadFault) said step = failed_so errors.ReadFault asks.said tt step
        by_result (Err errors.OutOfMemory) said step = failed_so errors.OutOfMemory asks.said tt step
        by_result (Err _) said step = nothing (Err _) said step

    -- and whatever is told, its answer or refusal is by some mappings, or it lacks them
    pub by_mappings_at : (result : Result Symbolized Error) (answers answers_now : DispatchAnswers R) → AreAllowed test answers →
        AsksProcessAt files reading test translates finds opts asked known addr result old now answers answers_now before after →
        UnlessFailed result (IsByMappings asked known addr (as_read reading result) old now ⊎ RefusedUnmapped known result old now answers answers_now)
    by_mappings_at result answers answers_now allowed asks = by_result result asks.allowed asks.used
      where
        still : AreAllowed test answers_now
        still = allowed_after test asks.mappings (addr ∷ []) answers answers_now allowed asks.adds

        by_used : (result : Result Symbolized Error) → IsSaidAt test translates finds opts asks.mappings addr answers answers_now asks.said →
            UsesMappings (SomeAtAddress asked (as_read reading result) old now asks.mappings (addr, asks.said)) asked.pid known asks.mappings result old now answers answers_now →
            IsByMappings asked known addr (as_read reading result) old now ⊎ RefusedUnmapped known result old now answers answers_now
        by_used result said (inl used) =
            let nothing : asks.said ≡ None = none_by test translates finds opts none (owner_of asks.mappings addr) addr answers answers_now asks.said still said in
            inl (record {
              mappings = asks.mappings;
              used = used.0;
              untold = subst (λ (said : Said). SomeAtAddress asked (as_read reading result) old now asks.mappings (addr, said)) nothing used.1;
            })
        by_used result said (inr lacks) = inr lacks

        by_result : (result : Result Symbolized Error) → UnlessFailed result (IsSaidAt test translates finds opts asks.mappings addr answers answers_now asks.said) →
            UsesMappings (SomeAtAddress asked (as_read reading result) old now asks.mappings (addr, asks.said)) asked.pid known asks.mappings result old now answers answers_now →
            UnlessFailed result (IsByMappings asked known addr (as_read reading result) old now ⊎ RefusedUnmapped known result old now answers answers_now)
        by_result (Ok x) said used = by_used (Ok x) said used
        by_result (Err errors.ReadFault) said used = tt
        by_result (Err errors.OutOfMemory) said used = tt
        by_result (Err _) said used = by_used (Err _) said used
