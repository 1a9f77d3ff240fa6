-- Addresses of a process that are asked one after another, and what is said for them.
use Rattle.std.proofs.Common.{◌≡◌, ◌⊎◌, ℕ, ◌+◌, ◌≤◌, ◌<◌, true, List, [], ◌∷◌, ◌++◌, map, append-nil, append_assoc, length, take, drop, get_or, suc, Option, Some, None, Result, Ok, Err, IfErr, IsErrOf, Vec, Global, inl, inr, refl, sym, ap, ap₂, subst, ◌∙◌, arith}
use Rattle.std.specs.BTreeMap.{is_at}
use Rattle.std.specs.List.{Contains}
use Rattle.std.proofs.lemmas.List.{map-append, take-append-drop}
use Rattle.std.proofs.lemmas.List.Elements.{Contains-append_left, Contains-append_right}
use Rattle.std.proofs.Math.Seq.{drop-cons}
use Rattle.bz_base.specs.Answer.{Answer, Gives, Unknown, in_batch, reading}
use Rattle.bz_base.specs.Refusals.{IsFailure}
use Rattle.bz_base.specs.declared.error.Error.{Error}
use Rattle.bz_base.specs.declared.error.Error.TheVariants as errors
use Rattle.bz_base.specs.declared.resolve.Symbolize.{Ghosts as Finds}
use Rattle.bz_base.specs.declared.resolve.TranslateFileOffset.{Ghosts as Translates}
use Rattle.bz_base.specs.declared.types.FindSymOpts.{FindSymOpts}
use Rattle.bz_base.specs.declared.types.Reason.TheVariants as reasons
use Rattle.bz_base.specs.declared.types.Symbolized.{Symbolized}
use Rattle.bz_base.specs.declared.types.Symbolized.TheVariants as symbolized
use Rattle.bz_files.specs.Looked.{Faulted, Looked}
use Rattle.bz_files.specs.World.{World, Told, in_view}
use Rattle.bz_files.specs.declared.files.Files.{Ghosts}
use Rattle.bz_cache.specs.Format.{GivesOrFaults}
use Rattle.bz_elf.specs.Format as elf
use Rattle.bz_proc.specs.Maps.{Mapping, Name, name_of, owner_of}
use Rattle.bz_proc.specs.NameOrder.{name_order}
use Rattle.bz_proc.specs.PerfMap as perf
use Rattle.bz_proc.specs.declared.maps.PathName.{PathName}
use Rattle.bz_process.specs.Dispatch.{Adds, DispatchAnswers, IsSaid, Keeps, Test, kept_for}
use Rattle.bz_process.specs.Member.{as_member}
use Rattle.bz_process.specs.Process.{Batched, StepOutcome, Said, at_address, at_addresses, batched, by_asked, by_mapping, by_owner, by_said, unsaid}
use Rattle.bz_process.specs.ProcessAsk.{AddsAmong, AddsIn, AsksAddress, AsksAll, AsksFront, AsksNamed, IsAdded, IsSaidAt, IsSaidBy, IsSaidIn, SaidInTurn, next_of, readings}
use Rattle.bz_process.specs.ProcessCall.{Reaches, TakesStep, UnlessFailed}
use Rattle.bz_process.specs.Asked.{Asked}
use Rattle.bz_process.specs.Caches.{ProcessCaches}
use Rattle.bz_process.specs.Terms.{KeptToAnswer, Terms}
use Rattle.bz_process.specs.Untold.{SaysNoFault, SomeAtAddress, SomeAtAddresses, SomeByAsked, SomeByOwner, SomeBySaid, Unfailing, as_read}
use Rattle.bz_process.proofs.UntoldLemmas.{gives_self, some_last}
use Rattle.bz_process.proofs.ProcessLemmas.{looked_both, reaches_both, reaches_same, stays, stays_both, still, unlooked, wants_memory}

-- what holds holds unless a file failed
pub unless : {A : Type 0} (result : Result A Error) (P : Type 0) → P → UnlessFailed result P
unless (Ok x) P p = p
unless (Err errors.ReadFault) P p = tt
unless (Err errors.OutOfMemory) P p = tt
unless (Err _) P p = p

-- the same refusal of another call
pub unless_same : (A C : Type 0) (e : Error) (P : Type 0) → UnlessFailed {A = A} (Err e) P → UnlessFailed {A = C} (Err e) P
unless_same A C errors.ReadFault P p = tt
unless_same A C errors.OutOfMemory P p = tt
unless_same A C _ P p = p

pub unless_map : {A : Type 0} (result : Result A Error) (P Q : Type 0) → (P → Q) → UnlessFailed result P → UnlessFailed result Q
unless_map (Ok x) P Q f p = f p
unless_map (Err errors.ReadFault) P Q f p = tt
unless_map (Err errors.OutOfMemory) P Q f p = tt
unless_map (Err _) P Q f p = f p

-- an answer that a batch has as an entry is no failure
unfailing : (result : Result Symbolized Error) (entry : Symbolized) (P : Type 0) → IfErr result (λ e. IsFailure e → IsErrOf {T = Symbolized} (Ok entry) e) → UnlessFailed result P → P
unfailing (Ok x) entry P none p = p
unfailing (Err errors.ReadFault) entry P none p = cc (none tt)
unfailing (Err errors.OutOfMemory) entry P none p = cc (none tt)
unfailing (Err _) entry P none p = p

no_failure : (result : Result Symbolized Error) (entry : Symbolized) → IfErr result (λ e. IsFailure e → IsErrOf {T = Symbolized} (Ok entry) e) → Unfailing (as_read reading result)
no_failure (Ok x) entry none = tt
no_failure (Err e) entry none = λ failure. cc (none failure)

-- what is no failed read isn't said as one
pub says_no_fault : (e : Error) → (Faulted {A = Symbolized} (Err e) → ⊥) → SaysNoFault (Some (Err e))
says_no_fault errors.ReadFault none = none refl
says_no_fault _ none = tt

-- what comes of it is what it gives
gives_comes : (result : Result Symbolized Error) (entry : Symbolized) (expected : Result Answer Error) → IfErr result (λ e. IsFailure e → IsErrOf {T = Symbolized} (Ok entry) e) → GivesOrFaults reading expected result → Gives reading expected result
gives_comes (Ok x) entry expected none is = is
gives_comes (Err errors.ReadFault) entry expected none is = cc (none tt)
gives_comes (Err errors.OutOfMemory) entry expected none is = tt
gives_comes (Err _) entry expected none is = is

unfaulted : (result : Result Symbolized Error) (entry : Symbolized) → IfErr result (λ e. IsFailure e → IsErrOf {T = Symbolized} (Ok entry) e) → Faulted result → ⊥
unfaulted (Ok x) entry none fault = fault
unfaulted (Err errors.ReadFault) entry none fault = cc (none tt)
unfaulted (Err _) entry none fault = cc fault

-- only a failure comes whatever is expected
pub comes_failed : {A B : Type 0} (read : A → B) (expected : Result B Error) (e : Error) → IsFailure e → GivesOrFaults read expected (Err e)
comes_failed read expected errors.ReadFault is = tt
comes_failed read expected errors.OutOfMemory is = tt
comes_failed read expected _ is = absurd is

pub left_failed : (A : Type 0) (e : Error) (P : Type 0) → IsFailure e → UnlessFailed {A = A} (Err e) P
left_failed A errors.ReadFault P is = tt
left_failed A errors.OutOfMemory P is = tt
left_failed A _ P is = absurd is

-- a refusal is what was said
pub refused_so : {A B : Type 0} (read : A → B) (e : Error) → GivesOrFaults read (Err e) (Err e)
refused_so read errors.ReadFault = tt
refused_so read errors.OutOfMemory = tt
refused_so read _ = refl

-- files that were looked at for an entry
pub looked_ok : {X : Type 0} (files : Ghosts X) (result : Result Symbolized Error) (entry : Symbolized) (middle after : X) → IfErr result (λ e. IsFailure e → IsErrOf {T = Symbolized} (Ok entry) e) →
    Looked files middle after (Faulted result) → Looked files middle after ⊥
looked_ok files result entry middle after unfailed looked = record {
  worlds = looked.worlds;
  pid = looked.pid;
  faults = record { grows = looked.faults.grows; fault = λ none. absurd none; steady = still_in looked.faults.steady };
}
  where
    still_in : {P : Type 0} → Faulted result ⊎ P → ⊥ ⊎ P
    still_in (inl fault) = inl (unfaulted result entry unfailed fault)
    still_in (inr same) = inr same

module _ {X : Type 0} (files : Ghosts X) (asked : Asked) where
  -- something was said, and nothing was looked at
  pub says : (mapping : Mapping) (addr : ℕ) (name : Name) (given : Result Answer Error) (result : Result Symbolized Error) (kept : ProcessCaches) (at : X) →
      GivesOrFaults reading given result → (Faulted result → ⊥) → TakesStep files asked.own reading (by_said asked mapping addr name (Some given)) result kept kept at at
  says mapping addr name given result kept at is none = record {
    told = λ world seen. record { answer = is; left = unless result _ refl; opened = omega arith };
    reached = reaches_same asked.own _ kept;
    elf = stays elf.format_test kept.elf;
    perf_maps = stays perf.format_test kept.perf_maps;
    looked = unlooked files asked.own at none;
  }

  pub says_refusal : (mapping : Mapping) (addr : ℕ) (name : Name) (e : Error) (kept : ProcessCaches) (at : X) →
      (Faulted {A = Symbolized} (Err e) → ⊥) → TakesStep files asked.own reading (by_said asked mapping addr name (Some (Err e))) (Err e) kept kept at at
  says_refusal mapping addr name e kept at none = says mapping addr name (Err e) (Err e) kept at (refused_so reading e) none

  -- where nothing is in charge at least as many files may be read
  opens_mapping : (mapping : Mapping) (addr : ℕ) (said : Said) (name : Option Name) (world : World) (kept : ProcessCaches) →
      (by_mapping asked mapping addr said name world kept).opens ≤ (by_mapping asked mapping addr None name world kept).opens
  opens_mapping mapping addr said None world kept = omega arith
  opens_mapping mapping addr None (Some name) world kept = omega arith
  opens_mapping mapping addr (Some given) (Some name) world kept = omega arith

  opens_owner : (addr : ℕ) (said : Said) (owner : Option Mapping) (world : World) (kept : ProcessCaches) →
      (by_owner asked addr said owner world kept).opens ≤ (by_owner asked addr None owner world kept).opens
  opens_owner addr said None world kept = omega arith
  opens_owner addr said (Some mapping) world kept = opens_mapping mapping addr said mapping.name world kept

  module _ (mappings : List Mapping) where
    opens_unsaid : (addr : ℕ) (said : Said) (world : World) (kept : ProcessCaches) →
        (at_address asked mappings (addr, said) world kept).opens ≤ (at_address asked mappings (unsaid addr) world kept).opens
    opens_unsaid addr said world kept = opens_owner addr said (owner_of mappings addr) world kept

    abbrev B : List (ℕ × Said) → World → ProcessCaches → Batched
    B = batched asked mappings

    abbrev O : ℕ × Said → World → ProcessCaches → StepOutcome Answer
    O = at_address asked mappings

    opens_split : (front : List (ℕ × Said)) (item : ℕ × Said) (more : List (ℕ × Said)) (world : World) (kept : ProcessCaches) →
        (B front world kept).opens + (O item world (B front world kept).left).opens ≤ (B (front ++ item ∷ more) world kept).opens
    opens_split [] item more world kept = omega arith
    opens_split (first ∷ front) item more world kept = omega (arith, opens_split front item more world (O first world kept).left)

    left_last : (front : List (ℕ × Said)) (item : ℕ × Said) (world : World) (kept : ProcessCaches) →
        (B (front ++ item ∷ []) world kept).left ≡ (O item world (B front world kept).left).left
    left_last [] item world kept = refl
    left_last (first ∷ front) item world kept = left_last front item world (O first world kept).left

    answers_last : (front : List (ℕ × Said)) (item : ℕ × Said) (world : World) (kept : ProcessCaches) →
        (B (front ++ item ∷ []) world kept).answers ≡ (B front world kept).answers ++ in_batch (O item world (B front world kept).left).answer ∷ []
    answers_last [] item world kept = refl
    answers_last (first ∷ front) item world kept = ap (λ (answers : List Answer). in_batch (O first world kept).answer ∷ answers) (answers_last front item world (O first world kept).left)

    -- no address was asked
    pub step_none : (answers : Vec Symbolized Global) (kept : ProcessCaches) (at : X) → answers.items ≡ [] → TakesStep files asked.own readings (at_addresses asked mappings []) (Ok answers) kept kept at at
    step_none answers kept at is = record {
      told = λ world seen. record { answer = ap (λ (items : List Symbolized). Ok (map reading items)) (sym is); left = refl; opened = omega arith };
      reached = reaches_same asked.own _ kept;
      elf = stays elf.format_test kept.elf;
      perf_maps = stays perf.format_test kept.perf_maps;
      looked = unlooked files asked.own at (λ none. none);
    }

    -- one more address was asked, and its answer is an entry
    pub step_more : (front : List (ℕ × Said)) (item : ℕ × Said) (answers more : Vec Symbolized Global) (result : Result Symbolized Error) (entry : Symbolized) (old mid now : ProcessCaches) (before middle after : X) →
        TakesStep files asked.own readings (at_addresses asked mappings front) (Ok answers) old mid before middle →
        TakesStep files asked.own reading (at_address asked mappings item) result mid now middle after →
        ((expected : Result Answer Error) → Gives reading expected result → reading entry ≡ in_batch expected) →
        IfErr result (λ e. IsFailure e → IsErrOf {T = Symbolized} (Ok entry) e) → more.items ≡ answers.items ++ entry ∷ [] →
        TakesStep files asked.own readings (at_addresses asked mappings (front ++ item ∷ [])) (Ok more) old now before after
    step_more front item answers more result entry old mid now before middle after one two is unfailed pushed =
        let same : in_view (files.worlds middle) ≡ in_view (files.worlds before) = ap in_view one.looked.worlds in
        record {
          told = λ world seen.
              let first = one.told world seen in
              let second = two.told world (same ∙ seen) in
              let kept_is : mid ≡ (B front world old).left = first.left in
              let left_is : now ≡ (O item world mid).left = unfailing result entry _ unfailed second.left in
              let answers_are : (B front world old).answers ≡ readings answers = cc first.answer in
              let entry_is : reading entry ≡ in_batch (O item world mid).answer = is _ (gives_comes result entry _ unfailed second.answer) in
              let opened : files.opens after ≤ files.opens middle + (O item world (B front world old).left).opens = subst (λ (k : ProcessCaches). files.opens after ≤ files.opens middle + (O item world k).opens) kept_is second.opened in
              record {
                answer = ap Ok (answers_last front item world old
                    ∙ ap₂ (λ (all : List Answer) (k : ProcessCaches). all ++ in_batch (O item world k).answer ∷ []) answers_are (sym kept_is)
                    ∙ ap (λ (a : Answer). readings answers ++ a ∷ []) (sym entry_is)
                    ∙ sym (map-append reading answers.items (entry ∷ []))
                    ∙ ap (map reading) (sym pushed));
                left = left_is ∙ ap (λ (k : ProcessCaches). (O item world k).left) kept_is ∙ sym (left_last front item world old);
                opened = omega (arith, first.opened, opened, opens_split front item [] world old);
              };
          reached = reaches_both asked.own _ old mid now one.reached (subst (λ (v : Option World). Reaches asked.own v mid now) same two.reached);
          elf = stays_both elf.format_test old.elf mid.elf now.elf one.elf two.elf;
          perf_maps = stays_both perf.format_test old.perf_maps mid.perf_maps now.perf_maps one.perf_maps two.perf_maps;
          looked = looked_both files asked.own before middle after one.looked (looked_ok files result entry middle after unfailed two.looked);
        }

    -- and what is left then is expected
    pub left_more : (front : List (ℕ × Said)) (item : ℕ × Said) (answers : Vec Symbolized Global) (result : Result Symbolized Error) (entry : Symbolized) (old mid now : ProcessCaches) (before middle after : X) →
        TakesStep files asked.own readings (at_addresses asked mappings front) (Ok answers) old mid before middle →
        TakesStep files asked.own reading (at_address asked mappings item) result mid now middle after →
        IfErr result (λ e. IsFailure e → IsErrOf {T = Symbolized} (Ok entry) e) → Told (in_view (files.worlds before)) (λ world. now ≡ (B (front ++ item ∷ []) world old).left)
    left_more front item answers result entry old mid now before middle after one two unfailed = λ world seen.
        let same : in_view (files.worlds middle) ≡ in_view (files.worlds before) = ap in_view one.looked.worlds in
        let kept_is : mid ≡ (B front world old).left = (one.told world seen).left in
        let left_is : now ≡ (O item world mid).left = unfailing result entry _ unfailed (two.told world (same ∙ seen)).left in
        left_is ∙ ap (λ (k : ProcessCaches). (O item world k).left) kept_is ∙ sym (left_last front item world old)

    -- the batch failed at an address, or after it
    pub step_fails : (front : List (ℕ × Said)) (item : ℕ × Said) (all : List (ℕ × Said)) (answers : Vec Symbolized Global) (result : Result Symbolized Error) (e : Error) (old mid now : ProcessCaches) (before middle after : X) →
        ((world : World) → (B front world old).opens + (O item world (B front world old).left).opens ≤ (B all world old).opens) →
        TakesStep files asked.own readings (at_addresses asked mappings front) (Ok answers) old mid before middle →
        TakesStep files asked.own reading (at_address asked mappings item) result mid now middle after →
        IsFailure e → Looked files before after (Faulted {A = Vec Symbolized Global} (Err e)) →
        TakesStep files asked.own readings (at_addresses asked mappings all) (Err e) old now before after
    step_fails front item all answers result e old mid now before middle after few one two failure looked =
        let same : in_view (files.worlds middle) ≡ in_view (files.worlds before) = ap in_view one.looked.worlds in
        record {
          told = λ world seen.
              let first = one.told world seen in
              let second = two.told world (same ∙ seen) in
              let kept_is : mid ≡ (B front world old).left = first.left in
              let opened : files.opens after ≤ files.opens middle + (O item world (B front world old).left).opens =
              subst (λ (k : ProcessCaches). files.opens after ≤ files.opens middle + (O item world k).opens) kept_is second.opened in
              record {
                answer = comes_failed readings _ e failure;
                left = left_failed (Vec Symbolized Global) e _ failure;
                opened = omega (arith, first.opened, opened, few world);
              };
          reached = reaches_both asked.own _ old mid now one.reached (subst (λ (v : Option World). Reaches asked.own v mid now) same two.reached);
          elf = stays_both elf.format_test old.elf mid.elf now.elf one.elf two.elf;
          perf_maps = stays_both perf.format_test old.perf_maps mid.perf_maps now.perf_maps one.perf_maps two.perf_maps;
          looked = looked;
        }

    -- the first addresses and the next one are read for
    pub few_at : (front : List (ℕ × Said)) (addr : ℕ) (said : Said) (old : ProcessCaches) (world : World) →
        (B front world old).opens + (O (addr, said) world (B front world old).left).opens ≤ (B (front ++ map unsaid (addr ∷ [])) world old).opens
    few_at front addr said old world = omega (arith, opens_unsaid addr said world (B front world old).left, opens_split front (unsaid addr) [] world old)

    pub few_after : (front : List (ℕ × Said)) (item : ℕ × Said) (rest : List ℕ) (old : ProcessCaches) (world : World) →
        (B front world old).opens + (O item world (B front world old).left).opens ≤ (B ((front ++ item ∷ []) ++ map unsaid rest) world old).opens
    few_after front item rest old world = rw (append_assoc front (item ∷ []) (map unsaid rest)) (opens_split front item (map unsaid rest) world old)

module _ {R : Type 0} (test : Test R) (translates : Translates R) (finds : Finds R) (opts : FindSymOpts) where
  -- what is said is said too where fewer answers were kept before
  not_kept : (old mid : DispatchAnswers R) (name : PathName) → Keeps old mid → kept_for mid name ≡ None → kept_for old name ≡ None
  not_kept old mid name keeps none = by_found (kept_for old name) refl
    where
      by_found : (found : Option (Option R)) → kept_for old name ≡ found → kept_for old name ≡ None
      by_found None is = is
      by_found (Some answer) is = let there : None ≡ Some answer = sym none ∙ keeps name answer is in cc there

  said_since : (mapping : Mapping) (name : PathName) (addr : ℕ) (old mid now : DispatchAnswers R) (said : Said) → Keeps old mid →
      IsSaid test translates finds opts mapping name addr mid now said → IsSaid test translates finds opts mapping name addr old now said
  said_since mapping name addr old mid now said before (inl refused) =
      inl (record { refusal = refused.refusal; asked = not_kept old mid name before refused.asked; allowed = refused.allowed; refuses = refused.refuses; unfailing = refused.unfailing; is = refused.is })
  said_since mapping name addr old mid now said before (inr kept) = inr kept

  said_in_since : (mapping : Mapping) (name : Option Name) (addr : ℕ) (old mid now : DispatchAnswers R) (said : Said) → Keeps old mid →
      IsSaidIn test translates finds opts mapping name addr mid now said → IsSaidIn test translates finds opts mapping name addr old now said
  said_in_since mapping None addr old mid now said before is = is
  said_in_since mapping (Some name) addr old mid now said before is = (is.0, is.1, said_since mapping is.0 addr old mid now said before is.2)

  said_by_since : (owner : Option Mapping) (addr : ℕ) (old mid now : DispatchAnswers R) (said : Said) → Keeps old mid →
      IsSaidBy test translates finds opts owner addr mid now said → IsSaidBy test translates finds opts owner addr old now said
  said_by_since None addr old mid now said before is = is
  said_by_since (Some mapping) addr old mid now said before is = said_in_since mapping mapping.name addr old mid now said before is

  module _ (mappings : List Mapping) where
    keeps_both : (old mid now : DispatchAnswers R) → Keeps old mid → Keeps mid now → Keeps old now
    keeps_both old mid now one two name answer kept = two name answer (one name answer kept)

    -- what was said in turn was, as later answers are kept
    turn_longer : (front : List (ℕ × Said)) (old mid now : DispatchAnswers R) → SaidInTurn test translates finds opts mappings front old mid → Keeps mid now → SaidInTurn test translates finds opts mappings front old now
    turn_longer [] old mid now turn keeps = keeps_both old mid now turn keeps
    turn_longer (item ∷ front) old mid now turn keeps = (turn.0, turn.1, turn.2, turn_longer front turn.0 mid now turn.3 keeps)

    -- and something is said for one more address
    turn_last : (front : List (ℕ × Said)) (item : ℕ × Said) (old mid now : DispatchAnswers R) → SaidInTurn test translates finds opts mappings front old mid → Keeps mid now →
        IsSaidAt test translates finds opts mappings item.0 mid now item.1 → SaidInTurn test translates finds opts mappings (front ++ item ∷ []) old now
    turn_last [] item old mid now turn keeps said =
        (now, keeps_both old mid now turn keeps, said_by_since (owner_of mappings item.0) item.0 old mid now item.1 turn said, λ name answer kept. kept)
    turn_last (first ∷ front) item old mid now turn keeps said = (turn.0, turn.1, turn.2, turn_last front item turn.0 mid now turn.3 keeps said)

    added_among : (addrs more : List ℕ) (other : PathName) (answer : Option R) → ((addr : ℕ) → Contains addrs addr → Contains more addr) → IsAdded test mappings addrs other answer → IsAdded test mappings more other answer
    added_among addrs more other answer within is =
        record { addr = is.addr; there = within is.addr is.there; mapping = is.mapping; owner = is.owner; name = is.name; named = is.named; same = is.same; allowed = is.allowed }

    adds_both : (addrs one more : List ℕ) (old mid now : DispatchAnswers R) → ((addr : ℕ) → Contains addrs addr → Contains more addr) → ((addr : ℕ) → Contains one addr → Contains more addr) →
        AddsAmong test mappings addrs old mid → AddsAmong test mappings one mid now → AddsAmong test mappings more old now
    adds_both addrs one more old mid now within within_one first second other answer kept = by_second (second other answer kept)
      where
        by_first : (kept_for old other ≡ Some answer) ⊎ IsAdded test mappings addrs other answer → (kept_for old other ≡ Some answer) ⊎ IsAdded test mappings more other answer
        by_first (inl was) = inl was
        by_first (inr added) = inr (added_among addrs more other answer within added)

        by_second : (kept_for mid other ≡ Some answer) ⊎ IsAdded test mappings one other answer → (kept_for old other ≡ Some answer) ⊎ IsAdded test mappings more other answer
        by_second (inl was) = by_first (first other answer was)
        by_second (inr added) = inr (added_among one more other answer within_one added)

-- the first addresses, the next one, and those after it
pub split_at_next : (addrs : List ℕ) (i : ℕ) → i < length addrs → take i addrs ++ (get_or addrs i 0 ∷ drop (suc i) addrs) ≡ addrs
split_at_next addrs i lt = ap (λ (rest : List ℕ). take i addrs ++ rest) (sym (drop-cons addrs i 0 lt)) ∙ take-append-drop i addrs

module _ {R X : Type 0} (files : Ghosts X) (terms : Terms R) where
  -- something was said for an address of a mapping of this
  pub in_named : (mapping : Mapping) (name : PathName) (named : Option Name) (addr : ℕ) (said : Said) (result : Result Symbolized Error) (old now : KeptToAnswer R) (before after : X) →
      named ≡ Some (name_of name) → UnlessFailed result (IsSaid terms.test terms.translates terms.finds terms.opts mapping name addr old.answers now.answers said) → SaysNoFault said →
      SomeBySaid terms.asked (as_read reading result) old.caches now.caches mapping addr (name_of name) said →
      TakesStep files terms.asked.own reading (by_said terms.asked mapping addr (name_of name) said) result old.caches now.caches before after →
      AsksNamed files terms mapping named addr result old now before after
  in_named mapping name named addr said result old now before after is allowed faultless untold step =
      rw is (record { said = said; allowed = unless_map result _ _ (λ allowed. (name, refl, allowed)) allowed; faultless = faultless; untold = untold; step = step })

  -- an address of a mapping that is of nothing
  pub in_unnamed : (mapping : Mapping) (named : Option Name) (addr : ℕ) (result : Result Symbolized Error) (old now : ProcessCaches) (answers : DispatchAnswers R) (before after : X) → named ≡ None →
      TakesStep files terms.asked.own reading (by_asked terms.asked.perf_map terms.asked addr) result old now before after →
      SomeByAsked terms.asked (as_read reading result) old now terms.asked.perf_map addr →
      AsksNamed files terms mapping named addr result (record { caches = old; answers = answers }) (record { caches = now; answers = answers }) before after
  in_unnamed mapping named addr result old now answers before after is step untold = rw is (record { said = None; allowed = unless result _ refl; faultless = tt; untold = untold; step = step })

  pub adds_named : (mapping : Mapping) (name : PathName) (answers answers_now : DispatchAnswers R) → mapping.name ≡ Some (name_of name) → Adds terms.test mapping name answers answers_now → AddsIn terms.test mapping answers answers_now
  adds_named mapping name answers answers_now named adds other answer kept = by_added (adds other answer kept)
    where
      by_added : (kept_for answers other ≡ Some answer) ⊎ ((is_at (name_order other) name ≡ true) × terms.test (as_member mapping (name_of name)) (Ok answer)) →
          (kept_for answers other ≡ Some answer) ⊎ ((own : PathName) × (mapping.name ≡ Some (name_of own)) × (is_at (name_order other) own ≡ true) × terms.test (as_member mapping (name_of own)) (Ok answer))
      by_added (inl was) = inl was
      by_added (inr added) = inr (name, named, added.0, added.1)

  module _ (mappings : List Mapping) where
    -- an address that no mapping has
    pub unmapped : (addr : ℕ) (kept : KeptToAnswer R) (at : X) → owner_of mappings addr ≡ None → AsksAddress files terms mappings addr (Ok (symbolized.Unknown reasons.Unmapped)) kept kept at at
    unmapped addr kept at none = record {
      said = None;
      allowed = subst (λ (o : Option Mapping). IsSaidBy terms.test terms.translates terms.finds terms.opts o addr kept.answers kept.answers None) (sym none) refl;
      faultless = tt;
      untold = subst (λ (o : Option Mapping). SomeByOwner terms.asked (Ok (Unknown reasons.Unmapped)) kept.caches kept.caches addr None o) (sym none) (refl, refl);
      step = rw none (still files terms.asked.own reading (Unknown reasons.Unmapped) _ kept.caches at refl);
    }

    pub adds_owned : (addr : ℕ) (mapping : Mapping) (answers answers_now : DispatchAnswers R) → owner_of mappings addr ≡ Some mapping → AddsIn terms.test mapping answers answers_now → AddsAmong terms.test mappings (addr ∷ []) answers answers_now
    adds_owned addr mapping answers answers_now owner adds other answer kept = by_added (adds other answer kept)
      where
        by_added : (kept_for answers other ≡ Some answer) ⊎ ((own : PathName) × (mapping.name ≡ Some (name_of own)) × (is_at (name_order other) own ≡ true) × terms.test (as_member mapping (name_of own)) (Ok answer)) →
            (kept_for answers other ≡ Some answer) ⊎ IsAdded terms.test mappings (addr ∷ []) other answer
        by_added (inl was) = inl was
        by_added (inr added) = inr (record { addr = addr; there = (0, omega arith, refl); mapping = mapping; owner = owner; name = added.0; named = added.1; same = added.2; allowed = added.3 })

    pub front_none : (given : Vec Symbolized Global) (kept : KeptToAnswer R) (at : X) → given.items ≡ [] → AsksFront files terms mappings [] given kept kept at at
    front_none given kept at is =
        record { front = []; addrs_are = refl; allowed = λ n a kept. kept; untold = (ap (map reading) is, refl); step = step_none files terms.asked mappings given kept.caches at is; keeps = λ n a kept. kept; adds = λ n a kept. inl kept }

    pub front_more : (addrs : List ℕ) (addr : ℕ) (given more : Vec Symbolized Global) (result : Result Symbolized Error) (entry : Symbolized) (old mid now : KeptToAnswer R) (before middle after : X) →
        AsksFront files terms mappings addrs given old mid before middle → AsksAddress files terms mappings addr result mid now middle after →
        Keeps mid.answers now.answers → AddsAmong terms.test mappings (addr ∷ []) mid.answers now.answers →
        ((expected : Result Answer Error) → Gives reading expected result → reading entry ≡ in_batch expected) →
        IfErr result (λ e. IsFailure e → IsErrOf {T = Symbolized} (Ok entry) e) → more.items ≡ given.items ++ entry ∷ [] →
        AsksFront files terms mappings (addrs ++ addr ∷ []) more old now before after
    front_more addrs addr given more result entry old mid now before middle after front one keeps adds is unfailed pushed = record {
      front = front.front ++ (addr, one.said) ∷ [];
      addrs_are = map-append (λ (item : ℕ × Said). item.0) front.front ((addr, one.said) ∷ []) ∙ ap (λ (xs : List ℕ). xs ++ addr ∷ []) front.addrs_are;
      allowed = turn_last terms.test terms.translates terms.finds terms.opts mappings front.front (addr, one.said) old.answers mid.answers now.answers front.allowed keeps (unfailing result entry _ unfailed one.allowed);
      untold =
          let entry_is : reading entry ≡ in_batch (as_read reading result) = is (as_read reading result) (gives_self reading result) in
          let answers_are : readings more ≡ readings given ++ in_batch (as_read reading result) ∷ [] =
          ap (map reading) pushed ∙ map-append reading given.items (entry ∷ []) ∙ ap (λ (a : Answer). readings given ++ a ∷ []) entry_is in
          subst (λ (all : List Answer). SomeAtAddresses terms.asked mappings (front.front ++ (addr, one.said) ∷ []) all old.caches now.caches) (sym answers_are)
          (some_last terms.asked mappings front.front (addr, one.said) (readings given) (as_read reading result) old.caches mid.caches now.caches front.untold one.untold (no_failure result entry unfailed));
      step = step_more files terms.asked mappings front.front (addr, one.said) given more result entry old.caches mid.caches now.caches before middle after front.step one.step is unfailed pushed;
      keeps = keeps_both terms.test terms.translates terms.finds terms.opts mappings old.answers mid.answers now.answers front.keeps keeps;
      adds = adds_both terms.test terms.translates terms.finds terms.opts mappings addrs (addr ∷ []) (addrs ++ addr ∷ []) old.answers mid.answers now.answers
          (Contains-append_left addrs (addr ∷ [])) (Contains-append_right addrs (addr ∷ [])) front.adds adds;
    }

    -- all were asked
    pub all_done : (addrs : List ℕ) (given : Vec Symbolized Global) (old now : KeptToAnswer R) (before after : X) →
        AsksFront files terms mappings addrs given old now before after → AsksAll files terms mappings addrs (Ok given) old now before after
    all_done addrs given old now before after front =
        let all : map (λ (item : ℕ × Said). item.0) front.front ++ [] ≡ addrs = append-nil _ ∙ front.addrs_are in
        record {
          front = front.front;
          rest = [];
          addrs_are = all;
          all = refl;
          allowed = front.allowed;
          untold = front.untold;
          adds = subst (λ (xs : List ℕ). AddsAmong terms.test mappings xs old.answers now.answers) (sym all) front.adds;
          step = rw append-nil front.step;
        }

    -- the next address failed
    pub all_fail : (addrs : List ℕ) (addr : ℕ) (rest whole : List ℕ) (given : Vec Symbolized Global) (result : Result Symbolized Error) (e : Error) (old mid now : KeptToAnswer R) (before middle after : X) →
        addrs ++ (addr ∷ rest) ≡ whole →
        AsksFront files terms mappings addrs given old mid before middle → AsksAddress files terms mappings addr result mid now middle after →
        Keeps mid.answers now.answers → AddsAmong terms.test mappings (addr ∷ []) mid.answers now.answers →
        result ≡ Err e → IsFailure e → Looked files before after (Faulted {A = Vec Symbolized Global} (Err e)) → AsksAll files terms mappings whole (Err e) old now before after
    all_fail addrs addr rest whole given result e old mid now before middle after whole_is front one keeps adds is failure looked = record {
      front = front.front;
      rest = addr ∷ rest;
      addrs_are = ap (λ (xs : List ℕ). xs ++ (addr ∷ rest)) front.addrs_are ∙ whole_is;
      all = tt;
      allowed = turn_longer terms.test terms.translates terms.finds terms.opts mappings front.front old.answers mid.answers now.answers front.allowed keeps;
      untold = record {
        failure = failure;
        answers = readings given;
        middle = mid.caches;
        untold = front.untold;
        told = λ world seen. (front.step.told world seen).left;
        ends = inr (one.said, one.faultless, subst (λ (r : Result Symbolized Error). SomeAtAddress terms.asked (as_read reading r) mid.caches now.caches mappings (addr, one.said)) is one.untold);
      };
      adds = subst (λ (xs : List ℕ). AddsAmong terms.test mappings (xs ++ addr ∷ []) old.answers now.answers) (sym front.addrs_are)
          (adds_both terms.test terms.translates terms.finds terms.opts mappings addrs (addr ∷ []) (addrs ++ addr ∷ []) old.answers mid.answers now.answers
          (Contains-append_left addrs (addr ∷ [])) (Contains-append_right addrs (addr ∷ [])) front.adds adds);
      step = step_fails files terms.asked mappings front.front (addr, one.said) (front.front ++ map unsaid (addr ∷ [])) given result e old.caches mid.caches now.caches before middle after
          (few_at files terms.asked mappings front.front addr one.said old.caches) front.step one.step failure looked;
    }

    -- memory ran out for the answer of the next address
    pub all_stop : (addrs : List ℕ) (addr : ℕ) (rest whole : List ℕ) (given : Vec Symbolized Global) (result : Result Symbolized Error) (entry : Symbolized) (old mid now : KeptToAnswer R) (before middle after : X) →
        addrs ++ (addr ∷ rest) ≡ whole →
        AsksFront files terms mappings addrs given old mid before middle → AsksAddress files terms mappings addr result mid now middle after →
        Keeps mid.answers now.answers → AddsAmong terms.test mappings (addr ∷ []) mid.answers now.answers →
        IfErr result (λ e. IsFailure e → IsErrOf {T = Symbolized} (Ok entry) e) →
        Looked files before after (Faulted {A = Vec Symbolized Global} (Err errors.OutOfMemory)) → AsksAll files terms mappings whole (Err errors.OutOfMemory) old now before after
    all_stop addrs addr rest whole given result entry old mid now before middle after whole_is front one keeps adds unfailed looked =
        let fronts : map (λ (item : ℕ × Said). item.0) (front.front ++ (addr, one.said) ∷ []) ≡ addrs ++ addr ∷ [] =
        map-append (λ (item : ℕ × Said). item.0) front.front ((addr, one.said) ∷ []) ∙ ap (λ (xs : List ℕ). xs ++ addr ∷ []) front.addrs_are in
        record {
          front = front.front ++ (addr, one.said) ∷ [];
          rest = rest;
          addrs_are = ap (λ (xs : List ℕ). xs ++ rest) fronts ∙ append_assoc addrs (addr ∷ []) rest ∙ whole_is;
          all = tt;
          allowed = turn_last terms.test terms.translates terms.finds terms.opts mappings front.front (addr, one.said) old.answers mid.answers now.answers front.allowed keeps (unfailing result entry _ unfailed one.allowed);
          untold = record {
            failure = tt;
            answers = readings given ++ in_batch (as_read reading result) ∷ [];
            middle = now.caches;
            untold = some_last terms.asked mappings front.front (addr, one.said) (readings given) (as_read reading result) old.caches mid.caches now.caches front.untold one.untold (no_failure result entry unfailed);
            told = left_more files terms.asked mappings front.front (addr, one.said) given result entry old.caches mid.caches now.caches before middle after front.step one.step unfailed;
            ends = inl (record { memory = refl; unchanged = refl });
          };
          adds = subst (λ (xs : List ℕ). AddsAmong terms.test mappings (xs ++ next_of rest) old.answers now.answers) (sym fronts)
              (adds_both terms.test terms.translates terms.finds terms.opts mappings addrs (addr ∷ []) ((addrs ++ addr ∷ []) ++ next_of rest) old.answers mid.answers now.answers
              (λ x there. Contains-append_left (addrs ++ addr ∷ []) (next_of rest) x (Contains-append_left addrs (addr ∷ []) x there))
              (λ x there. Contains-append_left (addrs ++ addr ∷ []) (next_of rest) x (Contains-append_right addrs (addr ∷ []) x there)) front.adds adds);
          step = step_fails files terms.asked mappings front.front (addr, one.said) ((front.front ++ (addr, one.said) ∷ []) ++ map unsaid (next_of rest)) given result errors.OutOfMemory old.caches mid.caches now.caches before middle after
              (few_after files terms.asked mappings front.front (addr, one.said) (next_of rest) old.caches) front.step one.step tt looked;
        }

    -- memory ran out before any address was asked
    pub none_asked : (addrs : List ℕ) (kept : KeptToAnswer R) (at : X) → AsksAll files terms mappings addrs (Err errors.OutOfMemory) kept kept at at
    none_asked addrs kept at = record {
      front = [];
      rest = addrs;
      addrs_are = refl;
      all = tt;
      allowed = λ n a k. k;
      untold = record { failure = tt; answers = []; middle = kept.caches; untold = (refl, refl); told = λ world seen. refl; ends = inl (record { memory = refl; unchanged = refl }) };
      adds = λ n a k. inl k;
      step = wants_memory files terms.asked.own readings (at_addresses terms.asked mappings (map unsaid (next_of addrs))) kept.caches at;
    }
