-- What a call on a process promises that does nothing, and how many answers one has that is answered.
use Rattle.std.proofs.Common.{◌≡◌, ℕ, false, List, [], ◌∷◌, ◌++◌, length, map, Option, Ok, Err, inl, inr, refl, ap, le_refl, arith}
use Rattle.std.proofs.lemmas.Bool.{false≢true}
use Rattle.std.proofs.lemmas.List.{length-append, length-map}
use Rattle.bz_base.specs.Answer.{Answer}
use Rattle.bz_base.specs.InputKind.{AddressKind, InProcess}
use Rattle.bz_base.specs.declared.error.Error.TheVariants as errors
use Rattle.bz_base.specs.declared.resolve.Symbolize.{Ghosts as Finds}
use Rattle.bz_base.specs.declared.resolve.TranslateFileOffset.{Ghosts as Translates}
use Rattle.bz_base.specs.declared.types.FindSymOpts.{FindSymOpts}
use Rattle.bz_files.specs.declared.files.Files.{Ghosts}
use Rattle.bz_cache.specs.Cache.{Cache}
use Rattle.bz_proc.specs.Maps.{Mapping}
use Rattle.bz_process.specs.Asked.{Asked}
use Rattle.bz_process.specs.Caches.{ProcessCaches}
use Rattle.bz_process.specs.Dispatch.{DispatchAnswers, Test}
use Rattle.bz_process.specs.Mapped.{AsksProcess}
use Rattle.bz_process.specs.Process.{Said, Step}
use Rattle.bz_process.specs.ProcessCall.{TakesStep}
use Rattle.bz_process.specs.Processes.{KeptProcesses, SymbolizesProcess, is_in_process}
use Rattle.bz_process.specs.Untold.{SomeAtAddresses}
use Rattle.bz_stacks.proofs.AnsweredLemmas.{as_is}

module _ {X : Type 0} (files : Ghosts X) (before : X) where
  -- memory ran out before anything was done
  undone : {B : Type 0} (own : ℕ) (expected : Step B) (kept : ProcessCaches) → TakesStep files own as_is expected (Err errors.OutOfMemory) kept kept before before
  undone own expected kept = record {
    told = λ world seen. record { answer = tt; left = tt; opened = omega arith };
    reached = record { changes = []; told = λ world seen. tt; leads = refl };
    elf = record { consistent = λ is. is; reload = refl };
    perf_maps = record { consistent = λ is. is; reload = refl };
    looked = record { worlds = refl; pid = refl; faults = record { grows = le_refl _; fault = λ fault. cc fault; steady = inr refl } };
  }

module _ {D R X : Type 0} (files : Ghosts X) (test : Test R) (translates : Translates R) (finds : Finds R) (opts : FindSymOpts) (asked : Asked) (addrs : List ℕ) (elf : Cache) (kept : KeptProcesses D R) (before : X) where
  -- memory ran out before the process was asked
  pub unasked : SymbolizesProcess files as_is test translates finds opts asked InProcess addrs (Err errors.OutOfMemory) elf elf kept kept before before
  unasked = record {
    untaken = λ other. cc other;
    asks = λ taken. record {
      mappings = [];
      mapped = λ world seen. tt;
      tied = λ world seen. inr (refl, refl);
      front = [];
      rest = addrs;
      addrs_are = refl;
      all = tt;
      allowed = λ name answer is. is;
      used = inr (record { refused = refl; refusal = tt; unchanged = refl; unsaid = refl });
      keeps = λ name answer is. is;
      adds = λ other answer is. inl is;
      step = undone files before asked.own _ _;
    };
    exact = λ none taken. undone files before asked.own _ _;
    untold = λ none taken. tt;
    mappings = refl;
    dispatcher = refl;
  }

  -- another kind of address is refused
  pub untaken : (kind : AddressKind) → is_in_process kind ≡ false → SymbolizesProcess files as_is test translates finds opts asked kind addrs (Err errors.Unsupported) elf elf kept kept before before
  untaken kind other = record {
    untaken = λ _. (refl, refl, refl, refl);
    asks = λ taken. cc (other, taken);
    exact = λ none taken. cc (other, taken);
    untold = λ none taken. tt;
    mappings = refl;
    dispatcher = refl;
  }

-- one answer for each address
answers_each : (asked : Asked) (mappings : List Mapping) (items : List (ℕ × Said)) (answers : List Answer) (old now : ProcessCaches) → SomeAtAddresses asked mappings items answers old now → length answers ≡ length items
answers_each asked mappings [] answers old now some = ap length some.0
answers_each asked mappings (item ∷ items) answers old now some =
    let all = ap length some.3 in
    let later = answers_each asked mappings items some.2 some.1 now some.5 in
    omega arith

module _ {A R X : Type 0} (files : Ghosts X) (reading : A → List Answer) (test : Test R) (translates : Translates R) (finds : Finds R) (opts : FindSymOpts) (asked : Asked) (addrs : List ℕ) where
  pub answer_count : (kept : Option (List Mapping)) (given : A) (old now : ProcessCaches) (answers answers_now : DispatchAnswers R) (before after : X) →
      AsksProcess files reading test translates finds opts asked kept addrs (Ok given) old now answers answers_now before after → length (reading given) ≡ length addrs
  answer_count kept given old now answers answers_now before after asks = elim asks.used [
    | inl used ↦
        let each = answers_each asked asks.mappings asks.front (reading given) old now used.1 in
        let fronts : length (map (λ (item : ℕ × Said). item.0) asks.front) ≡ length asks.front = length-map asks.front (λ (item : ℕ × Said). item.0) in
        let all : map (λ (item : ℕ × Said). item.0) asks.front ++ [] ≡ addrs = rw asks.all at asks.addrs_are in
        let sides = ap length all in
        let both = length-append (map (λ (item : ℕ × Said). item.0) asks.front) [] in
        omega arith
    | inr first ↦ absurd (false≢true first.refused)
  ]
