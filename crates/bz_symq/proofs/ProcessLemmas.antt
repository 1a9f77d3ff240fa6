-- What a process answers, in the words of its mappings, and why it is refused.
use Rattle.std.proofs.Common.{◌≡◌, ◌⊎◌, ℕ, zero, suc, ◌+◌, ◌≤◌, Bool, true, false, cond, IfErr, IfOk, IsErrOf, IsOk, Vec, subst, arith, List, [], ◌∷◌, map, Option, Some, None, Result, Ok, Err, inl, inr, refl, sym, ap, ◌∙◌}
use Rattle.std.proofs.lemmas.Bool.{false≢true}
use Rattle.bz_base.specs.Answer.{Answer, reading}
use Rattle.bz_base.specs.InputKind.{AddressKind}
use Rattle.bz_base.specs.Pid.{number_of}
use Rattle.bz_base.specs.Refusals.{IsFailure}
use Rattle.bz_base.specs.declared.error.Error.{Error}
use Rattle.bz_base.specs.declared.error.Error.TheVariants as errors
use Rattle.bz_base.specs.declared.pid.Pid.{Pid}
use Rattle.bz_base.specs.declared.resolve.Symbolize.{Ghosts as Finds}
use Rattle.bz_base.specs.declared.resolve.TranslateFileOffset.{Ghosts as Translates}
use Rattle.bz_base.specs.declared.types.FindSymOpts.{FindSymOpts}
use Rattle.bz_base.specs.declared.types.Symbolized.{Symbolized}
use Rattle.bz_base.proofs.PidLemmas.{pids_same}
use Rattle.bz_cache.specs.Format.{GivesOrFaults}
use Rattle.bz_files.specs.World.{World, Entry}
use Rattle.bz_files.specs.World.Entry.{Denied, Present}
use Rattle.bz_files.specs.declared.files.Files.{Ghosts}
use Rattle.bz_files.specs.declared.stamp.Stamp.{Stamp}
use Rattle.bz_proc.specs.Maps.{Mapping, maps_in}
use Rattle.bz_proc.proofs.MapsLemmas.{maps_found, maps_again}
use Rattle.bz_process.specs.Asked.{Asked}
use Rattle.bz_process.specs.Caches.{ProcessCaches}
use Rattle.bz_process.specs.Dispatch.{DispatchAnswers, Test}
use Rattle.bz_process.specs.Mapped.{AreByMappings, AreUsed, AsksProcess, LacksMappings}
use Rattle.bz_process.specs.Process.{batched, unsaid}
use Rattle.bz_process.specs.Processes.{caches_of, is_in_process}
use Rattle.bz_process.specs.Untold.{SomeAtAddresses}
use Rattle.bz_requests.specs.declared.requests.Config.{Config}
use Rattle.bz_symbolize.specs.State.{WholeState}
use Rattle.bz_symq.specs.Command.{of_process}
use Rattle.bz_symq.specs.Kept.{KeptState, caches_in, kept_of, new_kept, settings_of}
use Rattle.bz_symq.specs.Processes.{IsMapsCause, IsProcessBatch, IsSomeProcessBatch, TellsMappings, asked_by, maps_of, nothing_kept, pid_of, process_batch}
use Rattle.bz_symq.specs.Reply.{IsSomeCauseOrFails}
use Rattle.bz_symq.specs.Targets.{HasFile, IsFileCause, IsSomeCause}

-- a number names the process that is made from it
number_named : (number : ℕ) → number_of (pid_of number) ≡ number
number_named zero = refl
number_named (suc n) = refl

pub process_named : (number : ℕ) (pid : Pid) → number_of pid ≡ number → pid ≡ pid_of number
process_named number pid same = pids_same pid (pid_of number) (same ∙ sym (number_named number))

-- a symbolizer that was just made keeps nothing that answers for processes
pub record KeepsNothing {D R : Type 0} (config : Config) (whole : WholeState D R) : Type 0 where
  pub caches : caches_of whole.files.elf whole.processes ≡ nothing_kept config
  pub mappings : whole.processes.mappings ≡ []

pub keeps_nothing : {D R : Type 0} (config : Config) (whole : WholeState D R) → kept_of whole ≡ new_kept (settings_of config) → KeepsNothing config whole
keeps_nothing config whole kept = record { caches = ap caches_in kept; mappings = ap (λ (k : KeptState). k.processes.mappings) kept }

-- the answers that are read of those that are given
abbrev pub views : {G : Type 0} → Vec Symbolized G → List Answer
views answers = map reading answers.items

-- a call is answered as is expected of a kind of address that is taken, and refused for another
pub answered_if_taken : {A B : Type 0} (view : A → B) (took : Bool) (asked : Result B Error) (result : Result A Error) → (took ≡ false → IsErrOf result errors.Unsupported) → (took ≡ true → GivesOrFaults view asked result) →
    GivesOrFaults view (cond took asked (Err errors.Unsupported)) result
answered_if_taken view true asked result untaken taken = taken refl
answered_if_taken view false asked result untaken taken = rw (untaken refl) refl

-- and reads no more files than is expected
pub opened_if_taken : (took : Bool) (before after most : ℕ) → (took ≡ false → after ≡ before) → (took ≡ true → after ≤ before + most) → after ≤ before + most
opened_if_taken true before after most untaken taken = taken refl
opened_if_taken false before after most untaken taken = omega (arith, untaken refl)

-- one that is answered was taken
pub served_if_given : {A : Type 0} (took : Bool) (result : Result A Error) → (took ≡ false → IsErrOf result errors.Unsupported) → IsOk result → took ≡ true
served_if_given true result untaken given = refl
served_if_given false result untaken given = absurd (false≢true (subst IsOk (untaken refl) given))

module _ (config : Config) (number own : ℕ) (addrs : List ℕ) (world : World) where
  -- what the process answers at the addresses, by these mappings
  abbrev answers_by : List Mapping → List Answer
  answers_by mappings = (batched (asked_by config number own) mappings (map unsaid addrs) world (nothing_kept config)).answers

  -- by what a text tells
  abbrev told_answer : Option (List Mapping) → Result (List Answer) Error
  told_answer None = Err errors.InvalidData
  told_answer (Some []) = Err errors.UnexpectedEof
  told_answer (Some (mapping ∷ later)) = Ok (answers_by (mapping ∷ later))

  -- and by what lies there
  abbrev entry_answer : Option Entry → Result (List Answer) Error
  entry_answer None = Err errors.NotFound
  entry_answer (Some Denied) = Err errors.PermissionDenied
  entry_answer (Some (Present stamp text)) = told_answer (maps_in (pid_of number) text)

  -- this is what the batch gives
  batch_is : (process_batch config number own addrs world).answer ≡ entry_answer (maps_of number world)
  batch_is = by_entry (maps_of number world) refl
    where
      by_told : (stamp : Stamp) (text : List ℕ) → maps_of number world ≡ Some (Present stamp text) → (told : Option (List Mapping)) → maps_in (pid_of number) text ≡ told →
          (process_batch config number own addrs world).answer ≡ told_answer told
      by_told stamp text is None told_is = rw (is, told_is) refl
      by_told stamp text is (Some []) told_is = rw (is, told_is) refl
      by_told stamp text is (Some (mapping ∷ later)) told_is = rw (is, told_is) refl

      by_entry : (there : Option Entry) → maps_of number world ≡ there → (process_batch config number own addrs world).answer ≡ entry_answer there
      by_entry None is = rw is refl
      by_entry (Some Denied) is = rw is refl
      by_entry (Some (Present stamp text)) is = by_told stamp text is (maps_in (pid_of number) text) refl

  -- answers that are given are by the mappings that the text tells
  pub process_answered : (answers : List Answer) → (process_batch config number own addrs world).answer ≡ Ok answers →
      HasFile (λ text. IsProcessBatch config number own world text addrs answers) (maps_of number world)
  process_answered answers given = from_entry (maps_of number world) (sym batch_is ∙ given)
    where
      from_told : (text : List ℕ) (told : Option (List Mapping)) → maps_in (pid_of number) text ≡ told → told_answer told ≡ Ok answers → IsProcessBatch config number own world text addrs answers
      from_told text None is given = cc
      from_told text (Some []) is given = cc
      from_told text (Some (mapping ∷ later)) is given = record { tells = (mapping, later, maps_found (pid_of number) text (mapping ∷ later) is); answers_are = cc }

      from_entry : (there : Option Entry) → entry_answer there ≡ Ok answers → HasFile (λ text. IsProcessBatch config number own world text addrs answers) there
      from_entry None given = cc
      from_entry (Some Denied) given = cc
      from_entry (Some (Present stamp text)) given =
          record { stamp = stamp; bytes = text; present = refl; such = from_told text (maps_in (pid_of number) text) refl given }

  -- and where the text tells some mappings, answers are given
  pub process_answers : HasFile (TellsMappings number) (maps_of number world) → (answers : List Answer) × ((process_batch config number own addrs world).answer ≡ Ok answers)
  process_answers has =
      let mappings = has.such.0 ∷ has.such.1 in
      (answers_by mappings, batch_is ∙ rw (has.present, maps_again (pid_of number) has.bytes mappings has.such.2) refl)

  -- a process is refused exactly where its text has the cause
  pub process_cause : (e : Error) → (process_batch config number own addrs world).answer ≡ Err e → IsFileCause (IsMapsCause number) (maps_of number world) e
  process_cause e given = from_entry (maps_of number world) (sym batch_is ∙ given)
    where
      from_told : (text : List ℕ) (told : Option (List Mapping)) → maps_in (pid_of number) text ≡ told → told_answer told ≡ Err e → IsMapsCause number text e
      from_told text None is given = inl (cc, λ mappings are. let read = maps_again (pid_of number) text mappings are in cc)
      from_told text (Some []) is given = inr (cc, maps_found (pid_of number) text [] is)
      from_told text (Some (mapping ∷ later)) is given = cc

      from_entry : (there : Option Entry) → entry_answer there ≡ Err e → IsFileCause (IsMapsCause number) there e
      from_entry None given = cc
      from_entry (Some Denied) given = cc
      from_entry (Some (Present stamp text)) given = from_told text (maps_in (pid_of number) text) refl given

  pub process_refused : (e : Error) → IsFileCause (IsMapsCause number) (maps_of number world) e → (process_batch config number own addrs world).answer ≡ Err e
  process_refused e cause = batch_is ∙ to_entry (maps_of number world) cause
    where
      to_told : (text : List ℕ) → IsMapsCause number text e → (told : Option (List Mapping)) → maps_in (pid_of number) text ≡ told → told_answer told ≡ Err e
      to_told text (inl (same, none)) None is = ap Err (sym same)
      to_told text (inl (same, none)) (Some mappings) is = absurd (none mappings (maps_found (pid_of number) text mappings is))
      to_told text (inr (same, are)) told is = rw (sym is ∙ maps_again (pid_of number) text [] are) (ap Err (sym same))

      to_entry : (there : Option Entry) → IsFileCause (IsMapsCause number) there e → entry_answer there ≡ Err e
      to_entry None cause = ap Err (sym cause)
      to_entry (Some Denied) cause = ap Err (sym cause)
      to_entry (Some (Present stamp text)) cause = to_told text cause (maps_in (pid_of number) text) refl

-- whatever is told, answers by no kept mappings are by those of some text
some_batch : (config : Config) (number own : ℕ) (addrs : List ℕ) (answers : List Answer) (left : ProcessCaches) → AreByMappings (asked_by config number own) None addrs answers (nothing_kept config) left →
    IsSomeProcessBatch config number own addrs answers
some_batch config number own addrs answers left by = from_mappings by.mappings by.used by.untold
  where
    from_mappings : (mappings : List Mapping) → AreUsed (pid_of number) None mappings → SomeAtAddresses (asked_by config number own) mappings (map unsaid addrs) answers (nothing_kept config) left →
        IsSomeProcessBatch config number own addrs answers
    from_mappings [] used some = let none = used.positive in cc
    from_mappings (mapping ∷ later) used some = record {
      text = used.from.text;
      tells = (mapping, later, maps_found (pid_of number) used.from.text (mapping ∷ later) used.from.tells);
      kept_after = left;
      answers_are = some;
    }

pub some_if_taken : {G : Type 0} (kind : AddressKind) (config : Config) (number own : ℕ) (addrs : List ℕ) (result : Result (Vec Symbolized G) Error) (left : ProcessCaches) →
    (is_in_process kind ≡ false → IsErrOf result errors.Unsupported) → (is_in_process kind ≡ true → IfOk result (λ given. AreByMappings (asked_by config number own) None addrs (views given) (nothing_kept config) left)) →
    IfOk result (λ given. IsSomeProcessBatch config number own addrs (views given))
some_if_taken kind config number own addrs (Ok given) left untaken taken =
    some_batch config number own addrs (views given) left (taken (served_if_given (is_in_process kind) (Ok given) untaken refl))
some_if_taken kind config number own addrs (Err e) left untaken taken = tt

-- a batch without kept mappings is refused only for want of mappings, or something failed
abbrev pub LacksOrFails : Error → Type 0
LacksOrFails e = LacksMappings None e ⊎ IsFailure e

module _ {A R X : Type 0} (files : Ghosts X) (reading : A → List Answer) (test : Test R) (translates : Translates R) (finds : Finds R) (opts : FindSymOpts) (asked : Asked) (addrs : List ℕ)
    (old now : ProcessCaches) (answers answers_now : DispatchAnswers R) (before after : X) where
  pub lacks_or_fails : (result : Result A Error) → AsksProcess files reading test translates finds opts asked None addrs result old now answers answers_now before after →
      IfErr result (λ e. LacksOrFails e)
  lacks_or_fails (Ok given) asks = tt
  lacks_or_fails (Err e) asks = elim asks.used [
    | inl mapped ↦ inr mapped.1.failure
    | inr unmapped ↦ inl unmapped.refusal
  ]

module _ (number : ℕ) (kind : AddressKind) (config : Config) where
  -- so a process that takes the kind of address has such a cause for its refusal
  cause_of_lack : (e : Error) → is_in_process kind ≡ true → LacksOrFails e → IsSomeCauseOrFails (IsSomeCause (of_process number kind config)) e
  cause_of_lack errors.NotFound took lacks = inr (took, tt)
  cause_of_lack errors.PermissionDenied took lacks = inr (took, tt)
  cause_of_lack errors.InvalidData took lacks = inr (took, tt)
  cause_of_lack errors.UnexpectedEof took lacks = inr (took, tt)
  cause_of_lack errors.ReadFault took lacks = tt
  cause_of_lack errors.OutOfMemory took lacks = tt
  cause_of_lack errors.Unsupported took (inl lacks) = absurd lacks
  cause_of_lack errors.Unsupported took (inr fails) = absurd fails
  cause_of_lack errors.InvalidInput took (inl lacks) = absurd lacks
  cause_of_lack errors.InvalidInput took (inr fails) = absurd fails
  cause_of_lack errors.AlreadyExists took (inl lacks) = absurd lacks
  cause_of_lack errors.AlreadyExists took (inr fails) = absurd fails

  causes_of_lack : {A : Type 0} (result : Result A Error) → is_in_process kind ≡ true → IfErr result (λ e. LacksOrFails e) →
      IfErr result (λ e. IsSomeCauseOrFails (IsSomeCause (of_process number kind config)) e)
  causes_of_lack (Ok given) took lacks = tt
  causes_of_lack (Err e) took lacks = cause_of_lack e took lacks

  -- and for another kind it is refused as such
  pub process_refusal : {A : Type 0} (result : Result A Error) → (is_in_process kind ≡ false → IsErrOf result errors.Unsupported) → (is_in_process kind ≡ true → IfErr result (λ e. LacksOrFails e)) →
      IfErr result (λ e. IsSomeCauseOrFails (IsSomeCause (of_process number kind config)) e)
  process_refusal {A} result untaken taken = by_taken (is_in_process kind) refl
    where
      by_taken : (took : Bool) → is_in_process kind ≡ took → IfErr result (λ e. IsSomeCauseOrFails (IsSomeCause (of_process number kind config)) e)
      by_taken true took = causes_of_lack result took (taken took)
      by_taken false took = rw (untaken took) (inl (took, refl))
