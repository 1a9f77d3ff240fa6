-- What each target answers: from the symbolizer's promises to the words of targets, and
-- to the causes of refusals.
use Rattle.std.proofs.Common.{◌≡◌, ℕ, Bool, true, false, List, length, Option, Some, None, option_and_then, Result, Ok, Err, IfOk, IsErrOf, OnOk, cond, string_bytes, inl, inr, refl, sym, ap, subst, ◌∙◌}
use Rattle.std.specs.FinMap as map
use Rattle.bz_base.specs.Answer.{Answer}
use Rattle.bz_base.specs.InputKind.{AddressKind, InFile, InProcess, InTable}
use Rattle.bz_base.specs.declared.error.Error.{Error}
use Rattle.bz_base.specs.declared.error.Error.TheVariants as errors
use Rattle.bz_files.specs.Count.{counted}
use Rattle.bz_files.specs.World.{World, Entry, entry_at}
use Rattle.bz_files.specs.World.Entry.{Denied, Present}
use Rattle.bz_files.specs.declared.stamp.Stamp.{Stamp}
use Rattle.bz_cache.specs.Cache.{Cache, Consistent, current_of, kept_at}
use Rattle.bz_cache.specs.Format.{GivesOrFaults}
use Rattle.bz_cache.specs.Look.{opens_after}
use Rattle.bz_breakpad.specs.Plain.{batch}
use Rattle.bz_breakpad.specs.Reader.{table_in}
use Rattle.bz_breakpad.specs.Grammar.{IsFile}
use Rattle.bz_breakpad.specs.Table.{Table}
use Rattle.bz_breakpad.specs.Version as breakpad_version
use Rattle.bz_elf.specs.Format.{checks, format_test}
use Rattle.bz_elf.proofs.FormatLemmas.{fails_first, refused_by_first}
use Rattle.bz_elf.proofs.ProfileLaws.{profile, taken}
use Rattle.bz_gsym.specs.Tables.{is_gsym}
use Rattle.bz_gsym.proofs.FormatLemmas.{passed, passes}
use Rattle.bz_lookups.specs.Counted.{breakpad_steps}
use Rattle.bz_lookups.specs.Formats.{elf_batch, gsym_batch, is_in_elf, is_in_file, is_in_table}
use Rattle.bz_requests.specs.declared.requests.Config.{Config}
use Rattle.bz_symbolize.specs.Counted.{SourceSteps}
use Rattle.bz_symbolize.specs.FileCall.{batch_of}
use Rattle.bz_symbolize.specs.Lookup.{answer_of, opens_of, by_table, breakpad_answer, elf_answer, fresh_answer, gsym_answer}
use Rattle.bz_symbolize.specs.Promise.{AnswersKept}
use Rattle.bz_symbolize.specs.Sources.{FileSource, OnFile, UnlessProcess, form_of}
use Rattle.bz_symbolize.specs.State.{State, WellKept, new_state}
use Rattle.bz_symbolize.specs.declared.source.Breakpad as breakpads
use Rattle.bz_symbolize.specs.declared.source.Elf as elves
use Rattle.bz_symbolize.specs.declared.source.Gsym.TheVariants as gsyms
use Rattle.bz_symbolize.specs.declared.source.GsymFile as gsym_files
use Rattle.bz_symbolize.specs.declared.source.Source.{Source}
use Rattle.bz_symbolize.specs.declared.source.Source.TheVariants as sources
use Rattle.bz_symbolize.proofs.BatchLemmas.{batch_answered, elf_answered, gsym_answered}
use Rattle.bz_symbolize.proofs.NewLemmas.{new_breakpad, new_elf, new_gsym}
use Rattle.bz_symbolize.proofs.Tables.{table_found, table_again}
use Rattle.bz_symq.specs.Command.{Asking, FileTarget, Breakpad, Gsym, Elf, Target, OneFile, OneProcess}
use Rattle.bz_symq.specs.Kept.{opts_in, settings_of}
use Rattle.bz_symq.specs.Targets.{IsSourceOf, file_takes, file_serves, takes, serves, answer_by, taken_answer, answer_to, file_of, HasFile, HasAnswers, IsThere, AnswersIn, AreAnswers, AnswersSome, IsBatch, IsFileCause, IsRefusalOf, IsCause, IsTakenCause, IsVersion}
use Rattle.bz_symq.specs.Counted.{AnswersInFew, TakesFew}
use Rattle.bz_symq.proofs.OpenLemmas.{opened_new}
use Rattle.bz_symq.proofs.ProcessLemmas.{process_answered, process_answers, process_cause, process_refused}

-- what holds of each form of a file's source, by the file's path, holds of any
module _ (P : FileTarget → Source → Type 0) (of_breakpad : (source : breakpads.Breakpad) → P (Breakpad (string_bytes source.path)) (sources.Breakpad source))
    (of_gsym : (source : gsym_files.GsymFile) → P (Gsym (string_bytes source.path)) (sources.Gsym (gsyms.File source)))
    (of_elf : (source : elves.Elf) → P (Elf (string_bytes source.path)) (sources.Elf source)) where
  pub by_source : (target : FileTarget) (source : Source) → IsSourceOf target source → P target source
  by_source (Breakpad path) (sources.Breakpad source) is = subst (λ path. P (Breakpad path) (sources.Breakpad source)) is (of_breakpad source)
  by_source (Breakpad path) (sources.Gsym source) is = absurd is
  by_source (Breakpad path) (sources.Elf source) is = absurd is
  by_source (Breakpad path) (sources.Process source) is = absurd is
  by_source (Gsym path) (sources.Gsym (gsyms.File source)) is = subst (λ path. P (Gsym path) (sources.Gsym (gsyms.File source))) is (of_gsym source)
  by_source (Gsym path) (sources.Gsym (gsyms.Data source)) is = absurd is
  by_source (Gsym path) (sources.Breakpad source) is = absurd is
  by_source (Gsym path) (sources.Elf source) is = absurd is
  by_source (Gsym path) (sources.Process source) is = absurd is
  by_source (Elf path) (sources.Elf source) is = subst (λ path. P (Elf path) (sources.Elf source)) is (of_elf source)
  by_source (Elf path) (sources.Breakpad source) is = absurd is
  by_source (Elf path) (sources.Gsym source) is = absurd is
  by_source (Elf path) (sources.Process source) is = absurd is

-- a call that is answered wasn't refused for its kind of address
taken_if_given : {A : Type 0} (given : A) (taken : Bool) → (taken ≡ false → IsErrOf (Ok given) errors.Unsupported) → taken ≡ true
taken_if_given given true untaken = refl
taken_if_given given false untaken = let refused = untaken refl in cc

-- and one that is refused so reads nothing
none_opened : {A : Type 0} (view : A → List Answer) (result : Result A Error) (Opened : Type 0) → GivesOrFaults view (Err errors.Unsupported) result → OnOk result Opened
none_opened view (Ok given) Opened comes = cc
none_opened view (Err e) Opened comes = tt

-- what is kept as one thing is one thing
same_kept : (a b : List ℕ) → Some a ≡ Some b → a ≡ b
same_kept a b same = cc same

module _ (config : Config) (addrs : List ℕ) where
  -- what the file is asked for
  abbrev on_file : FileTarget → AddressKind → Asking
  on_file target kind = record { target = OneFile target; kind = kind; config = config }

  -- a symbolizer that keeps nothing answers the target's source as the target answers
  module _ (world : World) where
    abbrev AnswersAs : AddressKind → FileTarget → Source → Type 0
    AnswersAs kind target source = answer_of (opts_in config) (new_state (settings_of config)) (form_of source) (batch_of kind addrs) world ≡ answer_to (on_file target kind) addrs world 0

    breakpad_new : (kind : AddressKind) (source : breakpads.Breakpad) → AnswersAs kind (Breakpad (string_bytes source.path)) (sources.Breakpad source)
    breakpad_new InFile source = new_breakpad (opts_in config) config.reload (string_bytes source.path) addrs (entry_at world (string_bytes source.path))
    breakpad_new InTable source = refl
    breakpad_new InProcess source = refl

    gsym_new : (kind : AddressKind) (source : gsym_files.GsymFile) → AnswersAs kind (Gsym (string_bytes source.path)) (sources.Gsym (gsyms.File source))
    gsym_new InTable source = new_gsym (opts_in config) config.reload (string_bytes source.path) addrs (entry_at world (string_bytes source.path))
    gsym_new InFile source = refl
    gsym_new InProcess source = refl

    elf_new : (kind : AddressKind) (source : elves.Elf) → AnswersAs kind (Elf (string_bytes source.path)) (sources.Elf source)
    elf_new kind source = new_elf (opts_in config) config.reload (string_bytes source.path) addrs kind (entry_at world (string_bytes source.path))

    pub answer_new : (target : FileTarget) (kind : AddressKind) (source : Source) (own : ℕ) → IsSourceOf target source →
        answer_of (opts_in config) (new_state (settings_of config)) (form_of source) (batch_of kind addrs) world ≡ answer_to (on_file target kind) addrs world own
    answer_new target kind source own is = by_source (AnswersAs kind) (breakpad_new kind) (gsym_new kind) (elf_new kind) target source is

  -- and reads its file where it answers
  module _ {A : Type 0} (view : A → List Answer) (world : World) (before after : ℕ) (result : Result A Error) where
    abbrev OpensAs : AddressKind → FileTarget → Source → Type 0
    OpensAs kind target source = GivesOrFaults view (answer_to (on_file target kind) addrs world 0) result →
        OnOk result (after ≡ opens_after (opens_of (new_state (settings_of config)) (form_of source) kind world) before) → OnOk result (after ≡ counted before)

    breakpad_opens : (kind : AddressKind) (source : breakpads.Breakpad) → OpensAs kind (Breakpad (string_bytes source.path)) (sources.Breakpad source)
    breakpad_opens InFile source comes opens = opened_new view config.reload (breakpad_answer (opts_in config) addrs) (string_bytes source.path) (entry_at world (string_bytes source.path)) before after result comes opens
    breakpad_opens InTable source comes opens = none_opened view result _ comes
    breakpad_opens InProcess source comes opens = none_opened view result _ comes

    gsym_opens : (kind : AddressKind) (source : gsym_files.GsymFile) → OpensAs kind (Gsym (string_bytes source.path)) (sources.Gsym (gsyms.File source))
    gsym_opens InTable source comes opens = opened_new view config.reload (gsym_answer (opts_in config) addrs) (string_bytes source.path) (entry_at world (string_bytes source.path)) before after result comes opens
    gsym_opens InFile source comes opens = none_opened view result _ comes
    gsym_opens InProcess source comes opens = none_opened view result _ comes

    elf_opens : (kind : AddressKind) (source : elves.Elf) → OpensAs kind (Elf (string_bytes source.path)) (sources.Elf source)
    elf_opens kind source comes opens = opened_new view config.reload (elf_answer (string_bytes source.path) kind addrs) (string_bytes source.path) (entry_at world (string_bytes source.path)) before after result comes opens

    pub opened_by_target : (target : FileTarget) (kind : AddressKind) (source : Source) (own : ℕ) → IsSourceOf target source → GivesOrFaults view (answer_to (on_file target kind) addrs world own) result →
        OnOk result (after ≡ opens_after (opens_of (new_state (settings_of config)) (form_of source) kind world) before) → OnOk result (after ≡ counted before)
    opened_by_target target kind source own is = by_source (OpensAs kind) (breakpad_opens kind) (gsym_opens kind) (elf_opens kind) target source is

  -- what the symbolizer keeps is what it answers, so whatever is told, some bytes
  -- in the format are answered
  module _ {A : Type 0} (view : A → List Answer) (kind : AddressKind) (now : State) where
    abbrev Keeps : Source → Result A Error → FileSource → Type 0
    Keeps source result file = IfOk result (λ given. AnswersKept (opts_in config) source file now (batch_of kind addrs) (Ok (view given)))

    module _ (Refused : Type 0) (own : ℕ) where
      abbrev SomeAs : A → FileTarget → Source → Type 0
      SomeAs given target source = (Refused → IsErrOf (Ok given) errors.Unsupported) → OnFile source (λ file. file.answering.takes kind ≡ false → Refused) → OnFile source (Keeps source (Ok given)) →
          AnswersSome (on_file target kind) own addrs (view given)

      breakpad_some : (given : A) (source : breakpads.Breakpad) → SomeAs given (Breakpad (string_bytes source.path)) (sources.Breakpad source)
      breakpad_some given source refused untaken kept =
          record { served = taken_if_given given (is_in_file kind) (λ is. refused (untaken is)); are = (kept.bytes, batch_answered (opts_in config) kept.bytes kind addrs (view given) kept.answered) }

      gsym_some : (given : A) (source : gsym_files.GsymFile) → SomeAs given (Gsym (string_bytes source.path)) (sources.Gsym (gsyms.File source))
      gsym_some given source refused untaken kept =
          record { served = taken_if_given given (is_in_table kind) (λ is. refused (untaken is)); are = (kept.bytes, gsym_answered (opts_in config) kept.bytes kind addrs (view given) kept.answered) }

      elf_some : (given : A) (source : elves.Elf) → SomeAs given (Elf (string_bytes source.path)) (sources.Elf source)
      elf_some given source refused untaken kept = record { served = kept.answered.served; are = (kept.bytes, elf_answered (string_bytes source.path) kept.bytes kind addrs (view given) kept.answered) }

      pub some_from_kept : (target : FileTarget) (source : Source) (result : Result A Error) → IsSourceOf target source → (Refused → IsErrOf result errors.Unsupported) →
          OnFile source (λ file. file.answering.takes kind ≡ false → Refused) → OnFile source (Keeps source result) → IfOk result (λ given. AnswersSome (on_file target kind) own addrs (view given))
      some_from_kept target source (Ok given) is = by_source (SomeAs given) (breakpad_some given) (gsym_some given) (elf_some given) target source is
      some_from_kept target source (Err e) is = λ refused untaken kept. tt

    -- and that in few steps, since the version that was searched is the one that answers
    module _ (before after : ℕ) where
      abbrev FewAs : A → FileTarget → Source → Type 0
      FewAs given target source = OnFile source (Keeps source (Ok given)) → SourceSteps source now (length addrs) before after → AnswersInFew target kind config addrs (view given) before after

      breakpad_few : (given : A) (source : breakpads.Breakpad) → FewAs given (Breakpad (string_bytes source.path)) (sources.Breakpad source)
      breakpad_few given source kept (inl none) = (kept.bytes, batch_answered (opts_in config) kept.bytes kind addrs (view given) kept.answered, inl none)
      breakpad_few given source kept (inr searched) = (
        kept.bytes,
        batch_answered (opts_in config) kept.bytes kind addrs (view given) kept.answered,
        subst (λ (bytes : List ℕ). breakpad_steps bytes (length addrs) before after) (same_kept searched.0 kept.bytes (sym searched.1 ∙ kept.kept)) searched.2,
      )

      gsym_few : (given : A) (source : gsym_files.GsymFile) → FewAs given (Gsym (string_bytes source.path)) (sources.Gsym (gsyms.File source))
      gsym_few given source kept steps = (kept.bytes, gsym_answered (opts_in config) kept.bytes kind addrs (view given) kept.answered, steps)

      elf_few : (given : A) (source : elves.Elf) → FewAs given (Elf (string_bytes source.path)) (sources.Elf source)
      elf_few given source kept steps = (kept.bytes, elf_answered (string_bytes source.path) kept.bytes kind addrs (view given) kept.answered, steps)

      pub few_from_kept : (target : FileTarget) (source : Source) (result : Result A Error) → IsSourceOf target source → OnFile source (Keeps source result) → SourceSteps source now (length addrs) before after →
          IfOk result (λ given. AnswersInFew target kind config addrs (view given) before after)
      few_from_kept target source (Ok given) is = by_source (FewAs given) (breakpad_few given) (gsym_few given) (elf_few given) target source is
      few_from_kept target source (Err e) is = λ kept steps. tt

-- what is kept as a Breakpad file is one
kept_file : (cache : Cache) (path bytes : List ℕ) → Consistent breakpad_version.format_test cache → kept_at cache path ≡ Some bytes → (table : Table) × IsFile bytes table
kept_file cache path bytes consistent kept = by_stamp (current_of cache path) kept
  where
    by_read : (read : Option Table) → table_in bytes ≡ read → breakpad_version.refusal_of read ≡ None → (table : Table) × IsFile bytes table
    by_read None is formed = cc
    by_read (Some table) is formed = (table, table_found bytes table is)

    by_stamp : (stamp : Option Stamp) → option_and_then (λ s. map.get cache.kept s) stamp ≡ Some bytes → (table : Table) × IsFile bytes table
    by_stamp None is = cc
    by_stamp (Some stamp) is = by_read (table_in bytes) refl (consistent.formed stamp bytes is)

-- answered or refused, few steps are taken
module _ (now : State) (addrs before after : ℕ) where
  abbrev TakesFewAs : FileTarget → Source → Type 0
  TakesFewAs target source = WellKept now → SourceSteps source now addrs before after → TakesFew (OneFile target) addrs before after

  breakpad_takes : (source : breakpads.Breakpad) → TakesFewAs (Breakpad (string_bytes source.path)) (sources.Breakpad source)
  breakpad_takes source kept (inl none) = inl none
  breakpad_takes source kept (inr searched) = inr (searched.0, kept_file now.breakpad _ searched.0 kept.breakpad.consistent searched.1, searched.2)

  pub takes_few : (target : FileTarget) (source : Source) → IsSourceOf target source → WellKept now → SourceSteps source now addrs before after → TakesFew (OneFile target) addrs before after
  takes_few target source is = by_source TakesFewAs breakpad_takes (λ source kept steps. inl steps) (λ source kept steps. inl steps) target source is

-- what holds of the file of a target's source holds
pub of_its_file : (target : FileTarget) (source : Source) (P : Type 0) → IsSourceOf target source → OnFile source (λ file. P) → P
of_its_file target source P is = by_source (λ target source. OnFile source (λ file. P) → P) (λ source holds. holds) (λ source holds. holds) (λ source holds. holds) target source is

-- a target's source is no process
pub of_its_source : (target : FileTarget) (source : Source) (P : Type 0) → IsSourceOf target source → UnlessProcess source P → P
of_its_source target source P is = by_source (λ target source. UnlessProcess source P → P) (λ source holds. holds) (λ source holds. holds) (λ source holds. holds) target source is

-- what holds of a source that doesn't take the kind of address holds of its target
pub of_untaken : (target : FileTarget) (kind : AddressKind) (source : Source) (P : Type 0) → IsSourceOf target source → OnFile source (λ file. file.answering.takes kind ≡ false → P) → file_takes target kind ≡ false → P
of_untaken target kind source P is =
    by_source (λ target source. OnFile source (λ file. file.answering.takes kind ≡ false → P) → file_takes target kind ≡ false → P) (λ source holds. holds) (λ source holds. holds) (λ source holds. holds) target source is

-- what is answered is taken
file_taken : (target : FileTarget) (kind : AddressKind) → file_serves target kind ≡ true → file_takes target kind ≡ true
file_taken (Breakpad path) kind served = served
file_taken (Gsym path) kind served = served
file_taken (Elf path) kind served = refl

kind_taken : (target : Target) (kind : AddressKind) → serves target kind ≡ true → takes target kind ≡ true
kind_taken (OneFile file) kind served = file_taken file kind served
kind_taken (OneProcess number) kind served = served

module _ (config : Config) (addrs : List ℕ) where
  -- bytes that answer are in the source's format and answer the kind of address,
  -- and these are their answers
  abbrev Answered : FileTarget → AddressKind → List ℕ → List Answer → Type 0
  Answered target kind bytes answers = (file_serves target kind ≡ true) × IsBatch target kind config bytes addrs answers

  elf_given : (path : List ℕ) (kind : AddressKind) (bytes : List ℕ) (answers : List Answer) → format_test bytes ≡ None → cond {A = Result (List Answer) Error} (is_in_elf kind) (Ok (elf_batch path bytes kind addrs)) (Err errors.Unsupported) ≡ Ok answers →
      Answered (Elf path) kind bytes answers
  elf_given path InTable bytes answers is given = (refl, record { accepted = profile bytes is; served = refl; plain = cc })
  elf_given path InFile bytes answers is given = (refl, record { accepted = profile bytes is; served = refl; plain = cc })
  elf_given path InProcess bytes answers is given = cc

  batch_by : (target : FileTarget) (kind : AddressKind) (bytes : List ℕ) (answers : List Answer) → file_takes target kind ≡ true → answer_by target kind config addrs bytes ≡ Ok answers → Answered target kind bytes answers
  batch_by (Breakpad path) kind bytes answers taken given = (taken, by_read (table_in bytes) refl given)
    where
      by_read : (read : Option Table) → table_in bytes ≡ read → by_table (opts_in config) addrs read ≡ Ok answers → IsBatch (Breakpad path) kind config bytes addrs answers
      by_read None is read_is = cc
      by_read (Some table) is read_is = record { table = table; accepted = table_found bytes table is; plain = cc }
  batch_by (Gsym path) kind bytes answers taken given = (taken, by_test (is_gsym bytes) refl)
    where
      by_test : (formed : Bool) → is_gsym bytes ≡ formed → IsBatch (Gsym path) kind config bytes addrs answers
      by_test true is = let answered = rw is at given in record { accepted = passed bytes is; plain = cc }
      by_test false is = let refused = rw is at given in cc
  batch_by (Elf path) kind bytes answers taken given = by_test (format_test bytes) refl
    where
      by_test : (refusal : Option Error) → format_test bytes ≡ refusal → Answered (Elf path) kind bytes answers
      by_test None is = elf_given path kind bytes answers is (rw is at given)
      by_test (Some e) is = let refused = rw is at given in cc

  -- and bytes in the format do answer
  answers_by : (target : FileTarget) (kind : AddressKind) (bytes : List ℕ) → file_serves target kind ≡ true → IsVersion target bytes → (answers : List Answer) × (answer_by target kind config addrs bytes ≡ Ok answers)
  answers_by (Breakpad path) kind bytes served version = (batch version.0 (opts_in config) addrs, rw (table_again bytes version.0 version.1) refl)
  answers_by (Gsym path) kind bytes served version = (gsym_batch (opts_in config) bytes addrs, rw (passes bytes version) refl)
  answers_by (Elf path) kind bytes served version = (elf_batch path bytes kind addrs, rw (taken bytes version, served) refl)

  -- bytes that are answered are in the format
  version_by : (target : FileTarget) (kind : AddressKind) (bytes : List ℕ) (answers : List Answer) → IsBatch target kind config bytes addrs answers → IsVersion target bytes
  version_by (Breakpad path) kind bytes answers is = (is.table, is.accepted)
  version_by (Gsym path) kind bytes answers is = is.accepted
  version_by (Elf path) kind bytes answers is = is.accepted

  -- bytes are refused exactly where they aren't, or where they refuse the kind of address
  elf_refused : (path : List ℕ) (kind : AddressKind) (bytes : List ℕ) (e : Error) → format_test bytes ≡ None → cond {A = Result (List Answer) Error} (is_in_elf kind) (Ok (elf_batch path bytes kind addrs)) (Err errors.Unsupported) ≡ Err e →
      IsRefusalOf (Elf path) kind bytes e
  elf_refused path InTable bytes e is given = cc
  elf_refused path InFile bytes e is given = cc
  elf_refused path InProcess bytes e is given = inr (profile bytes is, refl, cc)

  refusal_by : (target : FileTarget) (kind : AddressKind) (bytes : List ℕ) (e : Error) → answer_by target kind config addrs bytes ≡ Err e → IsRefusalOf target kind bytes e
  refusal_by (Breakpad path) kind bytes e given = by_read (table_in bytes) refl given
    where
      by_read : (read : Option Table) → table_in bytes ≡ read → by_table (opts_in config) addrs read ≡ Err e → IsRefusalOf (Breakpad path) kind bytes e
      by_read None is read_is = (cc, λ table file. let read = table_again bytes table file in cc)
      by_read (Some table) is read_is = cc
  refusal_by (Gsym path) kind bytes e given = by_test (is_gsym bytes) refl
    where
      by_test : (formed : Bool) → is_gsym bytes ≡ formed → IsRefusalOf (Gsym path) kind bytes e
      by_test true is = let answered = rw is at given in cc
      by_test false is = let refused = rw is at given in (cc, λ formed. let passes_it = passes bytes formed in cc)
  refusal_by (Elf path) kind bytes e given = by_test (format_test bytes) refl
    where
      by_test : (refusal : Option Error) → format_test bytes ≡ refusal → IsRefusalOf (Elf path) kind bytes e
      by_test None is = elf_refused path kind bytes e is (rw is at given)
      by_test (Some refusal) is = let refused = rw is at given in inl (fails_first bytes checks e cc)

  refused_by : (target : FileTarget) (kind : AddressKind) (bytes : List ℕ) (e : Error) → IsRefusalOf target kind bytes e → answer_by target kind config addrs bytes ≡ Err e
  refused_by (Breakpad path) kind bytes e refusal = by_read (table_in bytes) refl
    where
      by_read : (read : Option Table) → table_in bytes ≡ read → by_table (opts_in config) addrs read ≡ Err e
      by_read None is = ap Err (sym refusal.0)
      by_read (Some table) is = absurd (refusal.1 table (table_found bytes table is))
  refused_by (Gsym path) kind bytes e refusal = by_test (is_gsym bytes) refl
    where
      by_test : (formed : Bool) → is_gsym bytes ≡ formed → gsym_answer (opts_in config) addrs bytes ≡ Err e
      by_test true is = absurd (refusal.1 (passed bytes is))
      by_test false is = rw is (ap Err (sym refusal.0))
  refused_by (Elf path) kind bytes e (inl refusal) = rw (refused_by_first bytes checks refusal.0 e refusal.1) refl
  refused_by (Elf path) kind bytes e (inr refusal) = rw (taken bytes refusal.0, refusal.1) (ap Err (sym refusal.2))

  -- the same of what lies at the source's path
  module _ (target : FileTarget) (kind : AddressKind) where
    batch_from_file : (answers : List Answer) (there : Option Entry) → file_takes target kind ≡ true → fresh_answer (answer_by target kind config addrs) there ≡ Ok answers →
        (file_serves target kind ≡ true) × HasFile (λ bytes. IsBatch target kind config bytes addrs answers) there
    batch_from_file answers None took given = cc
    batch_from_file answers (Some Denied) took given = cc
    batch_from_file answers (Some (Present stamp bytes)) took given =
        let answered = batch_by target kind bytes answers took given in
        (answered.0, record { stamp = stamp; bytes = bytes; present = refl; such = answered.1 })

    cause_from_file : (e : Error) (there : Option Entry) → fresh_answer (answer_by target kind config addrs) there ≡ Err e → IsFileCause (IsRefusalOf target kind) there e
    cause_from_file e None given = cc
    cause_from_file e (Some Denied) given = cc
    cause_from_file e (Some (Present stamp bytes)) given = refusal_by target kind bytes e given

    file_from_cause : (e : Error) (there : Option Entry) → IsFileCause (IsRefusalOf target kind) there e → fresh_answer (answer_by target kind config addrs) there ≡ Err e
    file_from_cause e None cause = ap Err (sym cause)
    file_from_cause e (Some Denied) cause = ap Err (sym cause)
    file_from_cause e (Some (Present stamp bytes)) cause = refused_by target kind bytes e cause

module _ (world : World) (own : ℕ) (addrs : List ℕ) where
  -- of a kind of address that is taken
  module _ (kind : AddressKind) (config : Config) where
    taken_found : (target : Target) (answers : List Answer) → takes target kind ≡ true → taken_answer target kind config addrs world own ≡ Ok answers →
        (serves target kind ≡ true) × AreAnswers target kind config world own addrs answers
    taken_found (OneFile file) answers took given = batch_from_file config addrs file kind answers (file_of file world) took given
    taken_found (OneProcess number) answers took given = (took, process_answered config number own addrs world answers given)

    taken_given : (target : Target) → serves target kind ≡ true → IsThere target world → (answers : List Answer) × (taken_answer target kind config addrs world own ≡ Ok answers)
    taken_given (OneFile file) served has = let given = answers_by config addrs file kind has.bytes served has.such in (given.0, rw has.present given.1)
    taken_given (OneProcess number) served has = process_answers config number own addrs world has

    is_there : (target : Target) (answers : List Answer) → AreAnswers target kind config world own addrs answers → IsThere target world
    is_there (OneFile file) answers has = record { stamp = has.stamp; bytes = has.bytes; present = has.present; such = version_by config addrs file kind has.bytes answers has.such }
    is_there (OneProcess number) answers has = record { stamp = has.stamp; bytes = has.bytes; present = has.present; such = has.such.tells }

    taken_cause : (target : Target) (e : Error) → taken_answer target kind config addrs world own ≡ Err e → IsTakenCause target kind world e
    taken_cause (OneFile file) e given = cause_from_file config addrs file kind e (file_of file world) given
    taken_cause (OneProcess number) e given = process_cause config number own addrs world e given

    taken_refused : (target : Target) (e : Error) → IsTakenCause target kind world e → taken_answer target kind config addrs world own ≡ Err e
    taken_refused (OneFile file) e cause = file_from_cause config addrs file kind e (file_of file world) cause
    taken_refused (OneProcess number) e cause = process_refused config number own addrs world e cause

  -- answers that are given are those of the target
  pub answers_found : (asking : Asking) (answers : List Answer) → answer_to asking addrs world own ≡ Ok answers → AnswersIn asking world own addrs answers
  answers_found asking answers given = by_taken (takes asking.target asking.kind) refl
    where
      by_taken : (took : Bool) → takes asking.target asking.kind ≡ took → AnswersIn asking world own addrs answers
      by_taken true is = let found = taken_found asking.kind asking.config asking.target answers is (rw is at given) in record { served = found.0; are = found.1 }
      by_taken false is = let refused = rw is at given in cc

  -- and a target that has answers is given some
  pub answers_given : (asking : Asking) → HasAnswers asking world → (answers : List Answer) × (answer_to asking addrs world own ≡ Ok answers)
  answers_given asking has =
      let given = taken_given asking.kind asking.config asking.target has.served has.there in
      (given.0, rw (kind_taken asking.target asking.kind has.served) given.1)

  -- where the target is answered, it has answers
  pub has_answers : (asking : Asking) (answers : List Answer) → AnswersIn asking world own addrs answers → HasAnswers asking world
  has_answers asking answers has = record { served = has.served; there = is_there asking.kind asking.config asking.target answers has.are }

  -- a target is refused exactly where it has the cause
  pub cause_found : (asking : Asking) (e : Error) → answer_to asking addrs world own ≡ Err e → IsCause asking world e
  cause_found asking e given = by_taken (takes asking.target asking.kind) refl
    where
      by_taken : (took : Bool) → takes asking.target asking.kind ≡ took → IsCause asking world e
      by_taken true is = inr (is, taken_cause asking.kind asking.config asking.target e (rw is at given))
      by_taken false is = let refused = rw is at given in inl (is, cc)

  pub refusal_given : (asking : Asking) (e : Error) → IsCause asking world e → answer_to asking addrs world own ≡ Err e
  refusal_given asking e (inl (untaken, same)) = rw untaken (ap Err (sym same))
  refusal_given asking e (inr (took, cause)) = rw took (taken_refused asking.kind asking.config asking.target e cause)
