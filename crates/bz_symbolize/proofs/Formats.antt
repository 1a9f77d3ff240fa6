-- What the format of each source means in the words of its subject.
use Rattle.std.proofs.Common.{◌≡◌, ℕ, Bool, true, false, List, Option, Some, None, Result, Ok, Err, refl, inl, ap}
use Rattle.bz_base.specs.declared.error.Error.{Error}
use Rattle.bz_base.specs.declared.types.FindSymOpts.{FindSymOpts}
use Rattle.bz_files.specs.World.{World}
use Rattle.bz_breakpad.specs.Grammar.{IsFile}
use Rattle.bz_breakpad.specs.Reader.{table_in}
use Rattle.bz_breakpad.specs.Table.{Table}
use Rattle.bz_breakpad.specs.Version.{format_test, refusal_of}
use Rattle.bz_elf.proofs.ProfileLaws as profiles
use Rattle.bz_gsym.specs.Tables.{IsGsym, is_gsym}
use Rattle.bz_gsym.specs.Version as gsym
use Rattle.bz_gsym.proofs.FormatLemmas.{in_format, passed}
use Rattle.bz_lookups.proofs.HeldLemmas.{comes_given, on_ok}
use Rattle.bz_lookups.specs.Formats.{HandedSource, breakpad_single, handed_answer}
use Rattle.bz_symbolize.proofs.PromiseLemmas.{IsFormatOf}
use Rattle.bz_symbolize.proofs.Tables.{table_found, table_again}
use Rattle.bz_symbolize.specs.FileCall.{Query, Leaves}
use Rattle.bz_base.specs.Answer.{Gives}
use Rattle.bz_base.specs.declared.error.Error.TheVariants as errors
use Rattle.bz_symbolize.specs.Promise.{CallTold, IsBreakpadAnswer}
use Rattle.bz_process.specs.declared.query.ProcessQuery.{ProcessQuery}
use Rattle.bz_symbolize.specs.Sources.{FileSource, SourceForm, OneFile, Handed, OneProcess, form_of, OnFileForm, OnFile, OnHandedForm, OnHanded, OnProcessForm, OnProcess, UnlessProcessForm, UnlessProcess, query_in}
use Rattle.bz_symbolize.specs.State.{State}
use Rattle.bz_symbolize.specs.declared.source.Source.{Source}
use Rattle.bz_symbolize.specs.declared.source.Source.TheVariants as sources
use Rattle.bz_symbolize.specs.declared.source.Gsym.TheVariants as gsyms

-- what a Breakpad file answers is what the table that its grammar accepts does
breakpad_meant : {B : Type 0} (query : Query B) (opts : FindSymOpts) (bytes : List ℕ) → format_test bytes ≡ None →
    IsBreakpadAnswer opts bytes query (query.given (λ addr. breakpad_single opts (table_in bytes) addr))
breakpad_meant query opts bytes = by_read (table_in bytes) refl
  where
    by_read : (read : Option Table) → table_in bytes ≡ read → refusal_of read ≡ None → IsBreakpadAnswer opts bytes query (query.given (λ addr. breakpad_single opts read addr))
    by_read None is formed = cc
    by_read (Some table) is formed = record { table = table; accepted = table_found bytes table is; plain = refl }

breakpad_formed : (bytes : List ℕ) (table : Table) → IsFile bytes table → format_test bytes ≡ None
breakpad_formed bytes table is = rw (table_again bytes table is) refl

-- bytes that no refusal of GSYM's is given to are a GSYM file
gsym_accepted : (bytes : List ℕ) → gsym.format_test bytes ≡ None → IsGsym bytes
gsym_accepted bytes formed = by_test (is_gsym bytes) refl
  where
    by_test : (b : Bool) → is_gsym bytes ≡ b → IsGsym bytes
    by_test true is = passed bytes is
    by_test false is = let refused = rw is at formed in cc

-- each source that is one file keeps the laws of its format
is_format : {B : Type 0} (query : Query B) (source : Source) → OnFile source (IsFormatOf query source)
is_format query (sources.Breakpad source) = record {
  same = λ s. refl;
  formed = λ bytes version. breakpad_formed bytes version.0 version.1;
  consistent = λ s well. well.breakpad.consistent;
  answers = λ opts bytes formed served. breakpad_meant query opts bytes formed;
}
is_format query (sources.Gsym (gsyms.File source)) = record {
  same = λ s. refl;
  formed = λ bytes version. in_format bytes version;
  consistent = λ s well. well.gsym.consistent;
  answers = λ opts bytes formed served. record { accepted = gsym_accepted bytes formed; plain = refl };
}
is_format query (sources.Elf source) = record {
  same = λ s. refl;
  formed = λ bytes version. profiles.taken bytes version;
  consistent = λ s well. well.elf.consistent;
  answers = λ opts bytes formed served. record { accepted = profiles.profile bytes formed; served = served; plain = refl };
}
is_format query (sources.Gsym (gsyms.Data source)) = tt
is_format query (sources.Process source) = tt

by_form : (form : SourceForm) {P Q R : FileSource → Type 0} → OnFileForm form P → OnFileForm form Q → ((file : FileSource) → P file → Q file → R file) → OnFileForm form R
by_form (OneFile file) p q f = f file p q
by_form (Handed given) p q f = tt
by_form (OneProcess asked) p q f = tt

-- from a fact of the file of a source to another, by the laws of its format
pub on_file : {B : Type 0} (query : Query B) (source : Source) {P Q : FileSource → Type 0} → OnFile source P →
    ((file : FileSource) → IsFormatOf query source file → P file → Q file) → OnFile source Q
on_file query source holds f = by_form (form_of source) (is_format query source) holds f

by_any : (form : SourceForm) {Q : FileSource → Type 0} → ((file : FileSource) → Q file) → OnFileForm form Q
by_any (OneFile file) f = f file
by_any (Handed given) f = tt
by_any (OneProcess asked) f = tt

-- what holds of any file holds of that of a source
pub any_file : (source : Source) {Q : FileSource → Type 0} → ((file : FileSource) → Q file) → OnFile source Q
any_file source f = by_any (form_of source) f

by_each : {I : Type 0} (form : SourceForm) (P : I → FileSource → Type 0) → ((i : I) → OnFileForm form (P i)) → OnFileForm form (λ file. (i : I) → P i file)
by_each (OneFile file) P holds = holds
by_each (Handed given) P holds = tt
by_each (OneProcess asked) P holds = tt

by_laws : (form : SourceForm) {P Q : FileSource → Type 0} → OnFileForm form P → ((file : FileSource) → P file → Q file) → OnFileForm form Q
by_laws (OneFile file) p f = f file p
by_laws (Handed given) p f = tt
by_laws (OneProcess asked) p f = tt

-- a fact of the file of a source, by the laws of its format for each of many queries
pub on_each : {I B : Type 0} (query : I → Query B) (source : Source) {Q : FileSource → Type 0} → ((file : FileSource) → ((i : I) → IsFormatOf (query i) source file) → Q file) → OnFile source Q
on_each query source f = by_laws (form_of source) (by_each (form_of source) (λ i file. IsFormatOf (query i) source file) (λ i. is_format (query i) source)) f

-- two facts of the file of a source
pub both : (source : Source) (P Q : FileSource → Type 0) → OnFile source P → OnFile source Q → OnFile source (λ file. P file × Q file)
both source P Q p q = by_form (form_of source) p q (λ file here there. (here, there))

-- a call that leaves all as it is, where nothing else is expected
leaves_same : {A S : Type 0} (result : Result A Error) (old now : S) → now ≡ old → Leaves result old old now
leaves_same (Ok given) old now same = same
leaves_same (Err errors.ReadFault) old now same = same
leaves_same (Err errors.OutOfMemory) old now same = inl same
leaves_same (Err _) old now same = same

-- what a call on one file, or on handed-in bytes, is as a call by its form of source
pub told_by_form : {A B : Type 0} (reading : A → B) (opts : FindSymOpts) (form : SourceForm) (query : Query B) (result : Result A Error) (old now : State) (world : World) (before after : ℕ) →
    OnFileForm form (λ file. CallTold reading opts (OneFile file) query result old now world before after) →
    OnHandedForm form (λ given. Gives reading (handed_answer given opts query) result × (now ≡ old) × (after ≡ before)) →
    UnlessProcessForm form (CallTold reading opts form query result old now world before after)
told_by_form reading opts (OneFile file) query result old now world before after told handed = told
told_by_form reading opts (Handed given) query result old now world before after told handed =
    record { answer = comes_given reading _ result handed.0; state = leaves_same result old now handed.1; opened = on_ok result handed.2; spared = λ closed. handed.2 }
told_by_form reading opts (OneProcess asked) query result old now world before after told handed = tt

by_unless : (form : SourceForm) {P Q : Type 0} → UnlessProcessForm form P → (P → Q) → UnlessProcessForm form Q
by_unless (OneFile file) p f = f p
by_unless (Handed given) p f = f p
by_unless (OneProcess asked) p f = tt

-- a fact of a call to another, where its source is no process
pub unless_process : (source : Source) {P Q : Type 0} → UnlessProcess source P → (P → Q) → UnlessProcess source Q
unless_process source p f = by_unless (form_of source) p f

-- a source that is asked as a process is one
pub form_asked : (form : SourceForm) (query : ProcessQuery) → query_in form ≡ Some query → form ≡ OneProcess query
form_asked (OneFile file) query is = cc
form_asked (Handed given) query is = cc
form_asked (OneProcess asked) query is = let same : asked ≡ query = cc is in ap OneProcess same

by_any_process : (form : SourceForm) {P : ProcessQuery → Type 0} → ((query : ProcessQuery) → P query) → OnProcessForm form P
by_any_process (OneFile file) f = tt
by_any_process (Handed given) f = tt
by_any_process (OneProcess query) f = f query

-- what holds of any process holds of that of a source
pub any_process : (source : Source) {P : ProcessQuery → Type 0} → ((query : ProcessQuery) → P query) → OnProcess source P
any_process source f = by_any_process (form_of source) f

-- a fact of handed-in bytes to another
by_handed : (form : SourceForm) {P Q : HandedSource → Type 0} → OnHandedForm form P → ((given : HandedSource) → P given → Q given) → OnHandedForm form Q
by_handed (OneFile file) p f = tt
by_handed (Handed given) p f = f given p
by_handed (OneProcess asked) p f = tt

pub on_handed : (source : Source) {P Q : HandedSource → Type 0} → OnHanded source P → ((given : HandedSource) → P given → Q given) → OnHanded source Q
on_handed source p f = by_handed (form_of source) p f
