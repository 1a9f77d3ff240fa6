-- What holds by the form of a source.
use Rattle.std.proofs.Common.{◌≡◌, true, false, is_some, refl, subst}
use Rattle.bz_process.specs.declared.query.ProcessQuery.{ProcessQuery}
use Rattle.bz_symbolize.specs.Sources.{FileSource, OnFileForm, OnProcessForm, SourceForm, UnlessProcessForm, OneFile, Handed, OneProcess, query_in}

-- what follows of each file, follows of the file of a source
pub on_file_by : (form : SourceForm) {P Q : FileSource → Type 0} → ((file : FileSource) → P file → Q file) → OnFileForm form P → OnFileForm form Q
on_file_by (OneFile file) follows holds = follows file holds
on_file_by (Handed given) follows holds = tt
on_file_by (OneProcess query) follows holds = tt

-- and of each process, of the process that a source is
pub on_process_by : (form : SourceForm) {P Q : ProcessQuery → Type 0} → ((query : ProcessQuery) → P query → Q query) → OnProcessForm form P → OnProcessForm form Q
on_process_by (OneFile file) follows holds = tt
on_process_by (Handed given) follows holds = tt
on_process_by (OneProcess query) follows holds = follows query holds

-- and of other sources
pub unless_process_by : (form : SourceForm) {P Q : Type 0} → (P → Q) → UnlessProcessForm form P → UnlessProcessForm form Q
unless_process_by (OneFile file) follows holds = follows holds
unless_process_by (Handed given) follows holds = follows holds
unless_process_by (OneProcess query) follows holds = tt

-- what holds, holds also where the source is no process
pub unless_any_process : (form : SourceForm) {P : Type 0} → P → UnlessProcessForm form P
unless_any_process (OneFile file) holds = holds
unless_any_process (Handed given) holds = holds
unless_any_process (OneProcess query) holds = tt

-- a form with no query is no process
pub never_process : (form : SourceForm) → is_some (query_in form) ≡ false → OnProcessForm form (λ query. ⊥)
never_process (OneFile file) none = tt
never_process (Handed given) none = tt
never_process (OneProcess query) none = cc

-- and one with a query is one
pub is_process : (form : SourceForm) → is_some (query_in form) ≡ true → (query : ProcessQuery) × (form ≡ OneProcess query)
is_process (OneFile file) some = cc
is_process (Handed given) some = cc
is_process (OneProcess query) some = (query, refl)

-- what holds of the process that a source is
pub of_process : (P : ProcessQuery → Type 0) (form : SourceForm) (query : ProcessQuery) → form ≡ OneProcess query → OnProcessForm form P → P query
of_process P form query is holds = subst (λ (f : SourceForm). OnProcessForm f P) is holds
