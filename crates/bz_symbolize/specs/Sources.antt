-- Sources as data: their formats, and which cache of a symbolizer keeps the source's file.
use Rattle.std.specs.Prelude.{ℕ, List, Option, Some, None, string_bytes}
use Rattle.bz_base.specs.declared.error.Error.{Error}
use Rattle.bz_base.specs.declared.types.FindSymOpts.{FindSymOpts}
use Rattle.bz_cache.specs.Cache.{Cache}
use Rattle.bz_breakpad.specs.Version.{format_test}
use Rattle.bz_elf.specs.Format as elf_format
use Rattle.bz_gsym.specs.Version as gsym_version
use Rattle.bz_lookups.specs.Formats.{HandedSource, breakpad_answering, elf_answering, gsym_answering, gsym_handed}
use Rattle.bz_process.specs.declared.query.ProcessQuery.{ProcessQuery}
use Rattle.bz_symbolize.specs.FileCall.{Answering, Query, Question, query_asked}
use Rattle.bz_symbolize.specs.State.{State}
use Rattle.bz_symbolize.specs.declared.source.Process.{Process}
use Rattle.bz_symbolize.specs.declared.source.Source.{Source}
use Rattle.bz_symbolize.specs.declared.source.Source.TheVariants as sources
use Rattle.bz_symbolize.specs.declared.source.Gsym.TheVariants as gsyms

-- a source that is one file in one cache
pub record FileSource : Type 0 where
  -- its format: which refusal bytes give, and what a version answers
  pub test : List ℕ → Option Error
  pub answering : Answering
  pub path : List ℕ
  -- the cache that keeps it, and the state with another cache in its place
  pub cache : State → Cache
  pub with_cache : State → Cache → State

-- what a query asks of the source's file
abbrev pub asked_of : {B : Type 0} → FileSource → FindSymOpts → Query B → Question B
asked_of file opts query = query_asked file.test file.answering opts file.path query

-- how a process that is a source is asked
abbrev pub process_query : Process → ProcessQuery
process_query source = record { pid = source.pid; perf_map = source.perf_map; map_files = source.map_files }

-- the forms that a source may have
pub data SourceForm : Type 0 where
  OneFile : FileSource → SourceForm
  Handed : HandedSource → SourceForm
  OneProcess : ProcessQuery → SourceForm

-- the form of each source
abbrev pub form_of : Source → SourceForm
form_of (sources.Breakpad source) = OneFile (record {
  test = format_test;
  answering = breakpad_answering;
  path = string_bytes source.path;
  cache = λ s. s.breakpad;
  with_cache = λ s c. record s { breakpad = c };
})
form_of (sources.Gsym (gsyms.File source)) = OneFile (record {
  test = gsym_version.format_test;
  answering = gsym_answering;
  path = string_bytes source.path;
  cache = λ s. s.gsym;
  with_cache = λ s c. record s { gsym = c };
})
form_of (sources.Elf source) = OneFile (record {
  test = elf_format.format_test;
  answering = elf_answering;
  path = string_bytes source.path;
  cache = λ s. s.elf;
  with_cache = λ s c. record s { elf = c };
})
form_of (sources.Gsym (gsyms.Data source)) = Handed (gsym_handed source.bytes.now)
form_of (sources.Process source) = OneProcess (process_query source)

-- a fact of the file of a source that is one
abbrev pub OnFileForm : SourceForm → (FileSource → Type 0) → Type 0
OnFileForm (OneFile file) P = P file
OnFileForm (Handed given) P = Unit {0}
OnFileForm (OneProcess query) P = Unit {0}

-- the same of a source
abbrev pub OnFile : Source → (FileSource → Type 0) → Type 0
OnFile source P = OnFileForm (form_of source) P

-- a fact of a source that is bytes handed in
abbrev pub OnHandedForm : SourceForm → (HandedSource → Type 0) → Type 0
OnHandedForm (OneFile file) P = Unit {0}
OnHandedForm (Handed given) P = P given
OnHandedForm (OneProcess query) P = Unit {0}

-- the same of a source
abbrev pub OnHanded : Source → (HandedSource → Type 0) → Type 0
OnHanded source P = OnHandedForm (form_of source) P

-- a fact of a source that is a process
abbrev pub OnProcessForm : SourceForm → (ProcessQuery → Type 0) → Type 0
OnProcessForm (OneFile file) P = Unit {0}
OnProcessForm (Handed given) P = Unit {0}
OnProcessForm (OneProcess query) P = P query

-- the same of a source
abbrev pub OnProcess : Source → (ProcessQuery → Type 0) → Type 0
OnProcess source P = OnProcessForm (form_of source) P

-- a fact of a call whose source is no process
abbrev pub UnlessProcessForm : SourceForm → Type 0 → Type 0
UnlessProcessForm (OneFile file) P = P
UnlessProcessForm (Handed given) P = P
UnlessProcessForm (OneProcess query) P = Unit {0}

-- the same by its source
abbrev pub UnlessProcess : Source → Type 0 → Type 0
UnlessProcess source P = UnlessProcessForm (form_of source) P

-- how a process is asked, where the form is one
abbrev pub query_in : SourceForm → Option ProcessQuery
query_in (OneFile file) = None
query_in (Handed given) = None
query_in (OneProcess query) = Some query
