-- Sources as plain data, field by field: a text by its bytes, whoever owns it.
use Rattle.std.specs.Prelude.{ℕ, Bool, List, string_bytes}
use Rattle.bz_symbolize.specs.declared.source.Gsym.{Gsym}
use Rattle.bz_symbolize.specs.declared.source.Gsym.TheVariants as gsyms
use Rattle.bz_symbolize.specs.declared.source.Process.{Process}
use Rattle.bz_symbolize.specs.declared.source.Source.{Source}
use Rattle.bz_symbolize.specs.declared.source.Source.TheVariants as sources

-- what a source is
pub data SourceRead : Type 0 where
  BreakpadAt : List ℕ → SourceRead  -- the Breakpad file at a path
  GsymAt : List ℕ → SourceRead  -- the GSYM file at a path
  GsymOf : List ℕ → SourceRead  -- these bytes as GSYM
  ElfAt : List ℕ → Bool → SourceRead  -- the ELF file at a path; whether debug symbols are looked for
  ProcessOf : Process → SourceRead  -- a process, and how it is asked

abbrev pub gsym_read : Gsym → SourceRead
gsym_read (gsyms.Data given) = GsymOf given.bytes.now
gsym_read (gsyms.File file) = GsymAt (string_bytes file.path)

abbrev pub source_read : Source → SourceRead
source_read (sources.Breakpad file) = BreakpadAt (string_bytes file.path)
source_read (sources.Gsym source) = gsym_read source
source_read (sources.Elf file) = ElfAt (string_bytes file.path) file.debug_syms
source_read (sources.Process source) = ProcessOf source
