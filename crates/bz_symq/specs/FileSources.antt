-- The sources that files are: the file of each format at a path.
use Rattle.std.specs.Prelude.{ℕ, List}
use Rattle.bz_breakpad.specs.Version as breakpad
use Rattle.bz_elf.specs.Format as elf
use Rattle.bz_gsym.specs.Version as gsym
use Rattle.bz_lookups.specs.Formats.{breakpad_answering, elf_answering, gsym_answering}
use Rattle.bz_symbolize.specs.Sources.{FileSource}

-- the Breakpad file at a path
abbrev pub breakpad_file : List ℕ → FileSource
breakpad_file path = record { test = breakpad.format_test; answering = breakpad_answering; path = path; cache = λ s. s.breakpad; with_cache = λ s c. record s { breakpad = c } }

-- the GSYM file at a path
abbrev pub gsym_file : List ℕ → FileSource
gsym_file path = record { test = gsym.format_test; answering = gsym_answering; path = path; cache = λ s. s.gsym; with_cache = λ s c. record s { gsym = c } }

-- the ELF file at a path
abbrev pub elf_file : List ℕ → FileSource
elf_file path = record { test = elf.format_test; answering = elf_answering; path = path; cache = λ s. s.elf; with_cache = λ s c. record s { elf = c } }
