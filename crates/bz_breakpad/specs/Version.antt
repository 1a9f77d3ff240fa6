-- Breakpad files as versions of files: which refusal their bytes give.
use Rattle.std.specs.Prelude.{◌≡◌, ℕ, List, Option, Some, None}
use Rattle.std.proofs.Common.{subst}
use Rattle.bz_base.specs.Refusals.{IsFormatRefusal}
use Rattle.bz_base.specs.declared.error.Error.{Error}
use Rattle.bz_base.specs.declared.error.Error.TheVariants as errors
use Rattle.bz_breakpad_lines.specs.Reader.{table_in}
use Rattle.bz_breakpad_lines.specs.Table.{Table}

-- bytes with a table are in the format
abbrev pub refusal_of : Option Table → Option Error
refusal_of None = Some errors.InvalidInput
refusal_of (Some table) = None

-- which refusal the bytes give; none where they are a Breakpad file
abbrev pub format_test : List ℕ → Option Error
format_test bytes = refusal_of (table_in bytes)

refusal_by_table : (table : Option Table) (e : Error) → refusal_of table ≡ Some e → IsFormatRefusal e
refusal_by_table None e is = let same : errors.InvalidInput ≡ e = cc is in subst IsFormatRefusal same tt
refusal_by_table (Some table) e is = cc

-- that refusal is one of a format's
pub format_refusals : (bytes : List ℕ) (e : Error) → format_test bytes ≡ Some e → IsFormatRefusal e
format_refusals bytes e is = refusal_by_table (table_in bytes) e is
