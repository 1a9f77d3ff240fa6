-- What INLINE records say of their calls ("INLINE records" of docs/symbol_files.md among Breakpad's
-- sources).
use Rattle.std.specs.Prelude.{ℕ, List, drop, Option, option_map, unwrap_or}
use Rattle.bz_breakpad_lines.specs.Form.{Value}
use Rattle.bz_breakpad_lines.specs.Reads.{reads}
use Rattle.bz_breakpad_lines.specs.Records.{CALL}

-- the call of the INLINE record that the text begins with
abbrev pub call_in : List ℕ → Option (Value CALL)
call_in text = option_map (λ read. read.0) (reads CALL text)

-- what stands at a place where no INLINE record does
abbrev pub no_call : Value CALL
no_call = (0, (0, (0, (0, tt))))

-- the call of the INLINE record at a place
abbrev pub call_read : List ℕ → ℕ → Value CALL
call_read bytes place = unwrap_or (call_in (drop place bytes)) no_call
