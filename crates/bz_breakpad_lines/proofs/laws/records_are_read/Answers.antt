use Rattle.std.proofs.Common.{refl}
use Rattle.bz_breakpad_lines.specs.Records.{MODULE, INFO, FILE, INLINE_ORIGIN, PUBLIC, FUNC, STACK_WIN, STACK_CFI_INIT, STACK_CFI, LINE, INLINE, INNER_ORIGIN}
use Rattle.bz_breakpad_lines.proofs.FormLaws.{read_exactly}
use Rattle.bz_breakpad_lines.proofs.laws.records_are_read.Goals as goal

pub returns : goal.returns
returns c = record {
  «module» = read_exactly MODULE refl;
  info = read_exactly INFO refl;
  file = read_exactly FILE refl;
  inline_origin = read_exactly INLINE_ORIGIN refl;
  public = read_exactly PUBLIC refl;
  func = read_exactly FUNC refl;
  stack_win = read_exactly STACK_WIN refl;
  stack_cfi_init = read_exactly STACK_CFI_INIT refl;
  stack_cfi = read_exactly STACK_CFI refl;
  line = read_exactly LINE refl;
  inline = read_exactly INLINE refl;
  inner_origin = read_exactly INNER_ORIGIN refl;
}
