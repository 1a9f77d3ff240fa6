use Rattle.std.proofs.Common.{sym, arith}
use Rattle.bz_breakpad_lines.proofs.AtPlaceLemmas.{no_call_past}
use Rattle.bz_breakpad_lines.proofs.at_place.call_from.Goals as goal

pub returns-in_err-text : goal.returns-in_err-text
returns-in_err-text c = rw c.from_residual.ensures (sym (no_call_past c.args.bytes.now c.args.place (grind (arith, c.in_err-text.ensures.lookup))))
