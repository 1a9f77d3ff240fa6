use Rattle.std.proofs.Common.{arith}
use Rattle.bz_breakpad_lines.specs.Byte.{is_decimal}
use Rattle.bz_breakpad_lines.proofs.LaneLemmas.{run_by_bits}
use Rattle.bz_breakpad_lines.proofs.quick.Shown.dec_end.Goals as goal

pub returns-else-count-gt8 : goal.returns-else-count-gt8
returns-else-count-gt8 c =
    let are = c.requires.stops in
    let run = run_by_bits is_decimal c.args.self.stops.dec c.args.from are.shown c.args.self.text.now are.within are.few are.dec (omega arith) in
    (omega arith, omega arith, omega (arith, run.0), omega (arith, run.1))
