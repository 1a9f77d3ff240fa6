use Rattle.std.proofs.Common.{arith}
use Rattle.bz_breakpad_lines.specs.Byte.{is_hex}
use Rattle.bz_breakpad_lines.proofs.LaneLemmas.{run_by_bits}
use Rattle.bz_breakpad_lines.proofs.quick.Shown.hex_end.Goals as goal

pub returns-else-count-most : goal.returns-else-count-most
returns-else-count-most c =
    let are = c.requires.stops in
    let run = run_by_bits is_hex c.args.self.stops.hex c.args.from are.shown c.args.self.text.now are.within are.few are.hex (omega arith) in
    (omega arith, omega arith, omega (arith, run.0), omega (arith, run.1))
