use Rattle.std.proofs.Common.{◌≡◌, ◌/◌, ◌^◌, ap, arith}
use Rattle.std.proofs.Math.Nat.{div-one}
use lib.Count.{count_trailing_zeros}
use Rattle.bz_breakpad_lines.specs.Byte.{is_hex}
use Rattle.bz_breakpad_lines.proofs.LaneLemmas.{run_by_bits}
use Rattle.bz_breakpad_lines.proofs.lanes.few_hex.Goals as goal

pub returns-else-digits-gt8 : goal.returns-else-digits-gt8
returns-else-digits-gt8 c =
    let hex = c.hex_stops-digits.result in
    let count : count_trailing_zeros 64 (hex / 2 ^ 0) ≡ count_trailing_zeros 64 hex = ap (count_trailing_zeros 64) (div-one hex) in
    let run = run_by_bits is_hex hex 0 32 c.args.text.now c.requires (omega arith) c.hex_stops-digits.ensures (omega (arith, count)) in
    (omega arith, omega arith, omega (arith, run.0, count), omega (arith, run.1, count))
