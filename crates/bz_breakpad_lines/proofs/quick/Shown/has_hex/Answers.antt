use Rattle.std.proofs.Common.{◌≡◌, ◌/◌, ◌^◌, ap, ◌∙◌, arith}
use Rattle.std.proofs.Math.Nat.{div-one}
use Rattle.std.proofs.lemmas.Bool.{eqb-true}
use lib.Count.{count_trailing_zeros}
use Rattle.bz_breakpad_lines.specs.Byte.{is_hex}
use Rattle.bz_breakpad_lines.proofs.LaneLemmas.{run_by_bits}
use Rattle.bz_breakpad_lines.proofs.quick.Shown.has_hex.Goals as goal

pub returns : goal.returns
returns c same =
    let are = c.requires.stops in
    let hex = c.args.self.stops.hex in
    let count : count_trailing_zeros 64 (hex / 2 ^ 0) ≡ c.args.digits = ap (count_trailing_zeros 64) (div-one hex) ∙ eqb-true (count_trailing_zeros 64 hex) c.args.digits same in
    let run = run_by_bits is_hex hex 0 are.shown c.args.self.text.now are.within are.few are.hex (omega (arith, count)) in
    (omega (arith, run.0, count), omega (arith, run.1, count))
