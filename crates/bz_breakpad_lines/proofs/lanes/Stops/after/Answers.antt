use Rattle.std.proofs.Common.{◌-◌, ◌==◌, not, arith, length-drop}
use Rattle.bz_base.specs.Byte.{line_feed}
use Rattle.bz_breakpad_lines.specs.Byte.{is_hex, is_decimal}
use Rattle.bz_breakpad_lines.proofs.LaneLemmas.{front_bits}
use Rattle.bz_breakpad_lines.proofs.lanes.Stops.after.Goals as goal

pub returns : goal.returns
returns c text are =
    let stops = c.args.self in
    let len = c.args.len in
    record {
      shown = are.shown - len;
      within = omega (arith, are.within, length-drop len text);
      few = omega (arith, are.few);
      hex = front_bits (λ b. not (is_hex b)) stops.hex len are.shown text are.hex;
      dec = front_bits (λ b. not (is_decimal b)) stops.dec len are.shown text are.dec;
      end = front_bits (λ b. b == line_feed) stops.end len are.shown text are.end;
    }
