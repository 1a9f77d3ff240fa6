use Rattle.std.proofs.Common.{◌==◌, not, drop, arith, length-drop}
use Rattle.std.proofs.lemmas.List.{take_rest}
use Rattle.bz_base.specs.Byte.{line_feed}
use Rattle.bz_breakpad_lines.specs.Byte.{is_hex, is_decimal}
use Rattle.bz_breakpad_lines.proofs.LaneLemmas.{bits_fit, bits_joined}
use Rattle.bz_breakpad_lines.proofs.lanes.Stops.at_front.Goals as goal

pub joined-requires-clause-front : goal.joined-requires-clause-front
joined-requires-clause-front c = omega (arith, bits_fit (λ b. not (is_hex b)) 32 c.args.text.now (omega (arith, c.requires)))

pub joined-requires-clause-more : goal.joined-requires-clause-more
joined-requires-clause-more c =
    let text = c.args.text.now in
    omega (arith, rw (take_rest text 32) at c.hex_stops-2.ensures, bits_fit (λ b. not (is_hex b)) 32 (drop 32 text) (omega (arith, c.requires, length-drop 32 text)))

pub joined-requires-2-clause-front : goal.joined-requires-2-clause-front
joined-requires-2-clause-front c = omega (arith, bits_fit (λ b. not (is_decimal b)) 32 c.args.text.now (omega (arith, c.requires)))

pub joined-requires-2-clause-more : goal.joined-requires-2-clause-more
joined-requires-2-clause-more c =
    let text = c.args.text.now in
    omega (arith, rw (take_rest text 32) at c.dec_stops-2.ensures, bits_fit (λ b. not (is_decimal b)) 32 (drop 32 text) (omega (arith, c.requires, length-drop 32 text)))

pub joined-requires-3-clause-front : goal.joined-requires-3-clause-front
joined-requires-3-clause-front c = omega (arith, bits_fit (λ b. b == line_feed) 32 c.args.text.now (omega (arith, c.requires)))

pub joined-requires-3-clause-more : goal.joined-requires-3-clause-more
joined-requires-3-clause-more c =
    let text = c.args.text.now in
    omega (arith, rw (take_rest text 32) at c.line_feeds-2.ensures, bits_fit (λ b. b == line_feed) 32 (drop 32 text) (omega (arith, c.requires, length-drop 32 text)))

pub returns : goal.returns
returns c =
    let text = c.args.text.now in
    record {
      shown = 64;
      within = c.requires;
      few = omega arith;
      hex = omega (arith, rw (take_rest text 32) at c.hex_stops-2.ensures, bits_joined (λ b. not (is_hex b)) 32 32 text (omega (arith, c.requires)));
      dec = omega (arith, rw (take_rest text 32) at c.dec_stops-2.ensures, bits_joined (λ b. not (is_decimal b)) 32 32 text (omega (arith, c.requires)));
      end = omega (arith, rw (take_rest text 32) at c.line_feeds-2.ensures, bits_joined (λ b. b == line_feed) 32 32 text (omega (arith, c.requires)));
    }
