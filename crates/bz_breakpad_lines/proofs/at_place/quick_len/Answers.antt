use Rattle.std.proofs.Common.{◌==◌, sym, arith}
use Rattle.bz_base.specs.Byte.{line_feed}
use Rattle.bz_breakpad_lines.proofs.LaneLemmas.{none_by_bits}
use Rattle.bz_breakpad_lines.proofs.at_place.quick_len.Goals as goal

pub returns-then-len-lt32-clause-value : goal.returns-then-len-lt32-clause-value
returns-then-len-lt32-clause-value c =
    sym (none_by_bits (λ b. b == line_feed) _ 32 c.args.text.now (omega arith) (omega arith) c.line_feeds.ensures (omega arith)).1
