use Rattle.std.proofs.Common.{arith}
use Rattle.std.proofs.lemmas.Bool.{ltb-true}
use Rattle.bz_breakpad_lines.proofs.StartLemmas.{texts_order}
use Rattle.bz_breakpad_lines.proofs.start_text.StartText.is_below.Goals as goal

pub returns-then-self-other : goal.returns-then-self-other
returns-then-self-other c less start other_start is others =
    texts_order start other_start c.args.self c.args.other is others (omega (arith, c.if-self-other.true)) (ltb-true c.args.self.key c.args.other.key less)
