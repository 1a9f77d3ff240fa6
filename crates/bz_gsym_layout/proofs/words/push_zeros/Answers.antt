use Rattle.bz_gsym_layout.proofs.ZeroLemmas.{zeros_more}
use Rattle.bz_gsym_layout.proofs.words.push_zeros.Goals as goal

pub loop-preserved : goal.loop-preserved
loop-preserved c =
    zeros_more c.push.new.self.items c.loop.out.items c.args.out.now.items c.loop.counter c.in_ok-push.ensures.items c.loop.invariant
