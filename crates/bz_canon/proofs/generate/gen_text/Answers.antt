use Rattle.std.proofs.Common.{arith, ap, ◌∙◌}
use Rattle.bz_canon.proofs.TextLemmas.{functions_more, functions_none}
use Rattle.bz_canon.proofs.generate.gen_text.Goals as goal

-- one function more
pub loop-i-preserved : goal.loop-i-preserved
loop-i-preserved c = functions_more c.loop-i.i _ _ _ (omega (arith, c.loop-i-test.true)) c.in_ok-push_function.ensures.ok c.loop-i.invariant

-- none is left
pub returns-clause-ok : goal.returns-clause-ok
returns-clause-ok c = ap (λ bytes. bytes.items) c.into_bytes.ensures.value ∙ functions_none c.loop-i.i _ _ (omega (arith, c.loop-i-test.false)) c.loop-i.invariant
