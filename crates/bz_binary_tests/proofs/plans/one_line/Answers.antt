use Rattle.std.proofs.Common.{ap, length, map, refl}
use Rattle.bz_binary_tests.proofs.PlanLemmas.{one_line_is, pushed}
use Rattle.bz_binary_tests.proofs.plans.one_line.Goals as goal

pub returns : goal.returns
returns c =
    one_line_is _ _ (ap (map (λ text. text.now)) c.in_ok-texts.ensures.items) (ap length c.in_ok-texts.ensures.items) c.in_ok-sources.ensures.items
    (pushed _ _ _ c.new-functions.ensures.items c.in_ok-push.ensures.items) refl refl refl c.in_ok-rows.ensures.items c.new-calls.ensures.items
