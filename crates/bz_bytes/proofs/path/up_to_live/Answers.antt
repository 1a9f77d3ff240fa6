use Rattle.std.proofs.Common.{◌∙◌, arith, rules}
use Rattle.bz_bytes.proofs.PathLemmas.{cut_live, cut_rooted, cut_shorter}
use Rattle.bz_bytes.proofs.path.up_to_live.Goals as goal

pub loop-front-preserved : goal.loop-front-preserved
loop-front-preserved c =
    let before = c.loop-front.invariant in
    let cut = c.in-Some.ensures.some in
    record {
      utf8 = search rules;
      live = cut_live c.loop-front.kept.now c.in-Some.front.now cut ∙ before.live;
      rooted = λ some.
          cut_rooted c.loop-front.kept.now c.in-Some.front.now cut some
          ∙ before.rooted (omega (arith, cut_shorter c.loop-front.kept.now c.in-Some.front.now cut));
    }
