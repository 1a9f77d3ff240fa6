use Rattle.std.proofs.Common.{◌≡◌, ◌-◌, Some, List, map, sym, ap, arith, ◌∙◌}
use Rattle.std.specs.Prelude.{reverse}
use Rattle.bz_base.specs.Answer.{Call, call_of}
use Rattle.bz_base.specs.Lent.{IsLentCall}
use Rattle.bz_base.proofs.ListLemmas.{all_and_one, all_reversed, map_reversed, reverse_one}
use Rattle.bz_base.proofs.SeenLemmas.{line_unknown, seen_none, seen_step}
use Rattle.bz_gsym.specs.Joining.{at_site}
use Rattle.bz_gsym.specs.JoiningSeen.{line_seen}
use Rattle.bz_gsym.specs.Seen.{frame_seen, frames_seen}
use Rattle.bz_gsym.proofs.locations.seen_from.Goals as goal

pub returns-in_default-clause-refusal : goal.returns-in_default-clause-refusal
returns-in_default-clause-refusal c = line_unknown _ _ _ (frames_seen c.args.calls.now) c.in_default.ensures

pub returns-in_default-seen_outside-clause-refusal : goal.returns-in_default-seen_outside-clause-refusal
returns-in_default-seen_outside-clause-refusal c =
    let calls = c.args.calls.now in
    let inlined = reverse (map call_of c.loop-index.inlined.items) in
    seen_none _ _ _ frame_seen (c.loop-index.index - 1) calls
    (seen_step _ _ _ frame_seen calls c.loop-index.index _ (line_seen c.loop-index.site, inlined) (omega arith) c.loop-index.invariant.within c.loop-index.invariant.seen
    ∙ sym (c.in_default-seen_outside.ensures.seen inlined))

pub loop-index-preserved : goal.loop-index-preserved
loop-index-preserved c =
    let calls = c.args.calls.now in
    let old = c.loop-index.inlined.items in
    let inlined = reverse (map call_of old) in
    record {
      within = omega (arith, c.loop-index.invariant.within);
      seen =
          seen_step _ _ _ frame_seen calls c.loop-index.index _ (line_seen c.loop-index.site, inlined) (omega arith) c.loop-index.invariant.within c.loop-index.invariant.seen
          ∙ sym (c.in-Some-seen_outside.ensures.seen inlined)
          ∙ ap (λ (l : List Call). Some (line_seen c.in-Some-seen_outside.outer, l)) (sym (ap (λ items. reverse (map call_of items)) c.in_ok-push.ensures.items ∙ reverse_one call_of old c.in-Some-seen_outside.call));
      calls = rw c.in_ok-push.ensures.items (all_and_one IsLentCall old c.in-Some-seen_outside.call c.loop-index.invariant.calls c.in-Some-seen_outside.ensures.lent);
    }

pub returns-clause-ok : goal.returns-clause-ok
returns-clause-ok c =
    let items = c.loop-index.inlined.items in
    let ended : c.loop-index.index ≡ 0 = omega arith in
    let seen = rw ended at c.loop-index.invariant.seen in
    rw (seen, c.code_info.ensures.place)
    (ap (λ (calls : List Call). Some (at_site c.args.name.now (line_seen c.loop-index.site, calls))) (sym (ap (map call_of) c.reverse.ensures.items ∙ map_reversed call_of items)))

pub returns-clause-lent : goal.returns-clause-lent
returns-clause-lent c = record {
  site = c.code_info.ensures.lent;
  calls = rw c.reverse.ensures.items (all_reversed IsLentCall c.loop-index.inlined.items c.loop-index.invariant.calls);
}
