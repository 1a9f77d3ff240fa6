use Rattle.std.proofs.Common.{◌≡◌, Ok, ◌-◌, Some, List, map, sym, ap, arith, ◌∙◌}
use Rattle.std.specs.Prelude.{reverse}
use Rattle.std.specs.Borrow.{Bor}
use Rattle.bz_base.specs.Answer.{Call, call_of, site_of}
use Rattle.bz_base.specs.Lent.{IsLentCall}
use Rattle.bz_base.proofs.ListLemmas.{all_and_one, all_reversed, map_reversed, reverse_one}
use Rattle.bz_base.proofs.SeenLemmas.{line_unknown, seen_none, seen_step}
use Rattle.bz_breakpad_table.specs.Kept.{kept_call}
use Rattle.bz_breakpad_function.specs.Locations.{by_seen}
use Rattle.bz_breakpad_table.specs.declared.types.CallRange.{CallRange}
use Rattle.bz_breakpad_function.proofs.locations.seen_from.Goals as goal

pub returns-in_default-clause-location : goal.returns-in_default-clause-location
returns-in_default-clause-location c table stands =
    let calls = map (λ (call : Bor CallRange). kept_call c.args.bytes.now call.now) c.args.calls.now in
    ap by_seen (line_unknown _ _ _ calls (c.in_default.ensures.site table stands))

pub returns-in_default-seen_outside-clause-location : goal.returns-in_default-seen_outside-clause-location
returns-in_default-seen_outside-clause-location c table stands =
    let view = λ (call : Bor CallRange). kept_call c.args.bytes.now call.now in
    let calls = c.args.calls.now in
    let inlined = reverse (map call_of c.loop-left.inlined.items) in
    let none = c.in_default-seen_outside.ensures.seen table inlined stands in
    ap by_seen (seen_none _ _ _ view (c.loop-left.left - 1) calls
    (seen_step _ _ _ view calls c.loop-left.left _ (site_of c.loop-left.site, inlined) (omega arith) c.loop-left.invariant.within (c.loop-left.invariant.seen table stands) ∙ sym none))

pub loop-left-preserved : goal.loop-left-preserved
loop-left-preserved c =
    let view = λ (call : Bor CallRange). kept_call c.args.bytes.now call.now in
    let calls = c.args.calls.now in
    let old = c.loop-left.inlined.items in
    let inlined = reverse (map call_of old) in
    record {
      within = omega (arith, c.loop-left.invariant.within);
      seen = λ table stands.
          seen_step _ _ _ view calls c.loop-left.left _ (site_of c.loop-left.site, inlined) (omega arith) c.loop-left.invariant.within (c.loop-left.invariant.seen table stands)
          ∙ sym (c.in-Some-seen_outside.ensures.seen table inlined stands)
          ∙ ap (λ (l : List Call). Some (site_of c.in-Some-seen_outside.outer, l)) (sym (ap (λ items. reverse (map call_of items)) c.in_ok-push.ensures.items ∙ reverse_one call_of old c.in-Some-seen_outside.call));
      site = c.in-Some-seen_outside.ensures.lent_site;
      calls = rw c.in_ok-push.ensures.items (all_and_one IsLentCall old c.in-Some-seen_outside.call c.loop-left.invariant.calls c.in-Some-seen_outside.ensures.lent_call);
    }

pub returns-clause-location : goal.returns-clause-location
returns-clause-location c table stands =
    let items = c.loop-left.inlined.items in
    let ended : c.loop-left.left ≡ 0 = omega arith in
    let seen = rw ended at (c.loop-left.invariant.seen table stands) in
    ap by_seen seen
    ∙ ap (λ (calls : List Call). Ok (record { site = Some (site_of c.loop-left.site); calls = calls })) (sym (ap (map call_of) c.reverse.ensures.items ∙ map_reversed call_of items))

pub returns-clause-lent : goal.returns-clause-lent
returns-clause-lent c = record {
  site = c.loop-left.invariant.site;
  calls = rw c.reverse.ensures.items (all_reversed IsLentCall c.loop-left.inlined.items c.loop-left.invariant.calls);
}
