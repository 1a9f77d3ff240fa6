use Rattle.std.proofs.Common.{◌≡◌, [], ◌∷◌, ◌++◌, map, refl, ap, ◌∙◌}
use Rattle.std.proofs.lemmas.List.{map-append}
use Rattle.bz_breakpad_lines.specs.Records.{RANGE}
use Rattle.bz_breakpad_lines.specs.Told.{ranges_told, range_told}
use Rattle.bz_breakpad_lines.proofs.Kept.{kept_step, kept_last, kept_none, kept_smaller, none_left, some_left}
use Rattle.bz_breakpad_lines.proofs.record.read_ranges.Goals as goal

pub returns-then-is_empty : goal.returns-then-is_empty
returns-then-is_empty c =
    let all = c.loop-range.ranges in
    let kept : ranges_told c.push.new.self.items ≡ ranges_told all.items ++ range_told c.in-Some.range ∷ []
    = ap (map range_told) c.in_ok-push.ensures.items ∙ map-append range_told all.items (c.in-Some.range ∷ []) in
    rw kept (kept_last RANGE refl c.loop-range.rest.now (ranges_told all.items) (range_told c.in-Some.range) c.in-Some.after.now c.in-Some.ensures (none_left c.in-Some.after.now c.if-is_empty.ensures) ∙ c.loop-range.invariant)

pub loop-range-smaller : goal.loop-range-smaller
loop-range-smaller c = kept_smaller RANGE refl c.loop-range.rest.now [] (range_told c.in-Some.range) c.in-Some.after.now c.in-Some.ensures

pub loop-range-preserved : goal.loop-range-preserved
loop-range-preserved c =
    let all = c.loop-range.ranges in
    let kept : ranges_told c.push.new.self.items ≡ ranges_told all.items ++ range_told c.in-Some.range ∷ []
    = ap (map range_told) c.in_ok-push.ensures.items ∙ map-append range_told all.items (c.in-Some.range ∷ []) in
    rw kept (kept_step RANGE refl c.loop-range.rest.now (ranges_told all.items) (range_told c.in-Some.range) c.in-Some.after.now c.in-Some.ensures (some_left c.in-Some.after.now c.if-is_empty.ensures) ∙ c.loop-range.invariant)

pub returns : goal.returns
returns c = kept_none RANGE refl c.loop-range.rest.now (ranges_told c.loop-range.ranges.items) c.in_default.ensures ∙ c.loop-range.invariant
