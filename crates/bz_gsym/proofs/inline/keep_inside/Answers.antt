use Rattle.std.proofs.Common.{◌∙◌, ap, arith, refl, reverse}
use Rattle.bz_gsym.specs.InlineSeen.{visit_seen}
use Rattle.bz_gsym.specs.Seen.{frames_seen}
use Rattle.bz_gsym.proofs.InlineWalkLemmas.{innermost, no_outer, turn-end, turn-missing, turn-node, turn-over, visit_at-shorter}
use Rattle.bz_gsym.proofs.inline.keep_inside.Goals as goal

pub loop-next-init : goal.loop-next-init
loop-next-init c = rw c.new-outer.ensures.items refl

pub returns-in_default-clause-refusal : goal.returns-in_default-clause-refusal
returns-in_default-clause-refusal c =
    let so_far = c.loop-next in
    turn-missing c.args.addr so_far.level (reverse so_far.outer.items) (frames_seen so_far.frames.items) so_far.cursor.left _ so_far.invariant c.in_default.ensures.none

pub loop-next-preserved-in-Some-next : goal.loop-next-preserved-in-Some-next
loop-next-preserved-in-Some-next c =
    let so_far = c.loop-next in
    let is = rw c.in-Some-next.is at c.in-Some.ensures.some in
    turn-node c.args.addr so_far.level (reverse so_far.outer.items) (frames_seen so_far.frames.items) so_far.cursor.left _ so_far.invariant c.visit.new.cursor.left
    (visit_seen c.in-Some-next.found) c.in_ok-level.level (reverse c.keep.new.outer.items) (frames_seen c.keep.new.frames.items) is c.in_ok-level.ensures.outer c.in_ok-level.ensures.frames

pub returns-in_default-pop-clause-ok : goal.returns-in_default-pop-clause-ok
returns-in_default-pop-clause-ok c =
    let so_far = c.loop-next in
    let is = rw c.in_default-next.is at c.in-Some.ensures.some in
    turn-over c.args.addr so_far.level (reverse so_far.outer.items) (frames_seen so_far.frames.items) so_far.cursor.left _ so_far.invariant c.visit.new.cursor.left is
    (no_outer so_far.outer.items (omega (arith, so_far.outer.ok, c.in_default-pop.ensures.cases.0)))

pub loop-next-preserved : goal.loop-next-preserved
loop-next-preserved c =
    let so_far = c.loop-next in
    let is = rw c.in_default-next.is at c.in-Some.ensures.some in
    turn-end c.args.addr so_far.level (reverse so_far.outer.items) (frames_seen so_far.frames.items) so_far.cursor.left _ so_far.invariant c.visit.new.cursor.left is _
    (ap reverse c.in-Some-pop.ensures.items ∙ innermost c.pop.new.self.items c.in-Some-pop.around)

pub loop-next-smaller : goal.loop-next-smaller
loop-next-smaller c = visit_at-shorter c.args.addr c.loop-next.level c.loop-next.cursor.left _ c.in-Some.ensures.some

pub loop-next-smaller-in-Some-next : goal.loop-next-smaller-in-Some-next
loop-next-smaller-in-Some-next c = visit_at-shorter c.args.addr c.loop-next.level c.loop-next.cursor.left _ c.in-Some.ensures.some
