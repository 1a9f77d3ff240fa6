use Rattle.std.proofs.Common.{◌∙◌, subst, sym}
use Rattle.std.proofs.lemmas.Result.{err_from_is_err_and}
use Rattle.bz_gsym.specs.InlineSeen.{visit_seen}
use Rattle.bz_gsym.specs.Refusal.{Refuses}
use Rattle.bz_gsym.proofs.InlineWalkLemmas.{root-alone, root-end, root-inside, root-missing}
use Rattle.bz_gsym.proofs.inline.InlineInfo.parse_inline_stack.Goals as goal

pub returns-in_default-clause-refusal : goal.returns-in_default-clause-refusal
returns-in_default-clause-refusal c =
    root-missing c.args.lookup_addr c.args.base_addr c.args.bytes.now (rw c.new-cursor.ensures.left at c.in_default.ensures.none)

pub returns-in_default-root-clause-ok : goal.returns-in_default-root-clause-ok
returns-in_default-root-clause-ok c =
    let is = rw (c.new-cursor.ensures.left, c.in_default-root.is) at c.in-Some.ensures.some in
    rw c.new-frames.ensures.items (root-end c.args.lookup_addr c.args.base_addr c.args.bytes.now c.visit.new.cursor.left is)

pub returns-in_default-inside-clause-ok : goal.returns-in_default-inside-clause-ok
returns-in_default-inside-clause-ok c =
    let is = rw (c.new-cursor.ensures.left, c.in-Some-root.is) at c.in-Some.ensures.some in
    rw (c.in_ok-keep_frame.ensures.frames, c.new-frames.ensures.items)
    (root-alone c.args.lookup_addr c.args.base_addr c.args.bytes.now c.visit.new.cursor.left (visit_seen c.in-Some-root.found) is c.in_default-inside.is)

pub returns-in_err-keep_inside-clause-refusal : goal.returns-in_err-keep_inside-clause-refusal
returns-in_err-keep_inside-clause-refusal c =
    let is = rw (c.new-cursor.ensures.left, c.in-Some-root.is) at c.in-Some.ensures.some in
    let same = err_from_is_err_and c.from_residual-in_err-keep_inside.result c.from_residual-in_err-keep_inside.ensures.1 in
    let front = rw c.new-frames.ensures.items at c.in_ok-keep_frame.ensures.frames in
    rw (same.1, same.2)
    (subst (λ read. Refuses read c.in_err-keep_inside.field-0.0)
    (sym (root-inside c.args.lookup_addr c.args.base_addr c.args.bytes.now c.visit.new.cursor.left (visit_seen c.in-Some-root.found) is c.in-Some-inside.children c.in-Some-inside.is _ front))
    c.in_err-keep_inside.ensures.refusal)

pub returns-clause-ok : goal.returns-clause-ok
returns-clause-ok c =
    let is = rw (c.new-cursor.ensures.left, c.in-Some-root.is) at c.in-Some.ensures.some in
    let front = rw c.new-frames.ensures.items at c.in_ok-keep_frame.ensures.frames in
    root-inside c.args.lookup_addr c.args.base_addr c.args.bytes.now c.visit.new.cursor.left (visit_seen c.in-Some-root.found) is c.in-Some-inside.children c.in-Some-inside.is _ front
    ∙ c.in_ok-keep_inside.ensures.ok
