use Rattle.std.proofs.Common.{refl}
use Rattle.bz_gsym_layout.proofs.PassTurns.{leaf_written, node_written}
use Rattle.bz_gsym_layout.proofs.calls.push_call.Goals as goal

pub returns-then-inside-clause-left : goal.returns-then-inside-clause-left
returns-then-inside-clause-left c t places view nodes index whole are at named goes before =
    let a = c.args in
    node_written t places view nodes index are a.node.now at a.name named a.out.now.items c.end_lists.new.out.items c.push_numbers.new.out.items whole a.outer.now.items c.end_lists.new.outer.items
    a.innermost c.in_ok-base.base a.inside c.in_ok-base.ensures.count (λ xs. c.in_ok-base.ensures.left t view a.node.now xs refl) c.in_ok-push_numbers.ensures.ok goes before
    c.if-inside.true c.push.new.self.items c.in_ok-push.ensures.items

pub returns-clause-left : goal.returns-clause-left
returns-clause-left c t places view nodes index whole are at named goes before =
    let a = c.args in
    leaf_written t places view nodes index are a.node.now at a.name named a.out.now.items c.end_lists.new.out.items c.push_numbers.new.out.items whole a.outer.now.items c.end_lists.new.outer.items
    a.innermost c.in_ok-base.base a.inside c.in_ok-base.ensures.count (λ xs. c.in_ok-base.ensures.left t view a.node.now xs refl) c.in_ok-push_numbers.ensures.ok goes before
    c.if-inside.false
