use Rattle.std.proofs.Common.{sym}
use Rattle.bz_breakpad.specs.Lent.{inlinee_seen}
use Rattle.bz_convert.proofs.ReachLemmas.{inside_none, inside_some, own_table}
use Rattle.bz_convert.proofs.calls.lies_inside.Goals as goal

pub returns-in-Some : goal.returns-in-Some
returns-in-Some c =
    let f = c.args.function.now in
    let reaches = c.args.reaches.now in
    let x = inlinee_seen c.args.call.now in
    inside_some f reaches c.requires x c.if-call-eq0.false c.in-Some.outer.now c.end_of-in-Some.result c.end_of-in-Some.ensures (sym (c.in-Some.ensures reaches (own_table f reaches c.requires x c.if-call-eq0.false)))

pub returns-in-None : goal.returns-in-None
returns-in-None c =
    let f = c.args.function.now in
    let reaches = c.args.reaches.now in
    let x = inlinee_seen c.args.call.now in
    inside_none f reaches c.requires x c.if-call-eq0.false (sym (c.in-None.ensures reaches (own_table f reaches c.requires x c.if-call-eq0.false)))
