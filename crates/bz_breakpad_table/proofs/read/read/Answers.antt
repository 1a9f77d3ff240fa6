use Rattle.bz_breakpad_lines.proofs.Kept.{none_left, some_left}
use Rattle.bz_breakpad_table.proofs.MidwayLemmas.{midway_front, reading_in-none}
use Rattle.bz_breakpad_table.proofs.read.read.Goals as goal

pub returns-then-is_empty-clause-refusal : goal.returns-then-is_empty-clause-refusal
returns-then-is_empty-clause-refusal c = reading_in-none c.args.text.now (none_left c.args.text.now c.if-is_empty.ensures)

pub loop-rest-init : goal.loop-rest-init
loop-rest-init c =
    let new = c.new-walk.ensures in
    midway_front c.args.text.now c.new-walk.result (some_left c.args.text.now c.if-is_empty.ensures) (new.walked c.args.text.now) new.context new.white_allowed
