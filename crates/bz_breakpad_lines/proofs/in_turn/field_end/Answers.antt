use Rattle.std.proofs.Common.{arith}
use Rattle.bz_breakpad_lines.proofs.FieldEndLemmas.{field_is, later_are, some_set}
use Rattle.bz_breakpad_lines.proofs.in_turn.field_end.Goals as goal

pub overflow_sub-result : goal.overflow_sub-result
overflow_sub-result c = omega (arith, some_set c.args.stops c.args.from (omega arith) (omega arith))

pub returns-clause-field : goal.returns-clause-field
returns-clause-field c text are = field_is text c.args.from c.args.stops (omega arith) (omega arith) (omega arith) are

pub returns-clause-later : goal.returns-clause-later
returns-clause-later c text are = later_are text c.args.from c.args.stops (omega arith) (omega arith) (omega arith) are
