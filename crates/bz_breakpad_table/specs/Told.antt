-- What the code keeps of the lines that it has passed, as the definitions have it.
use Rattle.bz_breakpad_lines.specs.Told.{context_told}
use Rattle.bz_breakpad_table.specs.Admitted as admitted
use Rattle.bz_breakpad_table.specs.declared.before.Before.{Before}

abbrev pub before_told : Before → admitted.Before
before_told b = record {
  context = context_told b.context;
  white_allowed = b.white_allowed;
  record_seen = b.record_seen;
}
