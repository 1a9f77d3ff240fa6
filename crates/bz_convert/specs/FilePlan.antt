-- When a plan is that of a file.
use Rattle.std.specs.Prelude.{◌≡◌, None}
use Rattle.bz_breakpad_lines.specs.Table.{Table}
use Rattle.bz_convert.specs.Fault.{fault_in}
use Rattle.bz_convert.specs.Plan.{plan}
use Rattle.bz_gsym_layout.specs.Indexed.{IsPlan, codes_of}
use Rattle.bz_gsym_layout.specs.declared.plan.Plan.{Plan}

-- a well formed plan says what is laid out of a file without a fault
pub record IsPlanOf (table : Table) (p : Plan) : Type 0 where
  pub clean : fault_in table ≡ None
  pub formed : IsPlan p
  pub codes : codes_of p ≡ plan table
