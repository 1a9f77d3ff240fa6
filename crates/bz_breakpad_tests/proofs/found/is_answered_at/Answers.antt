use Rattle.std.proofs.Common.{◌<◌, length, subst, arith}
use Rattle.std.specs.Prelude.{slice_index}
use Rattle.std.proofs.lemmas.List.{get_or_default}
use Rattle.bz_breakpad.specs.Found.{IsRecordFor}
use Rattle.bz_breakpad.specs.declared.found.FoundRecord.TheVariants as found
use Rattle.bz_breakpad_tests.proofs.found.is_answered_at.Goals as goal

-- the record of the index answers for the address there
pub answer_by-requires : goal.answer_by-requires
answer_by-requires c =
    let records = c.args.found.now in
    let within : c.args.index < length records = omega (arith, c.requires.count, c.requires.within) in
    record {
      «record» = λ table is.
          subst (IsRecordFor table (slice_index c.args.addrs.now c.args.index)) (get_or_default records c.args.index found.Absent (found.Function 0) within)
          (c.requires.records table is c.args.index c.requires.within);
    }
