use Rattle.std.proofs.Common.{◌<◌, length, subst, arith}
use Rattle.std.specs.Prelude.{slice_index}
use Rattle.std.proofs.lemmas.List.{get_or_default}
use Rattle.bz_breakpad.specs.Found.{IsRecordFor}
use Rattle.bz_breakpad.specs.declared.found.FoundRecord.TheVariants as found
use Rattle.bz_breakpad.proofs.lookups.FoundAddrs.answer_at.Goals as goal

pub returns-clause-answer : goal.returns-clause-answer
returns-clause-answer c table stands records =
    let all = c.args.self.now in
    let within : c.args.index < length all.found.now = omega (arith, c.requires.count, c.requires.within) in
    c.answer_from.ensures.answer table stands
    (subst (IsRecordFor table (slice_index all.addrs.now c.args.index)) (get_or_default all.found.now c.args.index found.Absent (found.Function 0) within)
    (records c.args.index c.requires.within))
