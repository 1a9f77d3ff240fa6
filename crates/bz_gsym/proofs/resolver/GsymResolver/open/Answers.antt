use Rattle.std.proofs.lemmas.Result.{err_from_is_err_and}
use Rattle.bz_files.specs.World.{entry_at}
use Rattle.bz_gsym.proofs.FormatLemmas.{opens, opens_not}
use Rattle.bz_gsym.proofs.resolver.GsymResolver.open.Goals as goal

pub returns-in_err-table-clause-answer : goal.returns-in_err-table-clause-answer
returns-in_err-table-clause-answer g c world view =
    let there = c.in_ok-bytes.ensures.answer world view in
    let same = err_from_is_err_and c.from_residual-in_err-table.result c.from_residual-in_err-table.ensures.1 in
    rw (same.1, same.2) (opens_not there.1 c.in_ok-bytes.bytes.items there.0 (entry_at world c.args.path.now) there.2 there.3 c.in_err-table.field-0.0 c.in_err-table.ensures.refusal)

pub returns-clause-answer : goal.returns-clause-answer
returns-clause-answer g c world view =
    let there = c.in_ok-bytes.ensures.answer world view in
    rw c.in_ok-table.ensures.ok (opens there.1 c.in_ok-bytes.bytes.items there.0 (entry_at world c.args.path.now) there.2 there.3 c.in_ok-table.ensures.accepted)
