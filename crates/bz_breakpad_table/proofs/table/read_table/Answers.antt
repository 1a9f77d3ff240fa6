use Rattle.std.proofs.Common.{subst}
use Rattle.bz_breakpad_table.specs.Publics.{IsPublicTable}
use Rattle.bz_breakpad_table.proofs.FinishLemmas.{accepted_of, kept_of}
use Rattle.bz_breakpad_table.proofs.table.read_table.Goals as goal

pub returns-clause-kept : goal.returns-clause-kept
returns-clause-kept c =
    let bytes = c.args.bytes.now in
    let walk = c.in_ok-walk.walk in
    kept_of bytes walk c.in_ok-table.table c.sorted.new.kept c.in_ok-starts.starts c.in_ok-publics.publics c.in_ok-walk.ensures.ok (c.in_ok-table.ensures.ok bytes)
    (c.in_ok-starts.ensures.ok.0 bytes) c.in_ok-starts.ensures.ok.1 (subst (λ publics. IsPublicTable publics c.in_ok-publics.publics) c.deref.ensures.value c.in_ok-publics.ensures)

pub returns-clause-accepted : goal.returns-clause-accepted
returns-clause-accepted c = accepted_of c.args.bytes.now c.in_ok-walk.walk c.in_ok-walk.ensures.ok
