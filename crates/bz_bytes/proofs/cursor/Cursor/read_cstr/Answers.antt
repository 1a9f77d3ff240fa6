use Rattle.std.proofs.Common.{arith}
use Rattle.bz_bytes.specs.Byte.{zero_byte}
use Rattle.bz_bytes.proofs.ByteLemmas.{HasNo-take, HasNo-nowhere}
use Rattle.bz_bytes.proofs.CursorLemmas.{cstr_found, cstr_missing}
use Rattle.bz_bytes.proofs.cursor.Cursor.read_cstr.Goals as goal

pub returns-in_err-end-clause-reads : goal.returns-in_err-end-clause-reads
returns-in_err-end-clause-reads c =
    rw (c.from_residual.ensures, ← c.self.view_is)
    (cstr_missing c.self.inside.rest.now (HasNo-nowhere zero_byte c.self.inside.rest.now (λ i within. c.in_err-end.ensures i (omega arith) within)))

pub returns-clause-reads : goal.returns-clause-reads
returns-clause-reads c =
    let left = c.self.inside.rest.now in
    let first = c.in_ok-end.ensures.0 in
    rw (← c.self.view_is)
    (cstr_found left c.in_ok-end.end first.high (HasNo-take zero_byte left c.in_ok-end.end (λ i below _. first.before i (omega arith) below)) c.in_ok-end.ensures.1)
