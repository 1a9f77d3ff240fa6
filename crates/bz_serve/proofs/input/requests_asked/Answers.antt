use Rattle.std.proofs.Common.{◌≤◌, length, arith}
use Rattle.bz_symq.proofs.FaultLemmas.{no_fault}
use Rattle.bz_requests.specs.InputText.{greatest_input}
use Rattle.bz_requests.proofs.InputTextLemmas.{over_at_end}
use Rattle.bz_serve.proofs.AskedLemmas.{lines_asked, stopped_asked}
use Rattle.bz_serve.proofs.input.requests_asked.Goals as goal

-- the input isn't too long, and what its lines ask for was read
pub returns-in-Ok : goal.returns-in-Ok
returns-in-Ok g c =
    let short : length c.in-Ok.text.items ≤ greatest_input = omega (arith, c.in-Ok.text.ok.0, c.in-Ok.ensures.short) in
    lines_asked g.R.TextIn c.in-Ok.text.items c.asked_in_lines.result _ _ short c.in-Ok.ensures.whole
    (rw c.as_slice.ensures.value at c.asked_in_lines.ensures.asked) c.asked_in_lines.ensures.status c.asked_in_lines.ensures.memory
    (over_at_end _ _ c.in-Ok.text.items short c.in-Ok.ensures.whole c.in-Ok.ensures.end) c.in-Ok.ensures.bounded
    (no_fault _ _ _ (λ never. cc) c.in-Ok.ensures.faults)

-- the input wasn't read to its end
pub returns-in_ok-unread-in-Err : goal.returns-in_ok-unread-in-Err
returns-in_ok-unread-in-Err g c =
    let stopped = c.in-Err.ensures in
    let asked = stopped_asked g.R.TextIn c.in-Err.stop c.unread.result _ _ c.unread.ensures stopped.long stopped.past stopped.bounded stopped.faults in
    rw c.in_ok-unread-in-Err.was at asked
