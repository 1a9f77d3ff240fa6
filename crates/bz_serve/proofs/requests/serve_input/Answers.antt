use Rattle.bz_serve.proofs.RequestsLemmas.{requests_bad, requests_served, requests_unread}
use Rattle.bz_serve.proofs.requests.serve_input.Goals as goal

-- the requests were served
pub returns-in-Ok-Requests : goal.returns-in-Ok-Requests
returns-in-Ok-Requests g c =
    requests_served g.R.TextIn g.W.TextOut g.F.Files c.args.config c.serve.result _ _ _ _ _ _ c.in-Ok-Requests.requests
    (rw c.in-Ok-Requests.field-0-is at c.in-Ok-Requests.ensures) (rw c.as_slice.ensures.value at c.serve.ensures)

-- the input is bad
pub returns-in-Ok-Bad : goal.returns-in-Ok-Bad
returns-in-Ok-Bad g c =
    requests_bad g.R.TextIn g.W.TextOut g.F.Files c.args.config c.finish.result _ _ _ _ _ c.in-Ok-Bad.reply
    (rw c.in-Ok-Bad.field-0-is at c.in-Ok-Bad.ensures) c.finish.ensures

-- it wasn't read
pub returns-in-Err : goal.returns-in-Err
returns-in-Err g c =
    requests_unread g.R.TextIn g.W.TextOut g.F.Files c.args.config c.failed.result _ _ _ _ c.in-Err.error c.in-Err.ensures c.failed.ensures.failure c.failed.ensures.fault
