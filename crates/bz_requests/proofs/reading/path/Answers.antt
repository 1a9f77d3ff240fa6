use Rattle.std.proofs.Common.{Some, sym, ap, ◌∙◌}
use Rattle.bz_requests.proofs.ReadingLemmas.{path_none, path_some, some_byte}
use Rattle.bz_requests.proofs.reading.path.Goals as goal

pub returns-in_ok-path-in-Ok : goal.returns-in_ok-path-in-Ok
returns-in_ok-path-in-Ok c =
    ap Some (c.in_ok-path-in-Ok.ensures.ok ∙ c.in-Ok.ensures.cases.0) ∙ sym (path_some c.args.text.now (some_byte c.args.text.now (sym c.is_empty.ensures ∙ c.if-is_empty.false)) c.in-Ok.ensures.cases.1)

pub returns-in-Err : goal.returns-in-Err
returns-in-Err c = sym (path_none c.args.text.now _ c.in-Err.ensures.cases.0)
