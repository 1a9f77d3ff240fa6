use Rattle.std.proofs.Common.{ap, sym, refl, ◌∙◌}
use Rattle.bz_proc.specs.Status.{id_behind, labelled}
use Rattle.bz_proc.proofs.StatusLemmas.{id_utf8, id_other, told_ok}
use Rattle.bz_proc.proofs.status.parse_ns_tgid.Goals as goal

pub returns-in-Ok-clause-ok : goal.returns-in-Ok-clause-ok
returns-in-Ok-clause-ok c =
    told_ok c.args.status.now c.id_behind.result _ c.ok_or.result
    (id_utf8 c.args.status.now c.in-Ok.ensures.cases.1 ∙ sym (c.id_behind.ensures ∙ ap id_behind (c.labelled.ensures ∙ ap labelled (c.as_bytes.ensures.value ∙ c.in-Ok.ensures.cases.0))))
    c.ok_or.ensures.value

pub returns-in-Err-clause-refusal : goal.returns-in-Err-clause-refusal
returns-in-Err-clause-refusal c = (id_other c.args.status.now c.in-Err.ensures.cases.0, refl)
