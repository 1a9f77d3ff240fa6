use Rattle.std.proofs.Common.{option_map, ap, ◌∙◌}
use Rattle.bz_proc.proofs.PerfFieldLemmas.{field_none, field_some}
use Rattle.bz_proc.proofs.perf_map.line.field.Goals as goal

pub returns-in_err-len-clause-reads : goal.returns-in_err-len-clause-reads
returns-in_err-len-clause-reads c =
    ap (option_map (λ parts. (parts.0.now, parts.1.now))) c.from_residual.ensures ∙ field_none c.args.text.now c.in_err-len.ensures

pub returns-clause-reads : goal.returns-clause-reads
returns-clause-reads c = field_some c.args.text.now c.in_ok-len.len c.in_ok-len.ensures
