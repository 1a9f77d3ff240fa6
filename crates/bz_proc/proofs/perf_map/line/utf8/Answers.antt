use Rattle.std.proofs.Common.{option_map, ap, ◌∙◌}
use Rattle.std.specs.Str.{IsValidUpTo, valid_up_to}
use Rattle.bz_proc.proofs.PerfNumberLemmas.{utf8_read}
use Rattle.bz_proc.proofs.perf_map.line.utf8.Goals as goal

pub returns : goal.returns
returns c =
    ap (option_map (λ text. text.now)) c.ok.ensures.value
    ∙ utf8_read (λ e. IsValidUpTo c.args.bytes.now (valid_up_to e)) c.args.bytes.now c.from_utf8.result c.from_utf8.ensures.cases
