use Rattle.std.proofs.Common.{sym, ◌∙◌, ap}
use Rattle.std.specs.Str.Parse.{without_leading_plus}
use Rattle.bz_proc.specs.PerfLine.{number_of, perf_number}
use Rattle.bz_proc.proofs.PerfNumberLemmas.{no_number, number_read, utf8_not, utf8_same}
use Rattle.bz_proc.proofs.perf_map.line.number.Goals as goal

pub returns-in_err-text : goal.returns-in_err-text
returns-in_err-text c = c.from_residual.ensures ∙ sym (no_number c.args.text.now (utf8_not c.args.text.now c.in_err-text.ensures))

pub returns : goal.returns
unfolding perf_number
returns c =
    c.ok.ensures.value
    ∙ number_read (without_leading_plus c.in_ok-text.text.now) c.from_str_radix.result c.from_str_radix.ensures.value
    ∙ ap (λ text. number_of (without_leading_plus text)) (utf8_same c.args.text.now c.in_ok-text.text.now c.in_ok-text.ensures).0
