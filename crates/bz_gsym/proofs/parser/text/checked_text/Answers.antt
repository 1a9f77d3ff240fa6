use Rattle.std.proofs.Common.{option_map, ap, ◌∙◌}
use Rattle.std.specs.Str.{IsValidUpTo, valid_up_to}
use Rattle.bz_gsym.proofs.FileLemmas.{text_read}
use Rattle.bz_gsym.proofs.parser.text.checked_text.Goals as goal

pub returns : goal.returns
returns c =
    let text = c.in_ok-text.text.now in
    ap (option_map (λ text. text.now)) c.ok.ensures.value
    ∙ text_read c.args.bytes.now 0 text c.in_ok-text.ensures (λ e. IsValidUpTo text (valid_up_to e)) c.from_utf8.result c.from_utf8.ensures.cases
