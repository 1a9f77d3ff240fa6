use Rattle.std.proofs.Common.{Some, take, drop, length, ◌-◌, ap, ◌∙◌}
use Rattle.std.specs.Option.{option_and_then}
use Rattle.std.proofs.lemmas.List.{take_rest}
use Rattle.bz_base.specs.ZeroEnded.{zero_ended}
use Rattle.bz_gsym.specs.Strings.{checked}
use Rattle.bz_gsym.proofs.AsciiLemmas.{plain_string, plain_utf8}
use Rattle.bz_gsym.proofs.parser.text.text_at.Goals as goal

pub from_utf8_unchecked-requires : goal.from_utf8_unchecked-requires
from_utf8_unchecked-requires c = plain_utf8 c.run_len-len.result _ c.run_len-len.ensures.passes

pub returns-then-bytes-len-eq0 : goal.returns-then-bytes-len-eq0
returns-then-bytes-len-eq0 c =
    let table = c.args.table.now in
    let rest = take (length table - c.args.place) (drop c.args.place table) in
    ap (λ text. Some text) c.from_utf8_unchecked.ensures
    ∙ plain_string c.run_len-len.result rest c.run_len-len.ensures.passes c.if-len-bytes.true c.if-bytes-len-eq0.true
    ∙ ap (λ text. option_and_then checked (zero_ended text)) (take_rest table c.args.place)
