use Rattle.std.proofs.Common.{◌≡◌, ◌-◌, Some, option_map, take, ap, ◌∙◌, arith}
use Rattle.std.specs.Str.Parse.{digits_value}
use Rattle.bz_breakpad_lines.proofs.FieldLemmas.{hex_read}
use Rattle.bz_breakpad_lines.proofs.at_place.quick_start.Goals as goal

pub returns : goal.returns
returns c =
    let text = c.args.text.now in
    let digits = c.in_ok-digits.digits in
    let all : digits - 0 ≡ digits = omega arith in
    let value : digits_value 16 (take digits text) ≡ c.from.result = omega (arith, c.hex_front.ensures) in
    ap (option_map (λ read. read.0)) (hex_read text 0 digits 8 16 c.in_ok-digits.ensures (omega arith)) ∙ ap (λ n. Some (digits_value 16 (take n text))) all ∙ ap (λ n. Some n) value
