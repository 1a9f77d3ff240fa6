use Rattle.std.proofs.Common.{ℕ, ◌<◌, get_or, ◌∙◌}
use Rattle.bz_breakpad_lines.proofs.ShortValueLemmas.{loaded}
use Rattle.bz_breakpad_lines.proofs.ValueLemmas.{front_number}
use Rattle.bz_breakpad_lines.proofs.values.four_bytes_front.Goals as goal

pub returns : goal.returns
returns c =
    let text = c.args.text.now in
    let room = c.requires.room in
    let small : (k : ℕ) → get_or text k 0 < 256 = λ k. (c.type_inv.text k).fits in
    front_number text 4 room c.args.count c.requires.few small c.from_be_bytes-bytes.result (c.from_be_bytes-bytes.ensures ∙ loaded text room)
