use Rattle.std.proofs.Common.{ℕ, ◌<◌, get_or, arith, ◌∙◌}
use Rattle.bz_breakpad_lines.proofs.StartLemmas.{loaded, text_is}
use Rattle.bz_breakpad_lines.proofs.start_text.StartText.of_front.Goals as goal

pub returns-clause-text : goal.returns-clause-text
returns-clause-text c =
    let text = c.args.text.now in
    let room = c.requires.room in
    let small : (k : ℕ) → get_or text k 0 < 256 = λ k. (c.type_inv.text k).fits in
    text_is text room small c.args.digits (omega arith) (omega arith) c.requires.digits c.from_be_bytes-bytes.result (c.from_be_bytes-bytes.ensures ∙ loaded text room small)
