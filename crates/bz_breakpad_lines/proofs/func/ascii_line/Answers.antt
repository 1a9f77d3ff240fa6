use Rattle.std.proofs.Common.{◌+◌, arith}
use Rattle.std.proofs.lemmas.List.{take_rest}
use Rattle.bz_breakpad_lines.proofs.AsciiLemmas.{line_in_front}
use Rattle.bz_breakpad_lines.proofs.func.ascii_line.Goals as goal

pub returns : goal.returns
returns c =
    let text = c.args.text.now in
    let len = c.run_len-len.result in
    let ends = c.run_len-len.ensures in
    rw (take_rest text (len + 1)) (line_in_front text len ends.passes (omega (arith, ends.within, c.if-len-text.false)) c.if-text-len-ne10.false)
