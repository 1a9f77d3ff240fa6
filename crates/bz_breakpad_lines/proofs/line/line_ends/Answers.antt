use Rattle.std.proofs.Common.{◌+◌, ◌∷◌, drop, arith}
use Rattle.bz_base.specs.Byte.{line_feed}
use Rattle.bz_breakpad_lines.proofs.FieldLemmas.{byte_at}
use Rattle.bz_breakpad_lines.proofs.QuickLemmas.{line_read}
use Rattle.bz_breakpad_lines.proofs.line.line_ends.Goals as goal

pub returns-clause-reads : goal.returns-clause-reads
returns-clause-reads c =
    let text = c.args.shown.text.now in
    let size = c.in_ok-size in
    let line = c.in_ok-line in
    let file = c.in_ok-file in
    line_read text c.args.start size.size line.line file.file (line_feed ∷ drop (file.file + 1) text) c.requires.start
    size.ensures.space size.ensures.digits line.ensures.space line.ensures.digits file.ensures.space file.ensures.digits
    (byte_at file.file line_feed text file.ensures.digits.2 (omega arith))
