use Rattle.std.proofs.Common.{Some, None, ap, ◌∙◌}
use Rattle.bz_bytes.proofs.CursorLemmas.{little_8, word_of}
use Rattle.bz_bytes.proofs.cursor.Cursor.read_u64.Goals as goal

pub returns-in_err-bytes-clause-reads : goal.returns-in_err-bytes-clause-reads
returns-in_err-bytes-clause-reads c =
    rw c.from_residual.ensures (word_of 8 c.args.self.now.left c.read_slice.new.self.left None c.in_err-bytes.ensures.reads)

pub returns-clause-reads : goal.returns-clause-reads
returns-clause-reads c =
    let text = c.in_ok-bytes.bytes.now in
    ap (λ n. Some (n, c.read_slice.new.self.left)) (c.from_le_bytes.ensures ∙ little_8 text (c.in_ok-bytes.ensures.count))
    ∙ word_of 8 c.args.self.now.left c.read_slice.new.self.left (Some text) c.in_ok-bytes.ensures.reads
