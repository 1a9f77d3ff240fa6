use Rattle.std.proofs.Common.{◌≡◌, drop, string_bytes, Err, refl, inl, inr, rules}
use Rattle.bz_canon.proofs.AnswerTextLemmas.{texts_none}
use Rattle.bz_symq.proofs.OutputLemmas.{has_answer, has_piece, writes_last}
use Rattle.bz_symq.proofs.output.write_answers.Goals.{then-len-ge-WRITE_THRESHOLD+in_ok-write_piece, else-len-ge-WRITE_THRESHOLD}
use Rattle.bz_symq.proofs.output.write_answers.Goals as goal

-- nothing is written, and no texts were made
pub loop-index-init : goal.loop-index-init
loop-index-init g c = record { written = search rules; texts = c.new-texts.ensures c.args.lookups.now }

-- the piece has the text of the next answer too, and may be written
pub loop-index-preserved : goal.loop-index-preserved
loop-index-preserved g c =
    let lookups = c.args.lookups.now in
    let next = c.in-Ok.ensures.ok in
    let grown = has_answer g.W.TextOut (string_bytes c.loop-index.piece) lookups.addrs lookups.answers c.loop-index.index next.0 (search rules) next.1 next.2 c.loop-index.invariant.written in
    record {
      written = elim c.if-len-ge-WRITE_THRESHOLD.branch [
        | then-len-ge-WRITE_THRESHOLD+in_ok-write_piece w ↦ rw (w.output-is, w.piece-is) (has_piece g.W.TextOut _ grown w.in_ok-write_piece.ensures.wrote w.in_ok-write_piece.ensures.next)
        | else-len-ge-WRITE_THRESHOLD w ↦ rw (w.output-is, w.piece-is) grown
      ];
      texts = c.in-Ok.ensures.texts;
    }

-- the piece has it, and its writing failed
pub returns-in_err-write_piece : goal.returns-in_err-write_piece
returns-in_err-write_piece g c =
    let lookups = c.args.lookups.now in
    let next = c.in-Ok.ensures.ok in
    let grown = has_answer g.W.TextOut (string_bytes c.loop-index.piece) lookups.addrs lookups.answers c.loop-index.index next.0 (search rules) next.1 next.2 c.loop-index.invariant.written in
    let same : c.from_residual.result ≡ Err c.in_err-write_piece.field-0.0 = search rules in
    rw same (writes_last g.W.TextOut (Err c.in_err-write_piece.field-0.0) grown c.in_err-write_piece.ensures.wrote (inl refl))

-- no answer is left
pub returns : goal.returns
returns g c =
    let lookups = c.args.lookups.now in
    writes_last g.W.TextOut c.write_piece-2.result c.loop-index.invariant.written c.write_piece-2.ensures.wrote
    (inr (texts_none c.loop-index.index lookups.addrs (drop c.loop-index.index lookups.answers) (search rules)))
