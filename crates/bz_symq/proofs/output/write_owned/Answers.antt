use Rattle.std.proofs.Common.{◌≡◌, ◌<◌, ◌⊎◌, ◌≤◌, length, map, string_bytes, Err, refl, inl, inr, rules}
use Rattle.std.proofs.lemmas.List.{length-map}
use Rattle.bz_base.specs.Answer.{reading}
use Rattle.bz_canon.proofs.AnswerTextLemmas.{past_either, texts_end}
use Rattle.bz_symq.proofs.OutputLemmas.{has_answer, has_piece, owned_next, writes_last}
use Rattle.bz_symq.proofs.output.write_owned.Goals.{then-len-ge-WRITE_THRESHOLD+in_ok-write_piece, else-len-ge-WRITE_THRESHOLD}
use Rattle.bz_symq.proofs.output.write_owned.Goals as goal

-- the piece has the text of the next answer too, and may be written
pub loop-index-preserved : goal.loop-index-preserved
loop-index-preserved g c =
    let owned = c.args.owned.now in
    let in_addrs : c.loop-index.index < length owned.addrs.items = search rules in
    let in_answers : c.loop-index.index < length owned.answers.items = search rules in
    let next = owned_next owned.addrs.items owned.answers.items c.loop-index.index c.index.result.now c.index-in-loop-index.result.now (string_bytes c.loop-index.piece) (string_bytes c.push_answer.new.text)
    in_addrs in_answers c.index.ensures c.index-in-loop-index.ensures c.in-Ok.ensures.ok in
    let grown = has_answer g.W.TextOut (string_bytes c.loop-index.piece) owned.addrs.items (map reading owned.answers.items) c.loop-index.index (reading c.index-in-loop-index.result.now) in_addrs next.0 next.1 c.loop-index.invariant in
    elim c.if-len-ge-WRITE_THRESHOLD.branch [
      | then-len-ge-WRITE_THRESHOLD+in_ok-write_piece w ↦ rw (w.output-is, w.piece-is) (has_piece g.W.TextOut _ grown w.in_ok-write_piece.ensures.wrote w.in_ok-write_piece.ensures.next)
      | else-len-ge-WRITE_THRESHOLD w ↦ rw (w.output-is, w.piece-is) grown
    ]

-- the piece has it, and its writing failed
pub returns-in_err-write_piece : goal.returns-in_err-write_piece
returns-in_err-write_piece g c =
    let owned = c.args.owned.now in
    let in_addrs : c.loop-index.index < length owned.addrs.items = search rules in
    let in_answers : c.loop-index.index < length owned.answers.items = search rules in
    let next = owned_next owned.addrs.items owned.answers.items c.loop-index.index c.index.result.now c.index-in-loop-index.result.now (string_bytes c.loop-index.piece) (string_bytes c.push_answer.new.text)
    in_addrs in_answers c.index.ensures c.index-in-loop-index.ensures c.in-Ok.ensures.ok in
    let grown = has_answer g.W.TextOut (string_bytes c.loop-index.piece) owned.addrs.items (map reading owned.answers.items) c.loop-index.index (reading c.index-in-loop-index.result.now) in_addrs next.0 next.1 c.loop-index.invariant in
    let same : c.from_residual.result ≡ Err c.in_err-write_piece.field-0.0 = search rules in
    rw same (writes_last g.W.TextOut (Err c.in_err-write_piece.field-0.0) grown c.in_err-write_piece.ensures.wrote (inl refl))

-- no answer is left
pub returns : goal.returns
returns g c =
    let owned = c.args.owned.now in
    let past : (length owned.addrs.items ≤ c.loop-index.index) ⊎ (length (map reading owned.answers.items) ≤ c.loop-index.index) =
    rw (length-map owned.answers.items reading) (past_either (length owned.addrs.items) (length owned.answers.items) c.loop-index.index (search rules)) in
    writes_last g.W.TextOut c.write_piece-2.result c.loop-index.invariant c.write_piece-2.ensures.wrote
    (inr (texts_end c.loop-index.index owned.addrs.items (map reading owned.answers.items) past))
