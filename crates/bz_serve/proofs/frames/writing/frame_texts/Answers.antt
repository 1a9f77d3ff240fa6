use Rattle.std.proofs.Common.{◌≡◌, ◌++◌, ◌∙◌, min, length, string_bytes, sym, ap, append-nil, arith, rules}
use Rattle.std.proofs.lemmas.Slice.Zip.{zip_end}
use Rattle.bz_serve.proofs.FrameTextLemmas.{texts_end}
use Rattle.bz_serve.proofs.frames.writing.frame_texts.Goals as goal

-- no answer is left
pub returns-clause-ok : goal.returns-clause-ok
returns-clause-ok c =
    let ended : length c.loop-frame.yielded ≡ min (length c.args.frames.now) (length c.args.answers.now) =
    zip_end c.args.frames.now c.args.answers.now c.loop-frame.yielded _ _ c.next.new.self c.next.result (search rules) (search rules) c.loop-frame.yielded_by c.in-None.is c.next.ensures.steps in
    let text = string_bytes c.loop-frame.text in
    sym (append-nil text) ∙ ap (λ rest. text ++ rest) (sym (texts_end (length c.loop-frame.yielded) c.args.frames.now c.args.answers.now (omega (arith, ended)))) ∙ c.loop-frame.invariant
