use Rattle.std.proofs.Common.{refl, ap, ◌∙◌, ◌∷◌, [], ◌++◌, arith, append_assoc}
use Rattle.bz_gsym_layout.specs.Numbering.{stored}
use Rattle.bz_gsym_layout.proofs.LoopLemmas.{seen_end, seen_turn}
use Rattle.bz_gsym_layout.proofs.tables.push_texts.Goals as goal

pub loop-text-init : goal.loop-text-init
loop-text-init c = refl

pub loop-text-preserved : goal.loop-text-preserved
loop-text-preserved c =
    let s = c.loop-text in
    seen_turn (λ text. text.now) stored c.args.texts.now s.text-index s.out.items _ s.invariant _ c.loop-text-test.true c.push.new.self.items
    (c.in_ok-push.ensures.items ∙ ap (λ l. l ++ 0 ∷ []) c.in_ok-extend_from_slice.ensures.items ∙ append_assoc s.out.items _ (0 ∷ [])
    ∙ ap (λ l. s.out.items ++ (l ++ 0 ∷ [])) c.as_bytes.ensures.value)

pub returns-clause-ok : goal.returns-clause-ok
returns-clause-ok c =
    let s = c.loop-text in
    seen_end (λ text. text.now) stored c.args.texts.now s.text-index s.out.items _ s.invariant (omega (arith, c.loop-text-test.false))
