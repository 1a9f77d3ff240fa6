use Rattle.std.proofs.Common.{◌≡◌, ◌<◌, ◌+◌, [], ◌∷◌, ◌++◌, ℕ, List, Ok, arith, ap, ap₂, sym, subst, ◌∙◌, map, take, length}
use Rattle.std.specs.Prelude.{Result, slice_index}
use Rattle.std.proofs.lemmas.List.{map-append, take_more}
use Rattle.bz_base.specs.Answer.{Answer, Gives, in_batch, reading}
use Rattle.bz_base.specs.Lent.{IsLent}
use Rattle.bz_base.specs.declared.error.Error.{Error}
use Rattle.bz_base.specs.declared.types.FindSymOpts.{FindSymOpts}
use Rattle.bz_base.specs.declared.types.Symbolized.{Symbolized}
use Rattle.bz_base.proofs.ListLemmas.{all_and_one}
use Rattle.bz_breakpad.specs.Plain.{batch, plain}
use Rattle.bz_breakpad_lines.specs.Table.{Table}
use Rattle.bz_breakpad.proofs.PlainLemmas.{all_taken}
use Rattle.bz_breakpad.proofs.lookups.FoundAddrs.answers.Goals.{in-Ok, in-Err+in_ok-in_batch-in-Err}
use Rattle.bz_breakpad.proofs.lookups.FoundAddrs.answers.Goals as goal

-- the answers to one address more
one_more : (t : Table) (opts : FindSymOpts) (addrs : List ℕ) (index : ℕ) (old : List Symbolized) (entry : Symbolized) → index < length addrs →
    map reading old ≡ batch t opts (take index addrs) → reading entry ≡ in_batch (plain t opts (slice_index addrs index)) →
    map reading (old ++ entry ∷ []) ≡ batch t opts (take (index + 1) addrs)
one_more t opts addrs index old entry within so_far one =
    map-append reading old (entry ∷ [])
    ∙ ap₂ (λ front new. front ++ new ∷ []) so_far one
    ∙ sym (map-append (λ addr. in_batch (plain t opts addr)) (take index addrs) (_ ∷ []))
    ∙ sym (ap (map (λ addr. in_batch (plain t opts addr))) (take_more addrs index 0 within))

-- an answer is an entry as it stands
stands : (expected : Result Answer Error) (result : Result Symbolized Error) (answer : Symbolized) → result ≡ Ok answer → Gives reading expected result →
    reading answer ≡ in_batch expected
stands expected result answer is gives = ap in_batch (sym (subst (Gives reading expected) is gives))

pub returns-clause-answers : goal.returns-clause-answers
returns-clause-answers c table stands records =
    let addrs = c.args.self.now.addrs.now in
    c.loop-index.invariant.answers table stands records
    ∙ ap (map (λ addr. in_batch (plain table c.args.opts.now addr))) (all_taken c.loop-index.index addrs (omega arith))

pub loop-index-preserved : goal.loop-index-preserved
loop-index-preserved c =
    let opts = c.args.opts.now in
    let addrs = c.args.self.now.addrs.now in
    let index = c.loop-index.index in
    let so_far = c.loop-index.invariant in
    let gives = c.answer_at.ensures.answer in
    let within : index < length addrs = omega arith in
    elim c.match-answer_at.branch [
      | in-Ok w ↦
          let entry = w.in-Ok.answer in
          rw w.answers-is (record {
            answers = λ t stands_for records. rw w.push_reserved.ensures.items (one_more t opts addrs index c.loop-index.answers.items entry within (so_far.answers t stands_for records) (stands _ c.answer_at.result entry w.in-Ok.is (gives t stands_for records)));
            lent = rw w.push_reserved.ensures.items (all_and_one IsLent c.loop-index.answers.items entry so_far.lent w.in-Ok.ensures.lent);
            count = omega (arith, so_far.count, w.push_reserved.ensures.len);
            room = omega (arith, so_far.room, w.push_reserved.ensures.capacity);
          })
      | in-Err+in_ok-in_batch-in-Err w ↦
          let entry = w.in_ok-in_batch-in-Err.field-0 in
          rw w.answers-is (record {
            answers = λ t stands_for records. rw w.push_reserved-in-Err.ensures.items (one_more t opts addrs index c.loop-index.answers.items entry within (so_far.answers t stands_for records) (w.in_ok-in_batch-in-Err.ensures.entry _ (subst (Gives reading (plain t opts (slice_index addrs index))) w.in-Err.is (gives t stands_for records))));
            lent = rw w.push_reserved-in-Err.ensures.items (all_and_one IsLent c.loop-index.answers.items entry so_far.lent (w.in_ok-in_batch-in-Err.ensures.lent tt));
            count = omega (arith, so_far.count, w.push_reserved-in-Err.ensures.len);
            room = omega (arith, so_far.room, w.push_reserved-in-Err.ensures.capacity);
          })
    ]
