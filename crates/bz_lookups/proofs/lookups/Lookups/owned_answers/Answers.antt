use Rattle.std.proofs.Common.{◌≡◌, ◌+◌, ◌≤◌, length, subst, sym, rules, arith}
use Rattle.bz_lookups.proofs.TogetherLemmas.{all_answered, answered_step, next_within}
use Rattle.bz_lookups.specs.Together.{AnswersMore, AreNext, Grows}
use Rattle.bz_lookups.proofs.lookups.Lookups.owned_answers.Goals as goal

-- the next ones were put behind those so far
pub loop-first-preserved : goal.loop-first-preserved
loop-first-preserved c =
    let batch = c.args.self.now in
    let so_far = c.loop-first.invariant in
    let indices = c.in_ok-indices.indices.items in
    let start = c.loop-first.answers.items in
    let grown = c.grow.new.answers.items in
    let answers = c.answer_all.new.answers.items in
    let next : AreNext batch (length start) indices = subst (λ n. AreNext batch n indices) (sym so_far.count) c.in_ok-indices.ensures.next in
    let grows : Grows (length indices) start grown = search rules in
    let more : AnswersMore batch indices grown answers = search rules in
    let within : c.loop-first.first + length indices ≤ length batch.addrs = next_within batch c.loop-first.first indices c.in_ok-indices.ensures.next (search rules) in
    record {
      count = search rules;
      within = omega (arith, within, more.count, grows.count, so_far.count);
      are = answered_step batch indices start grown answers next grows more so_far.are;
    }

-- all were put
pub returns-clause-answers : goal.returns-clause-answers
returns-clause-answers c =
    let so_far = c.loop-first.invariant in
    let count : length c.loop-first.answers.items ≡ length c.args.self.now.addrs = search rules in
    all_answered c.args.self.now c.loop-first.answers.items count (λ index inside. so_far.are index (omega (arith, inside, count)))
