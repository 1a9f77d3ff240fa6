use Rattle.std.proofs.Common.{◌∙◌, ◌≤◌, length, inl, inr, rules}
use Rattle.std.proofs.lemmas.Bool.{cases_lt}
use Rattle.bz_lookups.proofs.TogetherLemmas.{range_made}
use Rattle.bz_lookups.specs.Together.{IsAnswered}
use Rattle.bz_lookups.proofs.lookups.Lookups.answer_all.Goals as goal

-- some more were put
pub loop-from-preserved : goal.loop-from-preserved
loop-from-preserved c =
    let so_far = c.loop-from.invariant in
    let more = c.in_ok-answer_some.ensures.ok in
    let indices = c.args.indices.now in
    let within : c.min-to.result ≤ length indices = search rules in
    record {
      count = more.count ∙ so_far.count;
      kept = λ index was. more.kept index (so_far.kept index was);
      made = λ k default before. elim (cases_lt k c.loop-from.from) [
        | inl below ↦ more.kept _ (so_far.made k default below)
        | inr above ↦ range_made (IsAnswered c.args.self.now c.answer_some.new.answers.items) indices c.loop-from.from c.min-to.result k default within more.made above before
      ];
    }
