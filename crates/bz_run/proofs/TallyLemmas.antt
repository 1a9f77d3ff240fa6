-- A tally that grows answer by answer.
use Rattle.std.proofs.Common.{◌≡◌, ℕ, ◌+◌, ◌≤◌, not, cond, List, [], length, drop, Some, ap, ◌∙◌, arith}
use Rattle.std.specs.List.{slice_get, sum_by}
use Rattle.std.proofs.lemmas.List.{drop_all}
use Rattle.std.proofs.lemmas.List.Sums.{sum_by-drop_more}
use Rattle.std.proofs.lemmas.Option.{get_or_from_slice_get, slice_get_within}
use Rattle.bz_base.specs.Answer.{Answer}
use Rattle.bz_run.specs.GeneratedSummary.{Fits, calls_in, inlined, is_known, known, offset_in, offsets, tally_of, unknown, with_answer}
use Rattle.bz_run.specs.declared.generating.tally.Tally.{Tally}

-- the tally so far and that of the answers that are left are the whole one
pub record TalliedSoFar (answers : List Answer) (tally : Tally) (index : ℕ) : Type 0 where
  pub known : tally.known + known (drop index answers) ≡ known answers
  pub unknown : tally.unknown + unknown (drop index answers) ≡ unknown answers
  pub inlined : tally.inlined + inlined (drop index answers) ≡ inlined answers
  pub offsets : tally.offsets + offsets (drop index answers) ≡ offsets answers

module _ (answers : List Answer) where
  pub none_tallied : TalliedSoFar answers (record { known = 0; unknown = 0; inlined = 0; offsets = 0 }) 0
  none_tallied = record { known = omega arith; unknown = omega arith; inlined = omega arith; offsets = omega arith }

  module _ (tally : Tally) (index : ℕ) (so_far : TalliedSoFar answers tally index) where
    module _ (answer : Answer) (there : slice_get answers index ≡ Some answer) where
      -- the answer at the index is the first one that is left
      first_left : (f : Answer → ℕ) → sum_by f (drop index answers) ≡ f answer + sum_by f (drop (index + 1) answers)
      first_left f = sum_by-drop_more f answers index answer (slice_get_within answers index answer there)
          ∙ ap (λ (a : Answer). f a + sum_by f (drop (index + 1) answers)) (get_or_from_slice_get answers index answer answer there)

      pub one_more : TalliedSoFar answers (with_answer answer tally) (index + 1)
      one_more = record {
        known = omega (arith, so_far.known, first_left (λ a. cond (is_known a) 1 0));
        unknown = omega (arith, so_far.unknown, first_left (λ a. cond (not (is_known a)) 1 0));
        inlined = omega (arith, so_far.inlined, first_left calls_in);
        offsets = omega (arith, so_far.offsets, first_left offset_in);
      }

      -- which fits, since the whole one does
      pub one_more_fits : Fits (tally_of answers) → Fits (with_answer answer tally)
      one_more_fits fits = record {
        known = omega (arith, one_more.known, fits.known);
        unknown = omega (arith, one_more.unknown, fits.unknown);
        inlined = omega (arith, one_more.inlined, fits.inlined);
        offsets = omega (arith, one_more.offsets, fits.offsets);
      }

    -- none is left
    pub all_tallied : length answers ≤ index → tally ≡ tally_of answers
    all_tallied past =
        let none : drop index answers ≡ [] = drop_all index answers past in
        let k : tally.known ≡ known answers = omega (arith, so_far.known, ap known none) in
        let u : tally.unknown ≡ unknown answers = omega (arith, so_far.unknown, ap unknown none) in
        let i : tally.inlined ≡ inlined answers = omega (arith, so_far.inlined, ap inlined none) in
        let o : tally.offsets ≡ offsets answers = omega (arith, so_far.offsets, ap offsets none) in
        ap (λ (n : ℕ). record { known = n; unknown = tally.unknown; inlined = tally.inlined; offsets = tally.offsets }) k
        ∙ ap (λ (n : ℕ). record { known = known answers; unknown = n; inlined = tally.inlined; offsets = tally.offsets }) u
        ∙ ap (λ (n : ℕ). record { known = known answers; unknown = unknown answers; inlined = n; offsets = tally.offsets }) i
        ∙ ap (λ (n : ℕ). record { known = known answers; unknown = unknown answers; inlined = inlined answers; offsets = n }) o
