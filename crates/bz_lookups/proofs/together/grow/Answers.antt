use Rattle.std.proofs.Common.{◌∙◌, [], ◌∷◌, List, slice_index_or, ap, rules, arith}
use Rattle.std.proofs.Math.ListN.{get_or-append}
use Rattle.bz_base.specs.declared.types.Symbolized.{Symbolized}
use Rattle.bz_lookups.proofs.together.grow.Goals as goal

-- no place more
pub loop-place-init : goal.loop-place-init
loop-place-init c = record {
  grows = record { count = search rules; same = λ index default inside. ap (λ (l : List Symbolized). slice_index_or l index default) c.reserve.ensures.items };
  room = search rules;
}

-- one more, behind
pub loop-place-preserved : goal.loop-place-preserved
loop-place-preserved c =
    let so_far = c.loop-place.invariant.grows in
    record {
      grows = record {
        count = search rules;
        same = λ index default inside.
            ap (λ (l : List Symbolized). slice_index_or l index default) c.push_reserved.ensures.items
            ∙ get_or-append c.loop-place.answers.items (_ ∷ []) default index (omega (arith, inside, so_far.count))
            ∙ so_far.same index default inside;
      };
      room = search rules;
    }
