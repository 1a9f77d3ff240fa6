-- What stacks fold to by answers that stand side by side, or that are made for each address.
use Rattle.std.proofs.Common.{◌≡◌, ℕ, ◌+◌, ◌-◌, ◌<◌, ◌≤◌, List, [], ◌∷◌, length, get_or, map, take, drop, refl, sym, ap, ap₂, ◌∙◌, arith}
use Rattle.std.proofs.lemmas.List.{at_drop_all, drop-drop, drop-map, drop_at, drop_more, length-append, length-map, map-append, take-map, take_at}
use Rattle.std.specs.Prelude.{slice_range}
use Rattle.bz_base.specs.Answer.{Answer}
use Rattle.bz_stacks.specs.Fold.{addrs_of, seen_by}
use Rattle.bz_stacks.specs.Folding.{Folding, AnsweredStack, added, added_all, nothing_folded}
use Rattle.bz_stacks.specs.Path.{path_of}
use Rattle.bz_stacks.specs.Stack.{CountedStack}
use Rattle.bz_stacks.specs.Text.{folded_text, text_of}
use Rattle.bz_stacks.proofs.Grouping.{from_scratch}

-- the text of what was added is that of the stacks
text_folded : (seen : List AnsweredStack) (folding : Folding) → folding ≡ added_all seen nothing_folded → text_of folding.sums ≡ folded_text seen
text_folded seen folding all = ap (λ (f : Folding). text_of f.sums) all ∙ ap text_of (from_scratch seen)

-- the stacks from one on are that one and those after it
module _ (stacks : List CountedStack) (i : ℕ) (stack : CountedStack) (within : i < length stacks) (here : stack ≡ get_or stacks i stack) where
  stacks_more : drop i stacks ≡ stack ∷ drop (i + 1) stacks
  stacks_more = drop_more stacks i stack within ∙ ap (λ (s : CountedStack). s ∷ drop (i + 1) stacks) (sym here)

  -- and so are their addresses
  pub addrs_more : length (addrs_of (drop i stacks)) ≡ length stack.addrs + length (addrs_of (drop (i + 1) stacks))
  addrs_more = ap (λ (all : List CountedStack). length (addrs_of all)) stacks_more ∙ length-append stack.addrs (addrs_of (drop (i + 1) stacks))

  module _ (answers : List Answer) (from : ℕ) (own : List Answer) (folding next : Folding) (are : own ≡ take (length stack.addrs) (drop from answers)) (more : next ≡ added (path_of own) stack.count folding) where
    -- of answers side by side, those to the one that is added are the first
    pub side_more : added_all (seen_by (drop (i + 1) stacks) (drop (from + length stack.addrs) answers)) next ≡ added_all (seen_by (drop i stacks) (drop from answers)) folding
    side_more =
        ap (λ (left : List Answer). added_all (seen_by (drop (i + 1) stacks) left) next) (sym (drop-drop (length stack.addrs) from answers))
        ∙ ap (added_all (seen_by (drop (i + 1) stacks) (drop (length stack.addrs) (drop from answers)))) (more ∙ ap (λ (a : List Answer). added (path_of a) stack.count folding) are)
        ∙ sym (ap (λ (all : List CountedStack). added_all (seen_by all (drop from answers)) folding) stacks_more)

-- the answers from one on, as many as there are addresses, as plain data
pub own_answers : {A : Type 0} (read : A → Answer) (answers : List A) (from count : ℕ) → map read (slice_range answers from (from + count)) ≡ take count (drop from (map read answers))
own_answers read answers from count =
    let width : (from + count) - from ≡ count = omega arith in
    ap (λ (n : ℕ). map read (take n (drop from answers))) width ∙ sym (take-map read count (drop from answers)) ∙ ap (take count) (sym (drop-map read from answers))

-- once no stack is left, the text is that of all
pub side_end : (stacks : List CountedStack) (answers : List Answer) (i from : ℕ) (folding : Folding) → length stacks ≤ i → added_all (seen_by (drop i stacks) (drop from answers)) folding ≡ added_all (seen_by stacks answers) nothing_folded →
    text_of folding.sums ≡ folded_text (seen_by stacks answers)
side_end stacks answers i from folding past all = text_folded (seen_by stacks answers) folding (sym (at_drop_all (λ (left : List CountedStack). added_all (seen_by left (drop from answers)) folding) stacks i past) ∙ all)

module _ (answer_at : ℕ → Answer) where
  -- the stacks, each with the answers that are made for its addresses
  abbrev pub seen_each : List CountedStack → List AnsweredStack
  seen_each stacks = map (λ stack. (map answer_at stack.addrs, stack.count)) stacks

  -- they are those with the answers to all addresses
  pub each_by : (stacks : List CountedStack) → seen_by stacks (map answer_at (addrs_of stacks)) ≡ seen_each stacks
  each_by [] = refl
  each_by (stack ∷ stacks) =
      let sides = map-append answer_at stack.addrs (addrs_of stacks) in
      let count = length-map stack.addrs answer_at in
      let own = take_at (map answer_at stack.addrs) (map answer_at (addrs_of stacks)) (length stack.addrs) count in
      let later = drop_at (map answer_at stack.addrs) (map answer_at (addrs_of stacks)) (length stack.addrs) count in
      ap₂ (λ (answers : List Answer) (others : List AnsweredStack). (answers, stack.count) ∷ others)
      (ap (take (length stack.addrs)) sides ∙ own)
      (ap (λ (answers : List Answer). seen_by stacks (drop (length stack.addrs) answers)) sides ∙ ap (seen_by stacks) later ∙ each_by stacks)

  -- one stack more is added
  pub each_more : (stacks : List CountedStack) (i : ℕ) (stack : CountedStack) (answers : List Answer) (folding next : Folding) → i < length stacks → stack ≡ get_or stacks i stack →
      answers ≡ map answer_at stack.addrs → next ≡ added (path_of answers) stack.count folding → added_all (seen_each (drop (i + 1) stacks)) next ≡ added_all (seen_each (drop i stacks)) folding
  each_more stacks i stack answers folding next within here are more =
      ap (added_all (seen_each (drop (i + 1) stacks))) (more ∙ ap (λ (a : List Answer). added (path_of a) stack.count folding) are)
      ∙ sym (ap (λ (all : List CountedStack). added_all (seen_each all) folding) (stacks_more stacks i stack within here))

  -- once no stack is left, the text is that of all
  pub each_end : (stacks : List CountedStack) (i : ℕ) (folding : Folding) → length stacks ≤ i → added_all (seen_each (drop i stacks)) folding ≡ added_all (seen_each stacks) nothing_folded →
      text_of folding.sums ≡ folded_text (seen_by stacks (map answer_at (addrs_of stacks)))
  each_end stacks i folding past all =
      text_folded (seen_each stacks) folding (sym (at_drop_all (λ (left : List CountedStack). added_all (seen_each left) folding) stacks i past) ∙ all) ∙ ap folded_text (sym (each_by stacks))
