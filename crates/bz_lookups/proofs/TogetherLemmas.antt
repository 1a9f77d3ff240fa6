-- Answers of a batch that are made together.
use Rattle.std.proofs.Common.{◌≡◌, ◌≢◌, ◌⊎◌, ◌+◌, ◌-◌, ◌<◌, ◌≤◌, ℕ, zero, suc, Vec, Global, Result, Ok, Err, IfOk, List, [], ◌∷◌, ◌++◌, length, map, drop, slice_index, slice_index_or, slice_range, slice_set, refl, sym, ap, subst, inl, inr, ◌∙◌, arith}
use Rattle.std.specs.List.{All}
use Rattle.std.specs.List.Sorted.{IsPermutation}
use Rattle.std.proofs.Math.ListN.{get_or-append, length-set}
use Rattle.std.proofs.Math.Seq.{get_or-append_seam}
use Rattle.std.proofs.lemmas.Bool.{cases_lt}
use Rattle.std.proofs.lemmas.Grind.{get_or-set_at}
use Rattle.std.proofs.lemmas.List.{ext_get_or, get_or-drop, get_or-map, get_or-set_other, get_or-take, length-append, length-drop, length-map, length-take}
use Rattle.std.proofs.lemmas.List.Elements.{All-contains}
use Rattle.std.proofs.lemmas.List.Sorted.{All-permutation, Contains-permutation, length_permutation}
use Rattle.bz_base.specs.Answer.{Answer, reading}
use Rattle.bz_base.specs.declared.error.Error.{Error}
use Rattle.bz_base.specs.declared.types.Reason.TheVariants as reasons
use Rattle.bz_base.specs.declared.types.Symbolized.{Symbolized}
use Rattle.bz_base.specs.declared.types.Symbolized.TheVariants as symbolized
use Rattle.bz_lookups.specs.Batch.{Batch, answer_at, answers_there, answers_to}
use Rattle.bz_lookups.specs.Together.{AnswersMore, AreNext, Grows, IsAmong, IsAnswered}

-- two numbers are the same or not
same_or_other : (m n : ℕ) → (m ≡ n) ⊎ (m ≢ n)
same_or_other m n = elim (cases_lt m n) [
  | inl below ↦ inr (λ e. omega arith)
  | inr above ↦ elim (cases_lt n m) [ inl below ↦ inr (λ e. omega arith) | inr same ↦ inl (omega arith) ]
]

module _ (batch : Batch) where
  -- the next indices in another order
  pub next_moved : (first : ℕ) (indices others : List ℕ) → IsPermutation indices others → AreNext batch first indices → AreNext batch first others
  next_moved first indices others moved next =
      let count : length others ≡ length indices = length_permutation indices others moved in
      record {
        among = subst (λ n. All (IsAmong batch first n) others) (sym count) (All-permutation (IsAmong batch first (length indices)) indices others moved next.among);
        each = λ index from before. Contains-permutation indices others index moved (next.each index from (subst (λ n. index < first + n) count before));
        positive = λ left. subst (λ n. 0 < n) (sym count) (next.positive left);
      }

  -- they don't go past the batch
  pub next_within : (first : ℕ) (indices : List ℕ) → AreNext batch first indices → first < length batch.addrs → first + length indices ≤ length batch.addrs
  next_within first indices next left = by_count (length indices) refl
    where
      by_count : (n : ℕ) → length indices ≡ n → first + length indices ≤ length batch.addrs
      by_count zero is = omega (arith, is, left)
      by_count (suc n) is =
          let last = All-contains (IsAmong batch first (length indices)) indices (first + n) next.among (next.each (first + n) (omega arith) (omega (arith, is))) in
          omega (arith, is, last.there)

  -- where an answer of the batch was put, it is there, and the others are as they were
  pub answered_more : (answers : List Symbolized) (index : ℕ) (answer : Symbolized) → index < length answers → reading answer ≡ answer_at batch (slice_index batch.addrs index) →
      (at : ℕ) → IsAnswered batch answers at → IsAnswered batch (slice_set answers index answer) at
  answered_more answers index answer within is at was default inside = elim (same_or_other at index) [
    | inl same ↦ ap reading (get_or-set_at answers index at answer default same within) ∙ is ∙ ap (λ i. answer_at batch (slice_index batch.addrs i)) (sym same)
    | inr other ↦ ap reading (get_or-set_other answers index at answer default other) ∙ was default (omega (arith, inside, length-set answers index answer))
  ]

  pub answered_here : (answers : List Symbolized) (index : ℕ) (answer : Symbolized) → index < length answers → reading answer ≡ answer_at batch (slice_index batch.addrs index) →
      IsAnswered batch (slice_set answers index answer) index
  answered_here answers index answer within is default inside = ap reading (get_or-set_at answers index index answer default refl within) ∙ is

  -- what was there stays where places are added
  pub answered_grown : (more : ℕ) (old new : List Symbolized) → Grows more old new → (index : ℕ) → index < length old → IsAnswered batch old index → IsAnswered batch new index
  answered_grown more old new grows index within was default inside = ap reading (grows.same index default within) ∙ was default within

  -- where all are there, they are the answers of the batch
  pub all_answered : (answers : List Symbolized) → length answers ≡ length batch.addrs → ((index : ℕ) → index < length batch.addrs → IsAnswered batch answers index) →
      map reading answers ≡ answers_to batch.addrs batch
  all_answered answers count are =
      let nothing : Symbolized = symbolized.Unknown reasons.UnknownAddr in
      let entry = λ (addr : ℕ). answer_at batch addr in
      ext_get_or (reading nothing) (map reading answers) (map entry batch.addrs) (length-map answers reading ∙ count ∙ sym (length-map batch.addrs entry)) (λ i inside.
      let within : i < length answers = omega (arith, inside, length-map answers reading) in
      let there : i < length batch.addrs = omega (arith, within, count) in
      get_or-map reading answers i nothing (reading nothing) within ∙ are i there nothing within ∙ sym (get_or-map entry batch.addrs i 0 (reading nothing) there))

-- the answers that are lent for indices, each at its place
pub lent_there : (batch : Batch) (indices : List ℕ) (lent : List Symbolized) → map reading lent ≡ answers_there indices batch → (k : ℕ) (default : Symbolized) → k < length lent →
    reading (slice_index_or lent k default) ≡ answer_at batch (slice_index batch.addrs (slice_index indices k))
lent_there batch indices lent are k default inside =
    let single = λ (i : ℕ). answer_at batch (slice_index batch.addrs i) in
    let count : length lent ≡ length indices = sym (length-map lent reading) ∙ ap length are ∙ length-map indices single in
    sym (get_or-map reading lent k default (reading default) inside)
    ∙ ap (λ (all : List Answer). slice_index_or all k (reading default)) are
    ∙ get_or-map single indices k 0 (reading default) (omega (arith, inside, count))

-- so many as the indices
pub lent_count : (batch : Batch) (indices : List ℕ) (lent : List Symbolized) → map reading lent ≡ answers_there indices batch → length lent ≡ length indices
lent_count batch indices lent are = sym (length-map lent reading) ∙ ap length are ∙ length-map indices (λ i. answer_at batch (slice_index batch.addrs i))

-- without the last one
pub before_last : (rest : List Symbolized) (last : Symbolized) (k : ℕ) (default : Symbolized) → k < length rest → slice_index_or (rest ++ last ∷ []) k default ≡ slice_index_or rest k default
before_last rest last k default inside = get_or-append rest (last ∷ []) default k inside

pub at_last : (rest : List Symbolized) (last default : Symbolized) → slice_index_or (rest ++ last ∷ []) (length rest) default ≡ last
at_last rest last default = get_or-append_seam rest last [] default

-- the answers at the last indices were put in their places, and those at the others are lent
pub record Puts (batch : Batch) (indices : List ℕ) (start answers lent : List Symbolized) : Type 0 where
  pub count : length answers ≡ length start
  pub kept : (index : ℕ) → IsAnswered batch start index → IsAnswered batch answers index
  pub left : length lent ≤ length indices
  pub lends : (k : ℕ) (default : Symbolized) → k < length lent → reading (slice_index_or lent k default) ≡ answer_at batch (slice_index batch.addrs (slice_index indices k))
  pub made : (k : ℕ) → length lent ≤ k → k < length indices → IsAnswered batch answers (slice_index indices k)

module _ (batch : Batch) (indices : List ℕ) (start : List Symbolized) where
  -- at first all are lent
  pub puts_none : (lent : List Symbolized) → map reading lent ≡ answers_there indices batch → Puts batch indices start start lent
  puts_none lent are = record {
    count = refl;
    kept = λ index was. was;
    left = omega (arith, lent_count batch indices lent are);
    lends = λ k default inside. lent_there batch indices lent are k default inside;
    made = λ k above below. let none : ⊥ = omega (arith, lent_count batch indices lent are, above, below) in absurd none;
  }

  -- the last one that is lent is put
  pub puts_one : (answers lent rest : List Symbolized) (last own : Symbolized) → lent ≡ rest ++ last ∷ [] → All (λ i. i < length start) indices → reading own ≡ reading last →
      Puts batch indices start answers lent → Puts batch indices start (slice_set answers (slice_index indices (length rest)) own) rest
  puts_one answers lent rest last own is room same so_far =
      let index = slice_index indices (length rest) in
      let count : length lent ≡ length rest + 1 = ap length is ∙ length-append rest (last ∷ []) in
      let place : length rest < length indices = omega (arith, count, so_far.left) in
      let within : index < length answers = omega (arith, room (length rest) 0 place, so_far.count) in
      let read : slice_index_or lent (length rest) last ≡ last = ap (λ (l : List Symbolized). slice_index_or l (length rest) last) is ∙ at_last rest last last in
      let there : reading own ≡ answer_at batch (slice_index batch.addrs index) = same ∙ sym (ap reading read) ∙ so_far.lends (length rest) last (omega (arith, count)) in
      record {
        count = length-set answers index own ∙ so_far.count;
        kept = λ i was. answered_more batch answers index own within there i (so_far.kept i was);
        left = omega (arith, place);
        lends = λ k default inside.
            sym (ap reading (ap (λ (l : List Symbolized). slice_index_or l k default) is ∙ before_last rest last k default inside)) ∙ so_far.lends k default (omega (arith, count, inside));
        made = λ k above below. elim (cases_lt (length rest) k) [
          | inl past ↦ answered_more batch answers index own within there (slice_index indices k) (so_far.made k (omega (arith, count, past)) below)
          | inr upto ↦ let same_place : length rest ≡ k = omega (arith, above, upto) in
              subst (λ n. IsAnswered batch (slice_set answers index own) (slice_index indices n)) same_place (answered_here batch answers index own within there)
        ];
      }

-- what holds of all of a part holds at each of its places
pub range_made : (P : ℕ → Type 0) (xs : List ℕ) (from to k default : ℕ) → to ≤ length xs → All P (slice_range xs from to) → from ≤ k → k < to → P (slice_index_or xs k default)
range_made P xs from to k default within all above below =
    let part = slice_range xs from to in
    let count : length part ≡ to - from = omega (arith, length-take (to - from) (drop from xs), length-drop from xs) in
    let read : slice_index_or part (k - from) default ≡ slice_index_or xs k default =
    get_or-take (to - from) (drop from xs) (k - from) default (omega arith) ∙ get_or-drop from xs (k - from) default
    ∙ ap (λ i. slice_index_or xs i default) (omega (arith, above)) in
    subst P read (all (k - from) default (omega (arith, count)))

-- the indices that are read of the entries are the next ones
pub next_read : (batch : Batch) (first : ℕ) (list : List ℕ) (result : Result (Vec ℕ Global) Error) → IfOk result (λ indices. indices.items ≡ list) → AreNext batch first list →
    IfOk result (λ indices. AreNext batch first indices.items)
next_read batch first list (Ok indices) is next = subst (AreNext batch first) (sym is) next
next_read batch first list (Err e) is next = tt

-- the answers after a turn
pub answered_step : (batch : Batch) (indices : List ℕ) (start grown answers : List Symbolized) → AreNext batch (length start) indices → Grows (length indices) start grown →
    AnswersMore batch indices grown answers → ((index : ℕ) → index < length start → IsAnswered batch start index) → (index : ℕ) → index < length answers → IsAnswered batch answers index
answered_step batch indices start grown answers next grows more so_far index inside = elim (cases_lt index (length start)) [
  | inl below ↦ more.kept index (answered_grown batch (length indices) start grown grows index below (so_far index below))
  | inr above ↦ All-contains (IsAnswered batch answers) indices index more.made (next.each index above (omega (arith, inside, more.count, grows.count)))
]
