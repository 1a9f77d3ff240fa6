-- Texts that are made before they are written.
use Rattle.std.proofs.Common.{◌≡◌, ◌≢◌, ◌⊎◌, ◌+◌, ◌-◌, ◌<◌, ◌≤◌, ℕ, List, ◌++◌, length, drop, slice_get, slice_index, slice_index_or, All, slice_range, Option, option_map, Some, None, IfSome, Result, Ok, Err, OnOk, Bor, sym, ap, subst, inl, inr, length-append, length-drop, ◌∙◌, arith}
use Rattle.std.specs.List.{slice_set}
use Rattle.std.specs.Str.Pattern.{GetsRange}
use Rattle.std.proofs.Math.Seq.{drop-append_seam, take-length}
use Rattle.std.proofs.lemmas.Bool.{cases_lt}
use Rattle.std.proofs.lemmas.Grind.{get_or-set_at}
use Rattle.std.proofs.lemmas.List.{drop-append-le, get_or-set_other, length-map, take-append-le}
use Rattle.std.proofs.lemmas.Option.{slice_get-get_or, slice_get-map}
use Rattle.bz_base.specs.Answer.{Answer}
use Rattle.bz_lookups.proofs.BatchLemmas.{answer_there}
use Rattle.bz_lookups.specs.Batch.{Batch, answer_at, answers_there}
use Rattle.bz_lookups.specs.Together.{IsAmong}
use Rattle.bz_canon.specs.AnswerText.{answer_text}
use Rattle.bz_symq.specs.Texts.{IsTextIn, IsTextOf}
use Rattle.bz_symq.specs.declared.texts.TextPart.{TextPart}

-- a part of a text is the same part of the text with more behind it
range_grown : (text more : List ℕ) (from to : ℕ) → from ≤ to → to ≤ length text → slice_range (text ++ more) from to ≡ slice_range text from to
range_grown text more from to ascends within =
    rw (drop-append-le from text more (omega arith)) (take-append-le (to - from) (drop from text) more (omega (arith, length-drop from text)))

-- the text behind is a part of the whole
range_behind : (text more : List ℕ) → slice_range (text ++ more) (length text) (length (text ++ more)) ≡ more
range_behind text more =
    let count : length (text ++ more) - length text ≡ length more = omega (arith, length-append text more) in
    rw (count, drop-append_seam text more) (take-length more)

-- what is read at a part is the text of its answer
pub text_got : (batch : Batch) (index : ℕ) (text : List ℕ) (part : TextPart) (got : Option (Bor (List ℕ))) → IsTextIn batch index text part →
    GetsRange text part.from part.to got → IfSome got (λ t. IsTextOf batch index t.now)
text_got batch index text part None is gets = tt
text_got batch index text part (Some t) is gets = subst (IsTextOf batch index) (sym gets.0) is.is

-- two numbers are the same or not
same_or_other : (m n : ℕ) → (m ≡ n) ⊎ (m ≢ n)
same_or_other m n = elim (cases_lt m n) [
  | inl below ↦ inr (λ e. omega arith)
  | inr above ↦ elim (cases_lt n m) [ inl below ↦ inr (λ e. omega arith) | inr same ↦ inl (omega arith) ]
]

-- a text that was made stays when another one is put behind
text_kept : (batch : Batch) (index : ℕ) (text more : List ℕ) (part : TextPart) → IsTextIn batch index text part → IsTextIn batch index (text ++ more) part
text_kept batch index text more part is = record {
  ascends = is.ascends;
  within = omega (arith, is.within, length-append text more);
  is = subst (IsTextOf batch index) (sym (range_grown text more part.from part.to is.ascends is.within)) is.is;
}

-- the text of the answer, put behind, is told by the part behind
text_added : (batch : Batch) (index : ℕ) (text more : List ℕ) → IsTextOf batch index more →
    IsTextIn batch index (text ++ more) (record { from = length text; to = length (text ++ more) })
text_added batch index text more is = record {
  ascends = omega (arith, length-append text more);
  within = omega arith;
  is = subst (IsTextOf batch index) (sym (range_behind text more)) is;
}

-- what is told at a place after the part of one more answer is written there
texts_with : (batch : Batch) (first index : ℕ) (text more : List ℕ) (parts : List (Option TextPart)) → first ≤ index → index < first + length parts →
    IsTextOf batch index more →
    ((place : ℕ) (part : TextPart) → slice_index_or parts place None ≡ Some part → IsTextIn batch (first + place) text part) →
    (place : ℕ) (part : TextPart) → slice_index_or (slice_set parts (index - first) (Some (record { from = length text; to = length (text ++ more) }))) place None ≡ Some part →
    IsTextIn batch (first + place) (text ++ more) part
texts_with batch first index text more parts from before is are place part told = elim (same_or_other place (index - first)) [
  | inl same ↦
      let added : Option TextPart = Some (record { from = length text; to = length (text ++ more) }) in
      let read : slice_index_or (slice_set parts (index - first) added) place None ≡ added =
      get_or-set_at parts (index - first) place added None same (omega (arith, from, before)) in
      let at : first + place ≡ index = omega (arith, from, same) in
      subst (λ o. IsTextIn batch (first + place) (text ++ more) o) (some_same (sym read ∙ told)) (subst (λ i. IsTextIn batch i (text ++ more) (record { from = length text; to = length (text ++ more) })) (sym at) (text_added batch index text more is))
  | inr other ↦
      let read : slice_index_or (slice_set parts (index - first) (Some (record { from = length text; to = length (text ++ more) }))) place None ≡ slice_index_or parts place None =
      get_or-set_other parts (index - first) place _ None other in
      text_kept batch (first + place) text more part (are place part (sym read ∙ told))
]
  where
    some_same : {a b : TextPart} → Some a ≡ Some b → a ≡ b
    some_same e = cc e

-- each text is that of its answer after one more was put behind
pub texts_more : (batch : Batch) (first index : ℕ) (text more : List ℕ) (parts : List (Option TextPart)) {start end : ℕ} {grown : List ℕ} →
    start ≡ length text → end ≡ length grown → grown ≡ text ++ more → first ≤ index → index < first + length parts → IsTextOf batch index more →
    ((place : ℕ) (part : TextPart) → slice_index_or parts place None ≡ Some part → IsTextIn batch (first + place) text part) →
    (place : ℕ) (part : TextPart) → slice_index_or (slice_set parts (index - first) (Some (record { from = start; to = end }))) place None ≡ Some part →
    IsTextIn batch (first + place) grown part
texts_more batch first index text more parts starts ends grows from before is are = rw (starts, ends, grows) (texts_with batch first index text more parts from before is are)

-- what holds in any case holds of an answered call
pub answered : {A E P : Type 0} (result : Result A E) → P → OnOk result P
answered (Ok given) holds = holds
answered (Err e) holds = tt

-- what was put to the end of a text is the text of the answer at an index
pub entry_put : {A E : Type 0} (batch : Batch) (index : ℕ) (answer : Answer) (old new : List ℕ) (result : Result A E) → slice_get batch.answers index ≡ Some answer →
    OnOk result (new ≡ old ++ answer_text (slice_index batch.addrs index) answer) →
    OnOk result ((answer : Answer) × (slice_get batch.answers index ≡ Some answer) × (new ≡ old ++ answer_text (slice_index batch.addrs index) answer))
entry_put batch index answer old new (Ok given) there put = (answer, there, put)
entry_put batch index answer old new (Err e) there put = tt

-- the indices are of the batch
pub indices_within : (batch : Batch) (first count : ℕ) (indices : List ℕ) → All (IsAmong batch first count) indices → All (λ i. i < length batch.addrs) indices
indices_within batch first count indices among place default more = (among place default more).there

-- the answer at a place among those at some indices is that of the batch at the index there
pub answer_of : (batch : Batch) (indices : List ℕ) (place : ℕ) (answers : List Answer) → answers ≡ answers_there indices batch → All (λ i. i < length batch.addrs) indices →
    place < length answers → slice_get batch.answers (slice_index indices place) ≡ slice_get answers place
answer_of batch indices place answers are within more =
    let single = λ (i : ℕ). answer_at batch (slice_index batch.addrs i) in
    let inside : place < length indices = omega (arith, more, ap length are, length-map indices single) in
    answer_there batch (slice_index indices place) (within place 0 inside)
    ∙ ap (option_map single) (sym (slice_get-get_or indices place 0 inside))
    ∙ sym (slice_get-map single indices place)
    ∙ sym (ap (λ (list : List Answer). slice_get list place) are)
