-- Texts of answers that are made before they are written.
use Rattle.std.specs.Prelude.{◌≡◌, ◌+◌, ◌≤◌, ℕ, List, length, Some, None, slice_get, slice_index, slice_index_or, slice_range, string_bytes}
use Rattle.bz_base.specs.Answer.{Answer}
use Rattle.bz_lookups.specs.Batch.{Batch}
use Rattle.bz_canon.specs.AnswerText.{answer_text}
use Rattle.bz_symq.specs.declared.texts.TextPart.{TextPart}
use Rattle.bz_symq.specs.declared.texts.Texts.{Texts}

-- the text of the answer at an index of a batch
pub record IsTextOf (batch : Batch) (index : ℕ) (text : List ℕ) : Type 0 where
  pub answer : Answer
  pub there : slice_get batch.answers index ≡ Some answer
  pub is : text ≡ answer_text (slice_index batch.addrs index) answer

-- the text of the answer at an index stands in this part of a text
pub record IsTextIn (batch : Batch) (index : ℕ) (text : List ℕ) (part : TextPart) : Type 0 where
  pub ascends : part.from ≤ part.to
  pub within : part.to ≤ length text
  pub is : IsTextOf batch index (slice_range text part.from part.to)

-- each text that was made is that of the answer at its index
abbrev pub AreTexts : Batch → Texts → Type 0
AreTexts batch texts = (place : ℕ) (part : TextPart) → slice_index_or texts.parts.items place None ≡ Some part →
    IsTextIn batch (texts.first + place) (string_bytes texts.text) part

-- more texts were made, of answers among the same ones
pub record MakesMore (batch : Batch) (old new : Texts) : Type 0 where
  pub texts : AreTexts batch old → AreTexts batch new
  pub first : new.first ≡ old.first
  pub count : length new.parts.items ≡ length old.parts.items
