-- Which answers of a batch are made at a time.
use Rattle.std.specs.Prelude.{◌≡◌, ◌+◌, ◌<◌, ◌≤◌, ℕ, List, length, slice_index, slice_index_or}
use Rattle.std.specs.List.{All, Contains}
use Rattle.bz_base.specs.Answer.{reading}
use Rattle.bz_base.specs.declared.types.Symbolized.{Symbolized}
use Rattle.bz_lookups.specs.Batch.{Batch, answer_at}

-- the index is one of so many from the first on, and of the batch
pub record IsAmong (batch : Batch) (first count index : ℕ) : Type 0 where
  pub from : first ≤ index
  pub before : index < first + count
  pub there : index < length batch.addrs

-- these are, in some order, the indices of so many addresses of the batch from the first on. Where any
-- are left, there is one at least
pub record AreNext (batch : Batch) (first : ℕ) (indices : List ℕ) : Type 0 where
  pub among : All (IsAmong batch first (length indices)) indices
  pub each : (index : ℕ) → first ≤ index → index < first + length indices → Contains indices index
  pub positive : first < length batch.addrs → 0 < length indices

-- where there is an answer at an index, it is that of the batch there
abbrev pub IsAnswered : Batch → List Symbolized → ℕ → Type 0
IsAnswered batch answers index = (default : Symbolized) → index < length answers → reading (slice_index_or answers index default) ≡ answer_at batch (slice_index batch.addrs index)

-- the answers of the batch at these indices were put in their places
pub record AnswersMore (batch : Batch) (indices : List ℕ) (old new : List Symbolized) : Type 0 where
  pub count : length new ≡ length old
  pub kept : (index : ℕ) → IsAnswered batch old index → IsAnswered batch new index
  pub made : All (IsAnswered batch new) indices

-- so many places more, and what was there is as it was
pub record Grows (more : ℕ) (old new : List Symbolized) : Type 0 where
  pub count : length new ≡ length old + more
  pub same : (index : ℕ) (default : Symbolized) → index < length old → slice_index_or new index default ≡ slice_index_or old index default
