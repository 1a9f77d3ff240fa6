-- A text that is written piece by piece.
use Rattle.std.proofs.Common.{◌≡◌, ◌⊎◌, ◌<◌, ℕ, ◌+◌, ◌-◌, false, List, [], ◌∷◌, ◌++◌, length, map, take, drop, slice_get, slice_index, get_or, Option, option_map, Some, Result, Ok, Err, IsErr, IsErrOf, OnOk, OnErr, refl, sym, ap, subst, ◌∙◌, inl, inr, append_assoc, append-nil, length-append, arith, eqb}
use Rattle.std.proofs.Math.Seq.{take-length}
use Rattle.std.proofs.lemmas.List.{take-append-drop, length-drop, drop_more, get_or_read}
use Rattle.std.proofs.lemmas.Option.{slice_get_within, get_or_from_slice_get, slice_get-map, slice_get_read}
use Rattle.bz_base.specs.Answer.{Answer, reading}
use Rattle.bz_base.specs.declared.types.Symbolized.{Symbolized}
use Rattle.bz_files.specs.TextEnd.{Puts}
use Rattle.bz_files.specs.World.{Told}
use Rattle.bz_files.specs.declared.text.IoFault.{IoFault}
use Rattle.bz_files.specs.declared.text.IoFault.TheVariants as faults
use Rattle.bz_files.specs.declared.text.TextOut as output_trait
use Rattle.bz_canon.specs.AnswerText.{answer_text, answer_texts}
use Rattle.bz_symq.specs.Outcome.{Outcome}
use Rattle.bz_symq.specs.Run.{Ends, IsNoFailure, WritesFront}
use Rattle.bz_symq.specs.Writing.{Finishes, WritesText}
use Rattle.bz_symq.specs.declared.status.Status.{Status}
use Rattle.bz_symq.specs.declared.status.Status.TheVariants as statuses
use Rattle.bz_canon.proofs.AnswerTextLemmas.{texts_step}
use Rattle.bz_symq.proofs.FaultLemmas.{counts_still, no_fault}

-- a front of the text is written, the rest is left, and no write failed; of an
-- empty text nothing is written
pub record HasWritten {W : Type 0} (writes : output_trait.Ghosts W) (text left : List ℕ) (before after : W) : Type 0 where
  pub front : List ℕ
  pub whole : text ≡ front ++ left
  pub written : Told (writes.written before) (λ old. writes.written after ≡ Some (old ++ front))
  pub silent : text ≡ [] → after ≡ before
  pub steady : writes.faults after ≡ writes.faults before

-- two texts that are empty together
nothing_in : (front rest : List ℕ) → [] ≡ front ++ rest → (front ≡ []) × (rest ≡ [])
nothing_in [] [] none = (refl, refl)
nothing_in [] (b ∷ bs) none = cc
nothing_in (b ∷ bs) rest none = cc

-- one more call joins what it took to the front
front_more : (text front rest : List ℕ) (n : ℕ) → text ≡ front ++ rest →
    text ≡ (front ++ take n rest) ++ take (length rest - n) (drop n rest)
front_more text front rest n whole =
    let left : take (length rest - n) (drop n rest) ≡ drop n rest = rw (← length-drop n rest) (take-length (drop n rest)) in
    rw left (whole ∙ (ap (λ r. front ++ r) (sym (take-append-drop n rest)) ∙ sym (append_assoc front (take n rest) (drop n rest))))

-- what it took stands after what was written
written_more : (before after : Option (List ℕ)) (old front rest : List ℕ) (n : ℕ) → before ≡ Some (old ++ front) →
    Puts before after rest (Ok n) → after ≡ Some (old ++ (front ++ take n rest))
written_more before after old front rest n told puts = (rw told at puts) ∙ ap Some (append_assoc old front (take n rest))

-- what is left of a list from the place of one of its items on
drop_given : {B : Type 0} (items : List B) (index : ℕ) (item : B) → slice_get items index ≡ Some item → drop index items ≡ item ∷ drop (index + 1) items
drop_given items index item is =
    drop_more items index item (slice_get_within items index item is) ∙ ap (λ x. x ∷ drop (index + 1) items) (get_or_from_slice_get items index item item is)

-- nothing has no rest that isn't empty
nothing_left : (text front rest : List ℕ) → text ≡ front ++ rest → text ≡ [] → false ≡ eqb (length rest) 0 → ⊥
nothing_left text front [] whole none more = cc
nothing_left text front (b ∷ bs) whole none more = omega (arith, ap length (sym none ∙ whole), length-append front (b ∷ bs))

-- a status that is no failure ends a run whose text was written
ends_whole : (expected : Outcome) (status : Status) → expected.status ≡ status → (old : List ℕ) (new : Option (List ℕ)) → IsNoFailure status → new ≡ Some (old ++ expected.text) →
    Ends expected old status new
ends_whole expected statuses.Fault is old new no_failure written = absurd (no_failure.0 refl)
ends_whole expected statuses.Memory is old new no_failure written = absurd (no_failure.1 refl)
ends_whole expected _ is old new no_failure written = (is, written)

module _ {W : Type 0} (writes : output_trait.Ghosts W) where
  -- one more call writes the next bytes of what is left
  pub has_put : {text rest : List ℕ} {first before after : W} (n : ℕ) → HasWritten writes text rest first before → false ≡ eqb (length rest) 0 →
      Puts (writes.written before) (writes.written after) rest (Ok n) → writes.faults after ≡ writes.faults before →
      HasWritten writes text (take (length rest - n) (drop n rest)) first after
  has_put {text} {rest} {first} {before} {after} n so_far more puts steady = record {
    front = so_far.front ++ take n rest;
    whole = front_more text so_far.front rest n so_far.whole;
    written = λ old told. written_more (writes.written before) (writes.written after) old so_far.front rest n (so_far.written old told) puts;
    silent = λ none. absurd (nothing_left text so_far.front rest so_far.whole none more);
    steady = steady ∙ so_far.steady;
  }

  -- the text of the next answer goes to the piece that is left
  pub has_answer : (piece : List ℕ) {text grown : List ℕ} (addrs : List ℕ) (answers : List Answer) (index : ℕ) (answer : Answer) {first before : W} →
      index < length addrs → slice_get answers index ≡ Some answer → grown ≡ piece ++ answer_text (slice_index addrs index) answer →
      HasWritten writes text (piece ++ answer_texts (drop index addrs) (drop index answers)) first before →
      HasWritten writes text (grown ++ answer_texts (drop (index + 1) addrs) (drop (index + 1) answers)) first before
  has_answer piece {text} {grown} addrs answers index answer within is grows so_far =
      rw (texts_step piece grown (drop index addrs) (drop (index + 1) addrs) (drop index answers) (drop (index + 1) answers) (slice_index addrs index) answer
      (drop_more addrs index 0 within) (drop_given answers index answer is) grows) so_far

  -- the piece is written, and the next one is empty
  pub has_piece : {A : Type 0} {given : A} {text piece next : List ℕ} (left : List ℕ) {first before after : W} → HasWritten writes text (piece ++ left) first before →
      WritesText writes piece (Ok given) before after → next ≡ [] → HasWritten writes text (next ++ left) first after
  has_piece {given = given} {piece = piece} left {first = first} {before = before} {after = after} so_far wrote empty = rw empty (record {
    front = so_far.front ++ piece;
    whole = so_far.whole ∙ sym (append_assoc so_far.front piece left);
    written = λ old told. wrote.whole (old ++ so_far.front) (so_far.written old told) ∙ ap Some (append_assoc old so_far.front piece);
    silent = λ none. silent_on (so_far.silent none) (nothing_in so_far.front (piece ++ left) (sym none ∙ so_far.whole));
    steady = no_fault _ _ (IsErrOf (Ok given) faults.Fault) (λ fault. cc) wrote.counts ∙ so_far.steady;
  })
    where
      silent_on : before ≡ first → (so_far.front ≡ []) × (piece ++ left ≡ []) → after ≡ first
      silent_on same none = wrote.silent (nothing_in piece left (sym none.1)).0 ∙ same

  -- the last piece is written, or the writing of a piece failed
  pub writes_last : {A : Type 0} (result : Result A IoFault) {text piece left : List ℕ} {first before after : W} → HasWritten writes text (piece ++ left) first before →
      WritesText writes piece result before after → (IsErr result ⊎ (left ≡ [])) → WritesText writes text result first after
  writes_last {A} result {text} {piece} {left} {first} {before} {after} so_far wrote last = record {
    whole = λ old told. by_whole result old (so_far.written old told) wrote.whole last;
    front = λ old told. by_front result old (so_far.written old told) wrote.front;
    silent = λ none. wrote.silent (nothing_in piece left (sym (nothing_in so_far.front (piece ++ left) (sym none ∙ so_far.whole)).1)).0 ∙ so_far.silent none;
    counts = rw so_far.steady at wrote.counts;
  }
    where
      by_whole : (r : Result A IoFault) (old : List ℕ) → writes.written before ≡ Some (old ++ so_far.front) →
          Told (writes.written before) (λ was. OnOk r (writes.written after ≡ Some (was ++ piece))) → (IsErr r ⊎ (left ≡ [])) → OnOk r (writes.written after ≡ Some (old ++ text))
      by_whole (Err e) old told whole last = tt
      by_whole (Ok given) old told whole (inl err) = cc
      by_whole (Ok given) old told whole (inr none) =
          let all : text ≡ so_far.front ++ piece = so_far.whole ∙ ap (λ rest. so_far.front ++ rest) (ap (λ rest. piece ++ rest) none ∙ append-nil piece) in
          whole (old ++ so_far.front) told ∙ ap Some (append_assoc old so_far.front piece ∙ ap (λ rest. old ++ rest) (sym all))

      by_front : (r : Result A IoFault) (old : List ℕ) → writes.written before ≡ Some (old ++ so_far.front) →
          Told (writes.written before) (λ was. OnErr r (WritesFront piece was (writes.written after))) → OnErr r (WritesFront text old (writes.written after))
      by_front (Ok given) old told front = tt
      by_front (Err e) old told front =
          let part = front (old ++ so_far.front) told in
          let inner : piece ++ left ≡ part.0 ++ (part.1 ++ left) = ap (λ p. p ++ left) part.2 ∙ append_assoc part.0 part.1 left in (
            so_far.front ++ part.0,
            part.1 ++ left,
            so_far.whole ∙ (ap (λ rest. so_far.front ++ rest) inner ∙ sym (append_assoc so_far.front part.0 (part.1 ++ left))),
            part.3 ∙ ap Some (append_assoc old so_far.front part.0),
          )

  -- a run whose reply was written ends with its status
  pub finishes_whole : {A : Type 0} {given : A} {reply : Outcome} {before after : W} → IsNoFailure reply.status → WritesText writes reply.text (Ok given) before after →
      Finishes writes reply reply.status before after
  finishes_whole {given = given} {reply = reply} {before = before} {after = after} no_failure wrote = record {
    ends = λ old told. ends_whole reply reply.status refl old (writes.written after) no_failure (wrote.whole old told);
    status = inl refl;
    silent = wrote.silent;
    counts = counts_still _ _ _ no_failure.0 (no_fault _ _ (IsErrOf (Ok given) faults.Fault) (λ fault. cc) wrote.counts);
  }

-- Answers that were all given.

-- the text of the next of them, as it stands in the piece
pub owned_next : (addrs : List ℕ) (owned : List Symbolized) (index addr : ℕ) (answer : Symbolized) (old new : List ℕ) → index < length addrs → index < length owned →
    addr ≡ get_or addrs index addr → answer ≡ get_or owned index answer → new ≡ old ++ answer_text addr (reading answer) →
    (slice_get (map reading owned) index ≡ Some (reading answer)) × (new ≡ old ++ answer_text (slice_index addrs index) (reading answer))
owned_next addrs owned index addr answer old new in_addrs in_owned is_addr is_answer grows = (
  slice_get-map reading owned index ∙ ap (option_map reading) (slice_get_read owned (length owned) index answer refl in_owned is_answer),
  subst (λ (a : ℕ). new ≡ old ++ answer_text a (reading answer)) (get_or_read addrs index addr in_addrs is_addr 0) grows,
)
