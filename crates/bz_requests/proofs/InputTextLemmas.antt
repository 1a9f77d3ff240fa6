-- The input, piece by piece, and its addresses.
use Rattle.std.proofs.Common.{◌≡◌, ℕ, ◌+◌, ◌≤◌, List, [], ◌∷◌, ◌++◌, length, drop, Option, Some, Result, Ok, Err, IsErr, refl, sym, ap, ◌∙◌, inl, inr, arith}
use Rattle.std.proofs.lemmas.Bool.{false≢true}
use Rattle.std.proofs.lemmas.List.{length-drop, nil_from_length}
use Rattle.std.proofs.Math.Seq.{drop-append_seam, drop-append-add}
use Rattle.bz_files.specs.World.{Told}
use Rattle.bz_requests.specs.Addresses.{AreAddresses, IsAddress, address_in, addresses_in}
use Rattle.bz_requests.specs.Lines.{ReadsAsSpelled, items_in}
use Rattle.bz_requests.proofs.AddressLemmas.{address_agrees}
use Rattle.bz_requests.proofs.LineGrammarLemmas as lines
use Rattle.bz_requests.proofs.LineGrammarLemmas.{items_found, items_again}
use Rattle.bz_requests.specs.InputText.{AsksFor, IsBadInput, Moves, MovesAtMost, greatest_input, left_over, room_after}

-- what lies past a front is what follows it
drop_front : (front rest text : List ℕ) (n : ℕ) → text ≡ front ++ rest → length front ≡ n → rest ≡ drop n text
drop_front front rest text n whole counted = rw (whole, ← counted) (sym (drop-append_seam front rest))

-- where so many bytes have been moved, what lies past them is left
pub left_past : (before after : Option (List ℕ)) (front text : List ℕ) (n : ℕ) → Moves before after front → length front ≡ n → before ≡ Some text →
    after ≡ Some (drop n text)
left_past before after front text n moves counted told =
    let moved = moves text told in
    moved.2 ∙ ap Some (drop_front front moved.0 text n moved.1 counted)

-- two texts that are empty together
nothing_in : (front rest : List ℕ) → [] ≡ front ++ rest → (front ≡ []) × (rest ≡ [])
nothing_in [] [] none = (refl, refl)
nothing_in [] (b ∷ bs) none = cc
nothing_in (b ∷ bs) rest none = cc

-- where nothing was left, what was read is the whole, and nothing is left
pub read_whole : (first second third : Option (List ℕ)) (front piece text : List ℕ) → Moves first second front → Moves second third piece →
    Told second (λ rest. rest ≡ []) → first ≡ Some text → (front ++ piece ≡ text) × (third ≡ Some [])
read_whole first second third front piece text before more end told =
    let so_far = before text told in
    let next = more so_far.0 so_far.2 in
    let empty = end so_far.0 so_far.2 in
    let none = nothing_in piece next.0 (sym empty ∙ next.1) in
    (ap (λ bytes. front ++ bytes) (none.0 ∙ sym empty) ∙ sym so_far.1, next.2 ∙ ap Some none.1)

-- what fits the room after a front stays within the greatest length and one byte
pub moves_within : (first second third : Option (List ℕ)) (front : List ℕ) (n : ℕ) → n ≡ length front → n ≤ greatest_input + 1 → Moves first second front →
    MovesAtMost (room_after n) second third → MovesAtMost (greatest_input + 1) first third
moves_within first second third front n counted few before more = λ text told.
    let so_far = before text told in
    let next = more so_far.0 so_far.2 in
    let past = drop-append-add front so_far.0 next.0 in
    (length front + next.0, omega (arith, next.1, counted, few), next.2 ∙ ap Some (sym past ∙ ap (drop (length front + next.0)) (sym so_far.1)))

-- an input that was read to its end, and isn't too long, has left what lies past the
-- greatest length: nothing
pub left_at_end : (text : List ℕ) → length text ≤ greatest_input → [] ≡ left_over text
left_at_end text short = sym (nil_from_length (left_over text) (omega (arith, length-drop (greatest_input + 1) text)))

-- so where an input that isn't too long was read to its end
pub over_at_end : (before after : Option (List ℕ)) (bytes : List ℕ) → length bytes ≤ greatest_input → Told before (λ text. bytes ≡ text) →
    Told before (λ text. after ≡ Some []) → Told before (λ text. after ≡ Some (left_over text))
over_at_end before after bytes short whole end = λ text told. end text told ∙ ap Some (left_at_end text (rw (whole text told) at short))

-- the addresses that are read are those that the lines say
pub addresses_found : (text addrs : List ℕ) → addresses_in text ≡ Ok addrs → AreAddresses text addrs
addresses_found text addrs read = items_found address_in IsAddress address_agrees text addrs read

pub addresses_again : (text addrs : List ℕ) → AreAddresses text addrs → addresses_in text ≡ Ok addrs
addresses_again text addrs are = items_again address_in IsAddress address_agrees text addrs are

-- What an input of lines asks for, and when it is bad, where reader and relation agree.
module _ {A : Type 0} (reads : List ℕ → Option A) (Spells : List ℕ → A → Type 0) (agrees : ReadsAsSpelled reads Spells) (text : List ℕ) where
  -- an input whose lines aren't read is a bad one
  pub bad_from_read : (read : Result (List A) ℕ) → items_in reads text ≡ read → IsErr read → IsBadInput Spells text
  bad_from_read (Ok items) is bad = cc
  bad_from_read (Err n) is bad = inr (n, lines.first_bad_found reads Spells agrees text n is)

  -- and only such an input, if it isn't too long
  pub err_from_bad : length text ≤ greatest_input → IsBadInput Spells text → IsErr (items_in reads text)
  err_from_bad short (inl long) = absurd (omega (arith, short, long))
  err_from_bad short (inr (n, bad)) = rw (lines.first_bad_again reads Spells agrees text n bad) refl

  -- the items that are read are asked for
  pub asks_from_read : length text ≤ greatest_input → (items : List A) → items_in reads text ≡ Ok items → AsksFor Spells text items
  asks_from_read short items read = record { short = short; items_are = items_found reads Spells agrees text items read }

  -- and an input that asks for items isn't bad
  pub never_bad : (items : List A) → AsksFor Spells text items → IsBadInput Spells text → ⊥
  never_bad items asks bad = absurd (false≢true (rw (items_again reads Spells agrees text items asks.items_are) at (err_from_bad asks.short bad)))
