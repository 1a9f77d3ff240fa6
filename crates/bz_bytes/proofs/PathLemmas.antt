-- A path that is split from its end: what is cut off is dead, and what is left ends in a live piece.
use Rattle.std.proofs.Common.{◌≡◌, ◌≢◌, inl, inr, ℕ, ◌<◌, Bool, true, false, cond, List, [], ◌∷◌, ◌++◌, length, take, drop, Option, Some, None, nat_eq, Bor, MatchOption, IfSome, IfNone, refl, sym, ap, subst, ◌∙◌, arith, ap₂, append_assoc, length-append, take-append-drop, ◌+◌, ◌≤◌, ◌&&◌}
use Rattle.std.specs.List.{list_any, onto_first, join_with_byte}
use Rattle.std.specs.Str.Pattern.{RFindsChar}
use Rattle.std.proofs.lemmas.Bool.{or_parts, eqb-true}
use Rattle.std.proofs.lemmas.List.{append_cancel_right}
use Rattle.std.proofs.lemmas.List.Splits.{join_with_byte-slice_split, slice_split-cons_no}
use Rattle.std.proofs.lemmas.Option.{none-some}
use Rattle.std.proofs.lemmas.Str.Pattern.{NoCharPasses-char, drop_at_char}
use Rattle.bz_bytes.specs.Byte.{HasNo}
use Rattle.bz_bytes.specs.Path.{slash, dot, root, begins_with_slash, is_dead, pieces, live_of, last_live, text_to, split_by, split, CutsDead, EndsLive}
use Rattle.bz_bytes.proofs.ByteLemmas.{HasNo-nowhere}
use Rattle.bz_bytes.proofs.PieceLemmas.{pieces_some, pieces_alone, pieces_last, last_slash, last_live-dead, last_live-live}

-- a search for the last slash cuts the text there
pub cut_at_last : (byte : ℕ) (text : List ℕ) (r : Option (Bor (List ℕ) × Bor (List ℕ))) →
    MatchOption r (RFindsChar byte text None) (λ x. (i : ℕ) × (j : ℕ) × RFindsChar byte text (Some (i, j)) × (x.0.now ≡ take i text) × (x.1.now ≡ drop j text) × (i ≤ j) × (length x.0.now ≡ i) × (length x.1.now + j ≡ length text))
    → byte < 128 → MatchOption r (HasNo byte text) (λ x. (text ≡ x.0.now ++ byte ∷ x.1.now) × HasNo byte x.1.now)
cut_at_last byte text None found low = HasNo-nowhere byte text (λ i within is. NoCharPasses-char byte text i found low within (eqb-true _ byte is))
cut_at_last byte text (Some x) found low = (
  sym (take-append-drop found.0 text) ∙ (λ k. sym found.3 k ++ (drop_at_char byte text found.0 found.1 found.2.1 low ∙ ap (λ rest. byte ∷ rest) (sym found.4)) k),
  subst (HasNo byte) (sym found.4) (HasNo-nowhere byte (drop found.1 text) (λ i within is. NoCharPasses-char byte (drop found.1 text) i found.2.0 low within (eqb-true _ byte is))),
)

-- The piece at the end.

-- a text that ends in a slash and a dot ends in a dot
slash_dot : (front : List ℕ) → front ++ slash ∷ dot ∷ [] ≡ (front ++ slash ∷ []) ++ dot ∷ []
slash_dot front = sym (append_assoc front (slash ∷ []) (dot ∷ []))

-- a dot is cut off with the slash before it, if there is one
pub cut_dot : (text shorter : List ℕ) (r : Option (Bor (List ℕ))) → text ≡ shorter ++ dot ∷ [] →
    MatchOption r ((front : List ℕ) → shorter ≢ front ++ slash ∷ []) (λ x. shorter ≡ x.now ++ slash ∷ []) → IfSome r (λ front. CutsDead text front.now)
cut_dot text shorter None ends cut = tt
cut_dot text shorter (Some front) ends cut = inr (ends ∙ ap (λ t. t ++ dot ∷ []) cut ∙ sym (slash_dot front.now))

-- a text that ends in no slash and no dot ends live
pub ends_without_dot : (text : List ℕ) → ((front : List ℕ) → text ≢ front ++ slash ∷ []) → ((front : List ℕ) → text ≢ front ++ dot ∷ []) → EndsLive text
ends_without_dot text no_slash no_dot = record {
  no_slash = no_slash;
  no_dot = λ front is. no_dot (front ++ slash ∷ []) (is ∙ slash_dot front);
}

-- and so does one whose dot has no slash before it
pub ends_in_dot : (text shorter : List ℕ) (r : Option (Bor (List ℕ))) → ((front : List ℕ) → text ≢ front ++ slash ∷ []) → text ≡ shorter ++ dot ∷ [] →
    MatchOption r ((front : List ℕ) → shorter ≢ front ++ slash ∷ []) (λ x. shorter ≡ x.now ++ slash ∷ []) → IfNone r (EndsLive text)
ends_in_dot text shorter (Some front) no_slash ends alone = tt
ends_in_dot text shorter None no_slash ends alone = record {
  no_slash = no_slash;
  no_dot = λ front is. alone front (append_cancel_right shorter (front ++ slash ∷ []) (dot ∷ []) (sym ends ∙ is ∙ slash_dot front));
}

-- the last live piece is the same without a dead one at the end
pub cut_live : (text front : List ℕ) → CutsDead text front → last_live true (pieces front) ≡ last_live true (pieces text)
cut_live text front (inl is) =
    sym (ap (λ t. last_live true (pieces t)) is ∙ ap (last_live true) (pieces_last front [] refl) ∙ last_live-dead true (pieces front) [] (pieces_some front) refl)
cut_live text front (inr is) =
    sym (ap (λ t. last_live true (pieces t)) is ∙ ap (last_live true) (pieces_last front (dot ∷ []) refl) ∙ last_live-dead true (pieces front) (dot ∷ []) (pieces_some front) refl)

-- a text begins with a slash if its front does
begins_front : (front rest : List ℕ) → 0 < length front → begins_with_slash front ≡ begins_with_slash (front ++ rest)
begins_front [] rest some = absurd (omega arith)
begins_front (b ∷ front) rest some = refl

-- what is left begins as the text does
pub cut_rooted : (text front : List ℕ) → CutsDead text front → 0 < length front → begins_with_slash front ≡ begins_with_slash text
cut_rooted text front (inl is) some = begins_front front (slash ∷ []) some ∙ sym (ap begins_with_slash is)
cut_rooted text front (inr is) some = begins_front front (slash ∷ dot ∷ []) some ∙ sym (ap begins_with_slash is)

-- and is shorter
pub cut_shorter : (text front : List ℕ) → CutsDead text front → length front < length text
cut_shorter text front (inl is) = omega (arith, ap length is, length-append front (slash ∷ []))
cut_shorter text front (inr is) = omega (arith, ap length is, length-append front (slash ∷ dot ∷ []))

-- Directory and file.

-- the first piece is live if it isn't empty
first_live : (b : ℕ) (piece : List ℕ) → is_dead true (b ∷ piece) ≡ false
first_live b [] = by_test (nat_eq b dot) where
  by_test : (test : Bool) → test && false ≡ false
  by_test true = refl
  by_test false = refl
first_live b (c ∷ piece) = refl

-- pieces of which the first is live have a last live one
some_live : (b : ℕ) (all : List (List ℕ)) → last_live true (onto_first b all) ≡ None → ⊥
some_live b [] none = none-some ([], b ∷ []) (sym none ∙ ap (λ test. cond test None (Some ([], b ∷ []))) (first_live b []))
some_live b (piece ∷ all) none = by_rest (last_live false all) none where
  by_rest : (o : Option (List (List ℕ) × List ℕ)) → live_of true (b ∷ piece) o ≡ None → ⊥
  by_rest None none = none-some ([], b ∷ piece) (sym none ∙ ap (λ test. cond test None (Some ([], b ∷ piece))) (first_live b piece))
  by_rest (Some found) none = none-some ((b ∷ piece) ∷ found.0, found.1) (sym none)

-- a text with no live piece is empty or begins with a slash
pub rooted_if_dead : (text : List ℕ) → last_live true (pieces text) ≡ None → 0 < length text → begins_with_slash text ≡ true
rooted_if_dead [] dead some = absurd (omega arith)
rooted_if_dead (b ∷ text) dead some = by_test (nat_eq b slash) refl where
  by_test : (test : Bool) → nat_eq b slash ≡ test → test ≡ true
  by_test true is = refl
  by_test false is = absurd (some_live b (pieces text) (ap (last_live true) (sym (slice_split-cons_no (λ c. nat_eq c slash) b text is)) ∙ dead))

-- the piece after the last slash is live where the text ends live
ends_live : (text front rest : List ℕ) → EndsLive text → text ≡ front ++ slash ∷ rest → is_dead false rest ≡ false
ends_live text front [] ends is = absurd (ends.no_slash front is)
ends_live text front (b ∷ []) ends is = by_test (nat_eq b dot) refl where
  by_test : (test : Bool) → nat_eq b dot ≡ test → test && true ≡ false
  by_test true same = absurd (ends.no_dot front (is ∙ ap (λ c. front ++ slash ∷ c ∷ []) (eqb-true b dot same)))
  by_test false other = refl
ends_live text front (b ∷ c ∷ rest) ends is = refl

-- the directory is the text to the end of its last live piece
whole_text : (text : List ℕ) → EndsLive text → 0 < length text →
    (found : List (List ℕ) × List ℕ) × (last_live true (pieces text) ≡ Some found) × (text_to found.0 found.1 ≡ text)
whole_text [] ends some = absurd (omega arith)
whole_text (b ∷ text) ends some = elim (last_slash (b ∷ text)) [
  | inl none ↦ (([], b ∷ text), ap (last_live true) (pieces_alone (b ∷ text) none) ∙ ap (λ test. cond test None (Some ([], b ∷ text))) (first_live b text), refl)
  | inr at ↦ (
    (pieces at.0, at.1),
    ap (λ t. last_live true (pieces t)) at.2 ∙ ap (last_live true) (pieces_last at.0 at.1 at.3) ∙ last_live-live true (pieces at.0) at.1 (pieces_some at.0) (ends_live (b ∷ text) at.0 at.1 ends at.2),
    ap (join_with_byte slash) (sym (pieces_last at.0 at.1 at.3)) ∙ join_with_byte-slice_split slash (at.0 ++ slash ∷ at.1) ∙ sym at.2,
  )
]

-- an empty list has no elements
length-zero : {A : Type 0} (all : List A) → length all ≡ 0 → all ≡ []
length-zero [] empty = refl
length-zero (x ∷ all) empty = absurd (omega arith)

-- a piece that isn't empty and stands alone is the file, without a directory
alone : (kept : List ℕ) → 0 < length kept → HasNo slash kept → split kept ≡ Some (None, kept)
alone [] some none = absurd (omega arith)
alone (b ∷ kept) some none =
    let first : nat_eq b slash ≡ false = (or_parts (nat_eq b slash) (list_any (λ c. nat_eq c slash) kept) none).0 in
    ap₂ split_by first (ap (last_live true) (pieces_alone (b ∷ kept) none))
    ∙ ap (λ test. split_by false (cond test None (Some ([], b ∷ kept)))) (first_live b kept)

-- a slash after no live piece has one at the front of the text
rooted_before : (before file : List ℕ) → last_live true (pieces before) ≡ None → begins_with_slash (before ++ slash ∷ file) ≡ true
rooted_before [] file dead = refl
rooted_before (b ∷ before) file dead = rooted_if_dead (b ∷ before) dead (omega arith)

-- what is left of the text when dead pieces are cut from its end
module _ (text kept : List ℕ) (live : last_live true (pieces kept) ≡ last_live true (pieces text)) where
  -- nothing is left of a text that isn't empty: it is the root
  pub split_root : length kept ≡ 0 → 0 < length text → Some (None, root) ≡ split text
  split_root empty some =
      let none : last_live true (pieces text) ≡ None = sym live ∙ ap (λ t. last_live true (pieces t)) (length-zero kept empty) in
      rw (none, rooted_if_dead text none some) refl

  module _ (rooted : 0 < length kept → begins_with_slash kept ≡ begins_with_slash text) where
    -- one piece is left: it is the file, and there is no directory
    pub split_alone : 0 < length kept → HasNo slash kept → Some (None, kept) ≡ split text
    split_alone some none = sym (ap₂ split_by (sym (rooted some)) (sym live) ∙ alone kept some none)

    module _ (ends : EndsLive kept) (before file : List ℕ) (cut : kept ≡ before ++ slash ∷ file) (none : HasNo slash file) where
      -- the file is the piece after the last slash
      file_at : last_live true (pieces text) ≡ Some (pieces before, file)
      file_at =
          sym live ∙ ap (λ t. last_live true (pieces t)) cut ∙ ap (last_live true) (pieces_last before file none)
          ∙ last_live-live true (pieces before) file (pieces_some before) (ends_live kept before file ends cut)

      kept_some : 0 < length kept
      kept_some = omega (arith, ap length cut, length-append before (slash ∷ file))

      -- before it no piece is live: the directory is the root
      pub split_in_root : (directory : List ℕ) → last_live true (pieces directory) ≡ last_live true (pieces before) → length directory ≡ 0 →
          Some (Some root, file) ≡ split text
      split_in_root directory same empty =
          let dead : last_live true (pieces before) ≡ None = sym same ∙ ap (λ t. last_live true (pieces t)) (length-zero directory empty) in
          let at_root : begins_with_slash text ≡ true = sym (rooted kept_some) ∙ ap begins_with_slash cut ∙ rooted_before before file dead in
          rw (file_at, dead, at_root) refl

      -- else the directory is what is left of the text before the file
      pub split_in : (directory : List ℕ) → last_live true (pieces directory) ≡ last_live true (pieces before) → EndsLive directory → 0 < length directory →
          Some (Some directory, file) ≡ split text
      split_in directory same live_end some =
          let whole = whole_text directory live_end some in
          rw (file_at, sym same, whole.1, whole.2) refl
