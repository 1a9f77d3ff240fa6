-- Each piece is read exactly as its texts say.
-- What is found at the front is the piece, and the piece is found again where it can't go on.
use Rattle.std.proofs.Common.{◌≡◌, ℕ, suc, ◌+◌, Bool, true, false, cond, ◌&&◌, ◌||◌, inl, inr, List, [], ◌∷◌, ◌++◌, length, take, drop, Some, nat_eq, refl, sym, ap, ◌∙◌, arith}
use lib.Pointwise.{pointwise}
use Rattle.std.specs.List.{prefix_len, starts_with}
use Rattle.std.proofs.lemmas.Bool.{and_parts, or_parts, lt-ltb, eqb-true, eq-eqb, false≢true}
use Rattle.std.proofs.lemmas.List.{take-append-drop}
use Rattle.std.proofs.lemmas.Option.{cond_some, same_Some}
use Rattle.std.proofs.Math.Seq.{take-append_seam, drop-append_seam}
use Rattle.bz_base.specs.Byte.{is_blank, begins_with}
use Rattle.bz_breakpad_lines.specs.Byte.{is_space, is_hex, is_decimal, is_word_byte}
use Rattle.bz_breakpad_lines.specs.Form.{Piece, Tell, IsPiece, IsSeparator, some_bytes, anything, is_word, greatest, nothing}
use Rattle.bz_breakpad_lines.specs.Form.Piece.{Tag, Mark, Separator, ModuleSeparator, Gap, Word, Hex, Decimal}
use Rattle.bz_breakpad_lines.specs.Reads.{piece_at, mark_at}
use Rattle.bz_base.proofs.NumberLemmas.{number_found, number_again, decimal_found, decimal_again}
use Rattle.bz_breakpad_lines.proofs.Runs.{run_found, run_again, front_passes, run_len}

-- the bytes with which a piece could go on
abbrev pub goes_on : Piece → ℕ → Bool
goes_on (Tag tag) b = false
goes_on (Mark c) b = is_blank b || nat_eq b c
goes_on Separator b = is_blank b
goes_on ModuleSeparator b = is_blank b
goes_on Gap b = is_blank b
goes_on Word b = is_word_byte b
goes_on (Hex most) b = is_hex b
goes_on Decimal b = is_decimal b

-- a text whose first bytes are the tag's begins with the tag
begins_with_tag : (tag text : List ℕ) → pointwise nat_eq tag (take (length tag) text) ≡ true → text ≡ tag ++ drop (length tag) text
begins_with_tag [] text same = refl
begins_with_tag (t ∷ tag) [] same = absurd (false≢true same)
begins_with_tag (t ∷ tag) (b ∷ text) same =
    let parts = and_parts (nat_eq t b) (pointwise nat_eq tag (take (length tag) text)) same in
    ap (λ c. c ∷ text) (sym (eqb-true t b parts.0)) ∙ ap (λ bs. t ∷ bs) (begins_with_tag tag text parts.1)

same_tag : (tag : List ℕ) → pointwise nat_eq tag tag ≡ true
same_tag [] = refl
same_tag (t ∷ tag) = rw (eq-eqb t t refl) (same_tag tag)

-- blanks, where a text begins with one
some : (text : List ℕ) → begins_with is_blank text ≡ true → some_bytes (take (prefix_len is_blank text) text) ≡ true
some [] begins = absurd (false≢true begins)
some (b ∷ text) begins =
    let n = prefix_len is_blank text in
    let more : 1 + n ≡ suc n = omega arith in
    rw (begins, more) (lt-ltb 0 (suc (length (take n text))) (omega arith))

-- what `mark_at` passes over is the byte and a separator, or nothing
mark_found : (b : ℕ) (text : List ℕ) → (front : List ℕ) × IsPiece (Mark b) front tt × (text ≡ front ++ mark_at b text)
unfolding mark_at
mark_found b [] = ([], inl refl, refl)
mark_found b (c ∷ text) = by (nat_eq c b && begins_with is_blank text) refl where
  by : (test : Bool) → (nat_eq c b && begins_with is_blank text) ≡ test →
      (front : List ℕ) × IsPiece (Mark b) front tt × (c ∷ text ≡ front ++ cond test (drop (prefix_len is_blank text) text) (c ∷ text))
  by false is = ([], inl refl, refl)
  by true is =
      let parts = and_parts (nat_eq c b) (begins_with is_blank text) is in
      let n = prefix_len is_blank text in (
        b ∷ take n text,
        inr (take n text, refl, record { bytes = front_passes is_blank text; passes = some text parts.1; tells = refl }),
        ap (λ d. d ∷ text) (eqb-true c b parts.0) ∙ ap (λ bs. b ∷ bs) (sym (take-append-drop n text)),
      )

-- a separator begins with a blank, whatever follows
pub separator_begins : (separator rest : List ℕ) → IsSeparator separator → begins_with is_blank (separator ++ rest) ≡ true
separator_begins [] rest is = absurd (false≢true is.passes)
separator_begins (b ∷ separator) rest is = is.bytes.0

-- nothing is passed over where another byte stands
mark_none : (b : ℕ) (rest : List ℕ) → begins_with (goes_on (Mark b)) rest ≡ false → mark_at b rest ≡ rest
unfolding mark_at
mark_none b [] stops = refl
mark_none b (c ∷ rest) stops = rw (or_parts (is_blank c) (nat_eq c b) stops).1 refl

begins_first : (f g : ℕ → Bool) (text : List ℕ) → begins_with (λ b. f b || g b) text ≡ false → begins_with f text ≡ false
begins_first f g [] stops = refl
begins_first f g (b ∷ text) stops = (or_parts (f b) (g b) stops).0

mark_some : (b : ℕ) (separator rest : List ℕ) → IsSeparator separator → begins_with (goes_on (Mark b)) rest ≡ false → mark_at b (b ∷ (separator ++ rest)) ≡ rest
unfolding mark_at
mark_some b separator rest is stops =
    rw (
      eq-eqb b b refl,
      separator_begins separator rest is,
      run_len is_blank separator rest is.bytes (begins_first is_blank (λ c. nat_eq c b) rest stops),
      drop-append_seam separator rest,
    ) refl

mark_again : (b : ℕ) (front rest : List ℕ) → IsPiece (Mark b) front tt → begins_with (goes_on (Mark b)) rest ≡ false → mark_at b (front ++ rest) ≡ rest
mark_again b front rest (inl none) stops = rw none (mark_none b rest stops)
mark_again b front rest (inr is) stops = rw is.1 (mark_some b is.0 rest is.2 stops)

pub piece_found : (p : Piece) (text : List ℕ) (read : Tell p × List ℕ) → piece_at p text ≡ Some read →
    (front : List ℕ) × IsPiece p front read.0 × (text ≡ front ++ read.1)
unfolding piece_at
piece_found (Tag tag) text read is =
    let parts = cond_some (starts_with nat_eq text tag) (tt, drop (length tag) text) read is in
    (tag, refl, begins_with_tag tag text parts.0 ∙ ap (λ r. tag ++ r.1) parts.1)
piece_found (Mark b) text read is =
    let found = mark_found b text in
    (found.0, found.1, found.2 ∙ ap (λ r. found.0 ++ r.1) (same_Some (tt, mark_at b text) read is))
piece_found Separator text read is = run_found is_blank some_bytes nothing text read is
piece_found ModuleSeparator text read is = run_found is_blank (begins_with is_space) nothing text read is
piece_found Gap text read is = run_found is_blank anything nothing text read is
piece_found Word text read is = run_found is_word_byte is_word nothing text read is
piece_found (Hex most) text read is =
    let at = number_found 16 most text read.0 read.1 is in
    (at.front, at.number, at.split)
piece_found Decimal text read is =
    let at = decimal_found 10 greatest text read.0 read.1 is in
    (at.0.front, record { number = at.0.number; fits = at.1 }, at.0.split)

pub piece_again : (p : Piece) (front rest : List ℕ) (tells : Tell p) → IsPiece p front tells → begins_with (goes_on p) rest ≡ false →
    piece_at p (front ++ rest) ≡ Some (tells, rest)
unfolding piece_at
piece_again (Tag tag) front rest tells is stops =
    rw (is, take-append_seam tag rest, same_tag tag, drop-append_seam tag rest) refl
piece_again (Mark b) front rest tells is stops = ap (λ r. Some (tt, r)) (mark_again b front rest is stops)
piece_again Separator front rest tells is stops = run_again is_blank some_bytes nothing front rest tells is stops
piece_again ModuleSeparator front rest tells is stops = run_again is_blank (begins_with is_space) nothing front rest tells is stops
piece_again Gap front rest tells is stops = run_again is_blank anything nothing front rest tells is stops
piece_again Word front rest tells is stops = run_again is_word_byte is_word nothing front rest tells is stops
piece_again (Hex most) front rest tells is stops = number_again 16 most front rest tells is stops
piece_again Decimal front rest tells is stops =
    decimal_again 10 greatest (front ++ rest) tells rest (record { front = front; split = refl; number = is.number; ends = stops }) is.fits
