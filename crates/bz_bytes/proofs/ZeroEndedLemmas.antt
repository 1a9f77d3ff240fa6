-- The bytes before a zero byte, read from the front, and the texts that stand at places.
use Rattle.std.proofs.Common.{◌≡◌, ℕ, suc, ◌+◌, ◌≤◌, Bool, true, false, length, drop, take, List, [], ◌∷◌, ◌++◌, Option, Some, None, option_map, append_assoc, refl, sym, ap, subst, ◌∙◌, arith, cond}
use Rattle.std.specs.List.{list_any, position_or_len}
use Rattle.std.specs.Str.{IsUtf8}
use Rattle.std.proofs.lemmas.List.{length-append, length-drop, length-take-le, take-append-drop}
use Rattle.std.proofs.lemmas.Option.{none-some, same_Some}
use Rattle.std.proofs.Math.Seq.{drop-append_seam}
use Rattle.bz_bytes.specs.Byte.{HasNo, zero_byte}
use Rattle.bz_bytes.specs.Cursor.{cstr_at, with_first, with_rest}
use Rattle.bz_bytes.specs.ZeroEnded.{IsString, before_zero, zero_ended, is_zero}
use Rattle.bz_bytes.proofs.CursorLemmas.{cstr_again}
use Rattle.bz_bytes.proofs.PieceOfBytesLemmas.{cstr_front, map_some}

firsts : (o : Option (List ℕ)) (rest : List ℕ) (found : Option (List ℕ × List ℕ)) → with_rest o rest ≡ found → o ≡ option_map (λ x. x.0) found
firsts None rest found is = ap (option_map (λ (x : List ℕ × List ℕ). x.0)) is
firsts (Some text) rest found is = ap (option_map (λ (x : List ℕ × List ℕ). x.0)) is

-- a byte in front that isn't zero goes before the text
longer : (b : ℕ) (bytes : List ℕ) (n : ℕ) → take (1 + n) (b ∷ bytes) ≡ b ∷ take n bytes
longer b bytes n = let e : 1 + n ≡ suc n = omega arith in rw e refl

mapped : (b : ℕ) (o : Option (List ℕ × List ℕ)) → option_map (λ (x : List ℕ × List ℕ). x.0) (option_map (with_first b) o) ≡ option_map (λ text. b ∷ text) (option_map (λ (x : List ℕ × List ℕ). x.0) o)
mapped b None = refl
mapped b (Some x) = refl

moved : (b : ℕ) (bytes : List ℕ) (any : Bool) (n : ℕ) →
    option_map (λ text. b ∷ text) (cond any (Some (take n bytes)) None) ≡ cond any (Some (take (1 + n) (b ∷ bytes))) None
moved b bytes true n = ap (λ (l : List ℕ). Some l) (sym (longer b bytes n))
moved b bytes false n = refl

text_after : (b : ℕ) (bytes : List ℕ) (zero : Bool) → is_zero b ≡ zero → option_map (λ x. x.0) (cstr_at bytes) ≡ zero_ended bytes →
    option_map (λ x. x.0) (cstr_at (b ∷ bytes)) ≡ zero_ended (b ∷ bytes)
unfolding cstr_at
text_after b bytes true is _ = rw is refl
text_after b bytes false is rest = rw is (mapped b (cstr_at bytes) ∙ ap (option_map (λ text. b ∷ text)) rest ∙ moved b bytes (list_any is_zero bytes) (position_or_len is_zero bytes))

text_cut : (bytes : List ℕ) → option_map (λ x. x.0) (cstr_at bytes) ≡ zero_ended bytes
unfolding cstr_at
text_cut [] = refl
text_cut (b ∷ bytes) = text_after b bytes (is_zero b) refl (text_cut bytes)

-- what is read up to a zero byte
pub text_read : (bytes : List ℕ) (o : Option (List ℕ)) (rest : List ℕ) → with_rest o rest ≡ cstr_at bytes → o ≡ zero_ended bytes
text_read bytes o rest read = firsts o rest _ read ∙ text_cut bytes

-- a text that a zero byte ends is the bytes before it
cut_before : (any : Bool) (text front : List ℕ) → Some text ≡ cond any (Some front) None → (any ≡ true) × (text ≡ front)
cut_before true text front is = (refl, same_Some text front is)
cut_before false text front is = absurd (none-some text (sym is))

pub is_zero_ended : (bytes text : List ℕ) → Some text ≡ zero_ended bytes → (list_any is_zero bytes ≡ true) × (text ≡ before_zero bytes)
is_zero_ended bytes text read = cut_before (list_any is_zero bytes) text (before_zero bytes) read

-- it makes up the bytes with what lies behind
record Parts (bytes text : List ℕ) : Type 0 where
  after : List ℕ
  whole : bytes ≡ text ++ zero_byte ∷ after
  no_zero : HasNo zero_byte text

parts : (bytes text : List ℕ) → zero_ended bytes ≡ Some text → Parts bytes text
parts bytes text read =
    let found = map_some (λ (x : List ℕ × List ℕ). x.0) (cstr_at bytes) text (text_cut bytes ∙ read) in
    let front = cstr_front bytes found.0.0 found.0.1 found.1 in
    subst (Parts bytes) found.2 (record {
      after = found.0.1;
      whole = front.whole ∙ ap (λ t. t ++ found.0.1) front.is.ends ∙ append_assoc found.0.0 (zero_byte ∷ []) found.0.1;
      no_zero = front.is.no_zero;
    })

module _ (bytes : List ℕ) (place : ℕ) (text : List ℕ) where
  -- one that is UTF-8 stands at the place from which on it is in front
  pub stands : zero_ended (drop place bytes) ≡ Some text → IsUtf8 text → IsString bytes place text
  stands read good =
      let p = parts (drop place bytes) text read in
      let within : place ≤ length bytes = omega (arith, ap length p.whole, length-append text (zero_byte ∷ p.after), length-drop place bytes) in
      record {
        before = take place bytes;
        after = p.after;
        whole = sym (take-append-drop place bytes) ∙ ap (λ l. take place bytes ++ l) p.whole;
        from = length-take-le place bytes within;
        no_zero = p.no_zero;
        utf8 = good;
      }

  -- and one that stands there is in front
  pub in_front : IsString bytes place text → zero_ended (drop place bytes) ≡ Some text
  in_front is =
      let lies : drop place bytes ≡ text ++ zero_byte ∷ is.after =
      ap (drop place) is.whole ∙ ap (λ n. drop n (is.before ++ (text ++ zero_byte ∷ is.after))) (sym is.from) ∙ drop-append_seam is.before (text ++ zero_byte ∷ is.after) in
      sym (text_cut (drop place bytes)) ∙ ap (λ l. option_map (λ (x : List ℕ × List ℕ). x.0) (cstr_at l)) lies
      ∙ ap (option_map (λ (x : List ℕ × List ℕ). x.0)) (cstr_again text is.after is.no_zero)
