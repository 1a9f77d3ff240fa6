-- What a loop keeps that reads a form as often as it stands there.
use Rattle.std.proofs.Common.{◌≡◌, ℕ, ◌<◌, true, false, nat_eq, List, [], ◌∷◌, ◌++◌, length, Option, Some, None, option_map, refl, sym, ap, ◌∙◌, append_assoc, arith}
use Rattle.std.proofs.lemmas.Bool.{eqb-true, true≢false}
use Rattle.bz_breakpad_lines.specs.Form.{Form, Value}
use Rattle.bz_breakpad_lines.specs.Reads.{joined, many_at, reads}
use Rattle.bz_breakpad_lines.proofs.Apart.{separator_first}
use Rattle.bz_breakpad_lines.proofs.FormLaws.{shorter}
use Rattle.bz_breakpad_lines.proofs.Turns.{many_step, many_none}

-- what is kept, and then what is told
abbrev pub kept_then : {A : Type 0} → List A → Option (List A) → Option (List A)
kept_then kept others = option_map (λ rest. kept ++ rest) others

pub kept_nothing : {A : Type 0} (o : Option (List A)) → kept_then [] o ≡ o
kept_nothing None = refl
kept_nothing (Some rest) = refl

pub kept_more : {A : Type 0} (kept : List A) (a : A) (o : Option (List A)) → kept_then kept (option_map (λ rest. a ∷ rest) o) ≡ kept_then (kept ++ a ∷ []) o
kept_more kept a None = refl
kept_more kept a (Some rest) = ap (λ all. Some all) (sym (append_assoc kept (a ∷ []) rest))

kept_join : {A : Type 0} (kept : List A) (a : A) (rest : List ℕ) (next : List ℕ → Option (List A)) → 0 < length rest →
    kept_then kept (joined a rest next) ≡ kept_then (kept ++ a ∷ []) (next rest)
kept_join kept a [] next some = absurd (omega arith)
kept_join kept a (b ∷ rest) next some = kept_more kept a (next (b ∷ rest))

pub none_left : (rest : List ℕ) → true ≡ nat_eq (length rest) 0 → rest ≡ []
none_left [] is = refl
none_left (b ∷ rest) is = absurd (omega (arith, eqb-true (length (b ∷ rest)) 0 (sym is)))

pub some_left : (rest : List ℕ) → false ≡ nat_eq (length rest) 0 → 0 < length rest
some_left [] is = absurd (true≢false (sym is))
some_left (b ∷ rest) is = omega arith

module _ (f : Form) (first : separator_first f ≡ true) (text : List ℕ) (kept : List (Value f)) where
  -- one more, and others after it
  pub kept_step : (a : Value f) (rest : List ℕ) → Some (a, rest) ≡ reads f text → 0 < length rest →
      kept_then (kept ++ a ∷ []) (many_at (reads f) rest) ≡ kept_then kept (many_at (reads f) text)
  kept_step a rest is some =
      sym (ap (kept_then kept) (many_step (reads f) (shorter f first) text (a, rest) (sym is)) ∙ kept_join kept a rest (many_at (reads f)) some)

  -- one more, and no other
  pub kept_last : (a : Value f) (rest : List ℕ) → Some (a, rest) ≡ reads f text → rest ≡ [] →
      Some (kept ++ a ∷ []) ≡ kept_then kept (many_at (reads f) text)
  kept_last a rest is none =
      sym (ap (kept_then kept) (many_step (reads f) (shorter f first) text (a, rest) (sym is) ∙ ap (λ t. joined a t (many_at (reads f))) none))

  -- no more
  pub kept_none : None ≡ reads f text → None ≡ kept_then kept (many_at (reads f) text)
  kept_none is = sym (ap (kept_then kept) (many_none (reads f) text (sym is)))

  pub kept_smaller : (a : Value f) (rest : List ℕ) → Some (a, rest) ≡ reads f text → length rest < length text
  kept_smaller a rest is = shorter f first text (a, rest) (sym is)
