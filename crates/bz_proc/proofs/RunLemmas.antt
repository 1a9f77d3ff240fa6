-- A run of bytes of one kind is found at the front of a text, and found again.
use Rattle.std.proofs.Common.{◌≡◌, ℕ, suc, ◌+◌, ◌<◌, Bool, true, false, List, [], ◌∷◌, ◌++◌, length, take, drop, Option, Some, None, refl, sym, ap, ◌∙◌, arith}
use Rattle.std.specs.List.{AllByRecursion, prefix_len}
use Rattle.std.proofs.lemmas.Bool.{cond_both, eqb-true, false_from_ne_true, false≢true}
use Rattle.std.proofs.lemmas.List.{take-append-drop, length-take-le}
use Rattle.std.proofs.lemmas.List.Sums.{prefix_len-le-length}
use Rattle.std.proofs.lemmas.Option.{cond_some, none-some}
use Rattle.std.proofs.Math.Seq.{drop-append_seam}
use Rattle.bz_base.specs.Bind.{◌>>=◌}
use Rattle.bz_base.specs.Byte.{space, begins_with}
use Rattle.bz_proc.specs.MappingLine.{is_space, IsRun, after_run}

-- where the second of two readings gives something, the first did
pub bind_some : {A B : Type 0} (o : Option A) (f : A → Option B) (y : B) → (o >>= f) ≡ Some y → (x : A) × (o ≡ Some x) × (f x ≡ Some y)
bind_some None f y read = absurd (none-some y read)
bind_some (Some x) f y read = (x, refl, read)

-- all bytes are of the kind
abbrev pub AllOf : (ℕ → Bool) → List ℕ → Type 0
AllOf kind text = AllByRecursion (λ b. kind b ≡ true) text

module _ (kind : ℕ → Bool) where
  -- the bytes in front are of the kind
  pub front_bytes : (text : List ℕ) → AllOf kind (take (prefix_len kind text) text)
  front_bytes [] = tt
  front_bytes (b ∷ text) =
      let more : 1 + prefix_len kind text ≡ suc (prefix_len kind text) = omega arith in
      cond_both (kind b) (1 + prefix_len kind text) 0 (λ n. AllOf kind (take n (b ∷ text)))
      (λ is. rw more (is, front_bytes text)) (λ other. tt)

  -- after them stands none of the kind
  pub front_ends : (text : List ℕ) → begins_with kind (drop (prefix_len kind text) text) ≡ false
  front_ends [] = refl
  front_ends (b ∷ text) =
      let more : 1 + prefix_len kind text ≡ suc (prefix_len kind text) = omega arith in
      cond_both (kind b) (1 + prefix_len kind text) 0 (λ n. begins_with kind (drop n (b ∷ text)) ≡ false)
      (λ is. rw more (front_ends text)) (λ other. other)

  none_in_front : (rest : List ℕ) → begins_with kind rest ≡ false → prefix_len kind rest ≡ 0
  none_in_front [] ends = refl
  none_in_front (b ∷ rest) ends = rw ends refl

  -- a run is as long as its bytes go
  pub run_len : (run rest : List ℕ) → AllOf kind run → begins_with kind rest ≡ false → prefix_len kind (run ++ rest) ≡ length run
  run_len [] rest all ends = none_in_front rest ends
  run_len (b ∷ run) rest all ends = rw all.0 (omega (arith, run_len run rest all.1 ends))

  -- a run that is passed over stands in front
  pub run_found : (fits : ℕ → Bool) (text rest : List ℕ) → after_run kind fits text ≡ Some rest →
      (front : List ℕ) × IsRun kind fits front × (text ≡ front ++ rest)
  unfolding after_run
  run_found fits text rest read =
      let n = prefix_len kind text in
      let parts = cond_some (fits n) (drop n text) rest read in
      let len : length (take n text) ≡ n = length-take-le n text (prefix_len-le-length kind text) in (
        take n text,
        record { bytes = front_bytes text; many = ap fits len ∙ parts.0 },
        sym (take-append-drop n text) ∙ ap (λ r. take n text ++ r) parts.1,
      )

  -- a run in front is passed over, where no byte of its kind stands after it
  pub run_again : (fits : ℕ → Bool) (run rest : List ℕ) → IsRun kind fits run → begins_with kind rest ≡ false →
      after_run kind fits (run ++ rest) ≡ Some rest
  unfolding after_run
  run_again fits run rest is ends = rw (run_len run rest is.bytes ends, is.many, drop-append_seam run rest) refl

  -- a text that begins with bytes of one kind begins with none of another, where no byte is of both
  pub begins_otherwise : (other : ℕ → Bool) (run rest : List ℕ) → 0 < length run → AllOf kind run →
      ((b : ℕ) → kind b ≡ true → other b ≡ false) → begins_with other (run ++ rest) ≡ false
  begins_otherwise other [] rest some all apart = absurd (omega arith)
  begins_otherwise other (b ∷ run) rest some all apart = apart b all.0

-- a byte of a kind that a space isn't of is no space
pub no_space : (kind : ℕ → Bool) → kind space ≡ false → (b : ℕ) → kind b ≡ true → is_space b ≡ false
no_space kind other b is = false_from_ne_true (is_space b) (λ same. false≢true (sym other ∙ ap kind (sym (eqb-true b space same)) ∙ is))

-- and a space isn't of such a kind
pub space_otherwise : (kind : ℕ → Bool) → kind space ≡ false → (b : ℕ) → is_space b ≡ true → kind b ≡ false
space_otherwise kind other b is = ap kind (eqb-true b space is) ∙ other
