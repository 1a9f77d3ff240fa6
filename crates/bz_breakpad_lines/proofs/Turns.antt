-- A form one or more times: it is read as often as it stands there.
use Rattle.std.proofs.Common.{◌≡◌, ℕ, zero, suc, ◌<◌, ◌≤◌, true, false, List, [], ◌∷◌, ◌++◌, length, Option, Some, None, option_map, refl, ap, subst, ◌∙◌, arith, append-nil, length-append}
use Rattle.std.proofs.lemmas.Bool.{false≢true}
use Rattle.std.proofs.lemmas.Option.{none-some, same_Some}
use Rattle.bz_base.specs.Bind.{◌>>=◌}
use Rattle.bz_base.specs.Byte.{is_blank, begins_with}
use Rattle.bz_breakpad_lines.specs.Byte.{is_solid}
use Rattle.bz_breakpad_lines.specs.Form.{InTurn}
use Rattle.bz_breakpad_lines.specs.Reads.{joined, turns_at, many_at}

-- where the second of two readings gives something, the first did
pub bind_some : {A B : Type 0} (o : Option A) (f : A → Option B) (y : B) → (o >>= f) ≡ Some y → (x : A) × (o ≡ Some x) × (f x ≡ Some y)
bind_some None f y read = absurd (none-some y read)
bind_some (Some x) f y read = (x, refl, read)

pub map_some : {A B : Type 0} (f : A → B) (o : Option A) (y : B) → option_map f o ≡ Some y → (x : A) × (o ≡ Some x) × (f x ≡ y)
map_some f None y read = absurd (none-some y read)
map_some f (Some x) y read = (x, refl, same_Some (f x) y read)

-- a text that begins with a blank begins with nothing else
pub no_solid : (text : List ℕ) → begins_with is_blank text ≡ true → begins_with is_solid text ≡ false
no_solid [] begins = absurd (false≢true begins)
no_solid (b ∷ text) begins = rw begins refl

module _ {A : Type 0} (P : List ℕ → A → Type 0) (read : List ℕ → Option (A × List ℕ)) where
  joined_found : (text front rest : List ℕ) (a : A) (next : List ℕ → Option (List A)) (values : List A) →
      ((ws : List A) → next rest ≡ Some ws → (0 < length ws) × InTurn P rest ws) →
      text ≡ front ++ rest → P front a → joined a rest next ≡ Some values → (0 < length values) × InTurn P text values
  joined_found text front [] a next values more whole is joins =
      subst (λ vs. (0 < length vs) × InTurn P text vs) (same_Some (a ∷ []) values joins) (omega arith, (front, [], whole, is, refl))
  joined_found text front (b ∷ rest) a next values more whole is joins =
      let others = map_some (λ ws. a ∷ ws) (next (b ∷ rest)) values joins in
      subst (λ vs. (0 < length vs) × InTurn P text vs) others.2 (omega arith, (front, b ∷ rest, whole, is, (more others.0 others.1).1))

  turns_found : ((text : List ℕ) (r : A × List ℕ) → read text ≡ Some r → (front : List ℕ) × P front r.0 × (text ≡ front ++ r.1)) →
      (n : ℕ) (text : List ℕ) (values : List A) → turns_at n read text ≡ Some values → (0 < length values) × InTurn P text values
  unfolding turns_at
  turns_found found zero text values is = absurd (none-some values is)
  turns_found found (suc n) text values is =
      let first = bind_some (read text) _ values is in
      let at = found text first.0 first.1 in
      joined_found text at.0 first.0.1 first.0.0 (turns_at n read) values (turns_found found n first.0.1) at.2 at.1 first.2

  joined_more : (a : A) (rest : List ℕ) (next : List ℕ → Option (List A)) → begins_with is_blank rest ≡ true →
      joined a rest next ≡ option_map (λ ws. a ∷ ws) (next rest)
  joined_more a [] next begins = absurd (false≢true begins)
  joined_more a (b ∷ rest) next begins = refl

  some_length : (front : List ℕ) → begins_with is_blank front ≡ true → 0 < length front
  some_length [] begins = absurd (false≢true begins)
  some_length (b ∷ front) begins = omega arith

  turns_again : ((front rest : List ℕ) (a : A) → P front a → begins_with is_blank (front ++ rest) ≡ true) →
      ((front rest : List ℕ) (a : A) → P front a → begins_with is_solid rest ≡ false → read (front ++ rest) ≡ Some (a, rest)) →
      (values : List A) (n : ℕ) (text : List ℕ) → InTurn P text values → 0 < length values → length text ≤ n →
      turns_at n read text ≡ Some values
  unfolding turns_at
  turns_again begins again [] n text are some few = absurd (omega arith)
  turns_again begins again (v ∷ []) zero text are some few =
      absurd (omega (arith, some_length text (rw (are.2, are.4) (begins are.0 [] v are.3)), few))
  turns_again begins again (v ∷ []) (suc n) text are some few =
      rw (are.2, are.4, again are.0 [] v are.3 refl) refl
  turns_again begins again (v ∷ w ∷ values) zero text are some few =
      absurd (omega (arith, some_length text (rw are.2 (begins are.0 are.1 v are.3)), few))
  turns_again begins again (v ∷ w ∷ values) (suc n) text are some few =
      let rest = are.1 in
      let blank : begins_with is_blank rest ≡ true = rw are.4.2 (begins are.4.0 are.4.1 w are.4.3) in
      let some_front = some_length are.0 (rw (append-nil are.0) at (begins are.0 [] v are.3)) in
      let few_left : length rest ≤ n = omega (arith, ap length are.2, length-append are.0 rest) in
      rw (are.2, again are.0 rest v are.3 (no_solid rest blank))
      (joined_more v rest (turns_at n read) blank ∙ ap (option_map (λ ws. v ∷ ws)) (turns_again begins again (w ∷ values) n rest are.4 (omega arith) few_left))

  pub many_found : ((text : List ℕ) (r : A × List ℕ) → read text ≡ Some r → (front : List ℕ) × P front r.0 × (text ≡ front ++ r.1)) →
      (text : List ℕ) (values : List A) → many_at read text ≡ Some values → (0 < length values) × InTurn P text values
  unfolding many_at
  many_found found text values is = turns_found found (length text) text values is

  pub many_again : ((front rest : List ℕ) (a : A) → P front a → begins_with is_blank (front ++ rest) ≡ true) →
      ((front rest : List ℕ) (a : A) → P front a → begins_with is_solid rest ≡ false → read (front ++ rest) ≡ Some (a, rest)) →
      (values : List A) (text : List ℕ) → InTurn P text values → 0 < length values → many_at read text ≡ Some values
  unfolding many_at
  many_again begins again values text are some = turns_again begins again values (length text) text are some (omega arith)

-- a reading that leaves less than there was
module _ {A : Type 0} (read : List ℕ → Option (A × List ℕ)) (shorter : (text : List ℕ) (r : A × List ℕ) → read text ≡ Some r → length r.1 < length text) where
  same_joined : (a : A) (rest : List ℕ) (next other : List ℕ → Option (List A)) → (0 < length rest → next rest ≡ other rest) →
      joined a rest next ≡ joined a rest other
  same_joined a [] next other same = refl
  same_joined a (b ∷ rest) next other same = ap (option_map (λ ws. a ∷ ws)) (same (omega arith))

  same_step : (o : Option (A × List ℕ)) (text : List ℕ) (next other : List ℕ → Option (List A)) → read text ≡ o →
      ((rest : List ℕ) → 0 < length rest → length rest < length text → next rest ≡ other rest) →
      (o >>= (λ x. joined x.0 x.1 next)) ≡ (o >>= (λ x. joined x.0 x.1 other))
  same_step None text next other is same = refl
  same_step (Some x) text next other is same =
      same_joined x.0 x.1 next other (λ some. same x.1 some (shorter text x is))

  -- enough turns are as good as more
  turns_enough : (n m : ℕ) (text : List ℕ) → length text ≤ n → length text ≤ m → 0 < length text → turns_at n read text ≡ turns_at m read text
  unfolding turns_at
  turns_enough zero m text few_n few_m some = absurd (omega arith)
  turns_enough (suc n) zero text few_n few_m some = absurd (omega arith)
  turns_enough (suc n) (suc m) text few_n few_m some =
      same_step (read text) text (turns_at n read) (turns_at m read) refl
      (λ rest some less. turns_enough n m rest (omega arith) (omega arith) some)

  -- all of the text is the first reading, and the others after it
  pub many_step : (text : List ℕ) (x : A × List ℕ) → read text ≡ Some x → many_at read text ≡ joined x.0 x.1 (many_at read)
  unfolding many_at turns_at
  many_step [] x is = absurd (omega (arith, shorter [] x is))
  many_step (b ∷ text) x is =
      let less = shorter (b ∷ text) x is in
      rw is (same_joined x.0 x.1 (turns_at (length text) read) (λ rest. turns_at (length rest) read rest)
      (λ some. turns_enough (length text) (length x.1) x.1 (omega arith) (omega arith) some))

-- none, where the first can't be read
pub many_none : {A : Type 0} (read : List ℕ → Option (A × List ℕ)) (text : List ℕ) → read text ≡ None → many_at read text ≡ None
unfolding many_at turns_at
many_none read [] is = refl
many_none read (b ∷ text) is = rw is refl
