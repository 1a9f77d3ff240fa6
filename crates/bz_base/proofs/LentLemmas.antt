-- Copies of calls, which read as those and are lent where those are.
use Rattle.std.proofs.Common.{◌≡◌, ℕ, ◌+◌, ◌<◌, List, [], ◌∷◌, ◌++◌, length, take, get_or, map, refl, sym, ap, ◌∙◌, subst}
use Rattle.std.specs.List.{AllByRecursion}
use Rattle.std.proofs.lemmas.List.{map-append, take_more}
use Rattle.bz_base.specs.Answer.{call_of}
use Rattle.bz_base.specs.Lent.{IsLentCall}
use Rattle.bz_base.specs.declared.types.InlinedFn.{InlinedFn}

-- what holds of each of a list and of one more holds of each of both
all_and_one : {A : Type 0} (P : A → Type 0) (xs : List A) (x : A) → AllByRecursion P xs → P x → AllByRecursion P (xs ++ x ∷ [])
all_and_one P [] x all one = (one, tt)
all_and_one P (y ∷ xs) x all one = (all.0, all_and_one P xs x all.1 one)

-- and the other way round
apart : {A : Type 0} (P : A → Type 0) (xs : List A) (x : A) → AllByRecursion P (xs ++ x ∷ []) → AllByRecursion P xs × P x
apart P [] x all = (tt, all.0)
apart P (y ∷ xs) x all = let rest = apart P xs x all.1 in ((all.0, rest.0), rest.1)

module _ (calls copies : List InlinedFn) (i : ℕ) (call copy : InlinedFn) (within : i < length calls) (is : call ≡ get_or calls i call) where
  one_more : take (i + 1) calls ≡ take i calls ++ call ∷ []
  one_more = take_more calls i call within ∙ ap (λ x. take i calls ++ x ∷ []) (sym is)

  -- one more copy reads as the next call
  pub same_and_one : map call_of copies ≡ map call_of (take i calls) → call_of copy ≡ call_of call → map call_of (copies ++ copy ∷ []) ≡ map call_of (take (i + 1) calls)
  same_and_one front next = rw (one_more, map-append call_of copies (copy ∷ []), map-append call_of (take i calls) (call ∷ []), front, next) refl

  -- one more copy is lent where the next call is
  pub lent_and_one : (AllByRecursion IsLentCall (take i calls) → AllByRecursion IsLentCall copies) → (IsLentCall call → IsLentCall copy) →
      AllByRecursion IsLentCall (take (i + 1) calls) → AllByRecursion IsLentCall (copies ++ copy ∷ [])
  lent_and_one front next all =
      let parts = apart IsLentCall (take i calls) call (subst (AllByRecursion IsLentCall) one_more all) in
      all_and_one IsLentCall copies copy (front parts.0) (next parts.1)
