-- The test of a file, check by check.
use Rattle.std.proofs.Common.{◌≡◌, ℕ, zero, suc, ◌<◌, Bool, true, false, List, [], ◌∷◌, Option, Some, None, refl, sym, ap, ◌∙◌, arith}
use Rattle.std.specs.Prelude.{if◌then◌else◌}
use Rattle.std.specs.List.{list_all, slice_get}
use Rattle.std.proofs.lemmas.Option.{none-some, same_Some}
use Rattle.bz_base.specs.declared.error.Error.{Error}
use Rattle.bz_elf.specs.Checks.{has_names}
use Rattle.bz_elf.specs.Format.{Check, IsFirstFailing, checks, first_refusal, format_test}
use Rattle.bz_elf.specs.Sections.{strings}
use Rattle.bz_elf.specs.Symbols.{entries, is_named}

-- what is refused by none passes the first check, and is refused by none of the later
first_passes : (passes : Bool) (later : Option Error) (refusal : Error) → (if passes then later else Some refusal) ≡ None → (passes ≡ true) × (later ≡ None)
first_passes true later refusal none = (refl, none)
first_passes false later refusal none = absurd (cc none)

module _ (bytes : List ℕ) where
  -- each check is passed by what is refused by none
  pub each_passes : (list : List Check) → first_refusal list bytes ≡ None → (i : ℕ) (check : Check) → slice_get list i ≡ Some check → check.test bytes ≡ true
  each_passes [] none i check there = absurd (none-some check there)
  each_passes (c ∷ later) none zero check there =
      ap (λ (k : Check). k.test bytes) (sym (same_Some c check there)) ∙ (first_passes (c.test bytes) (first_refusal later bytes) c.refusal none).0
  each_passes (c ∷ later) none (suc i) check there =
      each_passes later (first_passes (c.test bytes) (first_refusal later bytes) c.refusal none).1 i check there

  -- and what passes each is refused by none
  pub none_refuses : (list : List Check) → ((i : ℕ) (check : Check) → slice_get list i ≡ Some check → check.test bytes ≡ true) → first_refusal list bytes ≡ None
  none_refuses [] all = refl
  none_refuses (c ∷ later) all = rw (all 0 c refl) (none_refuses later (λ i check there. all (suc i) check there))

  -- each symbol of such a file has a name
  pub passes_names : format_test bytes ≡ None → list_all (is_named (strings bytes)) (entries bytes) ≡ true
  unfolding has_names
  passes_names none = each_passes checks none 7 _ refl

  -- a first check that passes leaves the refusal to the later
  module _ (first : Check) (later : List Check) (e : Error) (next : first_refusal later bytes ≡ Some e → (index : ℕ) × IsFirstFailing later bytes index e) where
    before_it : first.test bytes ≡ true → (index : ℕ) → ((i : ℕ) (other : Check) → i < index → slice_get later i ≡ Some other → other.test bytes ≡ true) →
        (i : ℕ) (other : Check) → i < suc index → slice_get (first ∷ later) i ≡ Some other → other.test bytes ≡ true
    before_it passes index before zero other less there = ap (λ (k : Check). k.test bytes) (sym (same_Some first other there)) ∙ passes
    before_it passes index before (suc i) other less there = before i other (omega arith) there

    by_first : (passes : Bool) → first.test bytes ≡ passes → (if passes then first_refusal later bytes else Some first.refusal) ≡ Some e → (index : ℕ) × IsFirstFailing (first ∷ later) bytes index e
    by_first true is refused =
        let one = next refused in
        (suc one.0, record { check = one.1.check; there = one.1.there; fails = one.1.fails; refusal_is = one.1.refusal_is; before = before_it is one.0 one.1.before })
    by_first false is refused =
        (0, record { check = first; there = refl; fails = is; refusal_is = same_Some first.refusal e refused; before = λ i other less there. absurd (omega arith) })

  -- what is refused fails a check first
  pub fails_first : (list : List Check) (e : Error) → first_refusal list bytes ≡ Some e → (index : ℕ) × IsFirstFailing list bytes index e
  fails_first [] e is = absurd (none-some e is)
  fails_first (first ∷ later) e is = by_first first later e (fails_first later e) (first.test bytes) refl is

  -- and what fails a check first is refused by it
  pub refused_by_first : (list : List Check) (index : ℕ) (e : Error) → IsFirstFailing list bytes index e → first_refusal list bytes ≡ Some e
  refused_by_first [] index e is = absurd (none-some is.check is.there)
  refused_by_first (first ∷ later) zero e is =
      let same : is.check ≡ first = sym (same_Some first is.check is.there) in
      rw (ap (λ (k : Check). k.test bytes) (sym same) ∙ is.fails) (ap (λ (k : Check). Some k.refusal) (sym same) ∙ ap (λ (r : Error). Some r) is.refusal_is)
  refused_by_first (first ∷ later) (suc index) e is =
      rw (is.before 0 first (omega arith) refl)
      (refused_by_first later index e (record { check = is.check; there = is.there; fails = is.fails; refusal_is = is.refusal_is; before = λ i other less there. is.before (suc i) other (omega arith) there }))
