-- The calls around an address in the tree of calls are those that a chain over the calls in their own
-- order has.
use Rattle.std.proofs.Common.{◌≡◌, inl, inr, ℕ, zero, suc, ◌+◌, ◌<◌, ◌≤◌, Bool, true, false, cond, List, [], ◌∷◌, ◌++◌, Option, Some, None, refl, sym, ap, subst, ◌∙◌, arith, append-nil}
use Rattle.std.specs.List.{filter, slice_get}
use Rattle.std.proofs.lemmas.Bool.{cases_lt, lt-ltb, le-ltb, eq-eqb, ne_eqb, true≢false}
use Rattle.std.proofs.lemmas.Bool.Decides.{nat_tests}
use Rattle.std.proofs.lemmas.Option.{none-some, same_Some}
use Rattle.bz_base.specs.Chain.{IsChainTo, around, chain, chain_from, inner}
use Rattle.bz_base.specs.Span.{inside}
use Rattle.bz_search.proofs.InnerLemmas.{inner_is}
use Rattle.bz_gsym_layout.specs.Members.{In}
use Rattle.bz_gsym_layout.specs.Nesting.{nested, calls_in}

module _ {X : Type 0} (depth start size : X → ℕ) (addr : ℕ) where
  abbrev pub has : X → Bool
  has x = inside (start x) (size x) addr

  pub has_parts : (x : X) → has x ≡ true → (start x ≤ addr) × (addr < start x + size x)
  has_parts x is = (grind (arith, nat_tests), grind (arith, nat_tests))

  -- calls in an order in which each stands behind those around it, from a depth on
  pub record AreNested (at : ℕ) (xs : List X) : Type 0 where
    pub deep : (i : ℕ) (y : X) → slice_get xs i ≡ Some y → start y ≤ addr → at ≤ depth y
    pub parent : (i : ℕ) (y : X) → slice_get xs i ≡ Some y → has y ≡ true → at < depth y →
        (j : ℕ) × (z : X) × (j < i) × (slice_get xs j ≡ Some z) × (has z ≡ true) × (depth z + 1 ≡ depth y)
    pub ascend : (i j : ℕ) (x y : X) → i < j → slice_get xs i ≡ Some x → slice_get xs j ≡ Some y → start x ≤ start y
    pub apart : (i j : ℕ) (x y : X) → i < j → slice_get xs i ≡ Some x → slice_get xs j ≡ Some y → depth x ≡ depth y → start x + size x ≤ start y

  -- where no call of the depth has the address inside, none is given
  calls_none : (at : ℕ) (xs : List X) → ((i : ℕ) (y : X) → slice_get xs i ≡ Some y → depth y ≡ at → has y ≡ false) →
      calls_in start size addr (nested depth at xs) ≡ []
  calls_none at [] none = refl
  calls_none at (x ∷ xs) none =
      let next = calls_none at xs (λ i y there d. none (suc i) y there d) in
      elim (cases_lt (depth x) at) [
        | inl above ↦ rw (lt-ltb (depth x) at above) refl
        | inr below ↦
            elim (cases_lt at (depth x)) [
              | inl deeper ↦ rw (le-ltb (depth x) at below, ne_eqb (depth x) at (λ same. omega arith)) next
              | inr least ↦
                  let same : depth x ≡ at = omega arith in
                  rw (le-ltb (depth x) at below, eq-eqb (depth x) at same, none 0 x refl same) next
            ]
      ]

  -- the calls behind the first, which doesn't have the address inside
  module _ (at : ℕ) (x : X) (xs : List X) (is : AreNested at (x ∷ xs)) where
    pub behind : has x ≡ false → AreNested at xs
    behind fails = record {
      deep = λ i y there below. is.deep (suc i) y there below;
      parent = λ i y there holds deeper. earlier i (is.parent (suc i) y there holds deeper);
      ascend = λ i j y z less at_y at_z. is.ascend (suc i) (suc j) y z (omega arith) at_y at_z;
      apart = λ i j y z less at_y at_z same. is.apart (suc i) (suc j) y z (omega arith) at_y at_z same;
    } where
      earlier : {D : ℕ} (i : ℕ) → (j : ℕ) × (z : X) × (j < suc i) × (slice_get (x ∷ xs) j ≡ Some z) × (has z ≡ true) × (depth z + 1 ≡ D) →
          (j : ℕ) × (z : X) × (j < i) × (slice_get xs j ≡ Some z) × (has z ≡ true) × (depth z + 1 ≡ D)
      earlier i (zero, z, less, there, holds, d) = let same : x ≡ z = same_Some x z there in absurd (true≢false (sym (ap has same ∙ holds) ∙ fails))
      earlier i (suc j, z, less, there, holds, d) = (j, z, omega arith, there, holds, d)

    -- and those inside the first, which does
    module _ (holds : has x ≡ true) (here : depth x ≡ at) where
      not_beside : (i : ℕ) (y : X) → slice_get xs i ≡ Some y → start y ≤ addr → depth y ≡ at → ⊥
      not_beside i y there below same =
          omega (arith, is.apart 0 (suc i) x y (omega arith) refl there (here ∙ sym same), (has_parts x holds).1)

      deeper : (i : ℕ) (y : X) → slice_get xs i ≡ Some y → start y ≤ addr → at + 1 ≤ depth y
      deeper i y there below =
          elim (cases_lt at (depth y)) [
            | inl more ↦ omega arith
            | inr same ↦ absurd (not_beside i y there below (omega (arith, is.deep (suc i) y there below)))
          ]

      pub inside_first : AreNested (at + 1) xs
      inside_first = record {
        deep = deeper;
        parent = λ i y there h more. earlier i y more (is.parent (suc i) y there h (omega arith));
        ascend = λ i j y z less at_y at_z. is.ascend (suc i) (suc j) y z (omega arith) at_y at_z;
        apart = λ i j y z less at_y at_z same. is.apart (suc i) (suc j) y z (omega arith) at_y at_z same;
      } where
        earlier : (i : ℕ) (y : X) → at + 1 < depth y → (j : ℕ) × (z : X) × (j < suc i) × (slice_get (x ∷ xs) j ≡ Some z) × (has z ≡ true) × (depth z + 1 ≡ depth y) →
            (j : ℕ) × (z : X) × (j < i) × (slice_get xs j ≡ Some z) × (has z ≡ true) × (depth z + 1 ≡ depth y)
        earlier i y more (zero, z, less, there, h, d) = let same : x ≡ z = same_Some x z there in absurd (omega (arith, ap depth same, d, here))
        earlier i y more (suc j, z, less, there, h, d) = (j, z, omega arith, there, h, d)

      -- none of those behind it at its depth has the address inside
      pub beside_none : calls_in start size addr (nested depth at xs) ≡ []
      beside_none = calls_none at xs (λ i y there d. fails y (not_beside i y there) d) where
        fails : (y : X) → (start y ≤ addr → depth y ≡ at → ⊥) → depth y ≡ at → has y ≡ false
        fails y not_so d = by (has y) refl where
          by : (b : Bool) → has y ≡ b → b ≡ false
          by true h = absurd (not_so (has_parts y h).0 d)
          by false h = refl

    -- a first call that lies deeper doesn't have the address inside
    pub deeper_fails : at < depth x → has x ≡ false
    deeper_fails more = by (has x) refl where
      by : (b : Bool) → has x ≡ b → b ≡ false
      by true h = let p = is.parent 0 x refl h more in absurd (omega (arith, p.2))
      by false h = refl

    -- where it starts above the address, all do
    pub all_above : addr < start x → (i : ℕ) (y : X) → slice_get xs i ≡ Some y → has y ≡ false
    all_above above i y there = by (has y) refl where
      by : (b : Bool) → has y ≡ b → b ≡ false
      by true h = absurd (omega (arith, is.ascend 0 (suc i) x y (omega arith) refl there, (has_parts y h).0))
      by false h = refl

  none_pass : (xs : List X) → ((i : ℕ) (y : X) → slice_get xs i ≡ Some y → has y ≡ false) → filter has xs ≡ []
  none_pass [] none = refl
  none_pass (x ∷ xs) none = rw (none 0 x refl) (none_pass xs (λ i y there. none (suc i) y there))

  fails_above : (x : X) → addr < start x → has x ≡ false
  fails_above x above = by (has x) refl where
    by : (b : Bool) → has x ≡ b → b ≡ false
    by true h = absurd (omega (arith, (has_parts x h).0))
    by false h = refl

  -- a first call of the depth, by whether it has the address inside
  by_first : (at : ℕ) (x : X) (xs : List X) → AreNested at (x ∷ xs) → ((at : ℕ) → AreNested at xs → calls_in start size addr (nested depth at xs) ≡ filter has xs) →
      depth x ≡ at → (b : Bool) → has x ≡ b →
      cond b (x ∷ calls_in start size addr (nested depth (at + 1) xs)) [] ++ calls_in start size addr (nested depth at xs) ≡ cond b (x ∷ filter has xs) (filter has xs)
  by_first at x xs is next same true holds =
      ap (λ l. x ∷ (calls_in start size addr (nested depth (at + 1) xs) ++ l)) (beside_none at x xs is holds same)
      ∙ ap (λ l. x ∷ l) (append-nil (calls_in start size addr (nested depth (at + 1) xs)) ∙ next (at + 1) (inside_first at x xs is holds same))
  by_first at x xs is next same false fails = next at (behind at x xs is fails)

  -- the calls of the tree that have the address inside are all that have it, in their order
  pub calls_are : (at : ℕ) (xs : List X) → AreNested at xs → calls_in start size addr (nested depth at xs) ≡ filter has xs
  calls_are at [] is = refl
  calls_are at (x ∷ xs) is =
      elim (cases_lt (depth x) at) [
        | inl above ↦
            let high : addr < start x = elim (cases_lt addr (start x)) [ inl h ↦ h | inr low ↦ absurd (omega (arith, is.deep 0 x refl low)) ] in
            rw (lt-ltb (depth x) at above, fails_above x high) (sym (none_pass xs (all_above at x xs is high)))
        | inr below ↦
            elim (cases_lt at (depth x)) [
              | inl more ↦
                  let fails = deeper_fails at x xs is more in
                  rw (le-ltb (depth x) at below, ne_eqb (depth x) at (λ same. omega arith), fails) (calls_are at xs (behind at x xs is fails))
              | inr least ↦
                  let same : depth x ≡ at = omega arith in
                  rw (le-ltb (depth x) at below, eq-eqb (depth x) at same) (by_first at x xs is (λ k. calls_are k xs) same (has x) refl)
            ]
      ]

  -- what a chain over all calls finds at a depth
  module _ (all : List X) (end : ℕ) where
    abbrev found : ℕ → Option X
    found at = around depth start size addr (inner depth start at addr all)

    -- what is found has the depth, and the address inside
    pub found_is : (at : ℕ) (x : X) → found at ≡ Some x → (depth x ≡ at) × (has x ≡ true) × In all x
    found_is at x is = by (inner depth start at addr all) refl is where
      passed : (y : X) → inner depth start at addr all ≡ Some y → (b : Bool) → has y ≡ b → cond b (Some y) None ≡ Some x → (depth x ≡ at) × (has x ≡ true) × In all x
      passed y read true holds same =
          let P : X → Type 0 = λ w. (depth w ≡ at) × (has w ≡ true) × In all w in
          let is = inner_is depth start all at addr y read in
          subst P (same_Some y x same) (is.1.depth_is, holds, (is.0, is.1.there))
      passed y read false fails same = absurd (none-some x same)

      by : (o : Option X) → inner depth start at addr all ≡ o → around depth start size addr o ≡ Some x → (depth x ≡ at) × (has x ≡ true) × In all x
      by None read none = absurd (none-some x none)
      by (Some y) read is = passed y read (has y) refl is

    -- those that have the address inside are found at their depths, and no others from a depth on
    pub record AreFound (at : ℕ) (xs : List X) : Type 0 where
      pub each : (i : ℕ) (y : X) → slice_get xs i ≡ Some y → has y ≡ true → found (depth y) ≡ Some y
      pub only : (e : ℕ) (y : X) → at ≤ e → found e ≡ Some y → (i : ℕ) × (slice_get xs i ≡ Some y)
      pub short : (i : ℕ) (y : X) → slice_get xs i ≡ Some y → depth y < end

    later : (at next : ℕ) (x : X) (xs : List X) → AreFound at (x ∷ xs) → at ≤ next → ((e : ℕ) → next ≤ e → found e ≡ Some x → ⊥) → AreFound next xs
    later at next x xs is more other = record {
      each = λ i y there holds. is.each (suc i) y there holds;
      only = λ e y within read. behind_it e y within read (is.only e y (omega arith) read);
      short = λ i y there. is.short (suc i) y there;
    } where
      behind_it : (e : ℕ) (y : X) → next ≤ e → found e ≡ Some y → (i : ℕ) × (slice_get (x ∷ xs) i ≡ Some y) → (i : ℕ) × (slice_get xs i ≡ Some y)
      behind_it e y within read (zero, there) = absurd (other e within (read ∙ sym there))
      behind_it e y within read (suc i, there) = (i, there)

    none_found : (o : Option X) → ((y : X) → o ≡ Some y → ⊥) → o ≡ None
    none_found None never = refl
    none_found (Some y) never = absurd (never y refl)

    by_link : (at : ℕ) (x : X) (xs : List X) → AreNested at (x ∷ xs) → AreFound at (x ∷ xs) →
        ((next : ℕ) → AreNested next xs → AreFound next xs → IsChainTo depth start size end all addr next (filter has xs)) →
        (b : Bool) → has x ≡ b → IsChainTo depth start size end all addr at (cond b (x ∷ filter has xs) (filter has xs))
    by_link at x xs is are next true holds = (
      let h = are.short 0 x refl in omega (arith, here),
      ap found (sym here) ∙ are.each 0 x refl holds,
      next (at + 1) (inside_first at x xs is holds here) (later at (at + 1) x xs are (omega arith) (λ e within read. omega (arith, (found_is e x read).0, here))),
    ) where
      here : depth x ≡ at
      here =
          elim (cases_lt at (depth x)) [
            | inl more ↦ absurd (true≢false (sym holds ∙ deeper_fails at x xs is more))
            | inr least ↦ omega (arith, is.deep 0 x refl (has_parts x holds).0)
          ]
    by_link at x xs is are next false fails =
        next at (behind at x xs is fails) (later at at x xs are (omega arith) (λ e within read. true≢false (sym (found_is e x read).1 ∙ fails)))

    -- they are a chain
    pub chain_is : (at : ℕ) (xs : List X) → AreNested at xs → AreFound at xs → IsChainTo depth start size end all addr at (filter has xs)
    chain_is at [] is are = inr (none_found (found at) (λ y read. none-some y (are.only at y (omega arith) read).1))
    chain_is at (x ∷ xs) is are = by_link at x xs is are (λ next. chain_is next xs) (has x) refl

    -- and there is one chain
    chain_only : (most at : ℕ) (ys : List X) → at + most ≡ end → IsChainTo depth start size end all addr at ys → chain_from depth start size all addr most at ≡ ys
    unfolding chain_from
    chain_only zero at [] sum is = refl
    chain_only zero at (y ∷ ys) sum is = absurd (omega (arith, is.0))
    chain_only (suc most) at [] sum (inl done) = absurd (omega arith)
    chain_only (suc most) at [] sum (inr none) = rw none refl
    chain_only (suc most) at (y ∷ ys) sum is = rw is.1 (ap (λ l. y ∷ l) (chain_only most (at + 1) ys (omega arith) is.2))

  -- the calls of the tree that have the address inside are the chain over all calls
  pub calls_are_the_chain : (all xs : List X) → AreNested 0 xs → AreFound all 4294967296 0 xs → calls_in start size addr (nested depth 0 xs) ≡ chain depth start size all addr
  unfolding chain
  calls_are_the_chain all xs is are = calls_are 0 xs is ∙ sym (chain_only all 4294967296 4294967296 0 (filter has xs) (omega arith) (chain_is all 4294967296 0 xs is are))
