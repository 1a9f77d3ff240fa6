-- Of calls that say the same one is kept, and a chain over those that are kept is the chain over all.
use Rattle.std.proofs.Common.{◌≡◌, ℕ, zero, suc, ◌+◌, ◌<◌, ◌≤◌, ◌&&◌, Bool, true, false, cond, nat_lt, List, [], ◌∷◌, Option, Some, None, refl, sym, ap, subst, ◌∙◌, arith}
use Rattle.std.specs.Prelude.{◌==◌, ◌||◌}
use Rattle.std.specs.List.{list_any, slice_get}
use Rattle.std.proofs.lemmas.Bool.{and_parts, eqb-true, true≢false}
use Rattle.std.proofs.lemmas.Bool.Decides.{nat_tests}
use Rattle.std.proofs.lemmas.Option.{none-some, same_Some}
use Rattle.bz_base.specs.Chain.{around, chain, chain_from, fits, inner, inner_of, link}
use Rattle.bz_search.proofs.InnerLemmas.{Finds, inner_finds}
use Rattle.bz_breakpad_lines.specs.Table.{Inlinee}
use Rattle.bz_breakpad_function.specs.Locations.{calls_around}
use Rattle.bz_gsym_layout.specs.Members.{In}
use Rattle.bz_gsym_layout.proofs.MemberLemmas.{any_in}
use Rattle.bz_convert.specs.Plan.{distinct_calls, same_call}

pub same_call_is : (a b : Inlinee) → same_call a b ≡ true → a ≡ b
same_call_is a b is =
    let two = and_parts (a.depth == b.depth && (a.start == b.start && a.size == b.size)) (a.call_line == b.call_line && (a.call_file == b.call_file && a.origin == b.origin)) is in
    let first = and_parts (a.depth == b.depth) (a.start == b.start && a.size == b.size) two.0 in
    let range = and_parts (a.start == b.start) (a.size == b.size) first.1 in
    let second = and_parts (a.call_line == b.call_line) (a.call_file == b.call_file && a.origin == b.origin) two.1 in
    let ids = and_parts (a.call_file == b.call_file) (a.origin == b.origin) second.1 in
    ap (λ (n : ℕ). record { depth = n; start = a.start; size = a.size; call_line = a.call_line; call_file = a.call_file; origin = a.origin }) (eqb-true a.depth b.depth first.0)
    ∙ ap (λ (n : ℕ). record { depth = b.depth; start = n; size = a.size; call_line = a.call_line; call_file = a.call_file; origin = a.origin }) (eqb-true a.start b.start range.0)
    ∙ ap (λ (n : ℕ). record { depth = b.depth; start = b.start; size = n; call_line = a.call_line; call_file = a.call_file; origin = a.origin }) (eqb-true a.size b.size range.1)
    ∙ ap (λ (n : ℕ). record { depth = b.depth; start = b.start; size = b.size; call_line = n; call_file = a.call_file; origin = a.origin }) (eqb-true a.call_line b.call_line second.0)
    ∙ ap (λ (n : ℕ). record { depth = b.depth; start = b.start; size = b.size; call_line = b.call_line; call_file = n; origin = a.origin }) (eqb-true a.call_file b.call_file ids.0)
    ∙ ap (λ (n : ℕ). record { depth = b.depth; start = b.start; size = b.size; call_line = b.call_line; call_file = b.call_file; origin = n }) (eqb-true a.origin b.origin ids.1)

pub same_itself : (a : Inlinee) → same_call a a ≡ true
same_itself a = grind (arith, nat_tests)

-- calls that aren't the same don't say the same
pub other_call : (a b : Inlinee) → (a ≡ b → ⊥) → same_call a b ≡ false
other_call a b other = by (same_call a b) refl where
  by : (t : Bool) → same_call a b ≡ t → t ≡ false
  by true is = absurd (other (same_call_is a b is))
  by false is = refl

pub any_some : {X : Type 0} (test : X → Bool) (xs : List X) → list_any test xs ≡ true → (x : X) × In xs x × (test x ≡ true)
any_some test [] is = absurd (true≢false (sym is))
any_some {X} test (y ∷ xs) is = by (test y) refl is (any_some test xs) where
  further : (x : X) × In xs x × (test x ≡ true) → (x : X) × In (y ∷ xs) x × (test x ≡ true)
  further (x, (i, there), passes) = (x, (suc i, there), passes)

  by : (b : Bool) → test y ≡ b → (b || list_any test xs) ≡ true → (list_any test xs ≡ true → (x : X) × In xs x × (test x ≡ true)) → (x : X) × In (y ∷ xs) x × (test x ≡ true)
  by true passes is next = (y, (0, refl), passes)
  by false fails is next = further (next is)

-- a call that is said by another of a list is one of it
again_in : (i : Inlinee) (calls : List Inlinee) → list_any (same_call i) calls ≡ true → In calls i
again_in i calls is = let found = any_some (same_call i) calls is in subst (In calls) (sym (same_call_is i found.0 found.2)) found.1

-- what is kept is of the list
pub from_distinct : (calls : List Inlinee) (x : Inlinee) → In (distinct_calls calls) x → In calls x
from_distinct [] x found = found
from_distinct (i ∷ calls) x found = by (list_any (same_call i) calls) found (from_distinct calls x) where
  further : In calls x → In (i ∷ calls) x
  further (k, at) = (suc k, at)

  by : (b : Bool) → In (cond b (distinct_calls calls) (i ∷ distinct_calls calls)) x → (In (distinct_calls calls) x → In calls x) → In (i ∷ calls) x
  by true found next = further (next found)
  by false (zero, at) next = (0, at)
  by false (suc k, at) next = further (next (k, at))

-- and each of the list is kept
pub to_distinct : (calls : List Inlinee) (x : Inlinee) → In calls x → In (distinct_calls calls) x
to_distinct [] x found = found
to_distinct (i ∷ calls) x found = by (list_any (same_call i) calls) refl found (to_distinct calls x) where
  further : In (distinct_calls calls) x → In (i ∷ distinct_calls calls) x
  further (k, at) = (suc k, at)

  by : (b : Bool) → list_any (same_call i) calls ≡ b → In (i ∷ calls) x → (In calls x → In (distinct_calls calls) x) → In (cond b (distinct_calls calls) (i ∷ distinct_calls calls)) x
  by true said (zero, at) next = next (subst (In calls) (same_Some i x at) (again_in i calls said))
  by true said (suc k, at) next = next (k, at)
  by false said (zero, at) next = (0, at)
  by false said (suc k, at) next = further (next (k, at))

-- no two that are kept are the same
pub none_twice : (calls : List Inlinee) (i j : ℕ) (x y : Inlinee) → i < j → slice_get (distinct_calls calls) i ≡ Some x → slice_get (distinct_calls calls) j ≡ Some y → x ≡ y → ⊥
none_twice [] i j x y less at_i at_j same = absurd (none-some x at_i)
none_twice (c ∷ calls) i j x y less at_i at_j same =
    by (list_any (same_call c) calls) refl i j less at_i at_j (λ i j less at_i at_j. none_twice calls i j x y less at_i at_j same) where
      by : (b : Bool) → list_any (same_call c) calls ≡ b → (i j : ℕ) → i < j →
          slice_get (cond b (distinct_calls calls) (c ∷ distinct_calls calls)) i ≡ Some x → slice_get (cond b (distinct_calls calls) (c ∷ distinct_calls calls)) j ≡ Some y →
          ((i j : ℕ) → i < j → slice_get (distinct_calls calls) i ≡ Some x → slice_get (distinct_calls calls) j ≡ Some y → ⊥) → ⊥
      by true said i j less at_i at_j next = next i j less at_i at_j
      by false said i zero less at_i at_j next = omega arith
      by false said zero (suc j) less at_i at_j next =
          let there = from_distinct calls y (j, at_j) in
          let e : c ≡ y = same_Some c x at_i ∙ same in
          true≢false (sym (any_in (same_call c) calls y there (subst (λ z. same_call c z ≡ true) e (same_itself c))) ∙ said)
      by false said (suc i) (suc j) less at_i at_j next = next i j (omega arith) at_i at_j

-- The chain.
abbrev depth : Inlinee → ℕ
depth i = i.depth

abbrev start : Inlinee → ℕ
start i = i.start

-- a call that stands again later changes nothing for the search
inner_stays : (at addr : ℕ) (i : Inlinee) (calls : List Inlinee) → In calls i → inner_of depth start at addr i (inner depth start at addr calls) ≡ inner depth start at addr calls
inner_stays at addr i calls there = by (inner depth start at addr calls) (inner_finds depth start at addr calls) where
  by : (o : Option Inlinee) → Finds depth start at addr calls o → inner_of depth start at addr i o ≡ o
  by None none = rw fails refl where
    fails : fits depth start at addr i ≡ false
    fails = by_test (fits depth start at addr i) refl where
      by_test : (b : Bool) → fits depth start at addr i ≡ b → b ≡ false
      by_test true is = absurd (omega (arith, none there.0 i there.1 (parts is).0, (parts is).1)) where
        parts : fits depth start at addr i ≡ true → (i.depth ≡ at) × (i.start ≤ addr)
        parts is = (grind (arith, nat_tests), grind (arith, nat_tests))
      by_test false is = refl
  by (Some y) found = rw fails refl where
    fails : (fits depth start at addr i && nat_lt y.start i.start) ≡ false
    fails = by_test (fits depth start at addr i && nat_lt y.start i.start) refl where
      parts : (fits depth start at addr i && nat_lt y.start i.start) ≡ true → (i.depth ≡ at) × (i.start ≤ addr) × (y.start < i.start)
      parts is = (grind (arith, nat_tests), grind (arith, nat_tests), grind (arith, nat_tests))

      by_test : (b : Bool) → (fits depth start at addr i && nat_lt y.start i.start) ≡ b → b ≡ false
      by_test true is = let p = parts is in absurd (omega (arith, found.1.closest there.0 i there.1 p.0 p.1, p.2))
      by_test false is = refl

inner_distinct : (at addr : ℕ) (calls : List Inlinee) → inner depth start at addr (distinct_calls calls) ≡ inner depth start at addr calls
inner_distinct at addr [] = refl
inner_distinct at addr (i ∷ calls) = by (list_any (same_call i) calls) refl (inner_distinct at addr calls) where
  by : (b : Bool) → list_any (same_call i) calls ≡ b → inner depth start at addr (distinct_calls calls) ≡ inner depth start at addr calls →
      inner depth start at addr (cond b (distinct_calls calls) (i ∷ distinct_calls calls)) ≡ inner_of depth start at addr i (inner depth start at addr calls)
  by true said next = next ∙ sym (inner_stays at addr i calls (again_in i calls said))
  by false said next = ap (inner_of depth start at addr i) next

abbrev size : Inlinee → ℕ
size i = i.size

chain_alike : (addr : ℕ) (xs ys : List Inlinee) → ((at : ℕ) → inner depth start at addr xs ≡ inner depth start at addr ys) → (most at : ℕ) →
    chain_from depth start size xs addr most at ≡ chain_from depth start size ys addr most at
unfolding chain_from
chain_alike addr xs ys same zero at = refl
chain_alike addr xs ys same (suc most) at =
    ap (λ o. link depth start size (around depth start size addr o) (λ _. chain_from depth start size xs addr most (at + 1))) (same at)
    ∙ ap (λ l. link depth start size (around depth start size addr (inner depth start at addr ys)) (λ _. l)) (chain_alike addr xs ys same most (at + 1))

-- the chain over those that are kept is the chain over all
pub chain_distinct : (addr : ℕ) (calls : List Inlinee) → calls_around addr (distinct_calls calls) ≡ calls_around addr calls
unfolding chain
chain_distinct addr calls = chain_alike addr (distinct_calls calls) calls (λ at. inner_distinct at addr calls) 4294967296 0
