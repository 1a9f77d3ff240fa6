-- What stacks add up to, however they are grouped.
use Rattle.std.proofs.Common.{◌≡◌, ℕ, ◌+◌, Bool, true, false, cond, ◌||◌, List, [], ◌∷◌, ◌++◌, length, map, Option, Some, None, is_some, refl, sym, ap, ap₂, ◌∙◌, arith}
use Rattle.std.specs.Prelude.{unwrap_or, if◌then◌else◌}
use Rattle.std.specs.Ordering.{nat_cmp, eq_by_cmp}
use Rattle.std.specs.List.{list_any}
use Rattle.std.specs.Cmp.{Equal-is}
use Rattle.std.specs.Cmp.Lexicographic.{slice_cmp, nat_list_cmp_total}
use Rattle.std.specs.FinMap as finite
use Rattle.std.specs.FinMap.{find, get-empty, get-from_entries, get-insert, same_map, slice_cmp-IsAntisymmetric, nat_cmp-IsAntisymmetric}
use Rattle.bz_stacks.specs.Path.{path_of}
use Rattle.bz_stacks.specs.Folding.{Folding, AnsweredStack, Sums, added, added_all, has_path, nothing_folded, sum_at, sum_of, sums_of}

pub grouped : (one two : List AnsweredStack) (f : Folding) → added_all (one ++ two) f ≡ added_all two (added_all one f)
grouped [] two f = refl
grouped (seen ∷ one) two f = grouped one two (added (path_of seen.0) seen.1 f)

-- paths that compare as equal are one
pub same_path : (p q : List ℕ) → eq_by_cmp (slice_cmp nat_cmp) p q ≡ true → p ≡ q
same_path p q is = slice_cmp-IsAntisymmetric nat_cmp-IsAntisymmetric p q ((Equal-is (slice_cmp nat_cmp p q)).0 is)

module _ (path p : List ℕ) (count : ℕ) (sums : Sums) where
  by_sum : (b : Bool) → (b ≡ true → path ≡ p) → unwrap_or (cond b (Some (sum_at p sums + count)) (finite.get sums path)) 0 ≡ sum_at path sums + (if b then count else 0)
  by_sum true same = ap (λ q. sum_at q sums + count) (sym (same refl))
  by_sum false same = omega arith

  by_some : (b : Bool) → is_some (cond b (Some (sum_at p sums + count)) (finite.get sums path)) ≡ b || is_some (finite.get sums path)
  by_some true = refl
  by_some false = refl

  -- one more stack adds its count at its path, and nothing elsewhere
  sum_added : sum_at path (finite.insert sums p (sum_at p sums + count)) ≡ sum_at path sums + (if eq_by_cmp (slice_cmp nat_cmp) path p then count else 0)
  sum_added = ap (λ o. unwrap_or o 0) (get-insert nat_list_cmp_total sums p (sum_at p sums + count) path) ∙ by_sum (eq_by_cmp (slice_cmp nat_cmp) path p) (same_path path p)

  -- its path is there then, and each that was there
  some_added : is_some (finite.get (finite.insert sums p (sum_at p sums + count)) path) ≡ eq_by_cmp (slice_cmp nat_cmp) path p || is_some (finite.get sums path)
  some_added = ap is_some (get-insert nat_list_cmp_total sums p (sum_at p sums + count) path) ∙ by_some (eq_by_cmp (slice_cmp nat_cmp) path p)

-- behind any start, the sum at a path is that at the start and those of the stacks with it
sums_from : (path : List ℕ) (seen : List AnsweredStack) (f : Folding) → sum_at path (added_all seen f).sums ≡ sum_at path f.sums + sum_of path seen
sums_from path [] f = omega arith
sums_from path (x ∷ seen) f =
    let on = sums_from path seen (added (path_of x.0) x.1 f) in
    let one = sum_added path (path_of x.0) x.1 f.sums in
    omega arith

or_swap : (a b c : Bool) → (a || b) || c ≡ b || (a || c)
or_swap true true c = refl
or_swap true false c = refl
or_swap false true c = refl
or_swap false false c = refl

or_false : (b : Bool) → b ≡ b || false
or_false true = refl
or_false false = refl

-- behind any start, a path is there that was there, or that a stack has
paths_from : (path : List ℕ) (seen : List AnsweredStack) (f : Folding) → is_some (finite.get (added_all seen f).sums path) ≡ is_some (finite.get f.sums path) || list_any (has_path path) seen
paths_from path [] f = or_false (is_some (finite.get f.sums path))
paths_from path (x ∷ seen) f =
    paths_from path seen (added (path_of x.0) x.1 f)
    ∙ ap (λ b. b || list_any (has_path path) seen) (some_added path (path_of x.0) x.1 f.sums)
    ∙ or_swap (has_path path x) (is_some (finite.get f.sums path)) (list_any (has_path path) seen)

stacks_from : (seen : List AnsweredStack) (f : Folding) → (added_all seen f).stacks ≡ f.stacks + length seen
stacks_from [] f = omega arith
stacks_from (x ∷ seen) f = let on = stacks_from seen (added (path_of x.0) x.1 f) in omega arith

pub stacks_are : (seen : List AnsweredStack) → (added_all seen nothing_folded).stacks ≡ length seen
stacks_are seen = let from = stacks_from seen nothing_folded in omega arith

-- what is at a path by two facts: whether something is there, and its sum
at_path : (o : Option ℕ) (b : Bool) (sum : ℕ) → is_some o ≡ b → unwrap_or o 0 ≡ sum → o ≡ cond b (Some sum) None
at_path (Some v) b sum some is = ap₂ (λ c w. cond c (Some w) None) some is
at_path None b sum some is = ap (λ c. cond c (Some sum) None) some

-- after all stacks, what is at a path
added_at : (seen : List AnsweredStack) (path : List ℕ) → finite.get (added_all seen nothing_folded).sums path ≡ cond (list_any (has_path path) seen) (Some (sum_of path seen)) None
added_at seen path =
    let from = sums_from path seen nothing_folded in
    let none : sum_at path nothing_folded.sums ≡ 0 = ap (λ (o : Option ℕ). unwrap_or o 0) (get-empty (slice_cmp nat_cmp) path) in
    at_path _ _ _
    (paths_from path seen nothing_folded ∙ ap (λ (o : Option ℕ). is_some o || list_any (has_path path) seen) (get-empty (slice_cmp nat_cmp) path))
    (omega arith)

-- among the entries of some of the stacks, what is at a path
module _ (all : List AnsweredStack) (path : List ℕ) where
  at_first : (b c : Bool) (p : List ℕ) (rest : Option ℕ) → (b ≡ true → path ≡ p) → rest ≡ cond c (Some (sum_of path all)) None → cond b (Some (sum_of p all)) rest ≡ cond (b || c) (Some (sum_of path all)) None
  at_first true c p rest same is = ap (λ q. Some (sum_of q all)) (sym (same refl))
  at_first false c p rest same is = is

  found_at : (some : List AnsweredStack) → find (slice_cmp nat_cmp) path (map (λ seen. (path_of seen.0, sum_of (path_of seen.0) all)) some) ≡ cond (list_any (has_path path) some) (Some (sum_of path all)) None
  found_at [] = refl
  found_at (x ∷ some) = at_first (has_path path x) (list_any (has_path path) some) (path_of x.0) _ (same_path path (path_of x.0)) (found_at some)

-- the sums of stacks at a path
sums_at : (seen : List AnsweredStack) (path : List ℕ) → finite.get (sums_of seen) path ≡ cond (list_any (has_path path) seen) (Some (sum_of path seen)) None
sums_at seen path = get-from_entries nat_list_cmp_total _ path ∙ found_at seen path seen

-- stacks added one after the other have the sums that they have from scratch
pub from_scratch : (seen : List AnsweredStack) → (added_all seen nothing_folded).sums ≡ sums_of seen
from_scratch seen = same_map nat_list_cmp_total (slice_cmp-IsAntisymmetric nat_cmp-IsAntisymmetric) _ _ (λ path. added_at seen path ∙ sym (sums_at seen path))

-- a sum is 0 where no stack has the path
counted : (path : List ℕ) (seen : List AnsweredStack) → cond (list_any (has_path path) seen) (sum_of path seen) 0 ≡ sum_of path seen
counted path [] = refl
counted path (x ∷ seen) = by_test (has_path path x) (list_any (has_path path) seen) (sum_of path seen) (counted path seen)
  where
    by_test : (b c : Bool) (sum : ℕ) → cond c sum 0 ≡ sum → cond (b || c) ((if b then x.1 else 0) + sum) 0 ≡ (if b then x.1 else 0) + sum
    by_test true c sum is = refl
    by_test false true sum is = refl
    by_test false false sum is = omega arith

pub sums_are : (seen : List AnsweredStack) (path : List ℕ) → sum_at path (sums_of seen) ≡ sum_of path seen
sums_are seen path = ap (λ (o : Option ℕ). unwrap_or o 0) (sums_at seen path) ∙ by_test (list_any (has_path path) seen) ∙ counted path seen
  where
    by_test : (b : Bool) → unwrap_or (cond b (Some (sum_of path seen)) None) 0 ≡ cond b (sum_of path seen) 0
    by_test true = refl
    by_test false = refl

pub paths_are : (seen : List AnsweredStack) (path : List ℕ) → is_some (finite.get (sums_of seen) path) ≡ list_any (has_path path) seen
paths_are seen path = ap is_some (sums_at seen path) ∙ by_test (list_any (has_path path) seen)
  where
    by_test : (b : Bool) → is_some (cond b (Some (sum_of path seen)) None) ≡ b
    by_test true = refl
    by_test false = refl
