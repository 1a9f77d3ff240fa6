-- Folded stacks: at each path the sum of the counts of the stacks with that path.
use Rattle.std.specs.Prelude.{ℕ, ◌+◌, Bool, if◌then◌else◌, List, [], ◌∷◌, map, unwrap_or, refl}
use Rattle.std.specs.Ordering.{eq_by_cmp, nat_cmp}
use Rattle.std.specs.Cmp.Lexicographic.{slice_cmp}
use Rattle.std.specs.FinMap.{FinMap}
use Rattle.std.specs.FinMap as finite
use Rattle.std.specs.Coded.{Coded, code_by, coded×, coded_list, coded_ℕ}
use Rattle.bz_base.specs.Answer.{Answer}
use Rattle.bz_stacks.specs.Path.{path_of}

-- a sum at each of some paths, in the order of the paths' bytes
abbrev pub Sums : Type 0
Sums = FinMap (slice_cmp nat_cmp) ℕ

-- the sum at a path: 0 where there is none
abbrev pub sum_at : List ℕ → Sums → ℕ
sum_at path sums = unwrap_or (finite.get sums path) 0

-- what is folded: the sums, and how many stacks were added
pub record Folding : Type 0 where
  pub sums : Sums
  pub stacks : ℕ

abbrev pub coded_folding : Coded Folding
coded_folding = code_by (Sums × ℕ) (coded× (finite.code (coded_list coded_ℕ) coded_ℕ) coded_ℕ) (λ f. (f.sums, f.stacks)) (λ p. record { sums = p.0; stacks = p.1 }) (λ _. refl)

abbrev pub nothing_folded : Folding
nothing_folded = record { sums = finite.empty; stacks = 0 }

-- one stack more, with its path and its count
abbrev pub added : List ℕ → ℕ → Folding → Folding
added path count f = record { sums = finite.insert f.sums path (sum_at path f.sums + count); stacks = f.stacks + 1 }

-- a stack by the answers to its addresses, and its count
abbrev pub AnsweredStack : Type 0
AnsweredStack = List Answer × ℕ

-- stacks added one after the other
abbrev pub added_all : List AnsweredStack → Folding → Folding
added_all [] f = f
added_all (seen ∷ later) f = added_all later (added (path_of seen.0) seen.1 f)

-- the stack has this path
abbrev pub has_path : List ℕ → AnsweredStack → Bool
has_path path seen = eq_by_cmp (slice_cmp nat_cmp) path (path_of seen.0)

-- the sum of the counts of the stacks with this path
abbrev pub sum_of : List ℕ → List AnsweredStack → ℕ
sum_of path [] = 0
sum_of path (seen ∷ later) = (if has_path path seen then seen.1 else 0) + sum_of path later

-- the sums of stacks: each path that one of them has, with the sum of the counts of
-- the stacks with that path
abbrev pub sums_of : List AnsweredStack → Sums
sums_of all = finite.from_entries (map (λ seen. (path_of seen.0, sum_of (path_of seen.0) all)) all)
