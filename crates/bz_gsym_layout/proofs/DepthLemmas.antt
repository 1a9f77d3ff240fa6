-- What is laid out has fewer than 2 ^ 32 bytes, so no call lies so deep that a chain ends before it.
use Rattle.std.proofs.Common.{◌≡◌, inl, inr, ℕ, zero, suc, ◌+◌, ◌-◌, ◌<◌, Bool, true, false, cond, nat_lt, List, [], ◌∷◌, ◌++◌, length, Some, refl, ap, arith}
use Rattle.std.specs.Prelude.{◌==◌}
use Rattle.std.specs.List.{slice_get}
use Rattle.std.proofs.lemmas.Bool.{eqb-true}
use Rattle.std.proofs.lemmas.List.{length-append}
use Rattle.std.proofs.lemmas.Option.{none-some, same_Some}
use Rattle.bz_base.specs.Span.{inside}
use Rattle.bz_gsym_layout.specs.Layout.{Tables, calls_bytes, child_flag, node_bytes, source_index, unless_ended}
use Rattle.bz_gsym_layout.specs.Nesting.{Forest, calls_in, map_forest, nested}
use Rattle.bz_gsym_layout.specs.Nesting.Forest.{NoCalls, Call}
use Rattle.bz_gsym_layout.specs.Plan.{Called}
use Rattle.bz_gsym_layout.specs.Members.{In}
use Rattle.bz_gsym_layout.proofs.MemberLemmas.{in_append}

module _ {X : Type 0} (t : Tables) (view : X → Called) (depth start size : X → ℕ) (addr : ℕ) where
  abbrev bytes_of : ℕ → Forest X → List ℕ
  bytes_of base calls = calls_bytes t base (map_forest view calls)

  none_in : (x : X) → In (calls_in start size addr NoCalls) x → ⊥
  none_in x (i, there) = none-some x there

  -- where a call is around the address, the list is written
  written : (x : X) (calls : Forest X) (text : List ℕ) → In (calls_in start size addr calls) x → unless_ended (map_forest view calls) text ≡ text
  written x NoCalls text found = absurd (none_in x found)
  written x (Call y within after) text found = refl

  -- a list of calls is longer than its first node's lists
  longer : (base : ℕ) (y : X) (within after : Forest X) →
      length (unless_ended (map_forest view within) (bytes_of (view y).start within)) + length (bytes_of base after) < length (bytes_of base (Call y within after))
  longer base y within after =
      let c = view y in
      let inner = map_forest view within in
      omega (
        arith,
        length-append (node_bytes t (c.start - base) c.size c.name (child_flag inner) (source_index t c.at.source) c.at.line) (unless_ended inner (bytes_of c.start within) ++ bytes_of base after),
        length-append (unless_ended inner (bytes_of c.start within)) (bytes_of base after),
      )

  -- a call around the address lies less deep than what is written is long
  module _ (at base : ℕ) (y : X) (xs : List X) (depth_is : depth y ≡ at)
      (inner : (z : X) → In (calls_in start size addr (nested depth (at + 1) xs)) z → depth z < at + 1 + length (bytes_of (view y).start (nested depth (at + 1) xs)))
      (later : (z : X) → In (calls_in start size addr (nested depth at xs)) z → depth z < at + length (bytes_of base (nested depth at xs))) where
    in_first : (x : X) (i : ℕ) → slice_get (y ∷ calls_in start size addr (nested depth (at + 1) xs)) i ≡ Some x → depth x < at + length (bytes_of base (Call y (nested depth (at + 1) xs) (nested depth at xs)))
    in_first x zero there = omega (arith, ap depth (same_Some y x there), depth_is, longer base y (nested depth (at + 1) xs) (nested depth at xs))
    in_first x (suc i) there =
        omega (
          arith,
          inner x (i, there),
          ap length (written x (nested depth (at + 1) xs) (bytes_of (view y).start (nested depth (at + 1) xs)) (i, there)),
          longer base y (nested depth (at + 1) xs) (nested depth at xs),
        )

    in_node : (b : Bool) (x : X) → In (cond b (y ∷ calls_in start size addr (nested depth (at + 1) xs)) [] ++ calls_in start size addr (nested depth at xs)) x →
        depth x < at + length (bytes_of base (Call y (nested depth (at + 1) xs) (nested depth at xs)))
    in_node false x found = omega (arith, later x found, longer base y (nested depth (at + 1) xs) (nested depth at xs))
    in_node true x found =
        elim (in_append (y ∷ calls_in start size addr (nested depth (at + 1) xs)) (calls_in start size addr (nested depth at xs)) x found) [
          | inl own ↦ in_first x own.0 own.1
          | inr other ↦ omega (arith, later x other, longer base y (nested depth (at + 1) xs) (nested depth at xs))
        ]

  by_tests : (a d : Bool) (at base : ℕ) (y : X) (xs : List X) → (depth y == at) ≡ d →
      ((z : X) → In (calls_in start size addr (nested depth (at + 1) xs)) z → depth z < at + 1 + length (bytes_of (view y).start (nested depth (at + 1) xs))) →
      ((z : X) → In (calls_in start size addr (nested depth at xs)) z → depth z < at + length (bytes_of base (nested depth at xs))) →
      (x : X) → In (calls_in start size addr (cond a NoCalls (cond d (Call y (nested depth (at + 1) xs) (nested depth at xs)) (nested depth at xs)))) x →
      depth x < at + length (bytes_of base (cond a NoCalls (cond d (Call y (nested depth (at + 1) xs) (nested depth at xs)) (nested depth at xs))))
  by_tests true d at base y xs is inner later x found = absurd (none_in x found)
  by_tests false true at base y xs is inner later x found = in_node at base y xs (eqb-true (depth y) at is) inner later (inside (start y) (size y) addr) x found
  by_tests false false at base y xs is inner later x found = later x found

  pub depth_below : (at base : ℕ) (xs : List X) (x : X) → In (calls_in start size addr (nested depth at xs)) x → depth x < at + length (bytes_of base (nested depth at xs))
  depth_below at base [] x found = absurd (none_in x found)
  depth_below at base (y ∷ xs) x found =
      by_tests (nat_lt (depth y) at) (depth y == at) at base y xs refl
      (λ z there. depth_below (at + 1) (view y).start xs z there) (λ z there. depth_below at base xs z there) x found
