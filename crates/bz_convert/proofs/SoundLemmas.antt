-- Calls that are nested and don't overlap stand around each other as a chain finds them.
use Rattle.std.proofs.Common.{◌≡◌, inl, inr, ℕ, ◌+◌, ◌<◌, ◌≤◌, Bool, true, false, nat_lt, List, Some, refl, sym, ap, ◌∙◌, arith}
use Rattle.std.specs.List.{filter, slice_get}
use Rattle.std.proofs.lemmas.Bool.{cases_lt, lt-ltb, ltb-true, le-leb, true≢false}
use Rattle.std.proofs.lemmas.Bool.Decides.{nat_tests}
use Rattle.std.proofs.lemmas.Option.{same_Some}
use Rattle.bz_base.specs.Chain.{IsInner, around, chain, inner}
use Rattle.bz_base.specs.Nearest.{has_span, IsTable}
use Rattle.bz_base.specs.Span.{inside, last_address}
use Rattle.bz_search.proofs.InnerLemmas.{inner_again}
use Rattle.bz_gsym_layout.specs.Nesting.{nested, calls_in}
use Rattle.bz_gsym_layout.specs.Members.{In}
use Rattle.bz_gsym_layout.proofs.MemberLemmas.{filter_to, filter_from, pair_from}
use Rattle.bz_convert.proofs.MemberLemmas.{to_table, from_table, two_alike}
use Rattle.bz_convert.proofs.NestingLemmas.{AreNested, AreFound, found_is, has_parts, calls_are, calls_are_the_chain}

module _ {X : Type 0} (depth start size : X → ℕ) where
  -- calls that are nested, and of which no two of a depth overlap
  pub record AreSound (all : List X) : Type 0 where
    pub apart : (i j : ℕ) (x y : X) → slice_get all i ≡ Some x → slice_get all j ≡ Some y → depth x ≡ depth y → (i ≡ j → ⊥) →
        (start x ≡ start y → ⊥) × (start x < start y → inside (start x) (size x) (start y) ≡ false)
    pub parent : (x : X) → In all x → 0 < size x → 0 < depth x →
        (y : X) × In all y × (depth y + 1 ≡ depth x) × (start y ≤ start x) × (start x + size x ≤ start y + size y)
    pub fits : (x : X) → In all x → 0 < size x → start x + size x ≤ last_address

  -- no call lies so deep that a chain ends before it
  abbrev pub AreShort : List X → Type 0
  AreShort all = (x : X) → In all x → 0 < size x → depth x < 4294967296

  abbrev pub has_size : X → Bool
  has_size x = nat_lt 0 (size x)

  is_inside : (x : X) (addr : ℕ) → start x + size x ≤ last_address → start x ≤ addr → addr < start x + size x → inside (start x) (size x) addr ≡ true
  is_inside x addr fits low high = rw (le-leb (start x + size x) last_address fits, le-leb (start x) addr low, lt-ltb addr (start x + size x) high) refl

  not_inside : (x : X) (addr : ℕ) → start x + size x ≤ last_address → start x ≤ addr → inside (start x) (size x) addr ≡ false → start x + size x ≤ addr
  not_inside x addr fits low fails =
      elim (cases_lt addr (start x + size x)) [
        | inl high ↦ absurd (true≢false (sym (is_inside x addr fits low high) ∙ fails))
        | inr past ↦ past
      ]

  module _ (all table : List X) (sound : AreSound all) (is : IsTable start depth (filter has_size all) table) where
    stands : (x : X) → In table x → In all x × (0 < size x)
    stands x there =
        let among = from_table start depth (filter has_size all) table is x there in
        let found = filter_from has_size all among.0 x among.1 in
        (found.0, ltb-true 0 (size x) found.1)

    pub listed : (x : X) → In all x → 0 < size x → In table x
    listed x there some = to_table start depth (filter has_size all) table is x (filter_to has_size all there.0 x there.1 (lt-ltb 0 (size x) some))

    ascend : (i j : ℕ) (x y : X) → i < j → slice_get table i ≡ Some x → slice_get table j ≡ Some y → start x ≤ start y
    ascend i j x y less at_i at_j = is.starts_ascend i j x y (omega arith) at_i at_j

    -- no two of a depth start alike
    differ : (i j : ℕ) (x y : X) → i < j → slice_get table i ≡ Some x → slice_get table j ≡ Some y → depth x ≡ depth y → start x ≡ start y → ⊥
    differ i j x y less at_i at_j depths starts =
        let two = two_alike start depth (filter has_size all) table is i j x y less at_i at_j (sym starts) (sym depths) in
        let pair = pair_from has_size all two.i two.j two.x two.y two.before two.at_i two.at_j in
        (sound.apart pair.0 pair.1 two.x two.y pair.3 pair.4 (alike two.x two.y two.passes_i two.passes_j).1 (λ same. let h = pair.2 in omega arith)).0
        (alike two.x two.y two.passes_i two.passes_j).0 where
          alike : (a b : X) → has_span start depth (start x) (depth x) a ≡ true → has_span start depth (start x) (depth x) b ≡ true → (start a ≡ start b) × (depth a ≡ depth b)
          alike a b pa pb = (grind (arith, nat_tests), grind (arith, nat_tests))

    apart : (i j : ℕ) (x y : X) → i < j → slice_get table i ≡ Some x → slice_get table j ≡ Some y → depth x ≡ depth y → start x + size x ≤ start y
    apart i j x y less at_i at_j depths =
        let sx = stands x (i, at_i) in
        let sy = stands y (j, at_j) in
        let up = ascend i j x y less at_i at_j in
        let other : start x ≡ start y → ⊥ = differ i j x y less at_i at_j depths in
        let strictly : start x < start y = elim (cases_lt (start x) (start y)) [ inl h ↦ h | inr h ↦ absurd (other (omega arith)) ] in
        not_inside x (start y) (sound.fits x sx.0 sx.1) up
        ((sound.apart sx.0.0 sy.0.0 x y sx.0.1 sy.0.1 depths (λ same. other (ap start (same_Some x y (sym sx.0.1 ∙ ap (slice_get all) same ∙ sy.0.1))))).1 strictly)

    module _ (addr : ℕ) where
      abbrev pub holds : X → Bool
      holds x = inside (start x) (size x) addr

      some_size : (x : X) → holds x ≡ true → 0 < size x
      some_size x h = omega (arith, has_parts depth start size addr x h)

      parent : (i : ℕ) (y : X) → slice_get table i ≡ Some y → holds y ≡ true → 0 < depth y →
          (j : ℕ) × (z : X) × (j < i) × (slice_get table j ≡ Some z) × (holds z ≡ true) × (depth z + 1 ≡ depth y)
      parent i y at_i h deep =
          let some = some_size y h in
          let parts = has_parts depth start size addr y h in
          let up = sound.parent y (stands y (i, at_i)).0 some deep in
          let z = up.0 in
          let size_z : 0 < size z = let a = up.3 in let b = up.4 in omega arith in
          let at_z = listed z up.1 size_z in
          let fits = sound.fits z up.1 size_z in
          let before : at_z.0 < i = elim (cases_lt at_z.0 i) [
            | inl less ↦ less
            | inr more ↦
                let starts = is.starts_ascend i at_z.0 y z more at_i at_z.1 in
                let same : start y ≡ start z = let a = up.3 in omega arith in
                let depths = is.sizes_ascend i at_z.0 y z more at_i at_z.1 same in
                absurd (let d = up.2 in omega arith)
          ] in
          (at_z.0, z, before, at_z.1, is_inside z addr fits (let a = up.3 in omega (arith, parts)) (let b = up.4 in omega (arith, parts)), up.2)

      pub are_nested : AreNested depth start size addr 0 table
      are_nested = record {
        deep = λ i y there below. omega arith;
        parent = parent;
        ascend = ascend;
        apart = apart;
      }

      each : (i : ℕ) (y : X) → slice_get table i ≡ Some y → holds y ≡ true → around depth start size addr (inner depth start (depth y) addr all) ≡ Some y
      each i y at_i h =
          let sy = stands y (i, at_i) in
          let p = sy.0.0 in
          let parts = has_parts depth start size addr y h in
          let fits = sound.fits y sy.0 sy.1 in
          let is_it : IsInner depth start all (depth y) addr p y = record {
            there = sy.0.1;
            depth_is = refl;
            not_above = parts.0;
            closest = λ k z at_k d below. elim (cases_lt (start y) (start z)) [
              | inl more ↦
                  let q : p ≡ k → ⊥ = λ same. let e = ap start (same_Some y z (sym sy.0.1 ∙ ap (slice_get all) same ∙ at_k)) in omega arith in
                  absurd (true≢false (sym (is_inside y (start z) fits (omega arith) (omega (arith, parts))) ∙ (sound.apart p k y z sy.0.1 at_k (sym d) q).1 more))
              | inr less ↦ less
            ];
            last = λ k z at_k d starts. elim (cases_lt p k) [
              | inl more ↦ absurd ((sound.apart p k y z sy.0.1 at_k (sym d) (λ same. omega arith)).0 (sym starts))
              | inr less ↦ less
            ];
          } in
          ap (around depth start size addr) (inner_again depth start all (depth y) addr p y is_it) ∙ rw h refl

      -- the calls of the tree that have an address inside are those of the table that have it
      pub calls_among : calls_in start size addr (nested depth 0 table) ≡ filter holds table
      calls_among = calls_are depth start size addr 0 table are_nested

      are_found : AreShort all → AreFound depth start size addr all 4294967296 0 table
      are_found short = record {
        each = each;
        only = λ e y within read.
            let found = found_is depth start size addr all 4294967296 e y read in
            listed y found.2 (some_size y found.1);
        short = λ i y there. let s = stands y (i, there) in short y s.0 s.1;
      }

      -- the calls of the tree of a table that have an address inside are the chain over all calls
      pub tree_is_chain : AreShort all → calls_in start size addr (nested depth 0 table) ≡ chain depth start size all addr
      tree_is_chain short = calls_are_the_chain depth start size addr all table are_nested (are_found short)
