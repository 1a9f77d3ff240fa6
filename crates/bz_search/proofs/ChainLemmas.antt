-- The chain of the records around an address, link by link, and in a table whose records are seen
-- through a view.
use Rattle.std.proofs.Common.{◌≡◌, inl, inr, ℕ, zero, suc, ◌+◌, ◌-◌, ◌<◌, ◌≤◌, ◌&&◌, nat_lt, map, option_map, List, [], ◌∷◌, ◌++◌, Option, Some, None, refl, sym, ap, subst, ◌∙◌, arith, append_assoc, append-nil}
use Rattle.bz_search.specs.Nearest.{IsTable}
use Rattle.bz_search.specs.Span.{inside}
use Rattle.bz_search.specs.Chain.{fits, inner_of, inner, around, link, chain_from, chain, IsChainTo}
use Rattle.bz_search.proofs.InnerTableLemmas.{inner_of_table}
use Rattle.bz_search.proofs.ViewLemmas.{map_cond}

-- The chain, link by link.
module _ {X : Type 0} (depth start size : X → ℕ) (records : List X) (addr : ℕ) where
  -- a record around the address is the next link
  chain_link : (most at : ℕ) (x : X) → around depth start size addr (inner depth start at addr records) ≡ Some x →
      chain_from depth start size records addr (suc most) at ≡ x ∷ chain_from depth start size records addr most (at + 1)
  unfolding chain_from
  chain_link most at x found = rw found refl

  -- where there is none the chain stops
  chain_stop : (most at : ℕ) → around depth start size addr (inner depth start at addr records) ≡ None →
      chain_from depth start size records addr (suc most) at ≡ []
  unfolding chain_from
  chain_stop most at none = rw none refl

  -- and it stops at the last depth
  chain_end : (at : ℕ) → chain_from depth start size records addr 0 at ≡ []
  unfolding chain_from
  chain_end at = refl

  -- the chain begins at depth 0
  pub chain_begins : chain_from depth start size records addr 4294967296 0 ≡ chain depth start size records addr
  unfolding chain
  chain_begins = refl

  -- what was found before what is still to be found, with one more record
  pub chain_more : (found : List X) (last at : ℕ) (x : X) (whole : List X) → at < last →
      around depth start size addr (inner depth start at addr records) ≡ Some x
      → found ++ chain_from depth start size records addr (last - at) at ≡ whole →
      (found ++ x ∷ []) ++ chain_from depth start size records addr (last - (at + 1)) (at + 1) ≡ whole
  chain_more found last at x whole less is before =
      let e : last - at ≡ suc (last - (at + 1)) = omega arith in
      append_assoc found (x ∷ []) (chain_from depth start size records addr (last - (at + 1)) (at + 1))
      ∙ ap (λ l. found ++ l) (sym (ap (λ m. chain_from depth start size records addr m at) e ∙ chain_link (last - (at + 1)) at x is)) ∙ before

  -- and where nothing more is to be found
  pub chain_done : (found : List X) (last at : ℕ) (whole : List X) → at < last →
      around depth start size addr (inner depth start at addr records) ≡ None
      → found ++ chain_from depth start size records addr (last - at) at ≡ whole → found ≡ whole
  chain_done found last at whole less none before =
      let e : last - at ≡ suc (last - (at + 1)) = omega arith in
      sym (ap (λ l. found ++ l) (ap (λ m. chain_from depth start size records addr m at) e ∙ chain_stop (last - (at + 1)) at none) ∙ append-nil found) ∙ before

  -- and where the last depth is reached
  pub chain_deepest : (found : List X) (last at : ℕ) (whole : List X) → last ≤ at →
      found ++ chain_from depth start size records addr (last - at) at ≡ whole → found ≡ whole
  chain_deepest found last at whole reached before =
      let e : last - at ≡ 0 = omega arith in
      sym (ap (λ l. found ++ l) (ap (λ m. chain_from depth start size records addr m at) e ∙ chain_end at) ∙ append-nil found) ∙ before

  -- what is given from a depth on is a chain from there
  chain_from_is : (end most at : ℕ) → at + most ≡ end →
      IsChainTo depth start size end records addr at (chain_from depth start size records addr most at)
  unfolding chain_from
  chain_from_is end zero at whole = inl (omega arith)
  chain_from_is end (suc most) at whole = by_link (around depth start size addr (inner depth start at addr records)) refl (chain_from_is end most (at + 1) (omega arith)) where
    by_link : (o : Option X) → around depth start size addr (inner depth start at addr records) ≡ o →
        IsChainTo depth start size end records addr (at + 1) (chain_from depth start size records addr most (at + 1))
        → IsChainTo depth start size end records addr at (link depth start size o (λ _. chain_from depth start size records addr most (at + 1)))
    by_link None none more = inr none
    by_link (Some x) found more = (omega arith, found, more)

  -- and the whole is a chain
  pub chain_is : IsChainTo depth start size 4294967296 records addr 0 (chain depth start size records addr)
  chain_is = subst (IsChainTo depth start size 4294967296 records addr 0) chain_begins (chain_from_is 4294967296 4294967296 0 (omega arith))

-- The chain in a table whose view is a table of the list is that of the list.
module _ {X Y : Type 0} (depth start size : X → ℕ) (view : Y → X) where
  -- of a record and the one to try after it, the view is to be tried where the record is
  inner_of_seen : (at addr : ℕ) (y : Y) (o : Option Y) →
      option_map view (inner_of (λ z. depth (view z)) (λ z. start (view z)) at addr y o) ≡ inner_of depth start at addr (view y) (option_map view o)
  inner_of_seen at addr y None = map_cond view (fits depth start at addr (view y)) (Some y) None
  inner_of_seen at addr y (Some z) = map_cond view (fits depth start at addr (view y) && nat_lt (start (view z)) (start (view y))) (Some y) (Some z)

  -- the view of the record to try is the one to try of the view
  inner_seen : (at addr : ℕ) (ys : List Y) →
      option_map view (inner (λ z. depth (view z)) (λ z. start (view z)) at addr ys) ≡ inner depth start at addr (map view ys)
  inner_seen at addr [] = refl
  inner_seen at addr (y ∷ ys) = inner_of_seen at addr y (inner (λ z. depth (view z)) (λ z. start (view z)) at addr ys) ∙ ap (inner_of depth start at addr (view y)) (inner_seen at addr ys)

  -- the view has an address inside where the record has
  around_seen : (addr : ℕ) (o : Option Y) →
      option_map view (around (λ z. depth (view z)) (λ z. start (view z)) (λ z. size (view z)) addr o) ≡ around depth start size addr (option_map view o)
  around_seen addr None = refl
  around_seen addr (Some y) = map_cond view (inside (start (view y)) (size (view y)) addr) (Some y) None

  -- the view of a link is the link of the view
  link_seen : (o : Option Y) (rest : ℕ → List Y) →
      map view (link (λ z. depth (view z)) (λ z. start (view z)) (λ z. size (view z)) o rest) ≡ link depth start size (option_map view o) (λ k. map view (rest k))
  link_seen None rest = refl
  link_seen (Some y) rest = refl

  module _ (records : List X) (table : List Y) (is : IsTable depth start records (map view table)) (addr : ℕ) where
    -- at each depth table and list have the same record around the address
    pub step_seen : (at : ℕ) →
        option_map view (around (λ z. depth (view z)) (λ z. start (view z)) (λ z. size (view z)) addr (inner (λ z. depth (view z)) (λ z. start (view z)) at addr table)) ≡ around depth start size addr (inner depth start at addr records)
    step_seen at = around_seen addr (inner (λ z. depth (view z)) (λ z. start (view z)) at addr table) ∙ ap (around depth start size addr) (inner_seen at addr table ∙ inner_of_table depth start records (map view table) is at addr)

    -- so they have the same records from there on
    chain_from_seen : (most at : ℕ) →
        map view (chain_from (λ z. depth (view z)) (λ z. start (view z)) (λ z. size (view z)) table addr most at) ≡ chain_from depth start size records addr most at
    unfolding chain_from
    chain_from_seen zero at = refl
    chain_from_seen (suc most) at =
        link_seen (around (λ z. depth (view z)) (λ z. start (view z)) (λ z. size (view z)) addr (inner (λ z. depth (view z)) (λ z. start (view z)) at addr table)) (λ _. chain_from (λ z. depth (view z)) (λ z. start (view z)) (λ z. size (view z)) table addr most (at + 1))
        ∙ ap (λ o. link depth start size o (λ _. map view (chain_from (λ z. depth (view z)) (λ z. start (view z)) (λ z. size (view z)) table addr most (at + 1)))) (step_seen at)
        ∙ ap (λ l. link depth start size (around depth start size addr (inner depth start at addr records)) (λ _. l)) (chain_from_seen most (at + 1))

    -- and the same chain
    pub chain_through : map view (chain (λ z. depth (view z)) (λ z. start (view z)) (λ z. size (view z)) table addr) ≡ chain depth start size records addr
    unfolding chain
    chain_through = chain_from_seen 4294967296 0
