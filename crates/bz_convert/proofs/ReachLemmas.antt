-- A call lies inside one of the depth before its own where it ends no later than those reach that don't
-- start above it.
use Rattle.std.proofs.Common.{◌≡◌, inl, inr, ℕ, zero, suc, ◌+◌, ◌-◌, ◌<◌, ◌≤◌, ◌&&◌, Bool, true, false, cond, nat_le, nat_lt, List, [], ◌∷◌, ◌++◌, length, map, option_map, Option, Some, None, refl, sym, ap, subst, ◌∙◌, arith}
use Rattle.std.specs.Prelude.{◌==◌, slice_index_or}
use Rattle.std.specs.List.{list_any, slice_get}
use Rattle.std.proofs.lemmas.Bool.{and_parts, cases_lt, eq-eqb, eqb-true, le-leb, leb-true, ne_eqb, true≢false}
use Rattle.std.proofs.lemmas.Bool.Decides.{nat_tests}
use Rattle.std.proofs.lemmas.List.{length-append}
use Rattle.std.proofs.lemmas.Option.{none-some, same_Some, slice_get-get_or, slice_get-map, slice_get_cases, slice_get_within}
use Rattle.bz_base.specs.Chain.{IsInner, inner}
use Rattle.bz_base.specs.Nearest.{IsTable}
use Rattle.bz_search.proofs.InnerLemmas.{Finds, inner_finds}
use Rattle.bz_breakpad_function.specs.InOrder.{calls_in_order}
use Rattle.bz_breakpad_function.specs.Lent.{inlinee_seen}
use Rattle.bz_breakpad_function.specs.declared.types.Inlinee.{Inlinee as GivenInlinee}
use Rattle.bz_breakpad_lines.specs.Table.{Function, Inlinee}
use Rattle.bz_gsym_layout.specs.Members.{In}
use Rattle.bz_convert.specs.Fault.{is_within, lies_inside}
use Rattle.bz_convert.specs.Reach.{AreByDepth, AreReaches, IsReach, later_end, reach_after}
use Rattle.bz_convert.specs.declared.calls.Reach.{Reach}
use Rattle.bz_convert.proofs.DistinctLemmas.{any_some}
use Rattle.bz_gsym_layout.proofs.MemberLemmas.{any_in}
use Rattle.bz_convert.proofs.OverlapLemmas.{any_in_order, in_order}

abbrev depth_of : Reach → ℕ
depth_of r = r.depth

abbrev start_of : Reach → ℕ
start_of r = r.start

module _ (calls : List Inlinee) (reaches : List Reach) (order : AreByDepth calls) (are : AreReaches calls reaches) where
  -- the reach of a call, and the call of a reach
  reach_at : (i : ℕ) (c : Inlinee) → slice_get calls i ≡ Some c → (r : Reach) × (slice_get reaches i ≡ Some r) × IsReach calls i c r
  reach_at i c at = elim ((slice_get_cases reaches i).1) [
    | inl there ↦ (there.0, there.2, are.each i c there.0 at there.2)
    | inr past ↦ absurd (omega (arith, past.0, slice_get_within calls i c at, are.count))
  ]

  call_at : (i : ℕ) (r : Reach) → slice_get reaches i ≡ Some r → (c : Inlinee) × (slice_get calls i ≡ Some c) × IsReach calls i c r
  call_at i r at = elim ((slice_get_cases calls i).1) [
    | inl there ↦ (there.0, there.2, are.each i there.0 r there.2 at)
    | inr past ↦ absurd (omega (arith, past.0, slice_get_within reaches i r at, are.count))
  ]

  pub reaches_table : IsTable depth_of start_of reaches reaches
  reaches_table = record {
    starts_ascend = λ i j x y up at_x at_y.
        let a = call_at i x at_x in
        let b = call_at j y at_y in
        let h = order.depths i j a.0 b.0 up a.1 b.1 in
        omega (arith, h, a.2.depth, b.2.depth);
    sizes_ascend = λ i j x y up at_x at_y same.
        let a = call_at i x at_x in
        let b = call_at j y at_y in
        let d : a.0.depth ≡ b.0.depth = omega (arith, a.2.depth, b.2.depth) in
        let h = order.starts i j a.0 b.0 up a.1 b.1 d in
        omega (arith, h, a.2.start, b.2.start);
    alike = λ at len. refl;
  }

  -- a call that is tested against those of the depth before
  module _ (x : Inlinee) (deep : 0 < x.depth) where
    abbrev pub around : Inlinee → Bool
    around outer = outer.depth + 1 == x.depth && is_within x.start x.size outer.start outer.size

    abbrev tried : Option Reach
    tried = inner depth_of start_of (x.depth - 1) x.start reaches

    around_is : (o : Inlinee) → around o ≡ true → (o.depth + 1 ≡ x.depth) × (o.start ≤ x.start) × (x.start + x.size ≤ o.start + o.size)
    around_is o is =
        let two = and_parts (o.depth + 1 == x.depth) (is_within x.start x.size o.start o.size) is in
        let bounds = and_parts (nat_le o.start x.start) (nat_le (x.start + x.size) (o.start + o.size)) two.1 in
        (eqb-true (o.depth + 1) x.depth two.0, leb-true o.start x.start bounds.0, leb-true (x.start + x.size) (o.start + o.size) bounds.1)

    is_around : (o : Inlinee) → o.depth + 1 ≡ x.depth → o.start ≤ x.start → x.start + x.size ≤ o.start + o.size → around o ≡ true
    is_around o d low high = rw (eq-eqb (o.depth + 1) x.depth d, le-leb o.start x.start low, le-leb (x.start + x.size) (o.start + o.size) high) refl

    -- where none is tried, none is around it
    pub none_around : tried ≡ None → list_any around calls ≡ false
    none_around none = by (list_any around calls) refl where
      above : (i : ℕ) (r : Reach) → slice_get reaches i ≡ Some r → r.depth ≡ x.depth - 1 → x.start < r.start
      above = subst (Finds depth_of start_of (x.depth - 1) x.start reaches) none (inner_finds depth_of start_of (x.depth - 1) x.start reaches)

      by : (b : Bool) → list_any around calls ≡ b → b ≡ false
      by false is = refl
      by true is =
          let found = any_some around calls is in
          let parts = around_is found.0 found.2 in
          let r = reach_at found.1.0 found.0 found.1.1 in
          absurd (omega (arith, above found.1.0 r.0 r.1 (omega (arith, r.2.depth, parts.0)), r.2.start, parts.1))

    -- where one is tried, how far it reaches says whether one is around it
    module _ (r : Reach) (is : tried ≡ Some r) where
      found : (place : ℕ) × IsInner depth_of start_of reaches (x.depth - 1) x.start place r
      found = subst (Finds depth_of start_of (x.depth - 1) x.start reaches) is (inner_finds depth_of start_of (x.depth - 1) x.start reaches)

      own : (c : Inlinee) × (slice_get calls found.0 ≡ Some c) × IsReach calls found.0 c r
      own = call_at found.0 r found.1.there

      -- one that is around it stands up to the one that is tried
      reached : (o : Inlinee) → In calls o → around o ≡ true → x.start + x.size ≤ r.end
      reached o there passes =
          let parts = around_is o passes in
          let q = reach_at there.0 o there.1 in
          let depths : q.0.depth ≡ x.depth - 1 = omega (arith, q.2.depth, parts.0) in
          let near = found.1.closest there.0 q.0 q.1 depths (omega (arith, q.2.start, parts.1)) in
          let same : o.depth ≡ own.0.depth = let e = own.2.depth in let d = found.1.depth_is in omega (arith, parts.0) in
          let before : there.0 ≤ found.0 = elim (cases_lt found.0 there.0) [
            | inl more ↦
                let up = order.starts found.0 there.0 own.0 o (omega arith) own.1 there.1 (sym same) in
                let starts : q.0.start ≡ r.start = let e = own.2.start in omega (arith, q.2.start, up, near) in
                found.1.last there.0 q.0 q.1 depths starts
            | inr less ↦ less
          ] in
          omega (arith, parts.2, own.2.most there.0 o before there.1 same)

      one_around : x.start + x.size ≤ r.end → list_any around calls ≡ true
      one_around high =
          let a = own.2.attained in
          let up = order.starts a.0 found.0 a.1 own.0 a.2 a.3 own.1 a.4 in
          let o = a.1 in
          let ends : r.end ≡ o.start + o.size = a.5 in
          let depths : o.depth + 1 ≡ x.depth = let e = own.2.depth in let d = found.1.depth_is in let h = a.4 in omega arith in
          let low : o.start ≤ x.start = let e = own.2.start in let h = found.1.not_above in omega arith in
          any_in around calls o (a.0, a.3) (is_around o depths low (omega arith))

      pub around_reach : nat_le (x.start + x.size) r.end ≡ list_any around calls
      around_reach = by (list_any around calls) refl where
        by : (b : Bool) → list_any around calls ≡ b → nat_le (x.start + x.size) r.end ≡ b
        by true is = let one = any_some around calls is in le-leb (x.start + x.size) r.end (reached one.0 one.1 one.2)
        by false is = elim (cases_lt r.end (x.start + x.size)) [
          | inl more ↦ grind (arith, nat_tests)
          | inr less ↦ absurd (true≢false (sym (one_around less) ∙ is))
        ]

-- How the reaches are made, one after another.
abbrev pub last_of : List Reach → Option Reach
last_of reaches = slice_get reaches (length reaches - 1)

push_at : {X : Type 0} (xs : List X) (x y : X) (i : ℕ) → slice_get (xs ++ x ∷ []) i ≡ Some y → i < length xs → slice_get xs i ≡ Some y
push_at [] x y i at less = absurd (omega arith)
push_at (z ∷ xs) x y zero at less = at
push_at (z ∷ xs) x y (suc i) at less = push_at xs x y i at (omega arith)

push_end : {X : Type 0} (xs : List X) (x y : X) → slice_get (xs ++ x ∷ []) (length xs) ≡ Some y → x ≡ y
push_end [] x y at = same_Some x y at
push_end (z ∷ xs) x y at = push_end xs x y at

pub get_push : {X : Type 0} (xs : List X) (x : X) → slice_get (xs ++ x ∷ []) (length xs) ≡ Some x
get_push [] x = refl
get_push (z ∷ xs) x = get_push xs x

-- the reaches of the calls up to a place, and the last of them
pub record AreReachesTo (calls : List Inlinee) (place : ℕ) (reaches : List Reach) (last : Option Reach) : Type 0 where
  pub count : length reaches ≡ place
  pub each : (i : ℕ) (c : Inlinee) (r : Reach) → slice_get calls i ≡ Some c → slice_get reaches i ≡ Some r → IsReach calls i c r
  pub none : last ≡ None → place ≡ 0
  pub some : (r : Reach) → last ≡ Some r → (i : ℕ) × (suc i ≡ place) × (slice_get reaches i ≡ Some r)

module _ (calls : List Inlinee) (order : AreByDepth calls) where
  -- the first call
  first_reach : (c : Inlinee) → slice_get calls 0 ≡ Some c → IsReach calls 0 c (reach_after None c)
  first_reach c at = record {
    depth = refl;
    start = refl;
    most = λ i o within there same.
        let e : i ≡ 0 = omega arith in
        let h : o ≡ c = same_Some o c (sym there ∙ ap (slice_get calls) e ∙ at) in
        omega (arith, ap (λ (z : Inlinee). z.start + z.size) h);
    attained = (0, c, omega arith, at, refl, refl);
  }

  -- a call behind another
  module _ (i : ℕ) (b c : Inlinee) (last : Reach) (at_b : slice_get calls i ≡ Some b) (at_c : slice_get calls (suc i) ≡ Some c) (is : IsReach calls i b last) where
    own_most : (t : Bool) → (last.depth == c.depth) ≡ t → (k : ℕ) (o : Inlinee) → k ≤ suc i → slice_get calls k ≡ Some o → o.depth ≡ c.depth →
        o.start + o.size ≤ cond t (later_end last.end (c.start + c.size)) (c.start + c.size)
    own_most t is_t k o within there same = elim (cases_lt k (suc i)) [
      | inl less ↦
          let up = order.depths k i o b (omega arith) there at_b in
          let down = order.depths i (suc i) b c (omega arith) at_b at_c in
          let depths : o.depth ≡ b.depth = omega arith in
          by t is_t (is.most k o (omega arith) there depths) (omega (arith, is.depth))
      | inr more ↦
          let e : k ≡ suc i = omega arith in
          let h : o ≡ c = same_Some o c (sym there ∙ ap (slice_get calls) e ∙ at_c) in
          own t (ap (λ (z : Inlinee). z.start + z.size) h)
    ] where
      by : (t : Bool) → (last.depth == c.depth) ≡ t → o.start + o.size ≤ last.end → last.depth ≡ c.depth → o.start + o.size ≤ cond t (later_end last.end (c.start + c.size)) (c.start + c.size)
      by true is_t up d = chosen (nat_lt (c.start + c.size) last.end) refl up where
        chosen : (u : Bool) → nat_lt (c.start + c.size) last.end ≡ u → o.start + o.size ≤ last.end → o.start + o.size ≤ cond u last.end (c.start + c.size)
        chosen true is_u up = up
        chosen false is_u up = grind (arith, nat_tests)
      by false is_t up d = absurd (true≢false (sym (eq-eqb last.depth c.depth d) ∙ is_t))

      own : (t : Bool) → o.start + o.size ≡ c.start + c.size → o.start + o.size ≤ cond t (later_end last.end (c.start + c.size)) (c.start + c.size)
      own true e = chosen (nat_lt (c.start + c.size) last.end) refl where
        chosen : (u : Bool) → nat_lt (c.start + c.size) last.end ≡ u → o.start + o.size ≤ cond u last.end (c.start + c.size)
        chosen true is_u = grind (arith, nat_tests)
        chosen false is_u = omega arith
      own false e = omega arith

    abbrev Attains : ℕ → Type 0
    Attains end = (k : ℕ) × (o : Inlinee) × (k ≤ suc i) × (slice_get calls k ≡ Some o) × (o.depth ≡ c.depth) × (end ≡ o.start + o.size)

    own_attains : Attains (c.start + c.size)
    own_attains = (suc i, c, omega arith, at_c, refl, refl)

    attains : (t : Bool) → (last.depth == c.depth) ≡ t → Attains (cond t (later_end last.end (c.start + c.size)) (c.start + c.size))
    attains false is_t = own_attains
    attains true is_t = by (nat_lt (c.start + c.size) last.end) where
      by : (u : Bool) → Attains (cond u last.end (c.start + c.size))
      by false = own_attains
      by true =
          let a = is.attained in
          let d : last.depth ≡ c.depth = eqb-true last.depth c.depth is_t in
          (a.0, a.1, (let h = a.2 in omega arith), a.3, (let h = a.4 in let e = is.depth in omega arith), a.5)

    next_reach : IsReach calls (suc i) c (reach_after (Some last) c)
    next_reach = record { depth = refl; start = refl; most = own_most (last.depth == c.depth) refl; attained = attains (last.depth == c.depth) refl }

  -- one more
  pub reach_more : (place : ℕ) (reaches : List Reach) (last : Option Reach) (c : Inlinee) → slice_get calls place ≡ Some c → AreReachesTo calls place reaches last →
      AreReachesTo calls (place + 1) (reaches ++ reach_after last c ∷ []) (Some (reach_after last c))
  reach_more place reaches last c at are = record {
    count = omega (arith, length-append reaches (reach_after last c ∷ []), are.count);
    each = λ i d r at_d at_r. elim (cases_lt i (length reaches)) [
      | inl less ↦ are.each i d r at_d (push_at reaches (reach_after last c) r i at_r less)
      | inr more ↦
          let within = slice_get_within (reaches ++ reach_after last c ∷ []) i r at_r in
          let e : i ≡ length reaches = omega (arith, within, length-append reaches (reach_after last c ∷ [])) in
          let same_r : reach_after last c ≡ r = push_end reaches (reach_after last c) r (ap (slice_get (reaches ++ reach_after last c ∷ [])) (sym e) ∙ at_r) in
          let here : i ≡ place = omega (arith, are.count) in
          let same_c : c ≡ d = same_Some c d (sym at ∙ ap (slice_get calls) (sym here) ∙ at_d) in
          subst (λ w. IsReach calls i w r) same_c (subst (IsReach calls i c) same_r (subst (λ k. IsReach calls k c (reach_after last c)) (sym here) (new last refl)))
    ];
    none = λ is. absurd (none-some (reach_after last c) (sym is));
    some = λ r is.
        let e : length reaches + 1 ≡ place + 1 = omega (arith, are.count) in
        (length reaches, omega (arith, are.count), get_push reaches (reach_after last c) ∙ is);
  } where
    new : (o : Option Reach) → last ≡ o → IsReach calls place c (reach_after o c)
    new None is = let e = are.none is in subst (λ k. IsReach calls k c (reach_after None c)) (sym e) (first_reach c (ap (slice_get calls) (sym e) ∙ at))
    new (Some r) is =
        let s = are.some r is in
        let b = before s.0 s.1 in
        subst (λ k. IsReach calls k c (reach_after (Some r) c)) s.1 (next_reach s.0 b.0 c r b.1 (ap (slice_get calls) s.1 ∙ at) (are.each s.0 b.0 r b.1 s.2)) where
          before : (i : ℕ) → suc i ≡ place → (b : Inlinee) × (slice_get calls i ≡ Some b)
          before i e = elim ((slice_get_cases calls i).1) [ inl there ↦ (there.0, there.2) | inr past ↦ absurd (omega (arith, past.0, slice_get_within calls place c at)) ]

pub reaches_all : (calls : List Inlinee) (place : ℕ) (reaches : List Reach) (last : Option Reach) → place ≡ length calls → AreReachesTo calls place reaches last → AreReaches calls reaches
reaches_all calls place reaches last end are = record { count = omega (arith, are.count); each = are.each }

pub reaches_none : (calls : List Inlinee) → AreReachesTo calls 0 [] None
reaches_none calls = record {
  count = refl;
  each = λ i c r at_c at_r. absurd (none-some r at_r);
  none = λ is. refl;
  some = λ r is. absurd (none-some r is);
}

-- One turn of the loop that makes them.
pub reach_turn : (calls : List GivenInlinee) (i : ℕ) (d : GivenInlinee) → i < length calls → AreByDepth (map inlinee_seen calls) → (reaches new : List Reach) (last : Option Reach) (r : Reach) →
    r ≡ reach_after last (inlinee_seen (slice_index_or calls i d)) → new ≡ reaches ++ r ∷ [] → AreReachesTo (map inlinee_seen calls) i reaches last →
    AreReachesTo (map inlinee_seen calls) (i + 1) new (Some r)
reach_turn calls i d within order reaches new last r is pushed are =
    let c : Inlinee = inlinee_seen (slice_index_or calls i d) in
    let at : slice_get (map inlinee_seen calls) i ≡ Some c = slice_get-map inlinee_seen calls i ∙ ap (option_map inlinee_seen) (slice_get-get_or calls i d within) in
    let more = reach_more (map inlinee_seen calls) order i reaches last c at are in
    let all : AreReachesTo (map inlinee_seen calls) (i + 1) (reaches ++ r ∷ []) (Some r) = subst (λ w. AreReachesTo (map inlinee_seen calls) (i + 1) (reaches ++ w ∷ []) (Some w)) (sym is) more in
    subst (λ l. AreReachesTo (map inlinee_seen calls) (i + 1) l (Some r)) (sym pushed) all

-- Whether a call lies inside others.
module _ (f : Function) (reaches : List Reach) (are : AreReaches (calls_in_order f) reaches) (x : Inlinee) (other : x.depth ≡ 0 → ⊥) where
  deep : 0 < x.depth
  deep = elim (cases_lt 0 x.depth) [ inl some ↦ some | inr none ↦ absurd (other (omega arith)) ]

  among_all : list_any (around (calls_in_order f) reaches (in_order f) are x deep) (calls_in_order f) ≡ lies_inside f x
  among_all = any_in_order f (around (calls_in_order f) reaches (in_order f) are x deep) ∙ sym (rw (ne_eqb x.depth 0 other) refl)

  pub own_table : IsTable depth_of start_of reaches reaches
  own_table = reaches_table (calls_in_order f) reaches (in_order f) are

  pub inside_some : (r : Reach) (end : ℕ) → end ≡ x.start + x.size → inner depth_of start_of (x.depth - 1) x.start reaches ≡ Some r → nat_le end r.end ≡ lies_inside f x
  inside_some r end ends is = ap (λ n. nat_le n r.end) ends ∙ around_reach (calls_in_order f) reaches (in_order f) are x deep r is ∙ among_all

  pub inside_none : inner depth_of start_of (x.depth - 1) x.start reaches ≡ None → false ≡ lies_inside f x
  inside_none none = sym (none_around (calls_in_order f) reaches (in_order f) are x deep none) ∙ among_all
