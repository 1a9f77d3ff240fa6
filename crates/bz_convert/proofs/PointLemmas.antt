-- The rows of a function are those at its points: between points the same record answers.
use Rattle.std.proofs.Common.{◌≡◌, ◌⊎◌, inl, inr, ℕ, zero, suc, ◌+◌, ◌-◌, ◌<◌, ◌≤◌, ◌&&◌, Bool, true, false, cond, List, [], ◌∷◌, ◌++◌, Option, Some, None, refl, sym, ap, subst, ◌∙◌, arith, append_assoc, append-nil}
use Rattle.std.specs.Prelude.{is_none, is_some}
use Rattle.std.specs.List.{slice_get}
use Rattle.std.proofs.lemmas.Bool.{cases_lt}
use Rattle.std.proofs.lemmas.Bool.Decides.{nat_tests}
use Rattle.std.proofs.lemmas.Option.{none-some, same_Some}
use Rattle.bz_base.specs.Nearest.{IsCandidate, IsNearestCovering, nearest_covering}
use Rattle.bz_base.specs.Span.{covers}
use Rattle.bz_search.proofs.NearestLemmas.{nearest_covering_is, nearest_covering_only}
use Rattle.bz_gsym_layout.specs.Members.{In}
use Rattle.bz_convert.specs.Fault.{◌or◌}
use Rattle.bz_convert.specs.Points.{gap_of}
use Rattle.bz_convert.specs.Rows.{gap_from, row_by, rows_from}

module _ {L : Type 0} (same : L → L → Bool) (itself : (l : L) → same l l ≡ true) (line_at : ℕ → Option L) where
  -- the record that answers before an address so much behind_first on
  abbrev pub before_at : Option L → ℕ → ℕ → Option L
  before_at before at zero = before
  before_at before at (suc count) = before_at (line_at at) (at + 1) count

  -- rows up to a point, and those from there on
  pub rows_cut : (m n at : ℕ) (before : Option L) →
      rows_from same line_at before at (m + n) ≡ rows_from same line_at before at m ++ rows_from same line_at (before_at before at m) (at + m) n
  rows_cut zero n at before =
      let a : 0 + n ≡ n = omega arith in
      let b : at ≡ at + 0 = omega arith in
      ap (rows_from same line_at before at) a ∙ ap (λ p. rows_from same line_at before p n) b
  rows_cut (suc m) n at before =
      let a : suc m + n ≡ suc (m + n) = omega arith in
      let b : at + 1 + m ≡ at + suc m = omega arith in
      ap (rows_from same line_at before at) a
      ∙ ap (λ l. row_by same at before (line_at at) ++ l) (rows_cut m n (at + 1) (line_at at) ∙ ap (λ p. rows_from same line_at (line_at at) (at + 1) m ++ rows_from same line_at (before_at (line_at at) (at + 1) m) p n) b)
      ∙ sym (append_assoc (row_by same at before (line_at at)) (rows_from same line_at (line_at at) (at + 1) m) _)

  pub gap_cut : (m n at : ℕ) (before : Option L) → gap_from line_at before at (m + n) ≡ (gap_from line_at before at m or gap_from line_at (before_at before at m) (at + m) n)
  gap_cut zero n at before =
      let a : 0 + n ≡ n = omega arith in
      let b : at ≡ at + 0 = omega arith in
      ap (gap_from line_at before at) a ∙ ap (λ p. gap_from line_at before p n) b
  gap_cut (suc m) n at before =
      let a : suc m + n ≡ suc (m + n) = omega arith in
      let b : at + 1 + m ≡ at + suc m = omega arith in
      ap (gap_from line_at before at) a
      ∙ by (is_some before && is_none (line_at at)) (gap_cut m n (at + 1) (line_at at) ∙ ap (λ p. gap_from line_at (line_at at) (at + 1) m or gap_from line_at (before_at (line_at at) (at + 1) m) p n) b) where
        by : (c : Bool) → gap_from line_at (line_at at) (at + 1) (m + n) ≡ (gap_from line_at (line_at at) (at + 1) m or gap_from line_at (before_at (line_at at) (at + 1) m) (at + suc m) n) →
            cond c (Some at) (gap_from line_at (line_at at) (at + 1) (m + n)) ≡ (cond c (Some at) (gap_from line_at (line_at at) (at + 1) m) or gap_from line_at (before_at (line_at at) (at + 1) m) (at + suc m) n)
        by true next = refl
        by false next = next

  no_row : (at : ℕ) (now : Option L) → row_by same at now now ≡ []
  no_row at None = refl
  no_row at (Some l) = rw (itself l) refl

  no_gap : (at : ℕ) (now : Option L) (rest : Option ℕ) → cond (is_some now && is_none now) (Some at) rest ≡ rest
  no_gap at None rest = refl
  no_gap at (Some l) rest = refl

  -- where one record answers there is no behind_first row, and no gap
  module _ (now : Option L) where
    abbrev pub Steady : ℕ → ℕ → Type 0
    Steady at count = (a : ℕ) → at ≤ a → a < at + count → line_at a ≡ now

    pub rows_steady : (count at : ℕ) → Steady at count → rows_from same line_at now at count ≡ []
    rows_steady zero at steady = refl
    rows_steady (suc count) at steady =
        rw (steady at (omega arith) (omega arith), no_row at now) (rows_steady count (at + 1) (λ a low high. steady a (omega arith) (omega arith)))

    pub gap_steady : (count at : ℕ) → Steady at count → gap_from line_at now at count ≡ None
    gap_steady zero at steady = refl
    gap_steady (suc count) at steady =
        rw (steady at (omega arith) (omega arith), no_gap at now (gap_from line_at now (at + 1) count)) (gap_steady count (at + 1) (λ a low high. steady a (omega arith) (omega arith)))

    -- from a point on up to the next there is at most the row at the point
    pub rows_of_point : (before : Option L) (at more : ℕ) → Steady at (suc more) → rows_from same line_at before at (suc more) ≡ row_by same at before now
    rows_of_point before at more steady =
        rw (steady at (omega arith) (omega arith), rows_steady more (at + 1) (λ a low high. steady a (omega arith) (omega arith))) (append-nil (row_by same at before now))

  -- what answers before an address behind_first on, where one record answers
  before_steady : (count at : ℕ) (now : Option L) → Steady now at count → before_at now at count ≡ now
  before_steady zero at now steady = refl
  before_steady (suc count) at now steady =
      ap (λ o. before_at o (at + 1) count) (steady at (omega arith) (omega arith)) ∙ before_steady count (at + 1) now (λ a low high. steady a (omega arith) (omega arith))

  span_before : (count at : ℕ) (now before : Option L) → Steady now at (suc count) → before_at before at (suc count) ≡ now
  span_before count at now before steady =
      ap (λ o. before_at o (at + 1) count) (steady at (omega arith) (omega arith)) ∙ before_steady count (at + 1) now (λ a low high. steady a (omega arith) (omega arith))

  -- from an address on one record answers up to another one, or none does: the row at that address, and
  -- what comes behind
  pub rows_of_span : (count n at : ℕ) (now before : Option L) → Steady now at (suc count) →
      rows_from same line_at before at (suc count + n) ≡ row_by same at before now ++ rows_from same line_at now (at + suc count) n
  rows_of_span count n at now before steady =
      rows_cut (suc count) n at before
      ∙ ap (λ l. l ++ rows_from same line_at (before_at before at (suc count)) (at + suc count) n) (rows_of_point now before at count steady)
      ∙ ap (λ o. row_by same at before now ++ rows_from same line_at o (at + suc count) n) (span_before count at now before steady)

  gap_of_steady : (count at : ℕ) (now before : Option L) → Steady now at (suc count) → gap_from line_at before at (suc count) ≡ gap_of at before now
  gap_of_steady count at now before steady =
      ap (λ o. cond (is_some before && is_none o) (Some at) (gap_from line_at o (at + 1) count)) (steady at (omega arith) (omega arith))
      ∙ ap (λ g. cond (is_some before && is_none now) (Some at) g) (gap_steady now count (at + 1) (λ a low high. steady a (omega arith) (omega arith)))

  pub gap_of_span : (count n at : ℕ) (now before : Option L) → Steady now at (suc count) →
      gap_from line_at before at (suc count + n) ≡ (gap_of at before now or gap_from line_at now (at + suc count) n)
  gap_of_span count n at now before steady =
      gap_cut (suc count) n at before
      ∙ ap (λ g. g or gap_from line_at (before_at before at (suc count)) (at + suc count) n) (gap_of_steady count at now before steady)
      ∙ ap (λ o. gap_of at before now or gap_from line_at o (at + suc count) n) (span_before count at now before steady)

  -- the rows at points, in the order of the points
  abbrev pub point_rows : Option L → List ℕ → List (ℕ × L)
  point_rows before [] = []
  point_rows before (p ∷ ps) = row_by same p before (line_at p) ++ point_rows (line_at p) ps

  -- the first gap at points
  abbrev pub point_gap : Option L → List ℕ → Option ℕ
  point_gap before [] = None
  point_gap before (p ∷ ps) = gap_of p before (line_at p) or point_gap (line_at p) ps

  -- the points of so many addresses are all those at which another record may answer than before; one
  -- may stand several times
  pub record ArePointsOf (before : Option L) (at count : ℕ) (ps : List ℕ) : Type 0 where
    pub ascend : (i j p q : ℕ) → i ≤ j → slice_get ps i ≡ Some p → slice_get ps j ≡ Some q → p ≤ q
    pub low : (p : ℕ) → In ps p → (at ≤ p) ⊎ ((suc p ≡ at) × (before ≡ line_at p))
    pub high : (p : ℕ) → In ps p → p < at + count
    pub first : 0 < count → (In ps at → ⊥) → line_at at ≡ before
    pub later : (a : ℕ) → at ≤ a → suc a < at + count → (In ps (suc a) → ⊥) → line_at (suc a) ≡ line_at a

  module _ (before : Option L) (at count : ℕ) (ps : List ℕ) (are : ArePointsOf before at count ps) where
    steady_to : (most : ℕ) → most ≤ count → ((p : ℕ) → In ps p → at ≤ p → p < at + most → ⊥) → (d a : ℕ) → a ≡ at + d → d < most → line_at a ≡ before
    steady_to most within none zero a is less =
        let e : a ≡ at = omega arith in
        ap line_at e ∙ are.first (omega arith) (λ there. none at there (omega arith) (omega arith))
    steady_to most within none (suc d) zero is less = absurd (omega arith)
    steady_to most within none (suc d) (suc b) is less =
        are.later b (omega arith) (omega arith) (λ there. none (suc b) there (omega arith) (omega arith)) ∙ steady_to most within none d b (omega arith) (omega arith)

    -- up to the next point one record answers
    pub steady_until : (most : ℕ) → most ≤ count → ((p : ℕ) → In ps p → at ≤ p → p < at + most → ⊥) → Steady before at most
    steady_until most within none a low high = steady_to most within none (a - at) a (omega arith) (omega arith)

  behind_first : (p q : ℕ) (ps : List ℕ) → In ps q → In (p ∷ ps) q
  behind_first p q ps (i, at) = (suc i, at)

  not_first : (p q : ℕ) (ps : List ℕ) → (p ≡ q → ⊥) → (In ps q → ⊥) → In (p ∷ ps) q → ⊥
  not_first p q ps other none (zero, there) = other (same_Some p q there)
  not_first p q ps other none (suc i, there) = none (i, there)

  module _ (before : Option L) (at count p : ℕ) (ps : List ℕ) (are : ArePointsOf before at count (p ∷ ps)) where
    -- behind a point that stands again
    again : suc p ≡ at → ArePointsOf before at count ps
    again is = record {
      ascend = λ i j x y less at_x at_y. are.ascend (suc i) (suc j) x y (omega arith) at_x at_y;
      low = λ q there. are.low q (behind_first p q ps there);
      high = λ q there. are.high q (behind_first p q ps there);
      first = λ some none. are.first some (not_first p at ps (λ e. omega arith) none);
      later = λ a low within none. are.later a low within (not_first p (suc a) ps (λ e. omega arith) none);
    }

    -- behind a point
    behind : (n : ℕ) → at ≤ p → at + count ≡ suc p + n → ArePointsOf (line_at p) (p + 1) n ps
    behind n up whole = record {
      ascend = λ i j x y less at_x at_y. are.ascend (suc i) (suc j) x y (omega arith) at_x at_y;
      low = λ q there. elim (cases_lt p q) [
        | inl more ↦ inl (omega arith)
        | inr less ↦
            let above = are.ascend 0 (suc there.0) p q (omega arith) refl there.1 in
            let e : p ≡ q = omega arith in
            inr (omega arith, ap line_at e)
      ];
      high = λ q there. let h = are.high q (behind_first p q ps there) in omega arith;
      first = λ some none.
          let e : p + 1 ≡ suc p = omega arith in
          ap line_at e ∙ are.later p up (omega arith) (not_first p (suc p) ps (λ e. omega arith) (λ there. none (subst (In ps) (sym e) there)));
      later = λ a low within none. are.later a (omega arith) (omega arith) (not_first p (suc a) ps (λ e. omega arith) none);
    }

    -- none lies before it
    none_before : at ≤ p → (q : ℕ) → In (p ∷ ps) q → at ≤ q → q < at + (p - at) → ⊥
    none_before up q there low high = let above = are.ascend 0 there.0 p q (omega arith) refl there.1 in omega arith

    steady_before : at ≤ p → Steady before at (p - at)
    steady_before up = let h = are.high p (0, refl) in steady_until before at count (p ∷ ps) are (p - at) (omega arith) (none_before up)

  same_before : (p : ℕ) (before : Option L) (ps : List ℕ) → before ≡ line_at p → point_rows before (p ∷ ps) ≡ point_rows before ps
  same_before p before ps is = ap (λ o. row_by same p before o ++ point_rows o ps) (sym is) ∙ ap (λ l. l ++ point_rows before ps) (no_row p before)

  -- the rows of so many addresses are those at the points
  pub rows_at_points : (ps : List ℕ) (before : Option L) (at count : ℕ) → ArePointsOf before at count ps → rows_from same line_at before at count ≡ point_rows before ps
  rows_at_points [] before at count are =
      rows_steady before count at (steady_until before at count [] are count (omega arith) (λ p there low high. none-some p there.1))
  rows_at_points (p ∷ ps) before at count are = elim (are.low p (0, refl)) [
    | inr again_is ↦ rows_at_points ps before at count (again before at count p ps are again_is.0) ∙ sym (same_before p before ps again_is.1)
    | inl up ↦
        let high = are.high p (0, refl) in
        let n : ℕ = at + count - suc p in
        let e : count ≡ (p - at) + suc n = omega arith in
        let here : at + (p - at) ≡ p = omega arith in
        let steady = steady_before before at count p ps are up in
        ap (rows_from same line_at before at) e
        ∙ rows_cut (p - at) (suc n) at before
        ∙ ap (λ l. l ++ rows_from same line_at (before_at before at (p - at)) (at + (p - at)) (suc n)) (rows_steady before (p - at) at steady)
        ∙ ap (λ o. rows_from same line_at o (at + (p - at)) (suc n)) (before_steady (p - at) at before steady)
        ∙ ap (λ a. rows_from same line_at before a (suc n)) here
        ∙ ap (λ l. row_by same p before (line_at p) ++ l) (rows_at_points ps (line_at p) (p + 1) n (behind before at count p ps are n up (omega arith)))
  ]

  none_again : (p : ℕ) (now : Option L) → gap_of p now now ≡ None
  none_again p None = refl
  none_again p (Some l) = refl

  gap_before : (p : ℕ) (before : Option L) (ps : List ℕ) → before ≡ line_at p → point_gap before (p ∷ ps) ≡ point_gap before ps
  gap_before p before ps is = ap (λ o. gap_of p before o or point_gap o ps) (sym is) ∙ ap (λ g. g or point_gap before ps) (none_again p before)

  gap_or : (b : Bool) (p : ℕ) (rest : Option ℕ) → cond b (Some p) rest ≡ (cond b (Some p) None or rest)
  gap_or true p rest = refl
  gap_or false p rest = refl

  -- and so is the first gap
  pub gap_at_points : (ps : List ℕ) (before : Option L) (at count : ℕ) → ArePointsOf before at count ps → gap_from line_at before at count ≡ point_gap before ps
  gap_at_points [] before at count are =
      gap_steady before count at (steady_until before at count [] are count (omega arith) (λ p there low high. none-some p there.1))
  gap_at_points (p ∷ ps) before at count are = elim (are.low p (0, refl)) [
    | inr again_is ↦ gap_at_points ps before at count (again before at count p ps are again_is.0) ∙ sym (gap_before p before ps again_is.1)
    | inl up ↦
        let high = are.high p (0, refl) in
        let n : ℕ = at + count - suc p in
        let e : count ≡ (p - at) + suc n = omega arith in
        let here : at + (p - at) ≡ p = omega arith in
        let steady = steady_before before at count p ps are up in
        ap (gap_from line_at before at) e
        ∙ gap_cut (p - at) (suc n) at before
        ∙ ap (λ g. g or gap_from line_at (before_at before at (p - at)) (at + (p - at)) (suc n)) (gap_steady before (p - at) at steady)
        ∙ ap (λ o. gap_from line_at o (at + (p - at)) (suc n)) (before_steady (p - at) at before steady)
        ∙ ap (λ a. gap_from line_at before a (suc n)) here
        ∙ gap_or (is_some before && is_none (line_at p)) p (gap_from line_at (line_at p) (p + 1) n)
        ∙ ap (λ g. gap_of p before (line_at p) or g) (gap_at_points ps (line_at p) (p + 1) n (behind before at count p ps are n up (omega arith)))
  ]

-- Where no record starts, has its second address or ends, the record answers that answers before.
module _ {X : Type 0} (start size : X → ℕ) (records : List X) (addr : ℕ) where
  pub record IsNoPoint : Type 0 where
    pub no_start : (i : ℕ) (x : X) → slice_get records i ≡ Some x → start x ≡ suc addr → ⊥
    pub no_second : (i : ℕ) (x : X) → slice_get records i ≡ Some x → start x ≡ addr → ⊥
    pub no_end : (i : ℕ) (x : X) → slice_get records i ≡ Some x → start x + size x ≡ suc addr → ⊥

  module _ (is : IsNoPoint) where
    further : (place : ℕ) (x : X) → IsCandidate start size records addr place x → IsCandidate start size records (suc addr) place x
    further place x c = record {
      there = c.there;
      not_above = omega (arith, c.not_above);
      closest = λ i y at within. c.closest i y at (let other = is.no_start i y at in omega arith);
      smallest_at = λ exact i y at same. absurd (omega (arith, c.not_above));
      largest_below = λ below i y at same. c.largest_below (let other = is.no_second place x c.there in let low = c.not_above in omega arith) i y at same;
    }

    back : (place : ℕ) (x : X) → IsCandidate start size records (suc addr) place x → IsCandidate start size records addr place x
    back place x c = record {
      there = c.there;
      not_above = low;
      closest = λ i y at within. c.closest i y at (omega arith);
      smallest_at = λ exact i y at same. absurd (is.no_second place x c.there exact);
      largest_below = λ below i y at same. c.largest_below (omega arith) i y at same;
    } where
      low : start x ≤ addr
      low = let other = is.no_start place x c.there in let h = c.not_above in omega arith

    covers_on : (x : X) → start x ≤ addr → (start x ≡ addr → ⊥) → (start x + size x ≡ suc addr → ⊥) → covers (start x) (size x) (suc addr) ≡ covers (start x) (size x) addr
    covers_on x low other end = grind (arith, nat_tests)

    pub nearest_steady : nearest_covering start size (suc addr) records ≡ nearest_covering start size addr records
    nearest_steady = sym (nearest_covering_only start size (suc addr) records (nearest_covering start size addr records) (by (nearest_covering start size addr records) (nearest_covering_is start size addr records))) where
      by : (o : Option X) → IsNearestCovering start size records addr o → IsNearestCovering start size records (suc addr) o
      by (Some x) (place, c, covers_it) =
          (place, further place x c, covers_on x c.not_above (is.no_second place x c.there) (is.no_end place x c.there) ∙ covers_it)
      by None never = λ place x c. let b = back place x c in covers_on x b.not_above (is.no_second place x b.there) (is.no_end place x b.there) ∙ never place x b
