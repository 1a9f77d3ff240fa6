-- The points of a function are those at which another line record may answer, and the rows and the gap
-- are seen at them.
use Rattle.std.proofs.Common.{◌≡◌, inl, inr, ℕ, zero, suc, ◌+◌, ◌<◌, ◌≤◌, ◌&&◌, Bool, true, false, cond, nat_le, nat_lt, not, map, flat_map, drop, length, List, [], ◌∷◌, ◌++◌, Option, Some, None, option_map, refl, sym, ap, subst, ◌∙◌, arith, append_assoc, append-nil}
use Rattle.std.specs.Prelude.{◌==◌, slice_index_or}
use Rattle.std.specs.List.{slice_get}
use Rattle.std.proofs.lemmas.Bool.{le-leb, leb-true, lt-ltb, ltb-true, true≢false}
use Rattle.std.proofs.lemmas.Bool.Decides.{nat_tests}
use Rattle.std.proofs.lemmas.List.{drop_all, drop_more}
use Rattle.std.proofs.lemmas.Option.{none-some, same_Some, slice_get-map}
use Rattle.bz_base.specs.Nearest.{IsTable}
use Rattle.bz_base.specs.Span.{last_address}
use Rattle.bz_breakpad_function.specs.InOrder.{lines_in_order}
use Rattle.bz_breakpad_function.specs.Locations.{line_at}
use Rattle.bz_breakpad_lines.specs.Table.{SourceLine, Function}
use Rattle.bz_breakpad_lines.specs.Told.{line_seen}
use Rattle.bz_breakpad_lines.specs.declared.record.SourceLine.{SourceLine as KeptLine}
use Rattle.bz_breakpad_lines.proofs.Turns.{map_some}
use Rattle.bz_search.proofs.SortingLaws.{sorted_table}
use Rattle.bz_gsym_layout.specs.Members.{In}
use Rattle.bz_convert.specs.Plan.{is_checked, same_line}
use Rattle.bz_convert.specs.Fault.{◌or◌}
use Rattle.bz_convert.specs.Points.{ArePoints, gap_of, point_within, row_seen}
use Rattle.bz_convert.specs.Rows.{gap_from, row_by, rows_from}
use Rattle.bz_convert.specs.declared.rows.LineRow.{LineRow}
use Rattle.bz_convert.specs.declared.rows.Point.{Point}
use Rattle.bz_gsym_layout.proofs.MemberLemmas.{in_append, in_flat, in_left, in_right, map_in}
use Rattle.bz_convert.proofs.MemberLemmas.{from_table, to_table}
use Rattle.bz_convert.proofs.PointLemmas.{ArePointsOf, IsNoPoint, gap_at_points, nearest_steady, point_gap, point_rows, rows_at_points}

abbrev pub addrs_of : List Point → List ℕ
addrs_of points = map (λ (p : Point). p.addr) points

pub itself : (l : SourceLine) → same_line l l ≡ true
itself l = grind (arith, nat_tests)

module _ (f : Function) (ps : List ℕ) (is : ArePoints f ps) where
  abbrev line : ℕ → Option SourceLine
  line addr = line_at addr f.lines

  no_point : (a : ℕ) → f.start ≤ a → suc a < f.start + f.size → (In ps (suc a) → ⊥) → IsNoPoint (λ (l : SourceLine). l.start) (λ l. l.size) f.lines a
  no_point a low high none = record {
    no_start = λ i x at e. none (subst (In ps) e (is.starts x (i, at) (omega arith, omega arith)));
    no_second = λ i x at e. none (subst (In ps) (second x e) (is.seconds x (i, at) (omega arith, omega arith)));
    no_end = λ i x at e. none (subst (In ps) e (is.ends x (i, at) (omega arith, omega arith)));
  } where
    second : (x : SourceLine) → x.start ≡ a → x.start + 1 ≡ suc a
    second x e = omega arith

  pub are_points : ArePointsOf same_line itself line None f.start f.size ps
  are_points = record {
    ascend = is.ascend;
    low = λ p there. inl (is.within p there).0;
    high = λ p there. (is.within p there).1;
    first = λ some none. absurd (none is.first);
    later = λ a low high none. nearest_steady (λ (l : SourceLine). l.start) (λ l. l.size) f.lines a (no_point a low high none);
  }

  pub rows_are : point_rows same_line itself line None ps ≡ rows_from same_line line None f.start f.size
  rows_are = sym (rows_at_points same_line itself line ps None f.start f.size are_points)

  pub gap_is : point_gap same_line itself line None ps ≡ gap_from line None f.start f.size
  gap_is = sym (gap_at_points same_line itself line ps None f.start f.size are_points)

-- The points, as they are collected.
abbrev pub points_of_line : ℕ → ℕ → KeptLine → List Point
points_of_line start end l = point_within start end (l.addr + 0) ++ (point_within start end (l.addr + 1) ++ point_within start end (l.addr + l.size))

abbrev pub points_for : ℕ → ℕ → List KeptLine → List Point
points_for start end lines = record { addr = start } ∷ flat_map (points_of_line start end) lines

within_is : (start end addr : ℕ) (p : Point) → In (point_within start end addr) p → (start ≤ p.addr) × (p.addr < end)
within_is start end addr p = by (nat_le start addr) refl (nat_lt addr end) refl where
  by : (a : Bool) → nat_le start addr ≡ a → (b : Bool) → nat_lt addr end ≡ b → In (cond (a && b) (record { addr = addr } ∷ []) []) p → (start ≤ p.addr) × (p.addr < end)
  by true low true high (zero, at) =
      let e : addr ≡ p.addr = ap (λ (q : Point). q.addr) (same_Some (record { addr = addr }) p at) in
      (omega (arith, leb-true start addr low), omega (arith, ltb-true addr end high))
  by true low true high (suc i, at) = absurd (none-some p at)
  by true low false high (i, at) = absurd (none-some p at)
  by false low b high (i, at) = absurd (none-some p at)

is_within : (start end addr : ℕ) → start ≤ addr → addr < end → In (point_within start end addr) (record { addr = addr })
is_within start end addr low high = rw (le-leb start addr low, lt-ltb addr end high) (0, refl)

from_flat : {X Y : Type 0} (f : X → List Y) (xs : List X) (y : Y) → In (flat_map f xs) y → (x : X) × In xs x × In (f x) y
from_flat f [] y (i, at) = absurd (none-some y at)
from_flat {X} f (z ∷ xs) y found = elim (in_append (f z) (flat_map f xs) y found) [ inl own ↦ (z, (0, refl), own) | inr later ↦ more (from_flat f xs y later) ] where
  more : (x : X) × In xs x × In (f x) y → (x : X) × In (z ∷ xs) x × In (f x) y
  more (x, (i, at), own) = (x, (suc i, at), own)

in_addrs : (points : List Point) (p : Point) → In points p → In (addrs_of points) p.addr
in_addrs points p (i, at) = (i, slice_get-map (λ (q : Point). q.addr) points i ∙ ap (option_map (λ (q : Point). q.addr)) at)

module _ (f : Function) (lines : List KeptLine) (are : map line_seen lines ≡ lines_in_order f) (some : 0 < f.size) where
  abbrev end : ℕ
  end = f.start + f.size

  abbrev all : List Point
  all = points_for f.start end lines

  all_within : (p : Point) → In all p → (f.start ≤ p.addr) × (p.addr < end)
  all_within p (zero, at) = let e : f.start ≡ p.addr = ap (λ (q : Point). q.addr) (same_Some (record { addr = f.start }) p at) in (omega arith, omega arith)
  all_within p (suc i, at) =
      let found = from_flat (points_of_line f.start end) lines p (i, at) in
      let l = found.0 in
      elim (in_append (point_within f.start end (l.addr + 0)) (point_within f.start end (l.addr + 1) ++ point_within f.start end (l.addr + l.size)) p found.2) [
        | inl first ↦ within_is f.start end (l.addr + 0) p first
        | inr later ↦ elim (in_append (point_within f.start end (l.addr + 1)) (point_within f.start end (l.addr + l.size)) p later) [
          | inl second ↦ within_is f.start end (l.addr + 1) p second
          | inr third ↦ within_is f.start end (l.addr + l.size) p third
        ]
      ]

  -- a record of the function is one of the lines
  kept_line : (r : SourceLine) → In f.lines r → (l : KeptLine) × In lines l × (line_seen l ≡ r)
  kept_line r there =
      map_in line_seen lines r (subst (λ ls. In ls r) (sym are) (to_table (λ (l : SourceLine). l.start) (λ l. l.size) f.lines (lines_in_order f) (sorted_table (λ l. l.start) (λ l. l.size) f.lines) r there))

  of_line : (l : KeptLine) → In lines l → (p : Point) → In (points_of_line f.start end l) p → In all p
  of_line l there p own = let at = in_flat (points_of_line f.start end) lines l p there own in (suc at.0, at.1)

  module _ (sorted : List Point) (is : IsTable (λ (p : Point). p.addr) (λ p. 0) all sorted) where
    to_sorted : (p : Point) → In all p → In (addrs_of sorted) p.addr
    to_sorted p there = in_addrs sorted p (to_table (λ (q : Point). q.addr) (λ q. 0) all sorted is p there)

    at_sorted : (i p : ℕ) → slice_get (addrs_of sorted) i ≡ Some p → (q : Point) × (slice_get sorted i ≡ Some q) × (q.addr ≡ p)
    at_sorted i p at = map_some (λ (q : Point). q.addr) (slice_get sorted i) p (sym (slice_get-map (λ (q : Point). q.addr) sorted i) ∙ at)

    pub points_sorted : ArePoints f (addrs_of sorted)
    points_sorted = record {
      ascend = λ i j p q up at_p at_q.
          let a = at_sorted i p at_p in
          let b = at_sorted j q at_q in
          let h = is.starts_ascend i j a.0 b.0 up a.1 b.1 in
          omega (arith, h, a.2, b.2);
      within = λ p there.
          let a = at_sorted there.0 p there.1 in
          let h = all_within a.0 (from_table (λ (q : Point). q.addr) (λ q. 0) all sorted is a.0 (there.0, a.1)) in
          (omega (arith, h.0, a.2), omega (arith, h.1, a.2));
      first = to_sorted (record { addr = f.start }) (0, refl);
      starts = λ r there own.
          let l = kept_line r there in
          let e : l.0.addr + 0 ≡ r.start = omega (arith, ap (λ (s : SourceLine). s.start) l.2) in
          let p : Point = record { addr = l.0.addr + 0 } in
          subst (In (addrs_of sorted)) e (to_sorted p (of_line l.0 l.1 p
          (in_left (point_within f.start end (l.0.addr + 0)) (point_within f.start end (l.0.addr + 1) ++ point_within f.start end (l.0.addr + l.0.size)) p
          (is_within f.start end (l.0.addr + 0) (omega (arith, own.0)) (omega (arith, own.1))))));
      seconds = λ r there own.
          let l = kept_line r there in
          let e : l.0.addr + 1 ≡ r.start + 1 = omega (arith, ap (λ (s : SourceLine). s.start) l.2) in
          let p : Point = record { addr = l.0.addr + 1 } in
          subst (In (addrs_of sorted)) e (to_sorted p (of_line l.0 l.1 p
          (in_right (point_within f.start end (l.0.addr + 0)) (point_within f.start end (l.0.addr + 1) ++ point_within f.start end (l.0.addr + l.0.size)) p
          (in_left (point_within f.start end (l.0.addr + 1)) (point_within f.start end (l.0.addr + l.0.size)) p
          (is_within f.start end (l.0.addr + 1) (omega (arith, own.0)) (omega (arith, own.1)))))));
      ends = λ r there own.
          let l = kept_line r there in
          let e : l.0.addr + l.0.size ≡ r.start + r.size = omega (arith, ap (λ (s : SourceLine). s.start) l.2, ap (λ (s : SourceLine). s.size) l.2) in
          let p : Point = record { addr = l.0.addr + l.0.size } in
          subst (In (addrs_of sorted)) e (to_sorted p (of_line l.0 l.1 p
          (in_right (point_within f.start end (l.0.addr + 0)) (point_within f.start end (l.0.addr + 1) ++ point_within f.start end (l.0.addr + l.0.size)) p
          (in_right (point_within f.start end (l.0.addr + 1)) (point_within f.start end (l.0.addr + l.0.size)) p
          (is_within f.start end (l.0.addr + l.0.size) (omega (arith, own.0)) (omega (arith, own.1)))))));
    }

-- One turn of the walk over the points.
module _ (f : Function) (points : List Point) (i : ℕ) (d : Point) where
  abbrev point : ℕ
  point = (slice_index_or points i d).addr

  abbrev line_of : ℕ → Option SourceLine
  line_of addr = line_at addr f.lines

  here : i < length points → addrs_of (drop i points) ≡ point ∷ addrs_of (drop (i + 1) points)
  here within = ap addrs_of (drop_more points i d within)

  pub row_turn : i < length points → (before now : Option KeptLine) (rows new : List LineRow) →
      option_map line_seen now ≡ line_of point → map row_seen new ≡ map row_seen rows ++ row_by same_line point (option_map line_seen before) (option_map line_seen now)
      → map row_seen rows ++ point_rows same_line itself line_of (option_map line_seen before) (addrs_of (drop i points)) ≡ point_rows same_line itself line_of None (addrs_of points) →
      map row_seen new ++ point_rows same_line itself line_of (option_map line_seen now) (addrs_of (drop (i + 1) points)) ≡ point_rows same_line itself line_of None (addrs_of points)
  row_turn within before now rows new is pushed so_far =
      ap (λ l. l ++ point_rows same_line itself line_of (option_map line_seen now) (addrs_of (drop (i + 1) points))) pushed
      ∙ append_assoc (map row_seen rows) (row_by same_line point (option_map line_seen before) (option_map line_seen now)) (point_rows same_line itself line_of (option_map line_seen now) (addrs_of (drop (i + 1) points)))
      ∙ ap (λ o. map row_seen rows ++ (row_by same_line point (option_map line_seen before) o ++ point_rows same_line itself line_of o (addrs_of (drop (i + 1) points)))) is
      ∙ ap (λ ps. map row_seen rows ++ point_rows same_line itself line_of (option_map line_seen before) ps) (sym (here within)) ∙ so_far

  or_more : {A : Type 0} (a b c : Option A) → ((a or b) or c) ≡ (a or (b or c))
  or_more None b c = refl
  or_more (Some x) b c = refl

  pub gap_turn : i < length points → (before now : Option KeptLine) (gap new : Option ℕ) →
      option_map line_seen now ≡ line_of point → new ≡ (gap or gap_of point (option_map line_seen before) (option_map line_seen now))
      → (gap or point_gap same_line itself line_of (option_map line_seen before) (addrs_of (drop i points))) ≡ point_gap same_line itself line_of None (addrs_of points) →
      (new or point_gap same_line itself line_of (option_map line_seen now) (addrs_of (drop (i + 1) points))) ≡ point_gap same_line itself line_of None (addrs_of points)
  gap_turn within before now gap new is found so_far =
      ap (λ g. g or point_gap same_line itself line_of (option_map line_seen now) (addrs_of (drop (i + 1) points))) found
      ∙ or_more gap (gap_of point (option_map line_seen before) (option_map line_seen now)) (point_gap same_line itself line_of (option_map line_seen now) (addrs_of (drop (i + 1) points)))
      ∙ ap (λ o. gap or (gap_of point (option_map line_seen before) o or point_gap same_line itself line_of o (addrs_of (drop (i + 1) points)))) is
      ∙ ap (λ ps. gap or point_gap same_line itself line_of (option_map line_seen before) ps) (sym (here within)) ∙ so_far

module _ (f : Function) (points : List Point) (i : ℕ) (past : length points ≤ i) (are : ArePoints f (addrs_of points)) where
  pub row_end : (before : Option KeptLine) (rows : List LineRow) →
      map row_seen rows ++ point_rows same_line itself (λ addr. line_at addr f.lines) (option_map line_seen before) (addrs_of (drop i points)) ≡ point_rows same_line itself (λ addr. line_at addr f.lines) None (addrs_of points) →
      map row_seen rows ≡ rows_from same_line (λ addr. line_at addr f.lines) None f.start f.size
  row_end before rows so_far =
      sym (append-nil (map row_seen rows))
      ∙ ap (λ ps. map row_seen rows ++ point_rows same_line itself (λ addr. line_at addr f.lines) (option_map line_seen before) (addrs_of ps)) (sym (drop_all i points past))
      ∙ so_far ∙ rows_are f (addrs_of points) are

  or_none : {A : Type 0} (a : Option A) → (a or None) ≡ a
  or_none None = refl
  or_none (Some x) = refl

  pub gap_end : (before : Option KeptLine) (gap : Option ℕ) →
      (gap or point_gap same_line itself (λ addr. line_at addr f.lines) (option_map line_seen before) (addrs_of (drop i points))) ≡ point_gap same_line itself (λ addr. line_at addr f.lines) None (addrs_of points) →
      gap ≡ gap_from (λ addr. line_at addr f.lines) None f.start f.size
  gap_end before gap so_far =
      sym (or_none gap)
      ∙ ap (λ ps. gap or point_gap same_line itself (λ addr. line_at addr f.lines) (option_map line_seen before) (addrs_of ps)) (sym (drop_all i points past))
      ∙ so_far ∙ gap_is f (addrs_of points) are

-- What was collected is put in order.
checked_size : (f : Function) → is_checked f ≡ true → 0 < f.size
checked_size f is = by (f.size == 0) refl is where
  by : (b : Bool) → (f.size == 0) ≡ b → (not b && nat_le (f.start + f.size) last_address) ≡ true → 0 < f.size
  by true none is = absurd (true≢false (sym is))
  by false some is = grind (arith, nat_tests)

pub points_done : (f : Function) (start end : ℕ) → is_checked f ≡ true → start ≡ f.start → end ≡ f.start + f.size → (lines : List KeptLine) → map line_seen lines ≡ lines_in_order f →
    (k : ℕ) → length lines ≤ k → (points sorted : List Point) → points ++ flat_map (points_of_line start end) (drop k lines) ≡ points_for start end lines →
    IsTable (λ (p : Point). p.addr) (λ p. 0) points sorted → ArePoints f (addrs_of sorted)
points_done f start end checked starts ends lines are k past points sorted so_far is =
    let all : points ≡ points_for f.start (f.start + f.size) lines =
    sym (append-nil points) ∙ ap (λ ls. points ++ flat_map (points_of_line start end) ls) (sym (drop_all k lines past))
    ∙ so_far ∙ ap (λ s. points_for s end lines) starts ∙ ap (λ e. points_for f.start e lines) ends in
    points_sorted f lines are (checked_size f checked) sorted (subst (λ ps. IsTable (λ (p : Point). p.addr) (λ p. 0) ps sorted) all is)
