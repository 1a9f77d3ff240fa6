-- What the ranges of a node say of an address, read one by one.
use Rattle.std.proofs.Common.{◌≡◌, ℕ, suc, ◌+◌, ◌-◌, ◌<◌, ◌≤◌, inl, inr, true, false, not, ◌||◌, List, Bool, cond, Option, Some, None, option_map, nat_le, nat_eq, refl, ap, ◌∙◌, arith}
use Rattle.std.proofs.lemmas.Bool.{ne_eqb, eq-eqb, cases_eq, lt-leb, le-leb}
use Rattle.bz_gsym.specs.InlineTree.{Head, last_index, fits, has_inside, all_fit, some_has_inside, first_start, is_sound, matches, children_base}
use Rattle.bz_base.specs.Bind.{◌>>=◌}
use Rattle.bz_base.specs.Leb128.{uleb_at}
use Rattle.bz_gsym.specs.InlineReader.{range_at, before, ranges_at, Tail, tail_at, head_of, filled_at, head_at, there}
use Rattle.bz_gsym.specs.declared.inline.node.Level.{Level}
use Rattle.bz_gsym.specs.declared.inline.node.Level.TheVariants.{PassedOver, Read}
use Rattle.bz_gsym.specs.InlineWalk.{Visit, visit, visit_next, visit_at, passed_at}
use Rattle.bz_gsym.specs.InlineRanges.{Span, span_from, span_at, after_ranges, read_by, read_at}

-- what a node with so many ranges gives, where it is read
unfoldable node_at : ℕ → ℕ → ℕ → List ℕ → Option (Visit × List ℕ)
node_at addr base count bytes = filled_at count bytes >>= (λ head. option_map (λ found. (found, head.1)) (visit addr (Read base) head.0))

-- one range more
left_is : (count seen : ℕ) → seen < count → count - seen ≡ suc (count - (seen + 1))
left_is count seen more = omega arith

module _ (count seen : ℕ) (rest : List ℕ) (more : seen < count) where
  pub ranges-missing : range_at rest ≡ None → ranges_at (count - seen) rest ≡ None
  ranges-missing is = rw (left_is count seen more, is) refl

  pub ranges-more : (range : ℕ × ℕ) (after : List ℕ) → range_at rest ≡ Some (range, after) →
      ranges_at (count - seen) rest ≡ option_map (before range) (ranges_at (count - (seen + 1)) after)
  ranges-more range after is = rw (left_is count seen more, is) refl

  pub after-more : (range : ℕ × ℕ) (after : List ℕ) → range_at rest ≡ Some (range, after) →
      after_ranges (count - seen) rest ≡ after_ranges (count - (seen + 1)) after
  after-more range after is = ap (option_map (λ ranges. ranges.1)) (ranges-more range after is) ∙ same (ranges_at (count - (seen + 1)) after)
    where
      same : (o : Option (List (ℕ × ℕ) × List ℕ)) → option_map (λ (ranges : List (ℕ × ℕ) × List ℕ). ranges.1) (option_map (before range) o) ≡ option_map (λ ranges. ranges.1) o
      same None = refl
      same (Some x) = refl

  pub after-missing : range_at rest ≡ None → after_ranges (count - seen) rest ≡ None
  after-missing is = ap (option_map (λ ranges. ranges.1)) (ranges-missing is)

or_false : (b : Bool) → (b || false) ≡ b
or_false true = refl
or_false false = refl

or_grouped : (a b c : Bool) → (a || (b || c)) ≡ ((a || b) || c)
or_grouped true b c = refl
or_grouped false b c = refl

module _ (addr base count seen : ℕ) (covered : Bool) (start : ℕ) where
  span_more : (range : ℕ × ℕ) → fits base range ≡ true → (later : Option (List (ℕ × ℕ) × List ℕ)) →
      (option_map (before range) later >>= span_from addr base seen covered start)
      ≡ (later >>= span_from addr base (seen + 1) (covered || has_inside base addr range) (cond (nat_eq seen 0) (base + range.0) start))
  span_more range fit None = refl
  span_more range fit (Some x) =
      rw (fit, ne_eqb (seen + 1) 0 (λ same. omega arith), or_grouped covered (has_inside base addr range) (some_has_inside base addr x.0)) refl

  span_unfit : (range : ℕ × ℕ) → fits base range ≡ false → (later : Option (List (ℕ × ℕ) × List ℕ)) →
      (option_map (before range) later >>= span_from addr base seen covered start) ≡ None
  span_unfit range fit None = refl
  span_unfit range fit (Some x) = rw fit refl

  pub span-end : (rest : List ℕ) → count - seen ≡ 0 → (seen ≡ 0 → start ≡ base) →
      (ranges_at (count - seen) rest >>= span_from addr base seen covered start) ≡ Some ((covered, start), rest)
  span-end rest done begun =
      rw (done, or_false covered)
      (elim (cases_eq seen 0) [
        | inl first ↦ rw (eq-eqb seen 0 first, begun first) refl
        | inr later ↦ rw (ne_eqb seen 0 later) refl
      ])

  module _ (rest : List ℕ) (more : seen < count) where
    pub span-missing : range_at rest ≡ None → (ranges_at (count - seen) rest >>= span_from addr base seen covered start) ≡ None
    span-missing is = ap (λ o. o >>= span_from addr base seen covered start) (ranges-missing count seen rest more is)

    module _ (range : ℕ × ℕ) (after : List ℕ) (is : range_at rest ≡ Some (range, after)) where
      pub span-unfit : 18446744073709551615 < base + range.0 + range.1 → (ranges_at (count - seen) rest >>= span_from addr base seen covered start) ≡ None
      span-unfit past =
          ap (λ o. o >>= span_from addr base seen covered start) (ranges-more count seen rest more range after is)
          ∙ span_unfit range (lt-leb _ _ past) (ranges_at (count - (seen + 1)) after)

      pub span-more : (covered_then : Bool) (start_then : ℕ) → base + range.0 + range.1 ≤ 18446744073709551615 →
          covered_then ≡ (covered || has_inside base addr range) → start_then ≡ cond (nat_eq seen 0) (base + range.0) start →
          (ranges_at (count - seen) rest >>= span_from addr base seen covered start)
          ≡ (ranges_at (count - (seen + 1)) after >>= span_from addr base (seen + 1) covered_then start_then)
      span-more covered_then start_then within covered_is start_is =
          rw (covered_is, start_is)
          (ap (λ o. o >>= span_from addr base seen covered start) (ranges-more count seen rest more range after is)
          ∙ span_more range (le-leb _ _ within) (ranges_at (count - (seen + 1)) after))

-- what a node gives is what its ranges and what stands after them give
module _ (addr base : ℕ) where
  abbrev headed : List (ℕ × ℕ) → Tail × List ℕ → Option (Head × List ℕ)
  headed ranges tail = Some (head_of ranges tail.0, tail.1)

  abbrev judged : Head × List ℕ → Option (Visit × List ℕ)
  judged head = option_map (λ found. (found, head.1)) (visit addr (Read base) head.0)

  by_file : (b : Bool) (rest : List ℕ) (found : Visit) →
      option_map {U = Visit × List ℕ} (λ found. (found, rest)) (cond (not b) None (Some found)) ≡ cond {A = Option (Visit × List ℕ)} b (Some (found, rest)) None
  by_file true rest found = refl
  by_file false rest found = refl

  fit_tail : (ranges : List (ℕ × ℕ)) → all_fit base ranges ≡ true → (tail : Option (Tail × List ℕ)) →
      ((tail >>= headed ranges) >>= judged)
      ≡ (tail >>= read_by (some_has_inside base addr ranges, first_start base ranges))
  unfolding is_sound matches children_base
  fit_tail ranges fit None = refl
  fit_tail ranges fit (Some t) = rw fit (by_file (nat_le t.0.call_file last_index) t.1 _)

  unfit_tail : (ranges : List (ℕ × ℕ)) → all_fit base ranges ≡ false → (tail : Option (Tail × List ℕ)) →
      ((tail >>= headed ranges) >>= judged) ≡ None
  unfolding is_sound matches children_base
  unfit_tail ranges fit None = refl
  unfit_tail ranges fit (Some t) = rw fit refl

  by_fit : (ranges : List (ℕ × ℕ)) (rest : List ℕ) (b : Bool) → all_fit base ranges ≡ b →
      ((tail_at rest >>= headed ranges) >>= judged)
      ≡ (cond {A = Option (Span × List ℕ)} b (Some ((some_has_inside base addr ranges, first_start base ranges), rest)) None >>= (λ span. tail_at span.1 >>= read_by span.0))
  by_fit ranges rest true is = fit_tail ranges is (tail_at rest)
  by_fit ranges rest false is = unfit_tail ranges is (tail_at rest)

  by_ranges : (ranges : Option (List (ℕ × ℕ) × List ℕ)) →
      ((ranges >>= (λ r. tail_at r.1 >>= headed r.0)) >>= judged)
      ≡ ((ranges >>= span_from addr base 0 false base) >>= (λ span. tail_at span.1 >>= read_by span.0))
  by_ranges None = refl
  by_ranges (Some r) = by_fit r.0 r.1 (all_fit base r.0) refl

  node_at-read : (count : ℕ) (bytes : List ℕ) → node_at addr base count bytes ≡ read_at addr base count bytes
  unfolding node_at read_at filled_at span_at
  node_at-read count bytes = by_ranges (ranges_at count bytes)

-- a node from its count of ranges on
abbrev pub a_node : Visit × List ℕ → Option Visit × List ℕ
a_node found = (Some found.0, found.1)

pub visit-missing : (addr : ℕ) (level : Level) (bytes : List ℕ) → uleb_at bytes ≡ None → visit_at addr level bytes ≡ None
unfolding visit_at head_at
visit-missing addr level bytes is = rw is refl

module _ (addr : ℕ) (bytes : List ℕ) (count : ℕ) (rest : List ℕ) (is : uleb_at bytes ≡ Some (count, rest)) where
  pub visit-end : (level : Level) → count ≡ 0 → visit_at addr level bytes ≡ Some (None, rest)
  unfolding visit_at head_at
  visit-end level none = rw (is, eq-eqb count 0 none) refl

  module _ (some : count ≡ 0 → ⊥) where
    passed : (head : Option (Head × List ℕ)) →
        (option_map there head >>= visit_next addr PassedOver) ≡ option_map a_node (option_map {U = Visit × List ℕ} (λ head. (record { frame = None; inside = cond head.0.has_children (Some PassedOver) None }, head.1)) head)
    passed None = refl
    passed (Some head) = refl

    pub visit-passed : visit_at addr PassedOver bytes ≡ option_map a_node (passed_at count rest)
    unfolding visit_at head_at passed_at
    visit-passed = rw (is, ne_eqb count 0 some) (passed (filled_at count rest))

    read_visit : (rest : List ℕ) (found : Option Visit) →
        option_map {U = Option Visit × List ℕ} (λ found. (Some found, rest)) found ≡ option_map a_node (option_map (λ found. (found, rest)) found)
    read_visit rest None = refl
    read_visit rest (Some found) = refl

    read_head : (base : ℕ) (head : Option (Head × List ℕ)) →
        (option_map there head >>= visit_next addr (Read base)) ≡ option_map a_node (head >>= judged addr base)
    read_head base None = refl
    read_head base (Some head) = read_visit head.1 (visit addr (Read base) head.0)

    visit_node : (base : ℕ) → visit_at addr (Read base) bytes ≡ option_map a_node (node_at addr base count rest)
    unfolding visit_at head_at node_at
    visit_node base = rw (is, ne_eqb count 0 some) (read_head base (filled_at count rest))

    pub visit-read : (base : ℕ) → visit_at addr (Read base) bytes ≡ option_map a_node (read_at addr base count rest)
    visit-read base = visit_node base ∙ ap (option_map a_node) (node_at-read addr base count rest)
