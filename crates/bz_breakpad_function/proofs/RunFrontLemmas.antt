-- A run at the front of a text: its lines are the same in the whole text,
-- and so are those of its parts.
use Rattle.std.proofs.Common.{◌≡◌, ℕ, zero, suc, ◌+◌, ◌-◌, ◌<◌, ◌≤◌, true, false, Bool, cond, not, nat_eq, List, [], ◌∷◌, length, take, drop, option_map, Option, IsSome, refl, sym, ap, subst, ◌∙◌, arith, inl, inr, length-drop}
use Rattle.std.specs.List.{prefix_len}
use Rattle.std.specs.Prelude.{slice_index, unwrap_or}
use Rattle.std.proofs.lemmas.Bool.{cases_lt, eqb-true}
use Rattle.std.proofs.lemmas.List.{drop-drop, get_or-drop, get_or-take, length-take-le, take-take}
use Rattle.std.proofs.lemmas.List.Sums.{prefix_len_stops}
use Rattle.bz_base.specs.Bind.{◌>>=◌}
use Rattle.bz_base.specs.Byte.{line_feed}
use Rattle.bz_base.specs.Line.{all_lines, begins_line}
use Rattle.bz_breakpad_lines.specs.Choice.{body_at}
use Rattle.bz_breakpad_lines.specs.Line.{line_front, line_in, source_line}
use Rattle.bz_breakpad_table.specs.Kept.{IsRunAt, text_at}
use Rattle.bz_breakpad_table.specs.LineRun.{IsCut, IsLineRun, IsRunFront}
use Rattle.bz_breakpad_table.specs.declared.types.Part.{Part}
use Rattle.bz_breakpad_lines.specs.LineStarts.{ReadsLine, line_start, no_line}
use Rattle.bz_breakpad_lines.specs.Reads.{form_at}
use Rattle.bz_breakpad_lines.specs.Records.{LINE}
use Rattle.bz_breakpad_lines.specs.Table.{SourceLine}
use Rattle.bz_breakpad_lines.proofs.LaneLemmas.{front_from}
use Rattle.bz_breakpad_table.proofs.RunLemmas.{back_decides, back_run, candidate_in, front_decides, front_run, read_at_cut, reads_first}

-- the first line is the same in a front that ends with a line feed
front_same : (n : ℕ) (text : List ℕ) → n < length text → slice_index text n ≡ line_feed → line_front (take (suc n) text) ≡ line_front text
front_same n [] within is = absurd (omega (arith, within))
front_same zero (b ∷ text) within is = rw is refl
front_same (suc n) (b ∷ text) within is = by (nat_eq b line_feed) refl (front_same n text (omega (arith, within)) is) where
  by : (is_end : Bool) → nat_eq b line_feed ≡ is_end → line_front (take (suc n) text) ≡ line_front text →
      line_front (take (suc (suc n)) (b ∷ text)) ≡ line_front (b ∷ text)
  by true test rest = rw test refl
  by false test rest =
      let m = prefix_len (λ x. not (nat_eq x line_feed)) text in
      let more : 1 + m ≡ suc m = omega arith in
      let k = prefix_len (λ x. not (nat_eq x line_feed)) (take (suc n) text) in
      let again : 1 + k ≡ suc k = omega arith in
      rw (test, more, again) (ap (λ r. b ∷ r) rest)

-- so its lines are the same in the whole text
pub same_in_front : (text : List ℕ) (len : ℕ) → len ≤ length text → slice_index text (len - 1) ≡ line_feed → (place : ℕ) → place < len →
    line_in (drop place (take len text)) ≡ line_in (drop place text)
same_in_front text len within ends place before =
    let n = len - place - 1 in
    let more : len - place ≡ suc n = omega (arith, before) in
    let at : slice_index (drop place text) n ≡ line_feed = get_or-drop place text n 0 ∙ ap (slice_index text) (omega (arith, before)) ∙ ends in
    let same = front_same n (drop place text) (omega (arith, before, within, length-drop place text)) at in
    ap line_in (front_from place len text ∙ ap (λ k. take k (drop place text)) more)
    ∙ ap (λ front. option_map source_line (body_at front >>= form_at LINE)) same

-- a run that ends with a line feed, and what comes after it
run_in_front : (text : List ℕ) (len : ℕ) → len ≤ length text → IsLineRun (take len text) → 0 < len → slice_index (take len text) (len - 1) ≡ line_feed → IsRunFront text len
run_in_front text len within run some ends = record {
  within = within;
  run = run;
  same = same_in_front text len within (sym (get_or-take len text (len - 1) 0 (omega (arith, some))) ∙ ends);
}

-- no bytes are a run
pub no_front : (text : List ℕ) → IsRunFront text 0
no_front text = record {
  within = omega arith;
  run = record { read = tt; ascend = λ i j below within. absurd (omega (arith, within)) };
  same = λ place before. absurd (omega (arith, before));
}

module _ (bytes : List ℕ) (run : Part) (at : IsRunAt bytes run) where
  run_room : run.to - run.from ≤ length (drop run.from bytes)
  run_room = omega (arith, at.within.ordered, at.within.within, length-drop run.from bytes)

  run_long : length (text_at bytes run) ≡ run.to - run.from
  run_long = length-take-le (run.to - run.from) (drop run.from bytes) run_room

  -- a run at a part of the bytes, with what comes after it
  pub run_and_rest : IsRunFront (drop run.from bytes) (run.to - run.from)
  run_and_rest =
      elim (cases_lt 0 (run.to - run.from)) [
        | inl some ↦ run_in_front (drop run.from bytes) (run.to - run.from) run_room at.run some
            (ap (λ k. slice_index (text_at bytes run) (k - 1)) (sym run_long) ∙ at.ended (omega (arith, some, run_long)))
        | inr none ↦ subst (IsRunFront (drop run.from bytes)) (omega (arith, none)) (no_front (drop run.from bytes))
      ]

-- at the front of a run a line record is read
pub read_first : (text : List ℕ) (len : ℕ) → IsRunFront text len → 0 < len → ReadsLine text 0
read_first text len front some =
    subst (λ (o : Option SourceLine). IsSome o) (front.same 0 some)
    (reads_first (take len text) (omega (arith, some, length-take-le len text front.within)) front.run.read)

module _ (text : List ℕ) (len : ℕ) (is_front : IsRunFront text len) where
  abbrev run_text : List ℕ
  run_text = take len text

  long : length run_text ≡ len
  long = length-take-le len text is_front.within

  module _ (cut : ℕ) (is : IsCut run_text cut) where
    -- a line record is read where the run is cut
    pub read_in_front : IsSome (line_in (drop cut text))
    read_in_front = subst (λ (o : Option SourceLine). IsSome o) (is_front.same cut (omega (arith, is.within, long))) (read_at_cut run_text cut is is_front.run)

    start_same : line_start run_text cut ≡ line_start text cut
    start_same = ap (λ o. (unwrap_or o no_line).start) (is_front.same cut (omega (arith, is.within, long)))

    -- the later part
    pub back_front : IsRunFront (drop cut text) (len - cut)
    back_front = record {
      within = omega (arith, is_front.within, length-drop cut text);
      run = subst IsLineRun (front_from cut len text) (back_run run_text cut is is_front.run);
      same = λ place before.
          ap (λ t. line_in (drop place t)) (sym (front_from cut len text))
          ∙ ap line_in (drop-drop place cut run_text)
          ∙ is_front.same (cut + place) (omega (arith, before))
          ∙ ap line_in (sym (drop-drop place cut text));
    }

    pub back_tries : (addr : ℕ) → line_start text cut ≤ addr → candidate_in addr (take (len - cut) (drop cut text)) ≡ candidate_in addr run_text
    back_tries addr not_above =
        ap (candidate_in addr) (sym (front_from cut len text)) ∙ back_decides run_text cut is is_front.run addr (omega (arith, not_above, start_same))

    front_is : take cut run_text ≡ take cut text
    front_is = take-take cut len text (omega (arith, is.within, long))

    -- the earlier part
    pub front_front_run : IsRunFront text cut
    front_front_run = record {
      within = omega (arith, is.within, long, is_front.within);
      run = subst IsLineRun front_is (front_run run_text cut is is_front.run);
      same = same_in_front text cut (omega (arith, is.within, long, is_front.within))
          (sym (get_or-take len text (cut - 1) 0 (omega (arith, is.positive, is.within, long))) ∙ is.behind);
    }

    pub front_tries : (addr : ℕ) → addr < line_start text cut → candidate_in addr (take cut text) ≡ candidate_in addr run_text
    front_tries addr above =
        ap (candidate_in addr) (sym front_is) ∙ front_decides run_text cut is is_front.run addr (omega (arith, above, start_same))

-- Where a run is cut.

-- bytes up to a line feed, and no further, have one line at most
pub few_lines : (len : ℕ) (text : List ℕ) → len ≤ suc (prefix_len (λ b. not (nat_eq b line_feed)) text) → length (all_lines (take len text)) ≤ 1
few_lines zero text short = omega arith
few_lines (suc len) [] short = omega arith
few_lines (suc len) (b ∷ text) short = by (nat_eq b line_feed) refl (few_lines len text) short where
  one : (lines : List (List ℕ)) → length lines ≤ 1 → length (begins_line b lines) ≤ 1
  one [] few = omega arith
  one (line ∷ lines) few = omega (arith, few)

  by : (is_end : Bool) → nat_eq b line_feed ≡ is_end → (len ≤ suc (prefix_len (λ x. not (nat_eq x line_feed)) text) → length (all_lines (take len text)) ≤ 1) →
      suc len ≤ suc (cond (not is_end) (1 + prefix_len (λ x. not (nat_eq x line_feed)) text) 0) → length (all_lines (take (suc len) (b ∷ text))) ≤ 1
  by true is more short =
      let none : len ≡ 0 = omega (arith, short) in
      rw (is, none) (omega arith)
  by false is more short = rw is (one (all_lines (take len text)) (more (omega (arith, short))))

-- behind the first line feed, if bytes come after it
pub cut_behind : (len : ℕ) (text : List ℕ) → len ≤ length text → (place : ℕ) → 0 < place → place < len → slice_index text (place - 1) ≡ line_feed → IsCut (take len text) place
cut_behind len text within place some before behind = record {
  positive = some;
  within = omega (arith, length-take-le len text within, before);
  behind = get_or-take len text (place - 1) 0 (omega (arith, some, before)) ∙ behind;
}

pub cut_first : (len : ℕ) (text : List ℕ) → len ≤ length text → (end : ℕ) → end ≡ prefix_len (λ b. not (nat_eq b line_feed)) text → end + 1 < len → IsCut (take len text) (end + 1)
cut_first len text within end is before =
    let stops : not (nat_eq (slice_index text (prefix_len (λ b. not (nat_eq b line_feed)) text)) line_feed) ≡ false
    = prefix_len_stops (λ b. not (nat_eq b line_feed)) text 0 (omega (arith, is, before, within)) in
    cut_behind len text within (end + 1) (omega arith) before
    (ap (slice_index text) (omega (arith, is)) ∙ eqb-true _ line_feed (not_false _ stops))
  where
    not_false : (bit : Bool) → not bit ≡ false → bit ≡ true
    not_false true is = refl
    not_false false is = sym is
