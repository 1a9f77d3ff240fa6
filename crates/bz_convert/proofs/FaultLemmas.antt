-- What holds of the functions of a file without a fault.
use Rattle.std.proofs.Common.{◌≡◌, inl, inr, ℕ, zero, suc, ◌&&◌, Bool, true, false, cond, not, List, [], ◌∷◌, option_map, Option, Some, None, refl, sym, ap, subst, ◌∙◌, arith}
use Rattle.std.specs.Prelude.{◌||◌, is_none}
use Rattle.std.specs.List.{find, list_any, slice_get}
use Rattle.std.proofs.lemmas.Bool.{eq-eqb, true≢false}
use Rattle.std.proofs.lemmas.Option.{none-some, same_Some, slice_get_cases, slice_get_within}
use Rattle.bz_breakpad_lines.specs.Names.{name_for}
use Rattle.bz_breakpad_function.specs.InOrder.{calls_in_order, lines_in_order, ordered_functions}
use Rattle.bz_breakpad_function.specs.Locations.{line_at}
use Rattle.bz_breakpad_lines.specs.Table.{SourceLine, Inlinee, Function, Table}
use Rattle.bz_gsym_layout.specs.Members.{In}
use Rattle.bz_convert.specs.Fault.{checked_fault, equal_starts, fault_of, first_fault, has_zero, lies_inside, line_gap, no_call_file, no_line_file, no_origin, not_nested, only_if, overlap, overlaps, zero_in, zero_size, ◌or◌}
use Rattle.bz_gsym_layout.specs.Numbering.{texts_of}
use Rattle.bz_convert.specs.Plan.{code_of, has_size, is_checked, located}
use Rattle.bz_convert.specs.Rows.{gap_from}
use Rattle.bz_convert.specs.declared.error.ConvertError.{ConvertError}
use Rattle.bz_convert.specs.declared.error.ConvertError.TheVariants.{EqualStarts, ZeroByte, ZeroSize}
use Rattle.bz_convert.proofs.MemberLemmas.{to_table}
use Rattle.bz_search.proofs.SortingLaws.{sorted_table}
use Rattle.bz_convert.proofs.StartLemmas.{Differ}

or_none : {A : Type 0} (o p : Option A) → (o or p) ≡ None → (o ≡ None) × (p ≡ None)
or_none None p none = (refl, none)
or_none (Some a) p none = absurd (none-some a (sym none))

map_none : {A B : Type 0} (f : A → B) (o : Option A) → option_map f o ≡ None → o ≡ None
map_none f None none = refl
map_none f (Some a) none = absurd (none-some (f a) (sym none))

cond_none : {A : Type 0} (b : Bool) (a : A) → cond b (Some a) None ≡ None → b ≡ false
cond_none true a none = absurd (none-some a (sym none))
cond_none false a none = refl

pub find_none : {X : Type 0} (test : X → Bool) (xs : List X) → find test xs ≡ None → (x : X) → In xs x → test x ≡ false
find_none test [] none x (i, there) = absurd (none-some x there)
find_none {X} test (y ∷ xs) none x (i, there) = by (test y) refl none i there (λ more j later. find_none test xs more x (j, later)) where
  by : (b : Bool) → test y ≡ b → cond b (Some y) (find test xs) ≡ None → (i : ℕ) → slice_get (y ∷ xs) i ≡ Some x →
      (find test xs ≡ None → (j : ℕ) → slice_get xs j ≡ Some x → test x ≡ false) → test x ≡ false
  by true is none i there next = absurd (none-some y (sym none))
  by false is none zero there next = subst (λ z. test z ≡ false) (same_Some y x there) is
  by false is none (suc j) there next = next none j there

pub any_none : {X : Type 0} (test : X → Bool) (xs : List X) → list_any test xs ≡ false → (x : X) → In xs x → test x ≡ false
any_none test [] none x (i, there) = absurd (none-some x there)
any_none {X} test (y ∷ xs) none x (i, there) = by (test y) refl none i there (λ more j later. any_none test xs more x (j, later)) where
  by : (b : Bool) → test y ≡ b → (b || list_any test xs) ≡ false → (i : ℕ) → slice_get (y ∷ xs) i ≡ Some x →
      (list_any test xs ≡ false → (j : ℕ) → slice_get xs j ≡ Some x → test x ≡ false) → test x ≡ false
  by true is none i there next = absurd (true≢false none)
  by false is none zero there next = subst (λ z. test z ≡ false) (same_Some y x there) is
  by false is none (suc j) there next = next none j there

pub second_fails : (a b : Bool) → (a && b) ≡ false → a ≡ true → b ≡ false
second_fails true b fails is = fails
second_fails false b fails is = absurd (true≢false (sym is))

not_fails : (b : Bool) → not b ≡ false → b ≡ true
not_fails true is = refl
not_fails false is = absurd (true≢false is)

-- the calls of a function lie inside it and inside one another, and don't overlap
pub record IsNested (f : Function) : Type 0 where
  pub inside : (x : Inlinee) → In f.inlinees x → has_size x ≡ true → lies_inside f x ≡ true
  pub apart : (x : Inlinee) → In f.inlinees x → overlaps f x ≡ false

call_in : (f : Function) (x : Inlinee) → In f.inlinees x → In (calls_in_order f) x
call_in f x there = to_table (λ (i : Inlinee). i.depth) (λ i. i.start) f.inlinees (calls_in_order f) (sorted_table (λ i. i.depth) (λ i. i.start) f.inlinees) x there

pub nested_calls : (f : Function) → not_nested f ≡ None → overlap f ≡ None → IsNested f
nested_calls f inner over = record {
  inside = λ x there sized.
      not_fails (lies_inside f x) (second_fails (has_size x) (not (lies_inside f x))
      (find_none (λ (i : Inlinee). has_size i && not (lies_inside f i)) (calls_in_order f) (map_none _ _ inner) x (call_in f x there)) sized);
  apart = λ x there. find_none (overlaps f) (calls_in_order f) (map_none _ _ over) x (call_in f x there);
}

-- a function without a fault
module _ (table : Table) where
  pub record IsClean (f : Function) : Type 0 where
    pub size : f.size ≡ 0 → ⊥
    pub no_zero : (text : List ℕ) → In (texts_of (code_of table f)) text → has_zero text ≡ false
    pub gap : is_checked f ≡ true → gap_from (λ addr. line_at addr f.lines) None f.start f.size ≡ None
    pub nested : is_checked f ≡ true → IsNested f
    pub files : is_checked f ≡ true → (l : SourceLine) → In f.lines l → is_none (located table l.file) ≡ false
    pub call_files : is_checked f ≡ true → (x : Inlinee) → In f.inlinees x → has_size x ≡ true → is_none (located table x.call_file) ≡ false
    pub origins : is_checked f ≡ true → (x : Inlinee) → In f.inlinees x → has_size x ≡ true → is_none (name_for x.origin table.origins) ≡ false

  module _ (before : Option ℕ) (f : Function) (none : fault_of table before f ≡ None) where
    abbrev checked_faults : Option ConvertError
    checked_faults = checked_fault table f

    parts : (zero_size f ≡ None) × (equal_starts before f ≡ None) × (only_if (is_checked f) checked_faults ≡ None) × (zero_in table f ≡ None)
    parts =
        let first = or_none (zero_size f) _ none in
        let second = or_none (equal_starts before f) _ first.1 in
        let third = or_none (only_if (is_checked f) checked_faults) (zero_in table f) second.1 in
        (first.0, second.0, third.0, third.1)

    module _ (checked : is_checked f ≡ true) where
      all_none : checked_faults ≡ None
      all_none = ap (λ b. only_if b checked_faults) (sym checked) ∙ parts.2

      faults : (line_gap f ≡ None) × (not_nested f ≡ None) × (overlap f ≡ None) × (no_line_file table f ≡ None) × (no_call_file table f ≡ None) × (no_origin table f ≡ None)
      faults =
          let a = or_none (line_gap f) _ all_none in
          let b = or_none (not_nested f) _ a.1 in
          let c = or_none (overlap f) _ b.1 in
          let d = or_none (no_line_file table f) _ c.1 in
          let e = or_none (no_call_file table f) (no_origin table f) d.1 in
          (a.0, b.0, c.0, d.0, e.0, e.1)

      line_in_order : (l : SourceLine) → In f.lines l → In (lines_in_order f) l
      line_in_order l there = to_table (λ (l : SourceLine). l.start) (λ l. l.size) f.lines (lines_in_order f) (sorted_table (λ l. l.start) (λ l. l.size) f.lines) l there

      has_file : (x : Inlinee) → In f.inlinees x → has_size x ≡ true → is_none (located table x.call_file) ≡ false
      has_file x there sized =
          second_fails (has_size x) (is_none (located table x.call_file))
          (find_none (λ (i : Inlinee). has_size i && is_none (located table i.call_file)) (calls_in_order f) (map_none _ _ faults.4) x (call_in f x there)) sized

      has_origin : (x : Inlinee) → In f.inlinees x → has_size x ≡ true → is_none (name_for x.origin table.origins) ≡ false
      has_origin x there sized =
          second_fails (has_size x) (is_none (name_for x.origin table.origins))
          (find_none (λ (i : Inlinee). has_size i && is_none (name_for i.origin table.origins)) (calls_in_order f) (map_none _ _ faults.5) x (call_in f x there)) sized

    pub clean : IsClean f
    clean = record {
      size = λ none. none-some (ZeroSize f.start) (sym (sym (rw (eq-eqb f.size 0 none) refl) ∙ parts.0));
      no_zero = any_none has_zero (texts_of (code_of table f)) (cond_none (list_any has_zero (texts_of (code_of table f))) (ZeroByte f.start) parts.3);
      gap = λ checked. map_none _ _ (faults checked).0;
      nested = λ checked. nested_calls f (faults checked).1 (faults checked).2;
      files = λ checked l there. find_none (λ (r : SourceLine). is_none (located table r.file)) (lines_in_order f) (map_none _ _ (faults checked).3) l (line_in_order checked l there);
      call_files = has_file;
      origins = has_origin;
    }

  -- each function of a list without a fault is clean, and starts elsewhere than the one before it
  pub all_clean : (fs : List Function) (before : Option ℕ) → first_fault table before fs ≡ None → (f : Function) → In fs f → IsClean f
  all_clean [] before none f (i, there) = absurd (none-some f there)
  all_clean (g ∷ fs) before none f (zero, there) = subst IsClean (same_Some g f there) (clean before g (or_none (fault_of table before g) (first_fault table (Some g.start) fs) none).0)
  all_clean (g ∷ fs) before none f (suc i, there) = all_clean fs (Some g.start) (or_none (fault_of table before g) (first_fault table (Some g.start) fs) none).1 f (i, there)

  starts_differ : (g f : Function) → equal_starts (Some g.start) f ≡ None → g.start ≡ f.start → ⊥
  starts_differ g f none same = none-some (EqualStarts f.start) (sym (sym (rw (eq-eqb g.start f.start same) refl) ∙ none))

  next_differs : (fs : List Function) (before : Option ℕ) → first_fault table before fs ≡ None → (i : ℕ) (x y : Function) →
      slice_get fs i ≡ Some x → slice_get fs (suc i) ≡ Some y → x.start ≡ y.start → ⊥
  next_differs [] before none i x y at_x at_y = absurd (none-some x at_x)
  next_differs (g ∷ []) before none zero x y at_x at_y = absurd (none-some y at_y)
  next_differs (g ∷ h ∷ fs) before none zero x y at_x at_y =
      let rest = (or_none (fault_of table before g) (first_fault table (Some g.start) (h ∷ fs)) none).1 in
      let here = (or_none (fault_of table (Some g.start) h) (first_fault table (Some h.start) fs) rest).0 in
      λ same. starts_differ g h (parts (Some g.start) h here).1 (ap (λ (f : Function). f.start) (same_Some g x at_x) ∙ same ∙ sym (ap (λ (f : Function). f.start) (same_Some h y at_y)))
  next_differs (g ∷ fs) before none (suc i) x y at_x at_y =
      next_differs fs (Some g.start) (or_none (fault_of table before g) (first_fault table (Some g.start) fs) none).1 i x y at_x at_y

  -- no two functions start alike
  pub functions_differ : first_fault table None (ordered_functions table.functions) ≡ None → Differ (λ (f : Function). f.start) (ordered_functions table.functions)
  functions_differ none i j x y less at_i at_j same =
      let fs = ordered_functions table.functions in
      let is = sorted_table (λ (f : Function). f.start) (λ f. f.size) table.functions in
      let next : (z : Function) × (slice_get fs (suc i) ≡ Some z) =
      elim ((slice_get_cases fs (suc i)).1) [ inl in_range ↦ (in_range.0, in_range.2) | inr past ↦ absurd (omega (arith, past.0, slice_get_within fs j y at_j)) ] in
      let up = is.starts_ascend i (suc i) x next.0 (omega arith) at_i next.1 in
      let down = is.starts_ascend (suc i) j next.0 y (omega arith) next.1 at_j in
      next_differs fs None none i x next.0 at_i next.1 (omega (arith, up, down))
