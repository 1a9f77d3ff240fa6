-- The texts of a function that hold a zero byte are seen in its name, its rows and its inlined calls.
use Rattle.std.proofs.Common.{◌≡◌, inl, inr, ℕ, zero, suc, ◌+◌, Bool, true, false, cond, nat_lt, map, flat_map, List, [], ◌∷◌, ◌++◌, refl, sym, ap, subst, ◌∙◌, arith}
use Rattle.std.specs.Prelude.{◌==◌, ◌||◌}
use Rattle.std.specs.List.{filter, list_any}
use Rattle.std.proofs.lemmas.Bool.{and_parts, le-leb, lt-ltb, ltb-true, true≢false}
use Rattle.std.proofs.lemmas.Option.{none-some}
use Rattle.bz_base.specs.Span.{inside, last_address}
use Rattle.bz_breakpad_function.specs.InOrder.{calls_in_order}
use Rattle.bz_breakpad_lines.specs.Table.{SourceLine, Inlinee, Function, Table}
use Rattle.bz_search.proofs.SortingLaws.{sorted_table}
use Rattle.bz_gsym_layout.specs.Members.{In}
use Rattle.bz_convert.specs.Fault.{has_zero}
use Rattle.bz_convert.specs.Ids.{call_has_zero, row_has_zero, sized_with, source_has_zero}
use Rattle.bz_convert.specs.Plan.{called, calls_beside, changes, code_of, distinct_calls, has_size, is_checked, laid_calls, line_of, row_in, sized_calls}
use Rattle.bz_gsym_layout.specs.Nesting.{Forest, calls_in, map_forest, nested}
use Rattle.bz_gsym_layout.specs.Nesting.Forest.{NoCalls, Call}
use Rattle.bz_gsym_layout.specs.Numbering.{call_texts, calls_of, row_texts, texts_of}
use Rattle.bz_gsym_layout.specs.Plan.{Called, Line, Source}
use Rattle.bz_convert.proofs.CallLemmas.{are_sound, is_table}
use Rattle.bz_convert.proofs.DistinctLemmas.{any_some, from_distinct, to_distinct}
use Rattle.bz_gsym_layout.proofs.MemberLemmas.{any_in, filter_to, in_append, in_left, in_right, filter_from}
use Rattle.bz_convert.proofs.FaultLemmas.{IsNested}
use Rattle.bz_convert.proofs.MemberLemmas.{from_table, to_table}
use Rattle.bz_convert.proofs.SoundLemmas.{calls_among, listed}

-- Tests of lists.
or_nothing : (b : Bool) → (b || false) ≡ b
or_nothing true = refl
or_nothing false = refl

or_more : (a b c : Bool) → ((a || b) || c) ≡ (a || (b || c))
or_more true b c = refl
or_more false b c = refl

module _ {X : Type 0} (test : X → Bool) where
  any_append : (xs ys : List X) → list_any test (xs ++ ys) ≡ (list_any test xs || list_any test ys)
  any_append [] ys = refl
  any_append (x ∷ xs) ys = ap (λ b. test x || b) (any_append xs ys) ∙ sym (or_more (test x) (list_any test xs) (list_any test ys))

  any_flat : {Y : Type 0} (f : Y → List X) (ys : List Y) → list_any test (flat_map f ys) ≡ list_any (λ y. list_any test (f y)) ys
  any_flat f [] = refl
  any_flat f (y ∷ ys) = any_append (f y) (flat_map f ys) ∙ ap (λ b. list_any test (f y) || b) (any_flat f ys)

  any_map : {Y : Type 0} (f : Y → X) (ys : List Y) → list_any test (map f ys) ≡ list_any (λ y. test (f y)) ys
  any_map f [] = refl
  any_map f (y ∷ ys) = ap (λ b. test (f y) || b) (any_map f ys)

  any_alike : (other : X → Bool) → ((x : X) → test x ≡ other x) → (xs : List X) → list_any test xs ≡ list_any other xs
  any_alike other same [] = refl
  any_alike other same (x ∷ xs) = ap (λ b. b || list_any test xs) (same x) ∙ ap (λ b. other x || b) (any_alike other same xs)

-- Calls of trees.
in_front : {X : Type 0} (y : X) (xs : List X) (x : X) → In xs x → In (y ∷ xs) x
in_front y xs x (i, at) = (suc i, at)

pub calls_seen : {X Y : Type 0} (view : X → Y) (calls : Forest X) → calls_of (map_forest view calls) ≡ map view (calls_of calls)
calls_seen view NoCalls = refl
calls_seen view (Call x within after) =
    ap (λ l. view x ∷ l)
    (ap (λ l. l ++ calls_of (map_forest view after)) (calls_seen view within) ∙ ap (λ l. map view (calls_of within) ++ l) (calls_seen view after) ∙ sym (map-two (calls_of within) (calls_of after))) where
      map-two : (xs ys : List _) → map view (xs ++ ys) ≡ map view xs ++ map view ys
      map-two [] ys = refl
      map-two (z ∷ xs) ys = ap (λ l. view z ∷ l) (map-two xs ys)

module _ {X : Type 0} (start size : X → ℕ) (addr : ℕ) where
  around_in : (calls : Forest X) (x : X) → In (calls_in start size addr calls) x → In (calls_of calls) x
  around_in NoCalls x found = found
  around_in (Call y within after) x found = by (inside (start y) (size y) addr) found (around_in within x) (around_in after x) where
    by : (b : Bool) → In (cond b (y ∷ calls_in start size addr within) [] ++ calls_in start size addr after) x →
        (In (calls_in start size addr within) x → In (calls_of within) x) → (In (calls_in start size addr after) x → In (calls_of after) x) →
        In (y ∷ (calls_of within ++ calls_of after)) x
    by false found inner later = in_front y (calls_of within ++ calls_of after) x (in_right (calls_of within) (calls_of after) x (later found))
    by true (zero, at) inner later = (0, at)
    by true (suc i, at) inner later = elim (in_append (calls_in start size addr within) (calls_in start size addr after) x (i, at)) [
      | inl own ↦ in_front y (calls_of within ++ calls_of after) x (in_left (calls_of within) (calls_of after) x (inner own))
      | inr other ↦ in_front y (calls_of within ++ calls_of after) x (in_right (calls_of within) (calls_of after) x (later other))
    ]

nested_in : {X : Type 0} (depth : X → ℕ) (at : ℕ) (xs : List X) (x : X) → In (calls_of (nested depth at xs)) x → In xs x
nested_in depth at [] x found = found
nested_in depth at (y ∷ xs) x found = by (nat_lt (depth y) at) (depth y == at) found (nested_in depth (at + 1) xs x) (nested_in depth at xs x) where
  by : (b d : Bool) → In (calls_of (cond b NoCalls (cond d (Call y (nested depth (at + 1) xs) (nested depth at xs)) (nested depth at xs)))) x →
      (In (calls_of (nested depth (at + 1) xs)) x → In xs x) → (In (calls_of (nested depth at xs)) x → In xs x) → In (y ∷ xs) x
  by true d (i, there) inner later = absurd (none-some x there)
  by false false found inner later = in_front y xs x (later found)
  by false true (zero, there) inner later = (0, there)
  by false true (suc i, there) inner later = elim (in_append (calls_of (nested depth (at + 1) xs)) (calls_of (nested depth at xs)) x (i, there)) [
    | inl own ↦ in_front y xs x (inner own)
    | inr other ↦ in_front y xs x (later other)
  ]

module _ (f : Function) (is_nested : IsNested f) (checked : is_checked f ≡ true) where
  abbrev tree : Forest Inlinee
  tree = nested (λ (i : Inlinee). i.depth) 0 (sized_calls f)

  -- the calls of the tree are those that have a size
  from_tree : (x : Inlinee) → In (calls_of tree) x → In (calls_in_order f) x × (has_size x ≡ true)
  from_tree x found =
      let sized = nested_in (λ (i : Inlinee). i.depth) 0 (sized_calls f) x found in
      let among = from_table (λ (i : Inlinee). i.start) (λ i. i.depth) (filter has_size (distinct_calls f.inlinees)) (sized_calls f) (is_table f is_nested checked) x sized in
      let own = filter_from has_size (distinct_calls f.inlinees) among.0 x among.1 in
      let there = from_distinct f.inlinees x own.0 in
      (to_table (λ (i : Inlinee). i.depth) (λ i. i.start) f.inlinees (calls_in_order f) (sorted_table (λ i. i.depth) (λ i. i.start) f.inlinees) x there, own.1)

  to_tree : (x : Inlinee) → In (calls_in_order f) x → has_size x ≡ true → In (calls_of tree) x
  to_tree x found sized =
      let there = from_table (λ (i : Inlinee). i.depth) (λ i. i.start) f.inlinees (calls_in_order f) (sorted_table (λ i. i.depth) (λ i. i.start) f.inlinees) x found in
      let kept = to_distinct f.inlinees x there in
      let some = ltb-true 0 x.size sized in
      let sound = are_sound f is_nested checked in
      let is = is_table f is_nested checked in
      let fits = sound.fits x kept some in
      let holds : inside x.start x.size x.start ≡ true = rw (le-leb (x.start + x.size) last_address fits, le-leb x.start x.start (omega arith), lt-ltb x.start (x.start + x.size) (omega arith)) refl in
      let at = listed (λ (i : Inlinee). i.depth) (λ i. i.start) (λ i. i.size) (distinct_calls f.inlinees) (sized_calls f) sound is x kept some in
      let among = filter_to (λ (i : Inlinee). inside i.start i.size x.start) (sized_calls f) at.0 x at.1 holds in
      let all = calls_among (λ (i : Inlinee). i.depth) (λ i. i.start) (λ i. i.size) (distinct_calls f.inlinees) (sized_calls f) sound is x.start in
      around_in (λ (i : Inlinee). i.start) (λ i. i.size) x.start tree x (subst (λ l. In l x) (sym all) among)

  any_of_tree : (test : Inlinee → Bool) → list_any test (calls_of tree) ≡ list_any (sized_with test) (calls_in_order f)
  any_of_tree test = by (list_any test (calls_of tree)) refl (list_any (sized_with test) (calls_in_order f)) refl where
    by : (a : Bool) → list_any test (calls_of tree) ≡ a → (b : Bool) → list_any (sized_with test) (calls_in_order f) ≡ b → a ≡ b
    by true is true also = refl
    by false is false also = refl
    by true is false also =
        let found = any_some test (calls_of tree) is in
        let own = from_tree found.0 found.1 in
        absurd (true≢false (sym (any_in (sized_with test) (calls_in_order f) found.0 own.0 (rw (own.1, found.2) refl)) ∙ also))
    by false is true also =
        let found = any_some (sized_with test) (calls_in_order f) also in
        let parts = and_parts (has_size found.0) (test found.0) found.2 in
        absurd (true≢false (sym (any_in test (calls_of tree) found.0 (to_tree found.0 found.1 parts.0) parts.1) ∙ is))

-- The texts.
source_zero : (s : Source) → list_any has_zero (s.dir ∷ s.file ∷ []) ≡ source_has_zero s
source_zero s = ap (λ b. has_zero s.dir || b) (or_nothing (has_zero s.file))

module _ (table : Table) where
  row_zero : (row : ℕ × SourceLine) → list_any has_zero (row_texts (row_in table row)) ≡ row_has_zero table row
  row_zero row = source_zero (line_of table row.1).source

  call_zero : (i : Inlinee) → list_any has_zero (call_texts (called table i)) ≡ call_has_zero table i
  call_zero i = ap (λ b. has_zero (called table i).name || b) (source_zero (called table i).at.source)

  rows_zero : (rows : List (ℕ × SourceLine)) → list_any has_zero (flat_map row_texts (map (row_in table) rows)) ≡ list_any (row_has_zero table) rows
  rows_zero rows =
      any_flat has_zero row_texts (map (row_in table) rows)
      ∙ any_map (λ (row : ℕ × Line). list_any has_zero (row_texts row)) (row_in table) rows
      ∙ any_alike (λ (row : ℕ × SourceLine). list_any has_zero (row_texts (row_in table row))) (row_has_zero table) row_zero rows

  calls_zero : (calls : Forest Inlinee) → list_any has_zero (flat_map call_texts (calls_of (map_forest (called table) calls))) ≡ list_any (call_has_zero table) (calls_of calls)
  calls_zero calls =
      ap (λ l. list_any has_zero (flat_map call_texts l)) (calls_seen (called table) calls)
      ∙ any_flat has_zero call_texts (map (called table) (calls_of calls))
      ∙ any_map (λ (c : Called). list_any has_zero (call_texts c)) (called table) (calls_of calls)
      ∙ any_alike (λ (i : Inlinee). list_any has_zero (call_texts (called table i))) (call_has_zero table) call_zero (calls_of calls)

  -- calls count where there are rows
  abbrev pub calls_where : List (ℕ × SourceLine) → Function → Bool
  calls_where [] f = false
  calls_where (row ∷ rows) f = list_any (sized_with (call_has_zero table)) (calls_in_order f)

  pub texts_zero : (f : Function) → IsNested f → is_checked f ≡ true →
      list_any has_zero (texts_of (code_of table f)) ≡ (has_zero f.name || (list_any (row_has_zero table) (changes f) || calls_where (changes f) f))
  texts_zero f is_nested checked =
      ap (λ b. has_zero f.name || b)
      (any_append has_zero (flat_map row_texts (code_of table f).rows) (flat_map call_texts (calls_of (code_of table f).calls))
      ∙ ap (λ b. b || list_any has_zero (flat_map call_texts (calls_of (code_of table f).calls))) (rows_zero (changes f))
      ∙ ap (λ b. list_any (row_has_zero table) (changes f) || b) (calls_zero (nested (λ (i : Inlinee). i.depth) 0 (laid_calls f)) ∙ by (changes f))) where
        by : (rows : List (ℕ × SourceLine)) → list_any (call_has_zero table) (calls_of (nested (λ (i : Inlinee). i.depth) 0 (calls_beside rows (sized_calls f)))) ≡ calls_where rows f
        by [] = refl
        by (row ∷ rows) = any_of_tree f is_nested checked (call_has_zero table)

  -- where a function isn't checked its name alone is laid out
  pub name_zero : (f : Function) → is_checked f ≡ false → list_any has_zero (texts_of (code_of table f)) ≡ has_zero f.name
  name_zero f fails = rw fails (or_nothing (has_zero f.name))
