-- A plan answers as the Breakpad file that it is of.
use Rattle.std.proofs.Common.{◌≡◌, ℕ, ◌+◌, ◌^◌, ◌<◌, ◌≤◌, ◌&&◌, Bool, true, false, cond, nat_lt, map, List, [], ◌∷◌, ◌++◌, option_map, option_and_then, Option, Some, None, refl, sym, ap, subst, ◌∙◌, arith}
use Rattle.std.specs.Prelude.{◌==◌, Ok, Err, is_none, unwrap_or}
use Rattle.std.specs.List.{AllByRecursion, filter}
use Rattle.std.proofs.lemmas.Bool.{and_parts, eqb-true, le-leb, ne_eqb, true≢false}
use Rattle.std.proofs.lemmas.Bool.Decides.{nat_tests}
use Rattle.std.proofs.lemmas.List.{map-append}
use Rattle.std.proofs.lemmas.Option.{none-some, same_Some}
use Rattle.bz_base.specs.Answer.{Call as Inner, Site}
use Rattle.bz_base.specs.Bind.{◌>>=◌}
use Rattle.bz_base.specs.Nearest.{IsTable, candidate, if_covers, nearest_covering}
use Rattle.bz_base.specs.Path.{begins_with_slash, path_text, split}
use Rattle.bz_base.specs.Span.{covers, inside, last_address}
use Rattle.bz_base.specs.declared.types.FindSymOpts.TheVariants as asked
use Rattle.bz_base.specs.declared.types.Reason.TheVariants as reasons
use Rattle.bz_search.proofs.NearestLemmas.{candidate_is}
use Rattle.bz_breakpad_lines.specs.Names.{name_for}
use Rattle.bz_breakpad.specs.Plain as breakpad
use Rattle.bz_breakpad.specs.Plain.{by_function, by_location, by_records, function_at}
use Rattle.bz_breakpad_function.specs.InOrder.{ordered_functions}
use Rattle.bz_breakpad_function.specs.Locations.{by_line, by_seen, calls_around, line_at, location_at, seen_from, seen_outside, site_in}
use Rattle.bz_breakpad_lines.specs.Table.{SourceLine, Inlinee, Function, PublicSymbol, Table}
use Rattle.bz_convert.specs.Alike.{AnswersAlike, IsAlike, KnowAlike, joined, joined_call}
use Rattle.bz_gsym_layout.specs.Members.{In}
use Rattle.bz_convert.specs.Fault.{fault_in}
use Rattle.bz_gsym_layout.specs.Nesting.{Forest, calls_in, map_forest, nested}
use Rattle.bz_gsym_layout.specs.Nesting.Forest.{NoCalls, Call}
use Rattle.bz_convert.specs.Plan.{called, calls_beside, changes, code_of, distinct_calls, has_size, is_checked, laid_calls, line_of, located, origin_named, plan, same_line, sized_calls, source_by}
use Rattle.bz_gsym_layout.specs.Plan.{Called, Code, Line, no_source}
use Rattle.bz_gsym_layout.specs.Planned.{by_code, location, planned, seen, site_of, symbol_at, symbol_by}
use Rattle.bz_convert.specs.Rows.{rows_from}
use Rattle.bz_gsym_layout.specs.Rows.{row_at}
use Rattle.bz_convert.proofs.BoundsLemmas.{AreBounded}
use Rattle.bz_convert.proofs.CallLemmas.{is_table, tree_around}
use Rattle.bz_convert.proofs.FaultLemmas.{IsClean, all_clean, functions_differ}
use Rattle.bz_convert.proofs.DistinctLemmas.{from_distinct}
use Rattle.bz_gsym_layout.proofs.MemberLemmas.{all_append, all_members, filter_from}
use Rattle.bz_convert.proofs.MemberLemmas.{from_table, to_table}
use Rattle.bz_search.proofs.SortingLaws.{sorted_table}
use Rattle.bz_convert.proofs.RowLemmas.{row_answers}
use Rattle.bz_convert.proofs.StartLemmas.{candidate_alike, candidate_in_table}
use Rattle.bz_gsym_layout.proofs.CandidateLemmas.{candidate_seen}

-- What is seen through a view.
row_seen : {L M : Type 0} (view : L → M) (addr : ℕ) (last : Option (ℕ × L)) (rows : List (ℕ × L)) →
    row_at addr (option_map (λ (r : ℕ × L). (r.0, view r.1)) last) (map (λ (r : ℕ × L). (r.0, view r.1)) rows) ≡ option_map (λ (r : ℕ × L). (r.0, view r.1)) (row_at addr last rows)
row_seen view addr last [] = refl
row_seen {L} {M} view addr last (row ∷ rows) = by (nat_lt addr row.0) (row_seen view addr (Some row) rows) where
  by : (b : Bool) → row_at addr (Some (row.0, view row.1)) (map (λ (r : ℕ × L). (r.0, view r.1)) rows) ≡ option_map (λ (r : ℕ × L). (r.0, view r.1)) (row_at addr (Some row) rows) →
      cond b (option_map (λ (r : ℕ × L). (r.0, view r.1)) last) (row_at addr (Some (row.0, view row.1)) (map (λ (r : ℕ × L). (r.0, view r.1)) rows))
      ≡ option_map (λ (r : ℕ × L). (r.0, view r.1)) (cond b last (row_at addr (Some row) rows))
  by true next = refl
  by false next = next

module _ {X Y : Type 0} (view : X → Y) (start size : Y → ℕ) (addr : ℕ) where
  calls_seen : (calls : Forest X) → calls_in start size addr (map_forest view calls) ≡ map view (calls_in (λ x. start (view x)) (λ x. size (view x)) addr calls)
  calls_seen NoCalls = refl
  calls_seen (Call x within after) = rw (calls_seen within, calls_seen after) (by (inside (start (view x)) (size (view x)) addr)) where
    by : (b : Bool) → cond b (view x ∷ map view (calls_in (λ x. start (view x)) (λ x. size (view x)) addr within)) [] ++ map view (calls_in (λ x. start (view x)) (λ x. size (view x)) addr after)
        ≡ map view (cond b (x ∷ calls_in (λ x. start (view x)) (λ x. size (view x)) addr within) [] ++ calls_in (λ x. start (view x)) (λ x. size (view x)) addr after)
    by true = ap (λ l. view x ∷ l) (sym (map-append view _ _))
    by false = refl

-- what holds of each call of a tree
abbrev AllCalls : {X : Type 0} → (X → Type 0) → Forest X → Type 0
AllCalls P NoCalls = Unit {0}
AllCalls P (Call x within after) = P x × AllCalls P within × AllCalls P after

module _ {X : Type 0} (start size : X → ℕ) (P : X → Type 0) (addr : ℕ) where
  all_by : (b : Bool) (x : X) (within after : List X) → P x → AllByRecursion P within → AllByRecursion P after → AllByRecursion P (cond b (x ∷ within) [] ++ after)
  all_by true x within after own inner later = (own, all_append P within after inner later)
  all_by false x within after own inner later = later

  all_in : (calls : Forest X) → AllCalls P calls → AllByRecursion P (calls_in start size addr calls)
  all_in NoCalls all = tt
  all_in (Call x within after) all =
      all_by (inside (start x) (size x) addr) x (calls_in start size addr within) (calls_in start size addr after) all.0 (all_in within all.1) (all_in after all.2)

-- what holds of the calls of a list holds of those of its tree
all_nested : {X : Type 0} (P : X → Type 0) (depth : X → ℕ) (at : ℕ) (xs : List X) → AllByRecursion P xs → AllCalls P (nested depth at xs)
all_nested P depth at [] all = tt
all_nested P depth at (x ∷ xs) all =
    by (nat_lt (depth x) at) (depth x == at) (all_nested P depth (at + 1) xs all.1) (all_nested P depth at xs all.1) where
      by : (b d : Bool) → AllCalls P (nested depth (at + 1) xs) → AllCalls P (nested depth at xs) →
          AllCalls P (cond b NoCalls (cond d (Call x (nested depth (at + 1) xs) (nested depth at xs)) (nested depth at xs)))
      by true d within after = tt
      by false true within after = (all.0, within, after)
      by false false within after = after

-- Places.
path_alike : (dir : Option (List ℕ)) (file : List ℕ) → path_text (Some (unwrap_or dir [])) file ≡ path_text dir file
path_alike None file = by (begins_with_slash file) where
  by : (b : Bool) → cond b file file ≡ file
  by true = refl
  by false = refl
path_alike (Some dir) file = refl

-- a place that is known, of a line record or a call
record Site_alike (o : Option (Option (List ℕ) × List ℕ)) (line : ℕ) : Type 0 where
  site : Site
  known : option_map (λ (cut : Option (List ℕ) × List ℕ). record { dir = cut.0; file = cut.1; line = Some line; column = None }) o ≡ Some site
  alike : joined (site_of (record { source = unwrap_or (option_map source_by o) no_source; line = line })) ≡ joined site

site_alike : (o : Option (Option (List ℕ) × List ℕ)) (line : ℕ) → is_none (option_map source_by o) ≡ false → Site_alike o line
site_alike None line none = absurd (true≢false none)
site_alike (Some cut) line some = record {
  site = record { dir = cut.0; file = cut.1; line = Some line; column = None };
  known = refl;
  alike = ap (λ (path : List ℕ). (path, Some line)) (path_alike cut.0 cut.1);
}

some_is : {A : Type 0} (o : Option A) → is_none o ≡ false → (a : A) × (o ≡ Some a)
some_is None none = absurd (true≢false none)
some_is (Some a) some = (a, refl)

-- the record that covers an address is one of the records
pub covering_among : {X : Type 0} (start size : X → ℕ) (addr : ℕ) (records : List X) (x : X) → nearest_covering start size addr records ≡ Some x → In records x
covering_among {X} start size addr records x is = by (candidate start size addr records) refl is where
  passed : (y : X) → In records y → (b : Bool) → cond b (Some y) None ≡ Some x → In records x
  passed y there true same = subst (In records) (same_Some y x same) there
  passed y there false none = absurd (none-some x none)

  by : (o : Option X) → candidate start size addr records ≡ o → option_and_then (if_covers start size addr) o ≡ Some x → In records x
  by None found none = absurd (none-some x none)
  by (Some y) found is = let at = candidate_is start size addr records y found in passed y (at.0, at.1.there) (covers (start y) (size y) addr) is

module _ (table : Table) where
  -- a line inside calls is seen alike
  record SeenAlike (calls : List Inlinee) (l : SourceLine) : Type 0 where
    found : Site × List Inner
    known : seen_from table calls l ≡ Some found
    place : joined (seen (line_of table l) (map (called table) calls)).0 ≡ joined found.0
    others : map joined_call (seen (line_of table l) (map (called table) calls)).1 ≡ map joined_call found.1

  -- a call whose file and name are known
  abbrev IsKnown : Inlinee → Type 0
  IsKnown x = (is_none (located table x.call_file) ≡ false) × (is_none (name_for x.origin table.origins) ≡ false)

  outside_known : (c : Inlinee) (inner : Site × List Inner) (name : List ℕ) (site : Site) → name_for c.origin table.origins ≡ Some name → site_in table c.call_file c.call_line ≡ Some site →
      seen_outside table c inner ≡ Some (site, record { name = name; site = Some inner.0 } ∷ inner.1)
  outside_known c inner name site named at = rw (named, at) refl

  seen_alike : (calls : List Inlinee) (l : SourceLine) → AllByRecursion IsKnown calls → is_none (located table l.file) ≡ false → SeenAlike calls l
  seen_alike [] l known here =
      let at = site_alike (name_for l.file table.files >>= split) l.line here in
      record { found = (at.site, []); known = ap (option_map (λ (site : Site). (site, []))) at.known; place = at.alike; others = refl }
  seen_alike (c ∷ calls) l known here =
      let next = seen_alike calls l known.1 here in
      let at = site_alike (name_for c.call_file table.files >>= split) c.call_line known.0.0 in
      let name = some_is (name_for c.origin table.origins) known.0.1 in
      let called_name : origin_named table c.origin ≡ name.0 = ap (λ (o : Option (List ℕ)). unwrap_or o []) name.1 in
      record {
        found = (at.site, record { name = name.0; site = Some next.found.0 } ∷ next.found.1);
        known = ap (option_and_then (seen_outside table c)) next.known ∙ outside_known c next.found name.0 at.site name.1 at.known;
        place = at.alike;
        others =
            ap (λ (n : List ℕ). (n, Some (joined (seen (line_of table l) (map (called table) calls)).0)) ∷ map joined_call (seen (line_of table l) (map (called table) calls)).1) called_name
            ∙ ap (λ j. (name.0, Some j) ∷ map joined_call (seen (line_of table l) (map (called table) calls)).1) next.place
            ∙ ap (λ js. (name.0, Some (joined next.found.0)) ∷ js) next.others;
      }

  -- a function without a fault, at an address inside it
  module _ (f : Function) (clean : IsClean table f) (checked : is_checked f ≡ true) (short : (x : Inlinee) → In f.inlinees x → x.depth < 2 ^ 32)
      (addr : ℕ) (low : f.start ≤ addr) (high : addr < f.start + f.size) where
    same_is : (a b : SourceLine) → same_line a b ≡ true → a ≡ b
    same_is a b is =
        let two = and_parts (a.start == b.start && a.size == b.size) (a.line == b.line && a.file == b.file) is in
        let first = and_parts (a.start == b.start) (a.size == b.size) two.0 in
        let second = and_parts (a.line == b.line) (a.file == b.file) two.1 in
        ap (λ (n : ℕ). record { start = n; size = a.size; line = a.line; file = a.file }) (eqb-true a.start b.start first.0)
        ∙ ap (λ (n : ℕ). record { start = b.start; size = n; line = a.line; file = a.file }) (eqb-true a.size b.size first.1)
        ∙ ap (λ (n : ℕ). record { start = b.start; size = b.size; line = n; file = a.file }) (eqb-true a.line b.line second.0)
        ∙ ap (λ (n : ℕ). record { start = b.start; size = b.size; line = b.line; file = n }) (eqb-true a.file b.file second.1)

    abbrev row : Option (ℕ × SourceLine)
    row = row_at addr None (changes f)

    -- the row has the line record that answers
    row_is : option_map (λ (r : ℕ × SourceLine). r.1) row ≡ line_at addr f.lines
    row_is =
        ap (λ rows. option_map (λ (r : ℕ × SourceLine). r.1) (row_at addr None rows)) changes_are
        ∙ row_answers same_line (λ a. line_at a f.lines) same_is f.size f.start addr None None refl (clean.gap checked) low high where
          changes_are : changes f ≡ rows_from same_line (λ a. line_at a f.lines) None f.start f.size
          changes_are = rw checked refl

    abbrev code_calls : List Called
    code_calls = calls_in (λ (c : Called). c.start) (λ c. c.size) addr (code_of table f).calls

    calls_are : (r : ℕ × SourceLine) (rows : List (ℕ × SourceLine)) → row_at addr None rows ≡ Some r → rows ≡ changes f → code_calls ≡ map (called table) (calls_around addr f.inlinees)
    calls_are r [] is same = absurd (none-some r is)
    calls_are r (first ∷ rows) is same =
        calls_seen (called table) (λ (c : Called). c.start) (λ c. c.size) addr (nested (λ (i : Inlinee). i.depth) 0 (laid_calls f))
        ∙ ap (λ rs. map (called table) (calls_in (λ (i : Inlinee). i.start) (λ i. i.size) addr (nested (λ (i : Inlinee). i.depth) 0 (calls_beside rs (sized_calls f))))) (sym same)
        ∙ ap (map (called table)) (tree_around f (clean.nested checked) checked addr short)

    -- the calls around the address are known
    all_known : AllByRecursion IsKnown (calls_around addr f.inlinees)
    all_known =
        let each : AllByRecursion IsKnown (sized_calls f) = all_members IsKnown (sized_calls f) (λ x there.
        let among = from_table (λ (i : Inlinee). i.start) (λ i. i.depth) (filter has_size (distinct_calls f.inlinees)) (sized_calls f) (is_table f (clean.nested checked) checked) x there in
        let found = filter_from has_size (distinct_calls f.inlinees) among.0 x among.1 in
        let own = from_distinct f.inlinees x found.0 in
        (clean.call_files checked x own found.1, clean.origins checked x own found.1)) in
        subst (AllByRecursion IsKnown) (tree_around f (clean.nested checked) checked addr short)
        (all_in (λ (i : Inlinee). i.start) (λ i. i.size) IsKnown addr (nested (λ (i : Inlinee). i.depth) 0 (sized_calls f)) (all_nested IsKnown (λ (i : Inlinee). i.depth) 0 (sized_calls f) each))

    abbrev code_row : Option (ℕ × Line)
    code_row = row_at addr None (code_of table f).rows

    code_row_is : code_row ≡ option_map (λ (r : ℕ × SourceLine). (r.0, line_of table r.1)) row
    code_row_is = row_seen (line_of table) addr None (changes f)

    -- the function answers alike
    by_row : (r : Option (ℕ × SourceLine)) → row ≡ r → (o : Option SourceLine) → line_at addr f.lines ≡ o → option_map (λ (x : ℕ × SourceLine). x.1) r ≡ o →
        KnowAlike (by_location table f addr (by_line table asked.CodeInfoAndInlined f addr o)) (Ok (Ok (symbol_by (code_of table f) (location (option_map (λ (x : ℕ × SourceLine). (x.0, line_of table x.1)) r) code_calls))))
    by_row None is None at same = record { name = refl; addr = refl; size = refl; «module» = refl; site = refl; calls = refl }
    by_row None is (Some l) at same = absurd (none-some l same)
    by_row (Some x) is None at same = absurd (none-some x.1 (sym same))
    by_row (Some x) is (Some l) at same =
        let e : x.1 ≡ l = same_Some x.1 l same in
        let around = calls_around addr f.inlinees in
        let there : In f.lines l = covering_among (λ (r : SourceLine). r.start) (λ r. r.size) addr f.lines l at in
        let alike = seen_alike around l all_known (clean.files checked l there) in
        let here : IsAlike (breakpad.symbol_at table f addr (record { site = Some alike.found.0; calls = alike.found.1 })) (symbol_by (code_of table f) (Some (seen (line_of table l) (map (called table) around)))) =
        record { name = refl; addr = refl; size = refl; «module» = refl; site = ap Some alike.place; calls = alike.others } in
        let P : Option (Site × List Inner) → SourceLine → List Called → Type 0 =
        λ o m cs. KnowAlike (by_location table f addr (by_seen o)) (Ok (Ok (symbol_by (code_of table f) (Some (seen (line_of table m) cs))))) in
        subst (λ o. P o x.1 code_calls) (sym alike.known)
        (subst (λ m. P (Some alike.found) m code_calls) (sym e)
        (subst (λ cs. P (Some alike.found) l cs) (sym (calls_are x (changes f) is refl)) here))

    pub code_alike : KnowAlike (by_location table f addr (location_at table asked.CodeInfoAndInlined f addr)) (Ok (Ok (symbol_at addr (code_of table f))))
    code_alike =
        subst (λ r. KnowAlike (by_location table f addr (location_at table asked.CodeInfoAndInlined f addr)) (Ok (Ok (symbol_by (code_of table f) (location r code_calls))))) (sym code_row_is)
        (by_row row refl (line_at addr f.lines) refl row_is)

  -- the whole file
  module _ (none : fault_in table ≡ None)
      (good : AreBounded table) (addr : ℕ) where
    abbrev start_of : Function → ℕ
    start_of f = f.start

    abbrev size_of : Function → ℕ
    size_of f = f.size

    is_in_order : IsTable start_of size_of table.functions (ordered_functions table.functions)
    is_in_order = sorted_table start_of size_of table.functions

    -- the plan tries the function that the file tries
    tried_is : candidate (λ (c : Code). c.start) (λ c. 0) addr (plan table) ≡ option_map (code_of table) (candidate start_of size_of addr table.functions)
    tried_is =
        let differ = functions_differ table none in
        candidate_seen (λ (c : Code). c.start) (λ c. 0) (code_of table) addr (ordered_functions table.functions)
        ∙ ap (option_map (code_of table)) (candidate_alike start_of (λ f. 0) size_of addr (ordered_functions table.functions) differ
        ∙ candidate_in_table start_of size_of table.functions (ordered_functions table.functions) is_in_order differ addr)

    -- a function that is tried
    module _ (f : Function) (there : In table.functions f) (low : f.start ≤ addr) where
      clean : IsClean table f
      clean = all_clean table (ordered_functions table.functions) None none f (to_table start_of size_of table.functions (ordered_functions table.functions) is_in_order f there)

      covers_is : covers f.start f.size addr ≡ inside f.start f.size addr
      covers_is = rw (ne_eqb f.size 0 clean.size) refl

      parts : inside f.start f.size addr ≡ true → (addr < f.start + f.size) × (f.start + f.size ≤ last_address)
      parts is = (grind (arith, nat_tests), grind (arith, nat_tests))

      checked : inside f.start f.size addr ≡ true → is_checked f ≡ true
      checked is = rw (ne_eqb f.size 0 clean.size, le-leb (f.start + f.size) last_address (parts is).1) refl

      by_inside : (b : Bool) → inside f.start f.size addr ≡ b →
          AnswersAlike (cond b (Some f) None) (by_function table asked.CodeInfoAndInlined addr (cond b (Some f) None)) (cond b (Ok (Ok (symbol_at addr (code_of table f)))) (Ok (Err reasons.UnknownAddr)))
      by_inside true is =
          code_alike f clean (checked is) (λ x among. (good.functions f there).depths x among) addr low (parts is).0
      by_inside false is = refl

      pub tried_alike : AnswersAlike (if_covers start_of size_of addr f) (by_function table asked.CodeInfoAndInlined addr (if_covers start_of size_of addr f)) (by_code addr (Some (code_of table f)))
      tried_alike =
          subst (λ b. AnswersAlike (cond b (Some f) None) (by_function table asked.CodeInfoAndInlined addr (cond b (Some f) None)) (by_code addr (Some (code_of table f)))) (sym covers_is)
          (by_inside (inside f.start f.size addr) refl)

    by_candidate : (o : Option Function) → candidate start_of size_of addr table.functions ≡ o →
        AnswersAlike (option_and_then (if_covers start_of size_of addr) o) (by_function table asked.CodeInfoAndInlined addr (option_and_then (if_covers start_of size_of addr) o)) (by_code addr (option_map (code_of table) o))
    by_candidate None found = refl
    by_candidate (Some f) found = let at = candidate_is start_of size_of addr table.functions f found in tried_alike f (at.0, at.1.there) at.1.not_above

    by_list : (fs : List Function) (publics : List PublicSymbol) → fs ≡ table.functions →
        AnswersAlike (function_at addr fs) (by_records table asked.CodeInfoAndInlined addr fs publics) (by_code addr (option_map (code_of table) (candidate start_of size_of addr fs)))
    by_list [] [] same = refl
    by_list [] (p ∷ publics) same = refl
    by_list (f ∷ fs) publics same =
        by_candidate (candidate start_of size_of addr (f ∷ fs)) (ap (candidate start_of size_of addr) (sym same))

    -- the plan answers as the file
    pub plan_answers : AnswersAlike (function_at addr table.functions) (breakpad.plain table asked.CodeInfoAndInlined addr) (planned (plan table) addr)
    plan_answers =
        subst (λ o. AnswersAlike (function_at addr table.functions) (breakpad.plain table asked.CodeInfoAndInlined addr) (by_code addr o)) (sym tried_is) (by_list table.functions table.publics refl)
