-- What is read of a laid out plan at an address is what the plan answers.
use Rattle.std.proofs.Common.{◌≡◌, ℕ, ◌+◌, ◌-◌, ◌^◌, ◌<◌, ◌≤◌, Bool, true, false, cond, map, option_map, List, [], ◌∷◌, ◌++◌, length, Option, Some, None, IfSome, refl, sym, ap, subst, ◌∙◌, arith}
use Rattle.std.specs.Prelude.{◌&&◌, Ok, Err, is_none, nat_lt}
use Rattle.std.specs.List.{AllByRecursion}
use Rattle.std.proofs.lemmas.Bool.{le-ltb, ne_eqb}
use Rattle.std.proofs.lemmas.Bool.Decides.{nat_tests}
use Rattle.bz_base.specs.Answer.{Call as InnerCall, Site}
use Rattle.bz_base.specs.Bind.{◌>>=◌}
use Rattle.bz_base.specs.Nearest.{candidate}
use Rattle.bz_base.specs.Span.{inside, last_address}
use Rattle.bz_base.specs.declared.types.FindSymOpts.TheVariants as asked
use Rattle.bz_base.specs.declared.types.Reason.TheVariants as reasons
use Rattle.bz_gsym.specs.Entries.{Info, entries_in, entry_head_len, info_at, inline_tree, line_table}
use Rattle.bz_gsym.specs.Header.{header_of}
use Rattle.bz_gsym.specs.InlineTree.{Frame}
use Rattle.bz_gsym.specs.Joining.{Location, Facts, no_facts, location_by, seen_from, site_in, facts_after, facts_of, facts_with}
use Rattle.bz_gsym.specs.Plain as gsym
use Rattle.bz_gsym.specs.Plain.{based, nearest_start, nearest_symbol, location_of, plain, symbols, tried}
use Rattle.bz_gsym.specs.Strings.{string_at}
use Rattle.bz_gsym.specs.Tables.{strings}
use Rattle.bz_gsym.specs.declared.linetab.LineTableRow.{LineTableRow}
use Rattle.bz_base.proofs.NearestLemmas.{candidate_is}
use Rattle.bz_gsym_layout.specs.Layout.{Tables, entry_bytes, inline_entry, line_entry, line_table_bytes, source_index, text_place, tree_bytes, zeros}
use Rattle.bz_gsym_layout.specs.Nesting.{Forest, calls_in}
use Rattle.bz_gsym_layout.specs.Nesting.Forest.{NoCalls, Call}
use Rattle.bz_gsym_layout.specs.Plan.{Called, Code, Line}
use Rattle.bz_gsym_layout.specs.Planned.{by_code, planned, seen, site_of, symbol_at}
use Rattle.bz_gsym_layout.specs.Planned as answers
use Rattle.bz_gsym_layout.specs.Rows.{row_at}
use Rattle.bz_gsym_layout.proofs.EntryLemmas.{entry_front, entries_end}
use Rattle.bz_gsym_layout.proofs.LineLemmas.{RowsFit, line_read, state_of, zero_header}
use Rattle.bz_gsym_layout.specs.Members.{In}
use Rattle.bz_gsym_layout.proofs.MemberLemmas.{all_append}
use Rattle.bz_gsym_layout.proofs.CandidateLemmas.{candidate_seen}
use Rattle.bz_gsym_layout.proofs.TreeLemmas.{RootFits, frame, root_frame, tree_read}

-- What holds of each call of a tree holds of those around an address.
abbrev pub AllCalls : {X : Type 0} → (X → Type 0) → Forest X → Type 0
AllCalls P NoCalls = Unit {0}
AllCalls P (Call x within after) = P x × AllCalls P within × AllCalls P after

module _ {X : Type 0} (start size : X → ℕ) (P : X → Type 0) (addr : ℕ) where
  all_by : (b : Bool) (x : X) (within after : List X) → P x → AllByRecursion P within → AllByRecursion P after → AllByRecursion P (cond b (x ∷ within) [] ++ after)
  all_by true x within after own inner later = (own, all_append P within after inner later)
  all_by false x within after own inner later = later

  pub all_in : (calls : Forest X) → AllCalls P calls → AllByRecursion P (calls_in start size addr calls)
  all_in NoCalls all = tt
  all_in (Call x within after) all =
      all_by (inside (start x) (size x) addr) x (calls_in start size addr within) (calls_in start size addr after) all.0 (all_in within all.1) (all_in after all.2)

-- What holds of each row holds of the last one that doesn't lie above an address.
row_among : {L : Type 0} (P : ℕ × L → Type 0) (addr : ℕ) (last : Option (ℕ × L)) (rows : List (ℕ × L)) → IfSome last P → AllByRecursion P rows → IfSome (row_at addr last rows) P
row_among P addr last [] own all = own
row_among P addr last (row ∷ rows) own all = by (nat_lt addr row.0) (row_among P addr (Some row) rows all.0 all.1) where
  by : (b : Bool) → IfSome (row_at addr (Some row) rows) P → IfSome (cond b last (row_at addr (Some row) rows)) P
  by true later = own
  by false later = later

-- a function's data, with what stands behind it
abbrev pub info_of : Tables → Code → List ℕ → Info
info_of t c after = record { size = c.size; name = text_place t c.name; rest = line_entry t c.start c.rows ++ (inline_entry t c c.calls ++ (zeros entry_head_len ++ after)) }

module _ (bytes : List ℕ) (t : Tables) where
  -- a line's source file is read
  abbrev pub LineReads : Line → Type 0
  LineReads at = site_in bytes (source_index t at.source) at.line ≡ Some (site_of at)

  -- a call's name and place are read
  abbrev pub CallReads : Called → Type 0
  CallReads c = (string_at (strings bytes) (text_place t c.name) ≡ Some c.name) × LineReads c.at

  abbrev pub RowReads : ℕ × Line → Type 0
  RowReads row = LineReads row.1

  seen_reads : (calls : List Called) (row : ℕ × Line) → AllByRecursion CallReads calls → RowReads row →
      seen_from bytes (state_of t zero_header row) (map (frame t) calls) ≡ Some (seen row.1 calls)
  seen_reads [] row reads here = ap (option_map (λ site. (site, []))) here
  seen_reads (c ∷ calls) row reads here = rw (seen_reads calls row reads.1 here, reads.0.0, reads.0.1) refl

  -- what is written of a function has a length of 32 bits
  abbrev pub ShortLines : ℕ → List (ℕ × Line) → Type 0
  ShortLines start [] = Unit {0}
  ShortLines start (row ∷ rows) = length (line_table_bytes t start (row ∷ rows)) < 2 ^ 32

  abbrev pub ShortTree : Code → Forest Called → Type 0
  ShortTree c NoCalls = Unit {0}
  ShortTree c (Call call within after) = length (tree_bytes t c) < 2 ^ 32

  -- a function's numbers and texts
  pub record CodeReads (c : Code) : Type 0 where
    pub root : RootFits t c
    pub rows : RowsFit t zero_header c.start c.rows
    pub short_lines : ShortLines c.start c.rows
    pub short_tree : ShortTree c c.calls
    pub name : string_at (strings bytes) (text_place t c.name) ≡ Some c.name
    pub row_sites : AllByRecursion RowReads c.rows
    pub call_sites : AllCalls CallReads c.calls

  module _ (c : Code) (reads : CodeReads c) (addr : ℕ) (low : c.start ≤ addr) (high : addr < c.start + c.size) where
    abbrev row : Option (ℕ × Line)
    row = row_at addr None c.rows

    abbrev calls : List Called
    calls = calls_in (λ call. call.start) (λ call. call.size) addr c.calls

    abbrev state : Option LineTableRow
    state = option_map (state_of t zero_header) row

    -- the frames: none without a tree
    abbrev frames_by : Forest Called → List Frame
    frames_by NoCalls = []
    frames_by (Call call within after) = root_frame t c reads.root ∷ map (frame t) calls

    and_false : (b : Bool) → (b && false) ≡ false
    and_false true = refl
    and_false false = refl

    tree_told : (row : Option LineTableRow) →
        facts_with asked.CodeInfoAndInlined c.start addr (record { row = row; frames = [] }) (record { typ = inline_tree; text = tree_bytes t c })
        ≡ Some (record { row = row; frames = root_frame t c reads.root ∷ map (frame t) calls })
    tree_told row = rw (and_false (is_none row), tree_read t c reads.root addr low high) refl

    lines_give_facts : facts_with asked.CodeInfoAndInlined c.start addr no_facts (record { typ = line_table; text = line_table_bytes t c.start c.rows })
        ≡ Some (record { row = state; frames = [] })
    lines_give_facts = rw (line_read t c.start addr c.rows reads.rows) refl

    abbrev line_facts : Facts
    line_facts = record { row = state; frames = [] }

    -- what the entries tell, one after another
    lines_front : (rest : List ℕ) (rows : List (ℕ × Line)) → rows ≡ c.rows →
        facts_after asked.CodeInfoAndInlined c.start addr no_facts (entries_in (line_entry t c.start rows ++ rest))
        ≡ facts_after asked.CodeInfoAndInlined c.start addr line_facts (entries_in rest)
    lines_front rest [] is =
        ap (λ (rows : List (ℕ × Line)). facts_after asked.CodeInfoAndInlined c.start addr (record { row = option_map (state_of t zero_header) (row_at addr None rows); frames = [] }) (entries_in rest)) is
    lines_front rest (r ∷ rows) is =
        let text : List ℕ = line_table_bytes t c.start c.rows in
        let short : length text < 2 ^ 32 = subst (λ rs. length (line_table_bytes t c.start rs) < 2 ^ 32) is (subst (ShortLines c.start) (sym is) reads.short_lines) in
        let same : line_entry t c.start (r ∷ rows) ≡ entry_bytes line_table text = ap (λ rs. entry_bytes line_table (line_table_bytes t c.start rs)) is in
        ap (λ l. facts_after asked.CodeInfoAndInlined c.start addr no_facts (entries_in (l ++ rest))) same
        ∙ ap (facts_after asked.CodeInfoAndInlined c.start addr no_facts) (entry_front line_table text rest (λ none. omega arith) (omega arith) short)
        ∙ ap (λ o. o >>= (λ more. facts_after asked.CodeInfoAndInlined c.start addr more (entries_in rest))) lines_give_facts

    tree_front : (row : Option LineTableRow) (after : List ℕ) (forest : Forest Called) → forest ≡ c.calls →
        facts_after asked.CodeInfoAndInlined c.start addr (record { row = row; frames = [] }) (entries_in (inline_entry t c forest ++ (zeros entry_head_len ++ after)))
        ≡ Some (record { row = row; frames = frames_by forest })
    tree_front row after NoCalls is = rw (entries_end after) refl
    tree_front row after (Call call within later) is =
        rw (entry_front inline_tree (tree_bytes t c) (zeros entry_head_len ++ after) (λ none. omega arith) (omega arith) (subst (ShortTree c) (sym is) reads.short_tree), entries_end after, tree_told row) refl

    facts_are : (after : List ℕ) →
        facts_of asked.CodeInfoAndInlined c.start addr (entries_in (line_entry t c.start c.rows ++ (inline_entry t c c.calls ++ (zeros entry_head_len ++ after))))
        ≡ Some (record { row = state; frames = frames_by c.calls })
    facts_are after = lines_front (inline_entry t c c.calls ++ (zeros entry_head_len ++ after)) c.rows refl ∙ tree_front state after c.calls refl

    -- and how it is joined
    abbrev place : Option (Site × List InnerCall)
    place = answers.location row calls

    abbrev location_from : Option (Site × List InnerCall) → Location
    location_from None = record { name = c.name; site = None; calls = [] }
    location_from (Some at) = record { name = c.name; site = Some at.0; calls = at.1 }

    calls_read : AllByRecursion CallReads calls
    calls_read = all_in (λ call. call.start) (λ call. call.size) CallReads addr c.calls reads.call_sites

    joined_by : (forest : Forest Called) → forest ≡ c.calls → (r : Option (ℕ × Line)) → IfSome r RowReads →
        location_by bytes c.name (option_map (state_of t zero_header) r) (frames_by forest) ≡ Some (location_from (answers.location r calls))
    joined_by NoCalls is None here = refl
    joined_by NoCalls is (Some r) here =
        let none : calls ≡ [] = ap (calls_in (λ (call : Called). call.start) (λ call. call.size) addr) (sym is) in
        rw (none, seen_reads [] r tt here) refl
    joined_by (Call call within later) is None here = refl
    joined_by (Call call within later) is (Some r) here = rw (reads.name, seen_reads calls r calls_read here) refl

    joined : location_by bytes c.name state (frames_by c.calls) ≡ Some (location_from place)
    joined = joined_by c.calls refl row (row_among RowReads addr None c.rows tt reads.row_sites)

    symbol_from : (p : Option (Site × List InnerCall)) → gsym.symbol_at c.start c.size (Some (location_from p)) ≡ Ok (Ok (answers.symbol_by c p))
    symbol_from None = refl
    symbol_from (Some at) = refl

    -- a function's data gives what the plan answers
    pub code_answers : (after : List ℕ) → gsym.symbol_at c.start c.size (location_of bytes asked.CodeInfoAndInlined addr c.start (info_of t c after)) ≡ Ok (Ok (symbol_at addr c))
    code_answers after = rw (reads.name, facts_are after, joined) (symbol_from place)

  -- bytes that hold a plan: each function at its data place
  pub record Holds (codes : List Code) : Type 0 where
    pub places : List (ℕ × Code)
    pub codes_are : map (λ (p : ℕ × Code). p.1) places ≡ codes
    pub base : (header_of bytes).base_address ≡ 0
    pub symbols_are : symbols bytes ≡ map (λ (p : ℕ × Code). (p.1.start, p.0)) places
    pub infos : (p : ℕ × Code) → In places p → (after : List ℕ) × (info_at bytes p.0 ≡ Some (info_of t p.1 after))
    pub sizes : (p : ℕ × Code) → In places p → p.1.size ≡ 0 → ⊥
    pub reads : (p : ℕ × Code) → In places p → p.1.start + p.1.size ≤ last_address → CodeReads p.1

  module _ (codes : List Code) (holds : Holds codes) (addr : ℕ) where
    abbrev tried_place : Option (ℕ × Code)
    tried_place = candidate (λ (p : ℕ × Code). p.1.start) (λ p. 0) addr holds.places

    nearest_is : nearest_symbol bytes addr ≡ option_map (λ (p : ℕ × Code). (p.1.start, p.0)) tried_place
    nearest_is =
        let view : ℕ × Code → ℕ × ℕ = λ p. (p.1.start, p.0) in
        ap (λ (base : ℕ). cond (nat_lt addr base) None (option_map (based base) (nearest_start bytes (addr - base)))) holds.base
        ∙ rw (le-ltb addr 0 (omega arith)) (from_zero (nearest_start bytes (addr - 0)) ∙ let e : addr - 0 ≡ addr = omega arith in
        ap (nearest_start bytes) e ∙ ap (candidate (λ (s : ℕ × ℕ). s.0) (λ s. 0) addr) holds.symbols_are ∙ candidate_seen (λ (s : ℕ × ℕ). s.0) (λ s. 0) view addr holds.places) where
          from_zero : (o : Option (ℕ × ℕ)) → option_map (based 0) o ≡ o
          from_zero None = refl
          from_zero (Some s) = let e : 0 + s.0 ≡ s.0 = omega arith in ap (λ (n : ℕ). Some (n, s.1)) e

    code_is : candidate (λ (c : Code). c.start) (λ c. 0) addr codes ≡ option_map (λ (p : ℕ × Code). p.1) tried_place
    code_is = ap (candidate (λ (c : Code). c.start) (λ c. 0) addr) (sym holds.codes_are) ∙ candidate_seen (λ (c : Code). c.start) (λ c. 0) (λ (p : ℕ × Code). p.1) addr holds.places

    module _ (p : ℕ × Code) (found : tried_place ≡ Some p) where
      there : In holds.places p
      there = let is = candidate_is (λ (q : ℕ × Code). q.1.start) (λ q. 0) addr holds.places p found in (is.0, is.1.there)

      from : p.1.start ≤ addr
      from = (candidate_is (λ (q : ℕ × Code). q.1.start) (λ q. 0) addr holds.places p found).1.not_above

      by_inside : (b : Bool) → inside p.1.start p.1.size addr ≡ b →
          cond b (gsym.symbol_at p.1.start p.1.size (location_of bytes asked.CodeInfoAndInlined addr p.1.start (info_of t p.1 (holds.infos p there).0))) (Ok (Err reasons.UnknownAddr))
          ≡ cond b (Ok (Ok (symbol_at addr p.1))) (Ok (Err reasons.UnknownAddr))
      by_inside false is = refl
      by_inside true is =
          let parts = inside_parts p.1.start p.1.size addr is in
          code_answers p.1 (holds.reads p there parts.1) addr from parts.0 (holds.infos p there).0 where
            inside_parts : (start size addr : ℕ) → inside start size addr ≡ true → (addr < start + size) × (start + size ≤ last_address)
            inside_parts start size addr is = (grind (arith, nat_tests), grind (arith, nat_tests))

      pub tried_is : tried bytes asked.CodeInfoAndInlined addr (Some (p.1.start, p.0)) ≡ by_code addr (Some p.1)
      tried_is =
          rw ((holds.infos p there).1, ne_eqb p.1.size 0 (holds.sizes p there)) (by_inside (inside p.1.start p.1.size addr) refl)

    by_place : (o : Option (ℕ × Code)) → tried_place ≡ o →
        tried bytes asked.CodeInfoAndInlined addr (option_map (λ (p : ℕ × Code). (p.1.start, p.0)) o) ≡ by_code addr (option_map (λ (p : ℕ × Code). p.1) o)
    by_place None none = refl
    by_place (Some p) found = tried_is p found

    -- the plain answer of the bytes is the plan's
    pub plain_is_planned : plain bytes asked.CodeInfoAndInlined addr ≡ planned codes addr
    plain_is_planned = ap (tried bytes asked.CodeInfoAndInlined addr) nearest_is ∙ by_place tried_place refl ∙ ap (by_code addr) (sym code_is)
