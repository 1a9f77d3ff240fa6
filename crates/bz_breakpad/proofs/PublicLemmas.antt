-- The PUBLIC record that a search among the addresses of PUBLIC records finds,
-- and whether a function starts after it.
use Rattle.std.proofs.Common.{◌≡◌, inl, inr, ℕ, zero, suc, ◌<◌, ◌≤◌, Bool, true, false, cond, nat_le, ◌&&◌, ◌||◌, List, [], ◌∷◌, length, map, option_map, get_or, Option, Some, None, refl, sym, ap, subst, ◌∙◌, arith}
use Rattle.std.specs.List.{list_any, slice_get, slice_index}
use Rattle.std.proofs.lemmas.Bool.{cases_lt, le-leb, leb-true, and_parts, true≢false}
use Rattle.std.proofs.lemmas.Option.{get_or_from_slice_get, none-some, same_Some, slice_get-map, slice_get_read, slice_get_within}
use Rattle.bz_base.specs.Answer.{Answer}
use Rattle.bz_base.specs.Answer.Answer.{Known, Unknown}
use Rattle.bz_base.specs.Nearest.{IsTable, has_span}
use Rattle.bz_base.specs.declared.types.Reason.TheVariants as reasons
use Rattle.bz_base.specs.Starts.{IsFound, NeverDescends}
use Rattle.bz_base.proofs.FilterLemmas.{first_in_list, some_pass}
use Rattle.bz_base.proofs.TableLemmas.{in_table, record_at, spans_same, start_at, starts_same}
use Rattle.bz_breakpad_table.specs.FunctionKeys.{AreSortedKeys, keys_from}
use Rattle.bz_breakpad_table.specs.Kept.{kept_public}
use Rattle.bz_breakpad.specs.Plain.{any_between, by_public, first_public, public_at, public_symbol_at}
use Rattle.bz_breakpad_table.specs.Publics.{IsFirst, IsPublicTable, starts_kept}
use Rattle.bz_breakpad_table.specs.Sorted.{StandsFor, starts_of}
use Rattle.bz_breakpad_lines.specs.Table.{Function, PublicSymbol, Table}
use Rattle.bz_breakpad_table.specs.declared.types.FunctionKey.{FunctionKey}
use Rattle.bz_breakpad_table.specs.declared.types.FunctionTable.{FunctionTable}
use Rattle.bz_breakpad_table.specs.declared.publics.PublicTable.{PublicTable}
use Rattle.bz_breakpad_table.specs.declared.types.KeptPublic.{KeptPublic}
use Rattle.bz_breakpad_table.specs.declared.types.KeptTable.{KeptTable}
use Rattle.bz_breakpad.proofs.KeyLemmas.{starts_told}
use Rattle.bz_breakpad_function.proofs.IndexedLemmas.{some_of}

-- The record that is found.

module _ (addr : ℕ) where
  -- what is found is one of the records, and doesn't start above the address
  pub record IsOne (publics : List PublicSymbol) (p : PublicSymbol) : Type 0 where
    pub place : ℕ
    pub there : slice_get publics place ≡ Some p
    pub below : p.start ≤ addr

  one_later : (x : PublicSymbol) (publics : List PublicSymbol) (p : PublicSymbol) → IsOne publics p → IsOne (x ∷ publics) p
  one_later x publics p is = record { place = suc is.place; there = is.there; below = is.below }

  pub public_one : (publics : List PublicSymbol) (p : PublicSymbol) → public_at addr publics ≡ Some p → IsOne publics p
  public_one [] p found = absurd (none-some p found)
  public_one (x ∷ publics) p found = by (public_at addr publics) found (public_one publics) refl where
    here : nat_le x.start addr ≡ true → x ≡ p → IsOne (x ∷ publics) p
    here low same = subst (IsOne (x ∷ publics)) same (record { place = 0; there = refl; below = leb-true x.start addr low })

    by_none : (low : Bool) → nat_le x.start addr ≡ low → cond {A = Option PublicSymbol} low (Some x) None ≡ Some p → IsOne (x ∷ publics) p
    by_none true low found = here low (same_Some x p found)
    by_none false low found = absurd (none-some p found)

    by_some : (q : PublicSymbol) (first : Bool) → (nat_le x.start addr && nat_le q.start x.start) ≡ first → cond {A = Option PublicSymbol} first (Some x) (Some q) ≡ Some p →
        ((r : PublicSymbol) → Some q ≡ Some r → IsOne publics r) → IsOne (x ∷ publics) p
    by_some q true first found later = here (and_parts (nat_le x.start addr) (nat_le q.start x.start) first).0 (same_Some x p found)
    by_some q false first found later = one_later x publics p (later p found)

    by : (o : Option PublicSymbol) → first_public addr x o ≡ Some p → ((q : PublicSymbol) → public_at addr publics ≡ Some q → IsOne publics q) →
        public_at addr publics ≡ o → IsOne (x ∷ publics) p
    by None found later is = by_none (nat_le x.start addr) refl found
    by (Some q) found later is = by_some q (nat_le x.start addr && nat_le q.start x.start) refl found (λ r same. later r (is ∙ same))

  -- the first of those that start nearest below is the one that is found
  pub public_again : (publics : List PublicSymbol) (place : ℕ) (p : PublicSymbol) → slice_get publics place ≡ Some p → p.start ≤ addr →
      ((i : ℕ) (q : PublicSymbol) → slice_get publics i ≡ Some q → q.start ≤ addr → q.start ≤ p.start) →
      ((i : ℕ) (q : PublicSymbol) → slice_get publics i ≡ Some q → q.start ≡ p.start → place ≤ i) →
      public_at addr publics ≡ Some p
  public_again [] place p there below closest first = absurd (none-some p there)
  public_again (x ∷ publics) zero p there below closest first = by (public_at addr publics) (public_one publics) refl where
    same : x ≡ p
    same = same_Some x p there

    low : x.start ≤ addr
    low = subst (λ (q : PublicSymbol). q.start ≤ addr) (sym same) below

    by : (o : Option PublicSymbol) → ((q : PublicSymbol) → public_at addr publics ≡ Some q → IsOne publics q) → public_at addr publics ≡ o →
        first_public addr x o ≡ Some p
    by None one is = rw (le-leb x.start addr low) there
    by (Some q) one is =
        let at = one q is in
        let near : q.start ≤ p.start = closest (suc at.place) q at.there at.below in
        let nearer : q.start ≤ x.start = subst (λ (r : PublicSymbol). q.start ≤ r.start) (sym same) near in
        rw (le-leb x.start addr low, le-leb q.start x.start nearer) there
  public_again (x ∷ publics) (suc place) p there below closest first =
      let rest : public_at addr publics ≡ Some p
      = public_again publics place p there below (λ i q at. closest (suc i) q at) (λ i q at same. let k : suc place ≤ suc i = first (suc i) q at same in omega arith) in
      ap (first_public addr x) rest ∙ by (nat_le x.start addr && nat_le p.start x.start) refl where
        by : (test : Bool) → (nat_le x.start addr && nat_le p.start x.start) ≡ test → cond {A = Option PublicSymbol} test (Some x) (Some p) ≡ Some p
        by false is = refl
        by true is =
            let parts = and_parts (nat_le x.start addr) (nat_le p.start x.start) is in
            let up : p.start ≤ x.start = leb-true p.start x.start parts.1 in
            let down : x.start ≤ p.start = closest 0 x refl (leb-true x.start addr parts.0) in
            let early : suc place ≤ 0 = first 0 x refl (omega arith) in
            absurd (omega arith)

  -- none is found where all start above
  pub public_none : (publics : List PublicSymbol) → ((i : ℕ) (q : PublicSymbol) → slice_get publics i ≡ Some q → addr < q.start) → public_at addr publics ≡ None
  public_none publics above = by (public_at addr publics) refl where
    by : (o : Option PublicSymbol) → public_at addr publics ≡ o → o ≡ None
    by None is = refl
    by (Some p) is = let one = public_one publics p is in absurd (omega (arith, above one.place p one.there, one.below))

-- The starts of the records.

start_there : (publics : List KeptPublic) (i : ℕ) (p : KeptPublic) → slice_get publics i ≡ Some p → slice_get (starts_kept publics) i ≡ Some p.start
start_there publics i p there = slice_get-map (λ (q : KeptPublic). q.start) publics i ∙ ap (option_map (λ (q : KeptPublic). q.start)) there

of_start : (publics : List KeptPublic) (i s : ℕ) → slice_get (starts_kept publics) i ≡ Some s → (p : KeptPublic) × (slice_get publics i ≡ Some p) × (p.start ≡ s)
of_start publics i s there = some_of (λ (q : KeptPublic). q.start) (slice_get publics i) s (sym (slice_get-map (λ (q : KeptPublic). q.start) publics i) ∙ there)

of_kept : (bytes : List ℕ) (publics : List KeptPublic) (i : ℕ) (p : PublicSymbol) → slice_get (map (kept_public bytes) publics) i ≡ Some p →
    (q : KeptPublic) × (slice_get publics i ≡ Some q) × (kept_public bytes q ≡ p)
of_kept bytes publics i p there = some_of (kept_public bytes) (slice_get publics i) p (sym (slice_get-map (kept_public bytes) publics i) ∙ there)

-- a start at a place
index_at : (starts : List ℕ) (i s : ℕ) → slice_get starts i ≡ Some s → slice_index starts i ≡ s
index_at starts i s there = get_or_from_slice_get starts i s 0 there

start_at_place : (starts : List ℕ) (i s : ℕ) → i < length starts → slice_index starts i ≡ s → slice_get starts i ≡ Some s
start_at_place [] i s within is = absurd (omega arith)
start_at_place (t ∷ starts) zero s within is = ap Some is
start_at_place (t ∷ starts) (suc i) s within is = start_at_place starts i s (omega arith) is

module _ (publics : List KeptPublic) (table : PublicTable) (is : IsPublicTable publics table) (addr : ℕ) where
  -- a record has its address among the addresses
  address_of : (i : ℕ) (q : KeptPublic) → slice_get publics i ≡ Some q → (k : ℕ) × (slice_get table.starts k ≡ Some q.start)
  address_of i q there = is.addresses.each i q.start (start_there publics i q there)

  module _ (place start : ℕ) (found : IsFound table.starts addr (Some (place, start))) where
    -- no record starts nearer below the address
    nearest_start : (i : ℕ) (q : KeptPublic) → slice_get publics i ≡ Some q → q.start ≤ addr → q.start ≤ start
    nearest_start i q there below =
        let at = address_of i q there in
        let here : slice_index table.starts at.0 ≡ q.start = index_at table.starts at.0 q.start at.1 in
        let within : at.0 < length table.starts = slice_get_within table.starts at.0 q.start at.1 in
        elim (cases_lt place at.0) [
          | inl after ↦
              let more : slice_index table.starts place < slice_index table.starts at.0 = is.addresses.ascend place at.0 after within in
              elim (cases_lt start addr) [
                | inl less ↦ absurd (omega (arith, found.last less at.0 after within))
                | inr above ↦ omega (arith, found.start_is)
              ]
          | inr before ↦
              elim (cases_lt at.0 place) [
                | inl less ↦ omega (arith, is.addresses.ascend at.0 place less found.within, found.start_is)
                | inr above ↦ let same : at.0 ≡ place = omega arith in omega (arith, ap (slice_index table.starts) same, found.start_is)
              ]
        ]

    module _ (index : ℕ) (read : index ≡ get_or table.indices.items place index) where
      -- the index at the place that a search found is that of the first record at the address there
      first_there : IsFirst (starts_kept publics) start index
      first_there =
          is.firsts place start index (start_at_place table.starts place start found.within found.start_is)
          (slice_get_read table.indices.items (length table.indices.items) place index refl (omega (arith, found.within, is.count)) read)

      first_record : (p : KeptPublic) × (slice_get publics index ≡ Some p) × (p.start ≡ start)
      first_record = of_start publics index start first_there.there

      pub first_within : index < length publics
      first_within = slice_get_within publics index first_record.0 first_record.1

      -- and that record is found
      pub first_answers : (bytes : List ℕ) (p : KeptPublic) → slice_get publics index ≡ Some p → public_at addr (map (kept_public bytes) publics) ≡ Some (kept_public bytes p)
      first_answers bytes p there =
          let at = first_record in
          let same : at.0 ≡ p = same_Some at.0 p (sym at.1 ∙ there) in
          let start_is : p.start ≡ start = ap (λ (q : KeptPublic). q.start) (sym same) ∙ at.2 in
          public_again addr (map (kept_public bytes) publics) index (kept_public bytes p)
          (slice_get-map (kept_public bytes) publics index ∙ ap (option_map (kept_public bytes)) there)
          (omega (arith, found.not_above))
          (λ i q at_q below.
          let r = of_kept bytes publics i q at_q in
          let near : r.0.start ≤ start = nearest_start i r.0 r.1 (omega (arith, ap (λ (x : PublicSymbol). x.start) r.2)) in
          omega (arith, ap (λ (x : PublicSymbol). x.start) r.2))
          (λ i q at_q alike.
          let r = of_kept bytes publics i q at_q in
          let starts : r.0.start ≡ start = ap (λ (x : PublicSymbol). x.start) r.2 ∙ alike ∙ start_is in
          first_there.first i (start_there publics i r.0 r.1 ∙ ap Some starts))

  -- where none is found, all start above the address
  pub none_answers : (bytes : List ℕ) → IsFound table.starts addr None → public_at addr (map (kept_public bytes) publics) ≡ None
  none_answers bytes found =
      public_none addr (map (kept_public bytes) publics) (λ i q at_q.
      let r = of_kept bytes publics i q at_q in
      let at = address_of i r.0 r.1 in
      let above : addr < slice_index table.starts at.0 = found at.0 (slice_get_within table.starts at.0 r.0.start at.1) in
      omega (arith, index_at table.starts at.0 r.0.start at.1, ap (λ (x : PublicSymbol). x.start) r.2))

-- Whether a start lies between.

any_there : (test : ℕ → Bool) (xs : List ℕ) (i x : ℕ) → slice_get xs i ≡ Some x → test x ≡ true → list_any test xs ≡ true
any_there test [] i x there passes = absurd (none-some x there)
any_there test (y ∷ xs) zero x there passes = let same : test y ≡ true = ap test (same_Some y x there) ∙ passes in rw same refl
any_there test (y ∷ xs) (suc i) x there passes = by (test y) (any_there test xs i x there passes) where
  by : (b : Bool) → list_any test xs ≡ true → (b || list_any test xs) ≡ true
  by true more = refl
  by false more = more

any_some : (test : ℕ → Bool) (xs : List ℕ) → list_any test xs ≡ true → (i : ℕ) × (x : ℕ) × (slice_get xs i ≡ Some x) × (test x ≡ true)
any_some test [] any = absurd (true≢false (sym any))
any_some test (y ∷ xs) any = by (test y) refl any (any_some test xs) where
  by : (b : Bool) → test y ≡ b → (b || list_any test xs) ≡ true → (list_any test xs ≡ true → (i : ℕ) × (x : ℕ) × (slice_get xs i ≡ Some x) × (test x ≡ true)) →
      (i : ℕ) × (x : ℕ) × (slice_get (y ∷ xs) i ≡ Some x) × (test x ≡ true)
  by true is any more = (0, y, refl, is)
  by false is any more = let found = more any in (suc found.0, found.1, found.2, found.3)

any_both : (test : ℕ → Bool) (xs ys : List ℕ) → (list_any test xs ≡ true → list_any test ys ≡ true) → (list_any test ys ≡ true → list_any test xs ≡ true) →
    list_any test xs ≡ list_any test ys
any_both test xs ys to from = by (list_any test xs) (list_any test ys) to from where
  by : (a b : Bool) → (a ≡ true → b ≡ true) → (b ≡ true → a ≡ true) → a ≡ b
  by true b to from = sym (to refl)
  by false true to from = from refl
  by false false to from = refl

-- a table has the starts of its list
pub any_in_table : {X : Type 0} (start size : X → ℕ) (records table : List X) → IsTable start size records table → (test : ℕ → Bool) →
    list_any test (map start table) ≡ list_any test (map start records)
any_in_table {X = X} start size records table is test = any_both test (map start table) (map start records)
    (λ any. let found = any_some test (map start table) any in let x = some_of start (slice_get table found.0) found.1 (sym (slice_get-map start table found.0) ∙ found.2) in
    let some = some_pass (has_span start size (start x.0) (size x.0)) table found.0 x.0 x.1 (spans_same start size x.0 x.0 refl refl) in
    let first = first_in_list (has_span start size (start x.0) (size x.0)) records some.0 some.1 (sym (is.alike (start x.0) (size x.0)) ∙ some.2) in
    let same : start some.0 ≡ found.1 = starts_same start size x.0 some.0 first.1.passes ∙ x.2 in
    any_there test (map start records) first.0 found.1 (slice_get-map start records first.0 ∙ ap (option_map start) first.1.there ∙ ap Some same) found.3)
    (λ any. let found = any_some test (map start records) any in let x = some_of start (slice_get records found.0) found.1 (sym (slice_get-map start records found.0) ∙ found.2) in
    let like = in_table start size records table is found.0 x.0 x.1 in
    any_there test (map start table) like.place found.1 (slice_get-map start table like.place ∙ ap (option_map start) like.there ∙ ap Some (like.start_is ∙ x.2)) found.3)

module _ (from addr : ℕ) (starts : List ℕ) (up : NeverDescends starts) where
  -- the nearest start lies between, or none does
  pub between_found : (place start : ℕ) → IsFound starts addr (Some (place, start)) → nat_le from start ≡ any_between from addr starts
  between_found place start found = by (nat_le from start) refl where
    test : ℕ → Bool
    test s = nat_le from s && nat_le s addr

    here : slice_get starts place ≡ Some start
    here = start_at_place starts place start found.within found.start_is

    by : (b : Bool) → nat_le from start ≡ b → b ≡ list_any (λ s. nat_le from s && nat_le s addr) starts
    by true is =
        let low : nat_le start addr ≡ true = le-leb start addr found.not_above in
        let passes : (nat_le from start && nat_le start addr) ≡ true = rw (is, low) refl in
        sym (any_there (λ s. nat_le from s && nat_le s addr) starts place start here passes)
    by false is = none (list_any (λ s. nat_le from s && nat_le s addr) starts) refl where
      none : (b : Bool) → list_any (λ s. nat_le from s && nat_le s addr) starts ≡ b → false ≡ b
      none false any = refl
      none true any =
          let one = any_some (λ s. nat_le from s && nat_le s addr) starts any in
          let parts = and_parts (nat_le from one.1) (nat_le one.1 addr) one.3 in
          let low : from ≤ one.1 = leb-true from one.1 parts.0 in
          let high : one.1 ≤ addr = leb-true one.1 addr parts.1 in
          let at : slice_index starts one.0 ≡ one.1 = index_at starts one.0 one.1 one.2 in
          let within : one.0 < length starts = slice_get_within starts one.0 one.1 one.2 in
          let near : one.1 ≤ start = elim (cases_lt place one.0) [
            | inl after ↦ elim (cases_lt start addr) [
              | inl less ↦ absurd (omega (arith, found.last less one.0 after within))
              | inr above ↦ omega (arith, found.not_above)
            ]
            | inr before ↦ omega (arith, up one.0 place before found.within, found.start_is)
          ] in
          absurd (true≢false (sym (le-leb from start (omega arith)) ∙ is))

  pub between_none : IsFound starts addr None → false ≡ any_between from addr starts
  between_none found = none (list_any (λ s. nat_le from s && nat_le s addr) starts) refl where
    none : (b : Bool) → list_any (λ s. nat_le from s && nat_le s addr) starts ≡ b → false ≡ b
    none false any = refl
    none true any =
        let one = any_some (λ s. nat_le from s && nat_le s addr) starts any in
        let parts = and_parts (nat_le from one.1) (nat_le one.1 addr) one.3 in
        let high : one.1 ≤ addr = leb-true one.1 addr parts.1 in
        absurd (omega (arith, found one.0 (slice_get_within starts one.0 one.1 one.2), index_at starts one.0 one.1 one.2))

-- the starts of a table never descend
pub table_never : {X : Type 0} (start size : X → ℕ) (records table : List X) → IsTable start size records table → NeverDescends (map start table)
table_never start size records table is i j up within =
    let x = record_at start size table i (omega arith) in
    let y = record_at start size table j within in
    let ordered : start x.0 ≤ start y.0 = is.starts_ascend i j x.0 y.0 up x.1 y.1 in
    omega (arith, start_at start size table i x.0 x.1, start_at start size table j y.0 y.1)

-- the starts of the keys in order never descend
pub keys_never : (code : FunctionTable) → AreSortedKeys code.functions.items code.keys.items → NeverDescends (starts_of code)
keys_never code are = table_never (λ (k : FunctionKey). k.start) (λ k. k.size) (keys_from 0 code.functions.items) code.keys.items are.table

-- and one of them lies between where a function starts there
pub between_keys : (bytes : List ℕ) (kept : KeptTable) (table : Table) → StandsFor bytes table kept → (from addr : ℕ) →
    any_between from addr (starts_of kept.code) ≡ any_between from addr (map (λ (f : Function). f.start) table.functions)
between_keys bytes kept table stands from addr =
    let code = kept.code in
    let test = λ (s : ℕ). nat_le from s && nat_le s addr in
    any_in_table (λ (k : FunctionKey). k.start) (λ k. k.size) (keys_from 0 code.functions.items) code.keys.items stands.keys.table test
    ∙ ap (list_any test) (starts_told bytes code table.functions stands.functions)

-- a PUBLIC record answers where no function starts between
pub by_between : (bytes : List ℕ) (kept : KeptTable) (table : Table) → StandsFor bytes table kept → (addr : ℕ) (public : KeptPublic) →
    Some (kept_public bytes public) ≡ public_at addr (map (kept_public bytes) kept.publics.items) → (between : Bool) → between ≡ any_between public.start addr (starts_of kept.code) →
    cond {A = Answer} between (Unknown reasons.UnknownAddr) (Known (public_symbol_at table (kept_public bytes public) addr)) ≡ by_public table addr (public_at addr table.publics)
by_between bytes kept table stands addr public found between is =
    let tells : between ≡ any_between public.start addr (map (λ (f : Function). f.start) table.functions)
    = is ∙ between_keys bytes kept table stands public.start addr in
    ap (λ (b : Bool). cond {A = Answer} b (Unknown reasons.UnknownAddr) (Known (public_symbol_at table (kept_public bytes public) addr))) tells
    ∙ ap (by_public table addr) (found ∙ ap (public_at addr) stands.publics)
