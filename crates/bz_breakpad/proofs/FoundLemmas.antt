-- Which record answers for an address, from the places that searches found.
use Rattle.std.proofs.Common.{◌≡◌, inl, inr, ℕ, zero, suc, ◌+◌, ◌<◌, ◌≤◌, Bool, true, false, cond, nat_eq, List, [], ◌∷◌, ◌++◌, length, map, option_map, get_or, slice_index_or, slice_set, Some, None, refl, sym, ap, subst, ◌∙◌, arith}
use Rattle.std.specs.List.{slice_get, slice_index}
use Rattle.std.proofs.Math.Seq.{get_or-append_seam}
use Rattle.std.proofs.lemmas.Bool.{cases_lt, eq-eqb, eqb-true, true≢false}
use Rattle.std.proofs.lemmas.Grind.{get_or-set_at}
use Rattle.std.proofs.lemmas.List.{get_or-set_other, get_or_append_left, length-append, length-set}
use Rattle.std.proofs.lemmas.Option.{none-some, same_Some, slice_get-map, slice_get_read, slice_get_within}
use Rattle.bz_base.specs.Answer.{Answer}
use Rattle.bz_base.specs.Answer.Answer.{Known, Unknown}
use Rattle.bz_base.specs.Nearest.{nearest_covering}
use Rattle.bz_base.specs.Starts.{IsAt}
use Rattle.bz_base.specs.declared.types.Reason.TheVariants as reasons
use Rattle.bz_breakpad.specs.Found.{AreFunctionsFor, AreRecordsFor, AreUncovered, IsFoundOrLeft, IsFunctionFor, IsPublicFor, IsRecordFor, IsUnanswered}
use Rattle.bz_breakpad_table.specs.FunctionKeys.{keys_from}
use Rattle.bz_breakpad_table.specs.Kept.{kept_public}
use Rattle.bz_breakpad.specs.Plain.{any_between, by_public, function_at, public_at, public_symbol_at}
use Rattle.bz_breakpad_table.specs.Publics.{IsPublicTable}
use Rattle.bz_breakpad_table.specs.Sorted.{StandsFor, starts_of}
use Rattle.bz_breakpad_lines.specs.Table.{Table}
use Rattle.bz_breakpad.specs.declared.found.FoundRecord.{FoundRecord}
use Rattle.bz_breakpad.specs.declared.found.FoundRecord.TheVariants as found
use Rattle.bz_breakpad_table.specs.declared.publics.PublicTable.{PublicTable}
use Rattle.bz_breakpad_table.specs.declared.types.FunctionKey.{FunctionKey}
use Rattle.bz_breakpad_table.specs.declared.types.KeptPublic.{KeptPublic}
use Rattle.bz_breakpad_table.specs.declared.types.KeptTable.{KeptTable}
use Rattle.bz_breakpad.proofs.KeyLemmas.{answers_by_key, key_tells, told}
use Rattle.bz_breakpad_table.proofs.PublicKeyLemmas.{all_at}
use Rattle.bz_breakpad.proofs.PublicLemmas.{by_between, first_answers, first_within, none_answers}

module _ (bytes : List ℕ) (table : Table) (kept : KeptTable) (stands : StandsFor bytes table kept) (addr : ℕ) where
  -- the function of the key that covers the address answers for it
  pub key_for : (key : FunctionKey) → Some key ≡ nearest_covering (λ (k : FunctionKey). k.start) (λ k. k.size) addr (keys_from 0 kept.code.functions.items) → IsFunctionFor table addr key.index
  key_for key covering = record {
    function = told table.functions key;
    there = key_tells bytes kept.code table.functions stands.functions addr key covering;
    answers = sym (answers_by_key bytes kept.code table.functions stands.functions addr) ∙ ap (option_map (told table.functions)) (sym covering);
  }

  -- and none does where no key covers it
  pub no_key_for : None ≡ nearest_covering (λ (k : FunctionKey). k.start) (λ k. k.size) addr (keys_from 0 kept.code.functions.items) → function_at addr table.functions ≡ None
  no_key_for covering = sym (answers_by_key bytes kept.code table.functions stands.functions addr) ∙ ap (option_map (told table.functions)) (sym covering)

  module _ (no_function : function_at addr table.functions ≡ None) where
    -- where there are no PUBLIC records, none answers
    pub no_publics_for : length kept.publics.items ≡ 0 → IsUnanswered table addr
    no_publics_for none = record { no_function = no_function; no_public = by kept.publics.items none stands.publics } where
      by : (ps : List KeptPublic) → length ps ≡ 0 → map (kept_public bytes) ps ≡ table.publics →
          by_public table addr (public_at addr table.publics) ≡ Unknown reasons.UnknownAddr
      by [] none are = ap (λ ps. by_public table addr (public_at addr ps)) (sym are)
      by (p ∷ ps) none are = absurd (omega arith)

    module _ (publics : PublicTable) (is : IsPublicTable kept.publics.items publics) where
      -- nor where each starts above the address
      pub above_for : IsAt publics.starts addr None → IsUnanswered table addr
      above_for above = record {
        no_function = no_function;
        no_public = ap (by_public table addr) (ap (public_at addr) (sym stands.publics) ∙ none_answers kept.publics.items publics is addr bytes above);
      }

      module _ (place : ℕ) (at : IsAt publics.starts addr (Some place)) (index : ℕ) (read : index ≡ get_or publics.indices.items place index)
          (public : KeptPublic) (public_read : public ≡ get_or kept.publics.items index public) where
        there : slice_get kept.publics.items index ≡ Some public
        there =
            slice_get_read kept.publics.items (length kept.publics.items) index public refl
            (first_within kept.publics.items publics is addr place (slice_index publics.starts place) at index read) public_read

        answer_is : (between : Bool) → between ≡ any_between public.start addr (starts_of kept.code) →
            cond {A = Answer} between (Unknown reasons.UnknownAddr) (Known (public_symbol_at table (kept_public bytes public) addr)) ≡ by_public table addr (public_at addr table.publics)
        answer_is between tells =
            by_between bytes kept table stands addr public
            (sym (first_answers kept.publics.items publics is addr place (slice_index publics.starts place) at index read bytes public there)) between tells

        -- nor where a function starts between
        pub between_for : true ≡ any_between public.start addr (starts_of kept.code) → IsUnanswered table addr
        between_for between = record { no_function = no_function; no_public = sym (answer_is true between) }

        -- and else the record of the index does
        pub public_for : false ≡ any_between public.start addr (starts_of kept.code) → IsPublicFor table addr index
        public_for between = record {
          public = kept_public bytes public;
          there =
              ap (λ ps. slice_get ps index) (sym stands.publics)
              ∙ slice_get-map (kept_public bytes) kept.publics.items index
              ∙ ap (option_map (kept_public bytes)) there;
          no_function = no_function;
          answers = sym (answer_is false between);
        }

-- A batch.

get_front : (xs ys : List ℕ) (i x : ℕ) → slice_get xs i ≡ Some x → slice_get (xs ++ ys) i ≡ Some x
get_front [] ys i x there = absurd (none-some x there)
get_front (y ∷ xs) ys zero x there = there
get_front (y ∷ xs) ys (suc i) x there = get_front xs ys i x there

get_seam : (xs : List ℕ) (x : ℕ) → slice_get (xs ++ x ∷ []) (length xs) ≡ Some x
get_seam [] x = refl
get_seam (y ∷ xs) x = get_seam xs x

module _ (table : Table) (addrs : List ℕ) where
  -- one record more
  record_more : (records : List FoundRecord) (left : List ℕ) (given : FoundRecord) → AreFunctionsFor table addrs records left 0 →
      IsFoundOrLeft table addrs left 0 (length records) given → AreFunctionsFor table addrs (records ++ given ∷ []) left 0
  record_more records left given so_far one k within = elim (cases_lt k (length records)) [
    | inl less ↦ subst (IsFoundOrLeft table addrs left 0 k) (sym (get_or_append_left records (given ∷ []) found.Absent k less)) (so_far k less)
    | inr not_less ↦
        let same : length records ≡ k = omega (arith, within, length-append records (given ∷ [])) in
        subst (λ i. IsFoundOrLeft table addrs left 0 i (slice_index_or (records ++ given ∷ []) i found.Absent)) same
        (subst (IsFoundOrLeft table addrs left 0 (length records)) (sym (get_or-append_seam records given [] found.Absent)) one)
  ]

  -- of a function that answers
  pub function_more : (records : List FoundRecord) (left : List ℕ) (index function : ℕ) → length records ≡ index → AreFunctionsFor table addrs records left 0 →
      IsFunctionFor table (slice_index addrs index) function → AreFunctionsFor table addrs (records ++ found.Function function ∷ []) left 0
  function_more records left index function count so_far is =
      record_more records left (found.Function function) so_far (inl (subst (λ i. IsFunctionFor table (slice_index addrs i) function) (sym count) is))

  -- or of an address that is left
  pub left_more : (records : List FoundRecord) (left : List ℕ) (index : ℕ) → length records ≡ index → AreFunctionsFor table addrs records left 0 →
      AreFunctionsFor table addrs (records ++ found.Absent ∷ []) (left ++ index ∷ []) 0
  left_more records left index count so_far =
      record_more records (left ++ index ∷ []) found.Absent (λ k within. by k (slice_index_or records k found.Absent) (so_far k within))
      (inr (record { absent = refl; place = length left; from_on = omega arith; there = get_seam left index ∙ ap Some (sym count) })) where
        by : (k : ℕ) (given : FoundRecord) → IsFoundOrLeft table addrs left 0 k given → IsFoundOrLeft table addrs (left ++ index ∷ []) 0 k given
        by k given (inl is) = inl is
        by k given (inr is) = inr (record { absent = is.absent; place = is.place; from_on = is.from_on; there = get_front left (index ∷ []) is.place k is.there })

  -- the record of one that was left is found
  pub public_more : (records : List FoundRecord) (left : List ℕ) (next index : ℕ) (given : FoundRecord) → AreFunctionsFor table addrs records left next →
      slice_get left next ≡ Some index → index < length records → IsRecordFor table (slice_index addrs index) given →
      AreFunctionsFor table addrs (slice_set records index given) left (next + 1)
  public_more records left next index given so_far there in_range answers k within = by (nat_eq k index) refl where
    by : (b : Bool) → nat_eq k index ≡ b → IsFoundOrLeft table addrs left (next + 1) k (slice_index_or (slice_set records index given) k found.Absent)
    by true is =
        let same : k ≡ index = eqb-true k index is in
        inl (subst (IsRecordFor table (slice_index addrs k)) (sym (get_or-set_at records index k given found.Absent same in_range))
        (subst (λ i. IsRecordFor table (slice_index addrs i) given) (sym same) answers))
    by false is =
        let apart : k ≡ index → ⊥ = λ same. true≢false (sym (eq-eqb k index same) ∙ is) in
        subst (IsFoundOrLeft table addrs left (next + 1) k) (sym (get_or-set_other records index k given found.Absent apart))
        (other apart (slice_index_or records k found.Absent) (so_far k (omega (arith, within, length-set records index given)))) where
          other : (k ≡ index → ⊥) → (old : FoundRecord) → IsFoundOrLeft table addrs left next k old → IsFoundOrLeft table addrs left (next + 1) k old
          other apart old (inl is) = inl is
          other apart old (inr is) = inr (record {
            absent = is.absent;
            place = is.place;
            from_on = elim (cases_lt next is.place) [
              | inl later ↦ omega arith
              | inr not_later ↦
                  let same : is.place ≡ next = omega (arith, is.from_on) in
                  absurd (apart (same_Some k index (sym is.there ∙ ap (slice_get left) same ∙ there)))
            ];
            there = is.there;
          })

  -- where none is left, all are found
  pub all_found : (records : List FoundRecord) (left : List ℕ) (next : ℕ) → length left ≤ next → length records ≡ length addrs →
      AreFunctionsFor table addrs records left next → AreRecordsFor table addrs records
  all_found records left next done count are k within = by (are k (omega (arith, count))) where
    by : IsFoundOrLeft table addrs left next k (slice_index_or records k found.Absent) → IsRecordFor table (slice_index addrs k) (slice_index_or records k found.Absent)
    by (inl is) = is
    by (inr is) = absurd (omega (arith, is.from_on, slice_get_within left is.place k is.there))

  -- and where no record answers for one that is left
  pub none_for_left : (records : List FoundRecord) (left : List ℕ) → AreUncovered table addrs left → ((addr : ℕ) → function_at addr table.functions ≡ None → IsUnanswered table addr) →
      length records ≡ length addrs → AreFunctionsFor table addrs records left 0 → AreRecordsFor table addrs records
  none_for_left records left uncovered unanswered count are k within = by (slice_index_or records k found.Absent) (are k (omega (arith, count))) where
    by : (given : FoundRecord) → IsFoundOrLeft table addrs left 0 k given → IsRecordFor table (slice_index addrs k) given
    by given (inl is) = is
    by given (inr is) =
        subst (IsRecordFor table (slice_index addrs k)) (sym is.absent)
        (unanswered (slice_index addrs k) (all_at (λ index. function_at (slice_index addrs index) table.functions ≡ None) left is.place k is.there uncovered))
