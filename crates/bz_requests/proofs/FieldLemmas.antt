-- The fields that a text is cut into are those that it is made of.
use Rattle.std.proofs.Common.{◌≡◌, ◌<◌, ◌≤◌, ◌+◌, ◌-◌, ℕ, suc, Bool, true, false, not, cond, List, [], ◌∷◌, ◌++◌, length, take, drop, refl, sym, ap, ap₂, ◌∙◌, arith}
use Rattle.std.specs.List.{AllByRecursion, join_with_byte, list_any, onto_first, prefix_len}
use Rattle.std.proofs.Math.Seq.{take-length}
use Rattle.std.proofs.lemmas.Bool.{or_parts, or_from}
use Rattle.std.proofs.lemmas.List.{length-drop}
use Rattle.std.proofs.lemmas.List.Splits.{join_with_byte-slice_split, length-slice_split, slice_split-cons_no}
use Rattle.bz_base.specs.Byte.{HasNo, space}
use Rattle.bz_requests.specs.Fields.{AreFields, fields, is_space}

-- how many bytes stand before the first space
abbrev pub before_space : List ℕ → ℕ
before_space text = prefix_len (λ b. not (is_space b)) text

-- without a space the text is one field
one_step : (b : ℕ) (bs : List ℕ) (x : Bool) → is_space b ≡ x → length (b ∷ bs) ≤ before_space (b ∷ bs) → (length bs ≤ before_space bs → fields bs ≡ bs ∷ []) → fields (b ∷ bs) ≡ (b ∷ bs) ∷ []
one_step b bs true is most others = let never = rw is at most in absurd (omega (arith, never))
one_step b bs false is most others =
    let fewer = rw is at most in
    slice_split-cons_no is_space b bs is ∙ ap (onto_first b) (others (omega (arith, fewer)))

pub one_field : (text : List ℕ) → length text ≤ before_space text → fields text ≡ text ∷ []
one_field [] most = refl
one_field (b ∷ bs) most = one_step b bs (is_space b) refl most (one_field bs)

-- with one, it is the text before it and the fields after it
first_step : (b : ℕ) (bs : List ℕ) (x : Bool) → is_space b ≡ x → before_space (b ∷ bs) < length (b ∷ bs) →
    (before_space bs < length bs → fields bs ≡ take (before_space bs) bs ∷ fields (drop (before_space bs + 1) bs)) →
    fields (b ∷ bs) ≡ take (before_space (b ∷ bs)) (b ∷ bs) ∷ fields (drop (before_space (b ∷ bs) + 1) (b ∷ bs))
first_step b bs true is within others = rw is refl
first_step b bs false is within others =
    let inside = rw is at within in
    let one : 1 + before_space bs ≡ suc (before_space bs) = omega arith in
    let two : suc (before_space bs) + 1 ≡ suc (before_space bs + 1) = omega arith in
    rw (is, one, two) (ap (onto_first b) (others (omega (arith, inside))))

pub field_first : (text : List ℕ) → before_space text < length text → fields text ≡ take (before_space text) text ∷ fields (drop (before_space text + 1) text)
field_first [] within = absurd (omega (arith, within))
field_first (b ∷ bs) within = first_step b bs (is_space b) refl within (field_first bs)

-- what lies past a place, as a slice has it
pub past_place : {A : Type 0} (n : ℕ) (items : List A) → take (length items - n) (drop n items) ≡ drop n items
past_place n items = rw (← length-drop n items) (take-length (drop n items))

-- The fields of a text are what it is made of.

-- a text has at least one field
fields_some : (text : List ℕ) → 0 < length (fields text)
fields_some text = omega (arith, length-slice_split is_space text)

-- a byte in front of fields that is no space leaves them without one
onto_first_plain : (b : ℕ) (all : List (List ℕ)) → is_space b ≡ false → AllByRecursion (HasNo space) all → AllByRecursion (HasNo space) (onto_first b all)
onto_first_plain b [] other none = (or_from _ _ other refl, tt)
onto_first_plain b (field ∷ all) other none = (or_from _ _ other none.0, none.1)

-- no field has a space
fields_plain : (text : List ℕ) → AllByRecursion (HasNo space) (fields text)
fields_plain [] = (refl, tt)
fields_plain (b ∷ text) = by_test (is_space b) refl (fields_plain text) where
  by_test : (cut : Bool) → is_space b ≡ cut → AllByRecursion (HasNo space) (fields text) →
      AllByRecursion (HasNo space) (cond cut ([] ∷ fields text) (onto_first b (fields text)))
  by_test true is none = (refl, none)
  by_test false other none = onto_first_plain b (fields text) other none

-- a text is its fields
pub are_fields : (text : List ℕ) → AreFields text (fields text)
are_fields text = record { positive = fields_some text; whole = sym (join_with_byte-slice_split space text); no_space = fields_plain text }

-- a text without a space is one field
fields_alone : (text : List ℕ) → HasNo space text → fields text ≡ text ∷ []
fields_alone [] none = refl
fields_alone (b ∷ text) none =
    let parts = or_parts (is_space b) (list_any is_space text) none in
    slice_split-cons_no is_space b text parts.0 ∙ ap (onto_first b) (fields_alone text parts.1)

-- what stands before a space is the first field
fields_next : (field rest : List ℕ) → HasNo space field → fields (field ++ space ∷ rest) ≡ field ∷ fields rest
fields_next [] rest none = refl
fields_next (b ∷ field) rest none =
    let parts = or_parts (is_space b) (list_any is_space field) none in
    ap₂ (λ cut all. cond cut ([] ∷ all) (onto_first b all)) parts.0 (fields_next field rest parts.1)

-- fields with spaces between them are cut again
joined_again : (all : List (List ℕ)) → 0 < length all → AllByRecursion (HasNo space) all → fields (join_with_byte space all) ≡ all
joined_again [] some none = absurd (omega arith)
joined_again (field ∷ []) some none = fields_alone field none.0
joined_again (field ∷ next ∷ all) some none =
    fields_next field (join_with_byte space (next ∷ all)) none.0 ∙ ap (λ l. field ∷ l) (joined_again (next ∷ all) (omega arith) none.1)

-- the fields of a text are those that it is cut into
pub fields_are : (text : List ℕ) (all : List (List ℕ)) → AreFields text all → fields text ≡ all
fields_are text all are = ap fields are.whole ∙ joined_again all are.positive are.no_space
