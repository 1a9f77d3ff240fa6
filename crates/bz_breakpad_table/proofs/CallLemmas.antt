-- The call of an INLINE record is read where the record stands.
use Rattle.std.proofs.Common.{◌≡◌, ℕ, false, List, [], ◌∷◌, ◌++◌, drop, map, Some, option_map, refl, sym, ap, ap₂, ◌∙◌, arith, append_assoc}
use Rattle.std.proofs.lemmas.Nat.{div-add-mod'}
use Rattle.bz_base.specs.Byte.{begins_with}
use Rattle.bz_breakpad_lines.specs.Byte.{is_solid}
use Rattle.bz_breakpad_lines.specs.Calls.{call_in}
use Rattle.bz_breakpad_table.specs.CallRanges.{range_kept}
use Rattle.bz_breakpad_lines.specs.Form.{Form, Value, told, Spells}
use Rattle.bz_breakpad_lines.specs.Form.Form.{End, Many, ◌·◌}
use Rattle.bz_breakpad_table.specs.Kept.{IsRecordAt, kept_call}
use Rattle.bz_breakpad_lines.specs.Quick.{ended_by}
use Rattle.bz_breakpad_lines.specs.Reads.{reads}
use Rattle.bz_breakpad_lines.specs.Records.{CALL, INLINE, RANGE}
use Rattle.bz_breakpad_lines.specs.Told.{call_told, inline_told, inlinee_told, inlinees_told}
use Rattle.bz_breakpad_lines.specs.declared.record.InlineCall.{InlineCall}
use Rattle.bz_breakpad_lines.specs.declared.record.Range.{Range}
use Rattle.bz_breakpad_lines.proofs.Apart.{separator_front}
use Rattle.bz_breakpad_lines.proofs.FormLaws.{again}
use Rattle.bz_breakpad_table.proofs.PlaceLemmas.{body_stands}
use Rattle.bz_breakpad_lines.proofs.QuickLemmas.{AreFields, lift_told, with_end}
use Rattle.bz_breakpad_lines.proofs.Turns.{no_solid}

-- a text of fields and of what ends them
record AreParts (f g : Form) (text : List ℕ) (value : Value (ended_by f g)) : Type 0 where
  pub front : List ℕ
  pub back : List ℕ
  pub fields : Value f
  pub end : Value g
  pub whole : text ≡ front ++ back
  pub front_is : Spells f front fields
  pub back_is : Spells g back end
  pub value_is : value ≡ with_end f g end fields

-- the fields at its front, and what ends them
parts_of : (f g : Form) → AreFields f → (text : List ℕ) (value : Value (ended_by f g)) → Spells (ended_by f g) text value → AreParts f g text value
parts_of End g are text value is = record { front = []; back = text; fields = tt; end = value; whole = refl; front_is = refl; back_is = is; value_is = refl }
parts_of (p · f) g are text value is =
    let rest = parts_of f g are is.back is.others is.back_is in
    record {
      front = is.front ++ rest.front;
      back = rest.back;
      fields = told p is.tells rest.fields;
      end = rest.end;
      whole = is.whole ∙ ap (λ t. is.front ++ t) rest.whole ∙ sym (append_assoc is.front rest.front rest.back);
      front_is = record {
        front = is.front;
        back = rest.front;
        whole = refl;
        tells = is.tells;
        others = rest.fields;
        front_is = is.front_is;
        back_is = rest.front_is;
        valued = refl;
      };
      back_is = rest.back_is;
      value_is = is.valued ∙ ap (told p is.tells) rest.value_is ∙ sym (lift_told p (with_end f g rest.end) is.tells rest.fields);
    }
parts_of _ g are text value is = absurd are

-- ranges begin with a blank, whatever comes after them
ranges_begin : (back after : List ℕ) (ranges : Value (Many RANGE)) → Spells (Many RANGE) back ranges → begins_with is_solid (back ++ after) ≡ false
ranges_begin back after [] is = absurd (omega (arith, is.0))
ranges_begin back after (r ∷ ranges) is =
    no_solid (back ++ after) (rw (is.1.2, append_assoc is.1.0 is.1.1 after) (separator_front RANGE refl is.1.0 (is.1.1 ++ after) r is.1.3))

-- the call at the front of an INLINE record
abbrev call_of : Value INLINE → Value CALL
call_of value = (value.0, (value.1.0, (value.1.1.0, (value.1.1.1.0, tt))))

-- it is read from the text where the record stands
pub call_stands : (bytes : List ℕ) (start : ℕ) (body : List ℕ) (call : InlineCall) (ranges : List Range) → IsRecordAt bytes start body →
    Spells INLINE body (inline_told call ranges) → call_in (drop start bytes) ≡ Some (call_told call)
call_stands bytes start body call ranges stands is =
    let at = body_stands bytes start body stands in
    let parts = parts_of CALL (Many RANGE) tt body (inline_told call ranges) is in
    let text : drop start bytes ≡ parts.front ++ (parts.back ++ at.0) = at.1 ∙ ap (λ t. t ++ at.0) parts.whole ∙ append_assoc parts.front parts.back at.0 in
    let same : parts.fields ≡ call_told call = sym (ap call_of parts.value_is) in
    ap call_in text
    ∙ ap (option_map (λ (read : Value CALL × List ℕ). read.0)) (again CALL refl parts.front (parts.back ++ at.0) parts.fields parts.front_is (ranges_begin parts.back at.0 parts.end parts.back_is))
    ∙ ap Some same

-- so what is kept of its ranges are the inlined calls that it says
pub ranges_say : (bytes : List ℕ) (call : InlineCall) (place : ℕ) → call_in (drop place bytes) ≡ Some (call_told call) → (ranges : List Range) →
    map (kept_call bytes) (map (range_kept call.depth place) ranges) ≡ inlinees_told call ranges
ranges_say bytes call place reads [] = refl
ranges_say bytes call place reads (r ∷ ranges) = ap₂ (λ i rest. i ∷ rest) one (ranges_say bytes call place reads ranges) where
  one : kept_call bytes (range_kept call.depth place r) ≡ inlinee_told call r
  one = rw (reads, div-add-mod' r.addr 4294967296) refl
