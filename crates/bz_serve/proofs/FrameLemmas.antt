-- The frame that is read of a text is the one that it spells.
use Rattle.std.proofs.Common.{◌≡◌, ℕ, Bool, true, false, cond, List, [], ◌∷◌, Some, None, option_map, option_and_then, refl, ap, ap₂, subst, ◌∙◌}
use Rattle.std.specs.Str.{IsUtf8, is_utf8}
use Rattle.std.proofs.lemmas.Str.{is_utf8-from_IsUtf8, IsUtf8-from_is_utf8}
use Rattle.bz_requests.specs.Addresses.{IsAddress, address_in}
use Rattle.bz_requests.specs.Fields.{AreFields, fields}
use Rattle.bz_requests.specs.Lines.{ReadsAsSpelled}
use Rattle.bz_requests.proofs.AddressLemmas.{address_found, address_again}
use Rattle.bz_requests.proofs.FieldLemmas.{are_fields, fields_are}
use Rattle.bz_requests.proofs.OptionLemmas.{map_some, then_some}
use Rattle.bz_store.specs.Frames.{Frame}
use Rattle.bz_serve.specs.FrameLines.{IsFrame, frame_at, frame_by, frame_in, text_in}

-- UTF-8 text is a text
pub text_some : (field : List ℕ) → IsUtf8 field → text_in field ≡ Some field
text_some field utf8 = rw (is_utf8-from_IsUtf8 field utf8) refl

-- and another field isn't
pub text_none : (field : List ℕ) → (IsUtf8 field → ⊥) → text_in field ≡ None
text_none field never = by_test (is_utf8 field) refl
  where
    by_test : (test : Bool) → is_utf8 field ≡ test → cond test (Some field) None ≡ None
    by_test true is = absurd (never (IsUtf8-from_is_utf8 field is))
    by_test false is = refl

-- the text that is read is the field itself, and UTF-8
text_found : (field text : List ℕ) → text_in field ≡ Some text → (field ≡ text) × IsUtf8 text
text_found field text read = by_test (is_utf8 field) refl read
  where
    by_test : (test : Bool) → is_utf8 field ≡ test → cond test (Some field) None ≡ Some text → (field ≡ text) × IsUtf8 text
    by_test false is from = cc
    by_test true is from =
        let same : field ≡ text = cc in
        (same, subst IsUtf8 same (IsUtf8-from_is_utf8 field is))

-- what fields spell, for fields of any text
record Spell (all : List (List ℕ)) (frame : Frame) : Type 0 where
  addr : List ℕ
  are : all ≡ frame.file.0 ∷ frame.file.1 ∷ addr ∷ []
  name_is_text : IsUtf8 frame.file.0
  id_is_text : IsUtf8 frame.file.1
  offset : IsAddress addr frame.offset

-- a name, an id and an offset that are read of three fields are those that they spell
frame_of_three : (name id addr : List ℕ) (frame : Frame) → frame_by (name ∷ id ∷ addr ∷ []) ≡ Some frame → Spell (name ∷ id ∷ addr ∷ []) frame
frame_of_three name id addr frame read =
    let first = then_some (λ name. option_and_then (λ id. option_map (frame_at name id) (address_in addr)) (text_in id)) (text_in name) frame read in
    let second = then_some (λ id. option_map (frame_at first.0 id) (address_in addr)) (text_in id) frame first.2 in
    let third = map_some (frame_at first.0 second.0) (address_in addr) frame second.2 in
    let name_is = text_found name first.0 first.1 in
    let id_is = text_found id second.0 second.1 in
    subst (Spell (name ∷ id ∷ addr ∷ [])) third.2 (record {
      addr = addr;
      are = ap₂ (λ n i. n ∷ i ∷ addr ∷ []) name_is.0 id_is.0;
      name_is_text = name_is.1;
      id_is_text = id_is.1;
      offset = address_found addr third.0 third.1;
    })

fields_found : (all : List (List ℕ)) (frame : Frame) → frame_by all ≡ Some frame → Spell all frame
fields_found [] frame read = cc
fields_found (name ∷ []) frame read = cc
fields_found (name ∷ id ∷ []) frame read = cc
fields_found (name ∷ id ∷ addr ∷ []) frame read = frame_of_three name id addr frame read
fields_found (name ∷ id ∷ addr ∷ more ∷ others) frame read = cc

pub frame_found : (text : List ℕ) (frame : Frame) → frame_in text ≡ Some frame → IsFrame text frame
unfolding frame_in
frame_found text frame read =
    let spelled = fields_found (fields text) frame read in
    record {
      addr = spelled.addr;
      are_fields = subst (AreFields text) spelled.are (are_fields text);
      name_is_text = spelled.name_is_text;
      id_is_text = spelled.id_is_text;
      offset = spelled.offset;
    }

pub frame_again : (text : List ℕ) (frame : Frame) → IsFrame text frame → frame_in text ≡ Some frame
unfolding frame_in
frame_again text frame is =
    ap frame_by (fields_are text (frame.file.0 ∷ frame.file.1 ∷ is.addr ∷ []) is.are_fields)
    ∙ rw (text_some frame.file.0 is.name_is_text, text_some frame.file.1 is.id_is_text, address_again is.addr frame.offset is.offset) refl

-- so reader and relation agree
pub frame_agrees : ReadsAsSpelled frame_in IsFrame
frame_agrees b content frame = (frame_found (b ∷ content) frame, frame_again (b ∷ content) frame)
