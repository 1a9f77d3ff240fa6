-- A text that is used stands in the string table at its place. A source file that is used stands among
-- the files at its index.
use Rattle.std.proofs.Common.{◌≡◌, ℕ, zero, suc, ◌+◌, ◌≤◌, Bool, true, false, cond, not, flat_map, List, [], ◌∷◌, ◌++◌, length, Some, refl, sym, ap, ◌∙◌, arith, append_assoc}
use Rattle.std.specs.List.{filter, slice_get}
use Rattle.std.specs.Str.{IsUtf8, bytes_eq}
use Rattle.std.proofs.lemmas.Bool.{and_parts, true≢false}
use Rattle.std.proofs.lemmas.List.{length-append}
use Rattle.std.proofs.lemmas.Option.{none-some, same_Some}
use Rattle.std.proofs.lemmas.Slice.Eq.{bytes_eq-Decides}
use Rattle.bz_base.specs.Byte.{HasNo, zero_byte}
use Rattle.bz_gsym.specs.Strings.{string_at}
use Rattle.bz_gsym.proofs.TextLaws.{string_spelled}
use Rattle.bz_gsym_layout.specs.Layout.{Tables, string_bytes, text_place}
use Rattle.bz_gsym_layout.specs.Numbering.{firsts, index_of, place_from, same_source, stored}
use Rattle.bz_gsym_layout.specs.Plan.{Source}
use Rattle.bz_gsym_layout.specs.Members.{In}
use Rattle.bz_gsym_layout.proofs.MemberLemmas.{filter_to}

pub text_is_same : (a : List ℕ) → bytes_eq a a ≡ true
text_is_same a = (bytes_eq-Decides a a).1 refl

pub text_same : (a b : List ℕ) → bytes_eq a b ≡ true → a ≡ b
text_same a b is = (bytes_eq-Decides a b).0 is

pub source_is_same : (s : Source) → same_source s s ≡ true
source_is_same s = rw (text_is_same s.dir, text_is_same s.file) refl

pub source_same : (a b : Source) → same_source a b ≡ true → a ≡ b
source_same a b is =
    let parts = and_parts (bytes_eq a.dir b.dir) (bytes_eq a.file b.file) is in
    ap (λ (d : List ℕ). record { dir = d; file = a.file }) (text_same a.dir b.dir parts.0)
    ∙ ap (λ (f : List ℕ). record { dir = b.dir; file = f }) (text_same a.file b.file parts.1)

module _ {X : Type 0} (same : X → X → Bool) (itself : (x : X) → same x x ≡ true) (exact : (x y : X) → same x y ≡ true → x ≡ y) where
  -- what stands in a list stands among its firsts
  pub in_firsts : (xs : List X) (x : X) → In xs x → In (firsts same xs) x
  in_firsts [] x (i, there) = absurd (none-some x there)
  in_firsts (y ∷ xs) x (zero, there) = (0, there)
  in_firsts (y ∷ xs) x (suc i, there) = by (same y x) refl (in_firsts xs x (i, there)) where
    by : (b : Bool) → same y x ≡ b → In (firsts same xs) x → In (y ∷ filter (λ z. not (same y z)) (firsts same xs)) x
    by true is found = (0, ap Some (exact y x is))
    by false is found = let k = filter_to (λ z. not (same y z)) (firsts same xs) found.0 x found.1 (ap not is) in (suc k.0, k.1)

  -- and it stands at its index
  pub at_index : (xs : List X) (x : X) → In xs x → slice_get xs (index_of same x xs) ≡ Some x
  at_index [] x (i, there) = absurd (none-some x there)
  at_index (y ∷ xs) x (zero, there) = let e : y ≡ x = same_Some y x there in rw (ap (λ z. same z x) e ∙ itself x) there
  at_index (y ∷ xs) x (suc i, there) = by (same y x) refl (at_index xs x (i, there)) where
    by : (b : Bool) → same y x ≡ b → slice_get xs (index_of same x xs) ≡ Some x → slice_get (y ∷ xs) (cond b 0 (suc (index_of same x xs))) ≡ Some x
    by true is found = ap Some (exact y x is)
    by false is found = found

-- a text among others that lie one behind another from a place on
pub record Stored (texts : List (List ℕ)) (at : ℕ) (text : List ℕ) : Type 0 where
  pub before : List ℕ
  pub after : List ℕ
  pub whole : flat_map stored texts ≡ before ++ (stored text ++ after)
  pub from : place_from at text texts ≡ at + length before

pub text_stored : (texts : List (List ℕ)) (at : ℕ) (text : List ℕ) → In texts text → Stored texts at text
text_stored [] at text (i, there) = absurd (none-some text there)
text_stored (t ∷ texts) at text (i, there) = by (bytes_eq t text) refl i there (λ j next. text_stored texts (at + length (stored t)) text (j, next)) where
  here : bytes_eq t text ≡ true → Stored (t ∷ texts) at text
  here is = record {
    before = [];
    after = flat_map stored texts;
    whole = ap (λ l. stored l ++ flat_map stored texts) (text_same t text is);
    from = rw is (omega arith);
  }

  behind : bytes_eq t text ≡ false → Stored texts (at + length (stored t)) text → Stored (t ∷ texts) at text
  behind is s = record {
    before = stored t ++ s.before;
    after = s.after;
    whole = ap (λ l. stored t ++ l) s.whole ∙ sym (append_assoc (stored t) s.before (stored text ++ s.after));
    from = rw is (omega (arith, s.from, length-append (stored t) s.before));
  }

  by : (b : Bool) → bytes_eq t text ≡ b → (i : ℕ) → slice_get (t ∷ texts) i ≡ Some text → ((j : ℕ) → slice_get texts j ≡ Some text → Stored texts (at + length (stored t)) text) → Stored (t ∷ texts) at text
  by true is i there next = here is
  by false is zero there next = let e : t ≡ text = same_Some t text there in absurd (true≢false (sym (ap (λ z. bytes_eq z text) e ∙ text_is_same text) ∙ is))
  by false is (suc j) there next = behind is (next j there)

-- a text is read at its place
pub text_read : (t : Tables) (text : List ℕ) → In t.texts text → HasNo zero_byte text → IsUtf8 text → string_at (string_bytes t) (text_place t text) ≡ Some text
text_read t text there none utf8 =
    let s = text_stored t.texts 1 text there in
    string_spelled (string_bytes t) (text_place t text) text (record {
      before = zero_byte ∷ s.before;
      after = s.after;
      whole = ap (λ l. zero_byte ∷ l) (s.whole ∙ ap (λ l. s.before ++ l) (append_assoc text (zero_byte ∷ []) s.after));
      from = omega (arith, s.from);
      no_zero = none;
      utf8 = utf8;
    })

-- each text lies at place 1 or later
pub some_place : (texts : List (List ℕ)) (at : ℕ) (text : List ℕ) → at ≤ place_from at text texts
some_place [] at text = omega arith
some_place (t ∷ texts) at text = by (bytes_eq t text) (some_place texts (at + length (stored t)) text) where
  by : (b : Bool) → at + length (stored t) ≤ place_from (at + length (stored t)) text texts → at ≤ cond b at (place_from (at + length (stored t)) text texts)
  by true later = omega arith
  by false later = omega (arith, later)
