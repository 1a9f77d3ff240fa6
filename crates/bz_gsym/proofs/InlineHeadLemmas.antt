-- The head of a node: one that is read is spelled in front of the bytes, and one that is spelled there
-- is read.
use Rattle.std.proofs.Common.{◌≡◌, ℕ, zero, suc, true, false, not, List, [], ◌∷◌, ◌++◌, length, Bool, cond, Option, Some, None, option_map, nat_eq, refl, sym, ap, subst, ◌∙◌, arith, append_assoc}
use Rattle.std.proofs.lemmas.Bool.{eqb-true, eqb-false, ne_eqb}
use Rattle.std.proofs.lemmas.Option.{same_Some}
use Rattle.bz_base.specs.Cursor.{IsInFront, IsWord, byte_at, word_at}
use Rattle.bz_base.specs.Leb128.{IsUleb, uleb_at}
use Rattle.bz_base.proofs.PieceOfBytesLemmas.{map_some}
use Rattle.bz_gsym.specs.InlineReader.{range_at, before, ranges_at, Tail, tail_at, filled_at, there, head_at}
use Rattle.bz_gsym.specs.InlineSpelling.{AreRanges, IsHead}
use Rattle.bz_gsym.specs.InlineTree.{Head}
use Rattle.bz_gsym.proofs.InlinePieceLemmas.{byte_front, uleb_again, uleb_front, word_again, word_front}
use Rattle.bz_gsym.proofs.InlineReaderLemmas.{bind_then}

-- ranges
module _ (bytes : List ℕ) (x : (ℕ × ℕ) × List ℕ) where
  range_found : range_at bytes ≡ Some x → (offset size : List ℕ) × (bytes ≡ offset ++ (size ++ x.1)) × IsUleb x.0.0 offset × IsUleb x.0.1 size
  unfolding range_at
  range_found read =
      bind_then (uleb_at bytes) _ x read (λ offset offset_is read.
      bind_then (uleb_at offset.1) _ x read (λ size size_is read.
      let offset_found = uleb_front bytes offset offset_is in
      let size_found = uleb_front offset.1 size size_is in
      let P : (ℕ × ℕ) × List ℕ → Type 0 = λ x. (offset size : List ℕ) × (bytes ≡ offset ++ (size ++ x.1)) × IsUleb x.0.0 offset × IsUleb x.0.1 size in
      subst P (same_Some _ x read) (offset_found.text, size_found.text, offset_found.whole ∙ ap (λ r. offset_found.text ++ r) size_found.whole, offset_found.is, size_found.is)))

range_again : (offset size : List ℕ) (range : ℕ × ℕ) (rest : List ℕ) → IsUleb range.0 offset → IsUleb range.1 size → range_at (offset ++ (size ++ rest)) ≡ Some (range, rest)
unfolding range_at
range_again offset size range rest offset_is size_is = rw (uleb_again offset range.0 (size ++ rest) offset_is, uleb_again size range.1 rest size_is) refl

-- so many ranges at the front
record RangesFront (count : ℕ) (bytes : List ℕ) (ranges : List (ℕ × ℕ)) (rest : List ℕ) : Type 0 where
  text : List ℕ
  whole : bytes ≡ text ++ rest
  is : AreRanges ranges text
  counted : length ranges ≡ count

ranges_found : (count : ℕ) (bytes : List ℕ) (x : List (ℕ × ℕ) × List ℕ) → ranges_at count bytes ≡ Some x → RangesFront count bytes x.0 x.1
ranges_found zero bytes x read =
    let P : List (ℕ × ℕ) × List ℕ → Type 0 = λ x. RangesFront 0 bytes x.0 x.1 in
    subst P (same_Some ([], bytes) x read) (record { text = []; whole = refl; is = refl; counted = refl })
ranges_found (suc count) bytes x read =
    bind_then (range_at bytes) (λ range. option_map (before range.0) (ranges_at count range.1)) x read (λ range range_is read.
    let found = map_some (before range.0) (ranges_at count range.1) x read in
    let first = range_found bytes range range_is in
    let later = ranges_found count range.1 found.0 found.1 in
    let P : List (ℕ × ℕ) × List ℕ → Type 0 = λ x. RangesFront (suc count) bytes x.0 x.1 in
    subst P found.2 (record {
      text = first.0 ++ (first.1 ++ later.text);
      whole = first.2 ∙ ap (λ r. first.0 ++ (first.1 ++ r)) later.whole
          ∙ sym (append_assoc first.0 (first.1 ++ later.text) found.0.1 ∙ ap (λ r. first.0 ++ r) (append_assoc first.1 later.text found.0.1));
      is = (first.0, first.1, later.text, refl, first.3, first.4, later.is);
      counted = ap suc later.counted;
    }))

ranges_again : (ranges : List (ℕ × ℕ)) (text rest : List ℕ) → AreRanges ranges text → ranges_at (length ranges) (text ++ rest) ≡ Some (ranges, rest)
ranges_again [] text rest is = rw is refl
ranges_again (range ∷ ranges) text rest is =
    let whole : text ++ rest ≡ is.0 ++ (is.1 ++ (is.2 ++ rest))
    = ap (λ t. t ++ rest) is.3 ∙ append_assoc is.0 (is.1 ++ is.2) rest ∙ ap (λ r. is.0 ++ r) (append_assoc is.1 is.2 rest) in
    rw (whole, range_again is.0 is.1 range (is.2 ++ rest) is.4 is.5, ranges_again ranges is.2 rest is.6) refl

-- what stands after the ranges, at the front
record TailFront (bytes : List ℕ) (tail : Tail) (rest : List ℕ) : Type 0 where
  flag : ℕ
  name : List ℕ
  call_file : List ℕ
  call_line : List ℕ
  whole : bytes ≡ flag ∷ (name ++ (call_file ++ (call_line ++ rest)))
  flag_is : tail.has_children ≡ not (nat_eq flag 0)
  name_is : IsWord 4 tail.name name
  file_is : IsUleb tail.call_file call_file
  line_is : IsUleb tail.call_line call_line

tail_found : (bytes : List ℕ) (x : Tail × List ℕ) → tail_at bytes ≡ Some x → TailFront bytes x.0 x.1
unfolding tail_at
tail_found bytes x read =
    bind_then (byte_at bytes) _ x read (λ flag flag_is read.
    bind_then (word_at 4 flag.1) _ x read (λ name name_is read.
    bind_then (uleb_at name.1) _ x read (λ file file_is read.
    bind_then (uleb_at file.1) _ x read (λ line line_is read.
    let name_found = word_front flag.1 name name_is in
    let file_found = uleb_front name.1 file file_is in
    let line_found = uleb_front file.1 line line_is in
    let P : Tail × List ℕ → Type 0 = λ x. TailFront bytes x.0 x.1 in
    subst P (same_Some _ x read) (record {
      flag = flag.0;
      name = name_found.text;
      call_file = file_found.text;
      call_line = line_found.text;
      whole = byte_front bytes flag flag_is
          ∙ ap (λ r. flag.0 ∷ r) (name_found.whole ∙ ap (λ r. name_found.text ++ r) (file_found.whole ∙ ap (λ r. file_found.text ++ r) line_found.whole));
      flag_is = refl;
      name_is = name_found.is;
      file_is = file_found.is;
      line_is = line_found.is;
    })))))

-- what is spelled as the head of a node, or as the end of siblings
abbrev pub HeadFront : Option Head → List ℕ → List ℕ → Type 0
HeadFront None bytes rest = IsInFront (IsUleb 0) bytes rest
HeadFront (Some head) bytes rest = IsInFront (IsHead head) bytes rest

filled_found : (count : ℕ × List ℕ) (bytes : List ℕ) → uleb_at bytes ≡ Some count → (count.0 ≡ 0 → ⊥) → (x : Head × List ℕ) → filled_at count.0 count.1 ≡ Some x → IsInFront (IsHead x.0) bytes x.1
unfolding filled_at
filled_found count bytes count_is some x read =
    bind_then (ranges_at count.0 count.1) _ x read (λ ranges ranges_is read.
    bind_then (tail_at ranges.1) _ x read (λ tail tail_is read.
    let count_found = uleb_front bytes count count_is in
    let ranges_front = ranges_found count.0 count.1 ranges ranges_is in
    let tail_front = tail_found ranges.1 tail tail_is in
    let counted = ranges_front.counted in
    let P : Head × List ℕ → Type 0 = λ x. IsInFront (IsHead x.0) bytes x.1 in
    let U : ℕ → Type 0 = λ n. IsUleb n count_found.text in
    subst P (same_Some _ x read) (record {
      text = count_found.text ++ (ranges_front.text ++ tail_front.flag ∷ (tail_front.name ++ (tail_front.call_file ++ tail_front.call_line)));
      whole = count_found.whole ∙ ap (λ r. count_found.text ++ r) (ranges_front.whole ∙ ap (λ r. ranges_front.text ++ r) tail_front.whole) ∙ sym (simp append_assoc);
      is = record {
        count = count_found.text;
        ranges = ranges_front.text;
        flag = tail_front.flag;
        name = tail_front.name;
        call_file = tail_front.call_file;
        call_line = tail_front.call_line;
        whole = refl;
        positive = omega arith;
        count_is = subst U (sym counted) count_found.is;
        ranges_are = ranges_front.is;
        flag_is = tail_front.flag_is;
        name_is = tail_front.name_is;
        file_is = tail_front.file_is;
        line_is = tail_front.line_is;
      };
    })))

module _ (bytes : List ℕ) (count : ℕ × List ℕ) (count_is : uleb_at bytes ≡ Some count) (x : Option Head × List ℕ) where
  by_count : (b : Bool) → nat_eq count.0 0 ≡ b → cond {A = Option (Option Head × List ℕ)} b (Some (None, count.1)) (option_map there (filled_at count.0 count.1)) ≡ Some x → HeadFront x.0 bytes x.1
  by_count true none read =
      let found = uleb_front bytes count count_is in
      let P : Option Head × List ℕ → Type 0 = λ x. HeadFront x.0 bytes x.1 in
      let U : ℕ → Type 0 = λ n. IsInFront (IsUleb n) bytes count.1 in
      subst P (same_Some (None, count.1) x read) (subst U (eqb-true count.0 0 none) found)
  by_count false some read =
      let found = map_some there (filled_at count.0 count.1) x read in
      let P : Option Head × List ℕ → Type 0 = λ x. HeadFront x.0 bytes x.1 in
      subst P found.2 (filled_found count bytes count_is (eqb-false count.0 0 some) found.0 found.1)

pub head_found : (bytes : List ℕ) (x : Option Head × List ℕ) → head_at bytes ≡ Some x → HeadFront x.0 bytes x.1
unfolding head_at
head_found bytes x read = bind_then (uleb_at bytes) _ x read (λ count count_is read. by_count bytes count count_is x (nat_eq count.0 0) refl read)

pub end_again : (text rest : List ℕ) → IsUleb 0 text → head_at (text ++ rest) ≡ Some (None, rest)
unfolding head_at
end_again text rest is = rw (uleb_again text 0 rest is) refl

pub head_again : (head : Head) (own rest : List ℕ) → IsHead head own → head_at (own ++ rest) ≡ Some (Some head, rest)
unfolding head_at filled_at tail_at byte_at
head_again head own rest is =
    let positive = is.positive in
    let whole : own ++ rest ≡ is.count ++ (is.ranges ++ is.flag ∷ (is.name ++ (is.call_file ++ (is.call_line ++ rest))))
    = ap (λ t. t ++ rest) is.whole ∙ simp append_assoc in
    rw (
      whole,
      uleb_again is.count (length head.ranges) (is.ranges ++ is.flag ∷ (is.name ++ (is.call_file ++ (is.call_line ++ rest)))) is.count_is,
      ne_eqb (length head.ranges) 0 (λ none. omega arith),
      ranges_again head.ranges is.ranges (is.flag ∷ (is.name ++ (is.call_file ++ (is.call_line ++ rest)))) is.ranges_are,
      word_again is.name head.name (is.call_file ++ (is.call_line ++ rest)) is.name_is,
      uleb_again is.call_file head.call_file (is.call_line ++ rest) is.file_is,
      uleb_again is.call_line head.call_line rest is.line_is,
    )
    (ap (λ has. Some (Some (record { ranges = head.ranges; has_children = has; name = head.name; call_file = head.call_file; call_line = head.call_line }), rest)) (sym is.flag_is))
