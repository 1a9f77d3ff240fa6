-- A line of a mapping is read exactly as its fields stand.
use Rattle.std.proofs.Common.{◌≡◌, ℕ, zero, suc, ◌<◌, Bool, true, false, List, [], ◌∷◌, ◌++◌, length, take, drop, Some, nat_eq, nat_le, refl, sym, ap, subst, ◌∙◌, arith}
use Rattle.std.specs.Char.{is_digit, digit_value}
use Rattle.std.specs.List.{prefix_len}
use Rattle.std.proofs.lemmas.Bool.{eqb-true, ltb-true, leb-true, le-leb, false_from_ne_true, false≢true}
use Rattle.std.proofs.lemmas.List.{take-append-drop}
use Rattle.std.proofs.lemmas.Option.{cond_some, none-some, same_Some}
use Rattle.std.proofs.Math.Seq.{drop-append_seam}
use Rattle.bz_base.specs.Byte.{space, dash, begins_with}
use Rattle.bz_base.specs.Number.{hex_at}
use Rattle.bz_base.proofs.NumberLemmas.{number_found, number_again}
use Rattle.bz_proc.specs.MappingLine.{Line, is_space, is_solid, is_decimal, at_least_one, exactly_four, one_to_twenty, IsRun, IsWord, IsDash, AreSpaces, ArePermissions, IsDevice, IsInode, IsEnd, ◌·◌, Joined, IsLine, after_run, after_dash, end_text, in_order, span_at, offset_at, last_at, line_in}
use Rattle.bz_proc.proofs.RunLemmas.{bind_some, AllOf, front_bytes, front_ends, run_len, run_found, run_again, begins_otherwise, no_space, space_otherwise}

-- The first byte of each part.

-- a number that doesn't fit as none, is more
more_than_none : (fits : ℕ → Bool) (n : ℕ) → fits 0 ≡ false → fits n ≡ true → 0 < n
more_than_none fits zero none is = absurd (false≢true (sym none ∙ is))
more_than_none fits (suc n) none is = omega arith

word_begins : (number : ℕ) (word rest : List ℕ) → IsWord number word → begins_with is_space (word ++ rest) ≡ false
word_begins number [] rest is = absurd (omega (arith, is.positive))
word_begins number (b ∷ word) rest is =
    let P : ℕ → Type 0 = λ c. digit_value c < 16 in
    false_from_ne_true (is_space b) (λ same. let small : digit_value space < 16 = subst P (eqb-true b space same) is.digits.0 in omega (arith, small))

module _ {Second : List ℕ → Type 0} {text : List ℕ} where
  -- a number is no space
  word_first : (number : ℕ) → Joined (IsWord number) Second text → begins_with is_space text ≡ false
  word_first number is = rw is.parts (word_begins number is.front is.back is.first)

  -- spaces are nothing else
  spaces_first : (kind : ℕ → Bool) → kind space ≡ false → Joined AreSpaces Second text → begins_with kind text ≡ false
  spaces_first kind other is =
      rw is.parts (begins_otherwise is_space kind is.front is.back (ltb-true 0 (length is.front) is.first.many) is.first.bytes (space_otherwise kind other))

  -- a field is no space
  field_first : (kind fits : ℕ → Bool) → kind space ≡ false → fits 0 ≡ false → Joined (IsRun kind fits) Second text → begins_with is_space text ≡ false
  field_first kind fits other none is =
      rw is.parts (begins_otherwise kind is_space is.front is.back (more_than_none fits (length is.front) none is.first.many) is.first.bytes (no_space kind other))

  -- a dash is no digit
  dash_first : Joined IsDash Second text → begins_with (λ b. is_digit b 16) text ≡ false
  dash_first is = rw (is.parts, is.first) refl

  -- Each part is read, where it can't go on.

  word_read : (number : ℕ) (is : Joined (IsWord number) Second text) → begins_with (λ b. is_digit b 16) is.back ≡ false → hex_at 16 text ≡ Some (number, is.back)
  word_read number is ends = ap (hex_at 16) is.parts ∙ number_again 16 16 is.front is.back number is.first ends

  run_read : (kind fits : ℕ → Bool) (is : Joined (IsRun kind fits) Second text) → begins_with kind is.back ≡ false → after_run kind fits text ≡ Some is.back
  run_read kind fits is ends = ap (after_run kind fits) is.parts ∙ run_again kind fits is.front is.back is.first ends

  dash_read : (is : Joined IsDash Second text) → after_dash text ≡ Some is.back
  unfolding after_dash
  dash_read is = rw (is.parts, is.first) refl

-- The end of a line.

-- it begins with no digit
end_first : (text whole : List ℕ) → IsEnd text whole → begins_with is_decimal whole ≡ false
end_first text whole is = ap (begins_with is_decimal) is.parts ∙ by is.spaces text is.bytes is.apart where
  by : (spaces text : List ℕ) → AllOf is_space spaces → (0 < length text → 0 < length spaces) → begins_with is_decimal (spaces ++ text) ≡ false
  by [] [] bytes apart = refl
  by [] (b ∷ text) bytes apart = absurd (omega (arith, apart (omega arith)))
  by (b ∷ spaces) text bytes apart = space_otherwise is_decimal refl b bytes.0

end_read : (spaces text : List ℕ) → AllOf is_space spaces → (0 < length text → 0 < length spaces) → begins_with is_space text ≡ false →
    end_text (spaces ++ text) ≡ Some text
unfolding end_text
end_read [] [] bytes apart begins = refl
end_read [] (b ∷ text) bytes apart begins = absurd (omega (arith, apart (omega arith)))
end_read (b ∷ spaces) text bytes apart begins = rw (bytes.0, run_len is_space spaces text bytes.1 begins, drop-append_seam spaces text) refl

-- its text is read
end_again : (text whole : List ℕ) → IsEnd text whole → end_text whole ≡ Some text
end_again text whole is = ap end_text is.parts ∙ end_read is.spaces text is.bytes is.apart is.begins

-- and the text that is read is its
end_found : (whole text : List ℕ) → end_text whole ≡ Some text → IsEnd text whole
unfolding end_text
end_found [] text read =
    let P : List ℕ → Type 0 = λ t. IsEnd t [] in
    subst P (same_Some [] text read) (record { spaces = []; parts = refl; bytes = tt; apart = λ few. few; begins = refl })
end_found (b ∷ rest) text read =
    let n = prefix_len is_space rest in
    let given = cond_some (is_space b) (drop n rest) text read in
    let P : List ℕ → Type 0 = λ t. IsEnd t (b ∷ rest) in
    subst P given.1 (record {
      spaces = b ∷ take n rest;
      parts = ap (λ t. b ∷ t) (sym (take-append-drop n rest));
      bytes = (given.0, front_bytes is_space rest);
      apart = λ few. omega arith;
      begins = front_ends is_space rest;
    })

-- The dash.

dash_found : (text rest : List ℕ) → after_dash text ≡ Some rest → text ≡ dash ∷ rest
unfolding after_dash
dash_found [] rest read = absurd (none-some rest read)
dash_found (b ∷ text) rest read =
    let given = cond_some (nat_eq b dash) text rest read in
    ap (λ c. c ∷ text) (eqb-true b dash given.0) ∙ ap (λ t. dash ∷ t) given.1

-- Whole lines.

-- a line is read
pub line_again : (line : List ℕ) (told : Line) → IsLine line told → line_in line ≡ Some told
line_again line told is =
    let start = is.fields in
    let after = start.second in
    let past = after.second in
    let gap = past.second in
    let permissions = gap.second in
    let gap_2 = permissions.second in
    let offset = gap_2.second in
    let gap_3 = offset.second in
    let device = gap_3.second in
    let gap_4 = device.second in
    let inode = gap_4.second in
    let last = inode.second in
    rw (
      word_read told.start start (dash_first after),
      dash_read after,
      word_read told.past past (spaces_first (λ b. is_digit b 16) refl gap),
      run_read is_space at_least_one gap (field_first is_solid exactly_four refl refl permissions),
      run_read is_solid exactly_four permissions (spaces_first is_solid refl gap_2),
      run_read is_space at_least_one gap_2 (word_first told.offset offset),
      word_read told.offset offset (spaces_first (λ b. is_digit b 16) refl gap_3),
      run_read is_space at_least_one gap_3 (field_first is_solid at_least_one refl refl device),
      run_read is_solid at_least_one device (spaces_first is_solid refl gap_4),
      run_read is_space at_least_one gap_4 (field_first is_decimal one_to_twenty refl refl inode),
      run_read is_decimal one_to_twenty inode (end_first told.text inode.back last),
      end_again told.text inode.back last,
      le-leb told.start told.past is.ordered,
    ) refl

-- Parts that are read stand in front of what is read of the rest.

joined : (First Second : List ℕ → Type 0) (text front back : List ℕ) → text ≡ front ++ back → First front → Second back → Joined First Second text
joined First Second text front back parts first second = record { front = front; back = back; parts = parts; first = first; second = second }

word_found : (Second : List ℕ → Type 0) (text : List ℕ) (read : ℕ × List ℕ) → hex_at 16 text ≡ Some read → Second read.1 → Joined (IsWord read.0) Second text
word_found Second text read is second =
    let at = number_found 16 16 text read.0 read.1 is in
    joined (IsWord read.0) Second text at.front read.1 at.split at.number second

part_found : (kind fits : ℕ → Bool) (Second : List ℕ → Type 0) (text rest : List ℕ) → after_run kind fits text ≡ Some rest → Second rest →
    Joined (IsRun kind fits) Second text
part_found kind fits Second text rest is second =
    let at = run_found kind fits text rest is in
    joined (IsRun kind fits) Second text at.0 rest at.2 at.1 second

dash_joined : (Second : List ℕ → Type 0) (text rest : List ℕ) → after_dash text ≡ Some rest → Second rest → Joined IsDash Second text
dash_joined Second text rest is second = joined IsDash Second text (dash ∷ []) rest (dash_found text rest is) refl second

-- start and end, in front of any rest
span_joined : (Second : List ℕ → Type 0) (line : List ℕ) (start : ℕ × List ℕ) (past : List ℕ) (read : ℕ × List ℕ) →
    hex_at 16 line ≡ Some start → after_dash start.1 ≡ Some past → hex_at 16 past ≡ Some read → Second read.1 →
    (IsWord start.0 · IsDash · IsWord read.0 · Second) line
span_joined Second line start past read first second third rest =
    word_found (IsDash · IsWord read.0 · Second) line start first
    (dash_joined (IsWord read.0 · Second) start.1 past second (word_found Second past read third rest))

span_found : (Second : List ℕ → Type 0) (line : List ℕ) (read : (ℕ × ℕ) × List ℕ) → span_at line ≡ Some read → Second read.1 →
    (IsWord read.0.0 · IsDash · IsWord read.0.1 · Second) line
span_found Second line read is =
    let start = bind_some (hex_at 16 line) _ read is in
    let past = bind_some (after_dash start.0.1) _ read start.2 in
    let last = bind_some (hex_at 16 past.0) _ read past.2 in
    let P : (ℕ × ℕ) × List ℕ → Type 0 = λ r. Second r.1 → (IsWord r.0.0 · IsDash · IsWord r.0.1 · Second) line in
    subst P (same_Some ((start.0.0, last.0.0), last.0.1) read last.2) (span_joined Second line start.0 past.0 last.0 start.1 past.1 last.1)

-- permissions and offset, in front of any rest
offset_found : (Second : List ℕ → Type 0) (text : List ℕ) (read : ℕ × List ℕ) → offset_at text ≡ Some read → Second read.1 →
    (AreSpaces · ArePermissions · AreSpaces · IsWord read.0 · Second) text
offset_found Second text read is rest =
    let permissions = bind_some (after_run is_space at_least_one text) _ read is in
    let gap = bind_some (after_run is_solid exactly_four permissions.0) _ read permissions.2 in
    let offset = bind_some (after_run is_space at_least_one gap.0) _ read gap.2 in
    part_found is_space at_least_one (ArePermissions · AreSpaces · IsWord read.0 · Second) text permissions.0 permissions.1
    (part_found is_solid exactly_four (AreSpaces · IsWord read.0 · Second) permissions.0 gap.0 gap.1
    (part_found is_space at_least_one (IsWord read.0 · Second) gap.0 offset.0 offset.1 (word_found Second offset.0 read offset.2 rest)))

-- device, inode and the end of the line
last_found : (text last : List ℕ) → last_at text ≡ Some last → (AreSpaces · IsDevice · AreSpaces · IsInode · IsEnd last) text
last_found text last is =
    let device = bind_some (after_run is_space at_least_one text) _ last is in
    let gap = bind_some (after_run is_solid at_least_one device.0) _ last device.2 in
    let inode = bind_some (after_run is_space at_least_one gap.0) _ last gap.2 in
    let rest = bind_some (after_run is_decimal one_to_twenty inode.0) _ last inode.2 in
    part_found is_space at_least_one (IsDevice · AreSpaces · IsInode · IsEnd last) text device.0 device.1
    (part_found is_solid at_least_one (AreSpaces · IsInode · IsEnd last) device.0 gap.0 gap.1
    (part_found is_space at_least_one (IsInode · IsEnd last) gap.0 inode.0 inode.1
    (part_found is_decimal one_to_twenty (IsEnd last) inode.0 rest.0 rest.1 (end_found rest.0 last rest.2))))

-- what is read of a line stands in it
pub line_found : (line : List ℕ) (told : Line) → line_in line ≡ Some told → IsLine line told
line_found line told read =
    let span = bind_some (span_at line) _ told read in
    let offset = bind_some (offset_at span.0.1) _ told span.2 in
    let last = bind_some (last_at offset.0.1) _ told offset.2 in
    whole span.0 offset.0 last.0 span.1 offset.1 last.1 last.2
  where
    whole : (span : (ℕ × ℕ) × List ℕ) (offset : ℕ × List ℕ) (last : List ℕ) → span_at line ≡ Some span → offset_at span.1 ≡ Some offset →
        last_at offset.1 ≡ Some last → in_order (record { start = span.0.0; past = span.0.1; offset = offset.0; text = last }) ≡ Some told → IsLine line told
    whole span offset last first second third read =
        let given : Line = record { start = span.0.0; past = span.0.1; offset = offset.0; text = last } in
        let same = cond_some (nat_le given.start given.past) given told read in
        subst (IsLine line) same.1 (record {
          fields = span_found (AreSpaces · ArePermissions · AreSpaces · IsWord offset.0 · AreSpaces · IsDevice · AreSpaces · IsInode · IsEnd last) line span first
              (offset_found (AreSpaces · IsDevice · AreSpaces · IsInode · IsEnd last) span.1 offset second (last_found offset.1 last third));
          ordered = leb-true given.start given.past same.0;
        })
