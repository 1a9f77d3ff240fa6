-- Lines of perf maps are read exactly, one by one.
use Rattle.std.proofs.Common.{◌≡◌, ℕ, suc, ◌+◌, ◌<◌, ◌≤◌, Bool, true, false, cond, not, ◌==◌, List, [], ◌∷◌, ◌++◌, append_assoc, length, drop, Option, Some, None, option_map, refl, sym, ap, subst, ◌∙◌, arith}
use Rattle.std.specs.Prelude.{IsUtf8}
use Rattle.std.specs.Char.{digit_value}
use Rattle.std.specs.List.{filter, list_all, slice_split}
use Rattle.std.specs.Str.Parse.{AllDigits, without_leading_plus}
use Rattle.std.proofs.lemmas.Bool.{and_from, eqb-true, false_from_ne_true}
use Rattle.std.proofs.lemmas.List.{length-append}
use Rattle.std.proofs.lemmas.Option.{none-some, option_and_then_some}
use Rattle.bz_proc.specs.PerfLine.{IsPerfLine, IsPerfNumber, PerfFunction, field_at, perf_function_in, perf_number, separates, utf8_in}
use Rattle.bz_proc.specs.PerfLines.{ArePerfLines, before_functions, ends_line, functions_of, is_filled, line_front, line_len, perf_functions_in, perf_lines}
use Rattle.bz_proc.proofs.PerfFieldLemmas.{field_again, field_found}
use Rattle.bz_proc.proofs.PerfNumberLemmas.{number_again, number_found, utf8_same, utf8_text}

-- a byte of a number doesn't separate
no_digit : (c : ℕ) → (b : ℕ) → digit_value b ≡ 36 → digit_value c < 16 → (c == b) ≡ false
no_digit c b none small = false_from_ne_true (c == b) (λ is. let same : c ≡ b = eqb-true c b is in absurd (omega (arith, ap digit_value same, none)))

digit_stays : (c : ℕ) → digit_value c < 16 → not (separates c) ≡ true
digit_stays c small = rw (no_digit c 32 refl small, no_digit c 9 refl small, no_digit c 12 refl small) refl

digits_stay : (digits : List ℕ) → AllDigits 16 digits → list_all (λ c. not (separates c)) digits ≡ true
digits_stay [] are = refl
digits_stay (c ∷ digits) are = and_from (not (separates c)) (list_all (λ d. not (separates d)) digits) (digit_stays c are.0) (digits_stay digits are.1)

number_stays : (text : List ℕ) → AllDigits 16 (without_leading_plus text) → list_all (λ c. not (separates c)) text ≡ true
number_stays [] are = refl
number_stays (c ∷ text) are = by (c == 43) refl are where
  by : (plus : Bool) → (c == 43) ≡ plus → AllDigits 16 (drop (cond plus 1 0) (c ∷ text)) → list_all (λ d. not (separates d)) (c ∷ text) ≡ true
  by true is digits =
      let same : c ≡ 43 = eqb-true c 43 is in
      and_from (not (separates c)) (list_all (λ d. not (separates d)) text) (ap (λ d. not (separates d)) same) (digits_stay text digits)
  by false is digits = digits_stay (c ∷ text) digits

module _ (line : List ℕ) where
  -- a line is read as the relation says
  pub line_found : (f : PerfFunction) → perf_function_in line ≡ Some f → IsPerfLine line f
  unfolding perf_function_in
  line_found f read =
      option_and_then_some _ (field_at line) f read (λ first at_first after_first.
      option_and_then_some _ (field_at first.1) f after_first (λ second at_second after_second.
      option_and_then_some _ (perf_number first.0) f after_second (λ start at_start after_start.
      option_and_then_some _ (perf_number second.0) f after_start (λ size at_size after_size.
      made first.0 first.1 second.0 second.1 start size (field_found line first.0 first.1 at_first) (field_found first.1 second.0 second.1 at_second)
      (number_found first.0 start at_start) (number_found second.0 size at_size) (utf8_in second.1) refl after_size)))) where
        made : (start_text rest size_text name : List ℕ) (start size : ℕ) → (b : ℕ) × (separates b ≡ true) × (line ≡ start_text ++ b ∷ rest) →
            (b : ℕ) × (separates b ≡ true) × (rest ≡ size_text ++ b ∷ name) → IsPerfNumber start_text start → IsPerfNumber size_text size →
            (o : Option (List ℕ)) → utf8_in name ≡ o → option_map (λ (n : List ℕ). record { name = n; start = start; size = size }) o ≡ Some f → IsPerfLine line f
        made start_text rest size_text name start size first second is_start is_size None read is = absurd (none-some f is)
        made start_text rest size_text name start size first second is_start is_size (Some text) read is =
            let same = utf8_same name text (sym read) in
            let made_is : record { name = text; start = start; size = size } ≡ f = cc is in
            subst (IsPerfLine line) made_is (record {
              start_text = start_text;
              after_start = first.0;
              size_text = size_text;
              after_size = second.0;
              whole = first.2 ∙ ap (λ l. start_text ++ first.0 ∷ l) (second.2 ∙ ap (λ l. size_text ++ second.0 ∷ l) (sym same.0));
              start_separated = first.1;
              size_separated = second.1;
              start = is_start;
              size = is_size;
              name = subst IsUtf8 (sym same.0) same.1;
            })

  pub line_again : (f : PerfFunction) → IsPerfLine line f → perf_function_in line ≡ Some f
  unfolding perf_function_in
  line_again f is =
      let rest = is.size_text ++ is.after_size ∷ f.name in
      let first : field_at line ≡ Some (is.start_text, rest) = ap field_at is.whole ∙ field_again is.start_text rest is.after_start (number_stays is.start_text is.start.digits.1) is.start_separated in
      let second = field_again is.size_text f.name is.after_size (number_stays is.size_text is.size.digits.1) is.size_separated in
      rw (first, second, number_again is.start_text f.start is.start, number_again is.size_text f.size is.size, utf8_text f.name is.name) refl

  -- the name ends the line
  pub name_last : (f : PerfFunction) → IsPerfLine line f → (front : List ℕ) × (line ≡ front ++ f.name)
  name_last f is =
      let size_part = is.size_text ++ is.after_size ∷ [] in
      let size_whole : size_part ++ f.name ≡ is.size_text ++ is.after_size ∷ f.name = append_assoc is.size_text (is.after_size ∷ []) f.name in (
        is.start_text ++ is.after_start ∷ size_part,
        is.whole ∙ ap (λ l. is.start_text ++ is.after_start ∷ l) (sym size_whole) ∙ sym (append_assoc is.start_text (is.after_start ∷ size_part) f.name),
      )

  pub name_within : (f : PerfFunction) → perf_function_in line ≡ Some f → length f.name ≤ length line
  name_within f read = let last = name_last f (line_found f read) in omega (arith, ap length last.1, length-append last.0 f.name)

-- so are all lines
pub lines_found : (lines : List (List ℕ)) (functions : List PerfFunction) → functions_of lines ≡ Some functions → ArePerfLines lines functions
lines_found [] [] read = tt
lines_found [] (f ∷ functions) read = absurd (cc read)
lines_found (line ∷ lines) functions read = by (perf_function_in line) refl (functions_of lines) (lines_found lines) functions read where
  by : (o : Option PerfFunction) → perf_function_in line ≡ o → (later : Option (List PerfFunction)) → ((rest : List PerfFunction) → later ≡ Some rest → ArePerfLines lines rest) →
      (all : List PerfFunction) → before_functions o later ≡ Some all → ArePerfLines (line ∷ lines) all
  by None one later others all is = absurd (none-some all is)
  by (Some f) one None others all is = absurd (none-some all is)
  by (Some f) one (Some later) others [] is = absurd (cc is)
  by (Some f) one (Some later) others (g ∷ all) is =
      let same : f ≡ g = cc is in
      let rest : later ≡ all = cc is in
      (line_found line g (one ∙ ap Some same), others all (ap Some rest))

pub lines_again : (lines : List (List ℕ)) (functions : List PerfFunction) → ArePerfLines lines functions → functions_of lines ≡ Some functions
lines_again [] [] are = refl
lines_again [] (f ∷ functions) are = absurd are
lines_again (line ∷ lines) [] are = absurd are
lines_again (line ∷ lines) (f ∷ functions) are = rw (line_again line f are.0, lines_again lines functions are.1) refl

-- The first line of a text, and the lines after it.
pub record IsFirstLine (text : List ℕ) : Type 0 where
  pub later : List (List ℕ)
  pub cut : slice_split ends_line text ≡ line_front text ∷ later
  pub rest : filter is_filled later ≡ perf_lines (drop (line_len text + 1) text)

first_line : (text : List ℕ) → IsFirstLine text
first_line [] = record { later = []; cut = refl; rest = refl }
first_line (b ∷ text) = by (ends_line b) refl (first_line text) where
  by : (ends : Bool) → ends_line b ≡ ends → IsFirstLine text → IsFirstLine (b ∷ text)
  by true is next = record { later = slice_split ends_line text; cut = rw is refl; rest = rw is refl }
  by false is next =
      let more : 1 + line_len text ≡ suc (line_len text) = omega arith in
      let more_still : suc (line_len text) + 1 ≡ suc (line_len text + 1) = omega arith in
      record { later = next.later; cut = rw (is, more, next.cut) refl; rest = rw (is, more, more_still) next.rest }

-- a line in front of what later ones tell; an empty one tells nothing
abbrev pub with_line : List ℕ → Option (List PerfFunction) → Option (List PerfFunction)
with_line [] later = later
with_line (b ∷ line) later = before_functions (perf_function_in (b ∷ line)) later

pub first_told : (text : List ℕ) → perf_functions_in text ≡ with_line (line_front text) (perf_functions_in (drop (line_len text + 1) text))
unfolding perf_functions_in
first_told text =
    let first = first_line text in
    ap (λ lines. functions_of (filter is_filled lines)) first.cut ∙ by (line_front text) first.later ∙ ap (λ lines. with_line (line_front text) (functions_of lines)) first.rest where
      by : (line : List ℕ) (later : List (List ℕ)) → functions_of (filter is_filled (line ∷ later)) ≡ with_line line (functions_of (filter is_filled later))
      by [] later = refl
      by (b ∷ line) later = refl
