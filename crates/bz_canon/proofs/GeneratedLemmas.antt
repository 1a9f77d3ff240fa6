-- The generated text is the printed text of its table, but for the line of its module.
use Rattle.std.proofs.Common.{◌≡◌, ℕ, zero, suc, ◌+◌, ◌<◌, ◌≤◌, not, ◌||◌, true, nat_lt, List, [], ◌∷◌, ◌++◌, map, codes, decimal, inl, refl, sym, ap, subst, ◌∙◌, append_assoc, append-nil, arith}
use Rattle.std.specs.Char.{digit_value}
use Rattle.std.specs.Fmt.{digits}
use Rattle.std.specs.List.{AllByRecursion, flat_map}
use Rattle.std.specs.Str.Parse.{AllDigits}
use Rattle.std.proofs.lemmas.Bool.{agree_below_at, lt-ltb}
use Rattle.bz_base.specs.Line.{ended}
use Rattle.bz_breakpad_lines.specs.Byte.{is_ascii_in_line, is_within_line, is_word_byte}
use Rattle.bz_breakpad_lines.specs.Form.{AllPass, Form, IsPiece, IsSeparator, Piece, Spells, Tell, Value, told}
use Rattle.bz_breakpad_lines.specs.Form.Form.{Name, ◌·◌}
use Rattle.bz_breakpad_lines.specs.Form.Piece.{ModuleSeparator, Separator, Tag, Word}
use Rattle.bz_breakpad_lines.specs.Grammar.{IsFile}
use Rattle.bz_breakpad_lines.specs.Printed.{FunctionFits, IsPrintable, func_record, function_records, inlinee_one, line_one}
use Rattle.bz_breakpad_lines.specs.Records.{MODULE}
use Rattle.bz_breakpad_lines.specs.Contexts.Context.{Outside}
use Rattle.bz_breakpad_lines.specs.Contexts.Record.{Top, OfFunc}
use Rattle.bz_breakpad_lines.specs.Written.{IsLineName, record_text}
use Rattle.bz_breakpad_lines.proofs.AsciiLemmas.{plain_utf8}
use Rattle.bz_breakpad_lines.proofs.PrintedLaws.{after_module, headed_accepted}
use Rattle.bz_breakpad_lines.proofs.StartLemmas.{digit_byte}
use Rattle.bz_breakpad_lines.proofs.WrittenLaws.{IsWritten, all_from, decimal_is, digits_in_line}
use Rattle.bz_canon.specs.Generated.{function_line, functions_text, generated_text, hexadecimal, inline_line, line_record, start_of}
use Rattle.bz_canon.specs.GeneratedTable.{generated_function, generated_functions, generated_table}

-- Lines.

module_line : List ℕ
module_line = codes "MODULE Linux x86_64 0 gen"

-- a piece in front of a form
piece : (p : Piece) (f : Form) (front back : List ℕ) (told_first : Tell p) (others : Value f) → IsPiece p front told_first → Spells f back others →
    Spells (p · f) (front ++ back) (told p told_first others)
piece p f front back told_first others first rest =
    record { front = front; back = back; whole = refl; tells = told_first; others = others; front_is = first; back_is = rest; valued = refl }

one_space : IsSeparator (codes " ")
one_space = record { bytes = (refl, tt); passes = refl; tells = refl }

gen_name : IsLineName (codes "gen")
gen_name = record { name_is = record { utf8 = plain_utf8 (codes "gen") (all_from is_ascii_in_line (codes "gen") refl); front = refl }; within = all_from is_within_line (codes "gen") refl }

-- the module's line has the form of a MODULE record
module_spelled : Spells MODULE module_line (codes "gen")
unfolding module_line
module_spelled =
    piece (Tag (codes "MODULE")) (Separator · Word · ModuleSeparator · Word · ModuleSeparator · Word · ModuleSeparator · Name) (codes "MODULE") (codes " Linux x86_64 0 gen") tt (codes "gen") refl
    (piece Separator (Word · ModuleSeparator · Word · ModuleSeparator · Word · ModuleSeparator · Name) (codes " ") (codes "Linux x86_64 0 gen") tt (codes "gen") one_space
    (piece Word (ModuleSeparator · Word · ModuleSeparator · Word · ModuleSeparator · Name) (codes "Linux") (codes " x86_64 0 gen") tt (codes "gen") (record { bytes = all_from is_word_byte (codes "Linux") refl; passes = refl; tells = refl })
    (piece ModuleSeparator (Word · ModuleSeparator · Word · ModuleSeparator · Name) (codes " ") (codes "x86_64 0 gen") tt (codes "gen") (record { bytes = (refl, tt); passes = refl; tells = refl })
    (piece Word (ModuleSeparator · Word · ModuleSeparator · Name) (codes "x86_64") (codes " 0 gen") tt (codes "gen") (record { bytes = all_from is_word_byte (codes "x86_64") refl; passes = refl; tells = refl })
    (piece ModuleSeparator (Word · ModuleSeparator · Name) (codes " ") (codes "0 gen") tt (codes "gen") (record { bytes = (refl, tt); passes = refl; tells = refl })
    (piece Word (ModuleSeparator · Name) (codes "0") (codes " gen") tt (codes "gen") (record { bytes = all_from is_word_byte (codes "0") refl; passes = refl; tells = refl })
    (piece ModuleSeparator Name (codes " ") (codes "gen") tt (codes "gen") (record { bytes = (refl, tt); passes = refl; tells = refl }) (gen_name.name_is, refl))))))))

-- so it is the line of one
module_written : IsWritten Outside module_line (Top (inl (codes "gen")))
unfolding module_line
module_written = record { within = all_from is_within_line module_line refl; solid = refl; record_is = ((λ r is. is), module_spelled) }

-- the line of a function
func_line_is : (i : ℕ) → function_line i ≡ ended (record_text (func_record (generated_function i)))
unfolding digits
func_line_is i = sym (ap (λ t. codes "FUNC " ++ t) (append_assoc (hexadecimal (start_of i)) (codes " 30 0 f" ++ decimal i) (codes "\n")))

-- the line of its inlined call
inline_line_is : (start : ℕ) → codes "INLINE 0 7 0 0 " ++ (hexadecimal start ++ codes " 8\n") ≡
    ended (record_text (OfFunc (inlinee_one (record { depth = 0; start = start; size = 8; call_line = 7; call_file = 0; origin = 0 }))))
unfolding digits
inline_line_is start =
    sym (ap (λ t. codes "INLINE 0 7 0 0 " ++ (t ++ codes "\n")) (append-nil (hexadecimal start ++ codes " 8"))
    ∙ ap (λ t. codes "INLINE 0 7 0 0 " ++ t) (append_assoc (hexadecimal start) (codes " 8") (codes "\n")))

-- the lines of its line records
line_is : (start line : ℕ) (size : List ℕ) → hexadecimal start ++ (codes " " ++ (size ++ (codes " " ++ (decimal line ++ codes " 0\n")))) ≡
    (hexadecimal start ++ (codes " " ++ (size ++ (codes " " ++ (decimal line ++ codes " 0"))))) ++ codes "\n"
line_is start line size =
    ap (λ t. hexadecimal start ++ (codes " " ++ t)) (ap (λ t. size ++ (codes " " ++ t)) (sym (append_assoc (decimal line) (codes " 0") (codes "\n"))) ∙ sym (append_assoc size (codes " " ++ (decimal line ++ codes " 0")) (codes "\n")))
    ∙ sym (append_assoc (hexadecimal start) (codes " " ++ (size ++ (codes " " ++ (decimal line ++ codes " 0")))) (codes "\n"))

first_line_is : (i : ℕ) → line_record (start_of i) (codes "10") (i + 1) ≡ ended (record_text (OfFunc (line_one (record { start = start_of i; size = 16; line = i + 1; file = 0 }))))
unfolding digits
first_line_is i = line_is (start_of i) (i + 1) (codes "10")

second_line_is : (i : ℕ) → line_record (start_of i + 16) (codes "20") (i + 2) ≡ ended (record_text (OfFunc (line_one (record { start = start_of i + 16; size = 32; line = i + 2; file = 0 }))))
unfolding digits
second_line_is i = line_is (start_of i + 16) (i + 2) (codes "20")

-- four lines in front of a rest
in_front_of : (a b c d rest : List ℕ) → (a ++ (b ++ (c ++ d))) ++ rest ≡ a ++ (b ++ (c ++ (d ++ rest)))
in_front_of a b c d rest =
    append_assoc a (b ++ (c ++ d)) rest ∙ ap (λ t. a ++ t) (append_assoc b (c ++ d) rest ∙ ap (λ t. b ++ t) (append_assoc c d rest))

-- texts one after the other are those that they are equal to
in_turn : (a b c d rest a2 b2 c2 d2 rest2 : List ℕ) → a ≡ a2 → b ≡ b2 → c ≡ c2 → d ≡ d2 → rest ≡ rest2 →
    a ++ (b ++ (c ++ (d ++ rest))) ≡ a2 ++ (b2 ++ (c2 ++ (d2 ++ rest2)))
in_turn a b c d rest a2 b2 c2 d2 rest2 first second third fourth others = rw (first, second, third, fourth, others) refl

-- the functions' lines
functions_are : (n : ℕ) → functions_text n ≡ flat_map ended (map record_text (flat_map function_records (generated_functions n)))
unfolding functions_text
functions_are zero = refl
functions_are (suc i) =
    in_front_of (function_line i) (inline_line i) (line_record (start_of i) (codes "10") (i + 1)) (line_record (start_of i + 16) (codes "20") (i + 2)) (functions_text i)
    ∙ in_turn _ _ _ _ _ _ _ _ _ _ (func_line_is i) (inline_line_is (start_of i)) (first_line_is i) (second_line_is i) (functions_are i)

-- the whole text
text_is : (functions : ℕ) → generated_text functions ≡ flat_map ended (module_line ∷ map record_text (after_module (generated_table functions)))
unfolding module_line digits
text_is functions = ap (λ t. codes "MODULE Linux x86_64 0 gen\nFILE 0 gen.c\nINLINE_ORIGIN 0 g\n" ++ t) (functions_are functions)

-- The table fits a file.

digit_plain : (b : ℕ) → digit_value b < 16 → is_ascii_in_line b ≡ true
digit_plain b small =
    let agree = agree_below_at (λ c. not (nat_lt (digit_value c) 16) || is_ascii_in_line c) (λ c. true) 256 b refl (digit_byte b small) in
    rw (lt-ltb (digit_value b) 16 small) at agree

digits_plain : (text : List ℕ) → AllDigits 10 text → AllPass is_ascii_in_line text
digits_plain [] all = tt
digits_plain (b ∷ text) all = (digit_plain b (omega (arith, all.0)), digits_plain text all.1)

file_name : IsLineName (codes "gen.c")
file_name = record { name_is = record { utf8 = plain_utf8 (codes "gen.c") (all_from is_ascii_in_line (codes "gen.c") refl); front = refl }; within = all_from is_within_line (codes "gen.c") refl }

origin_name : IsLineName (codes "g")
origin_name = record { name_is = record { utf8 = plain_utf8 (codes "g") (all_from is_ascii_in_line (codes "g") refl); front = refl }; within = all_from is_within_line (codes "g") refl }

function_name : (i : ℕ) → i ≤ 100000 → IsLineName (codes "f" ++ decimal i)
function_name i small =
    let number = decimal_is i (omega (arith, small)) in
    record {
      name_is = record { utf8 = plain_utf8 (codes "f" ++ decimal i) (refl, digits_plain (decimal i) number.digits); front = refl };
      within = (refl, digits_in_line 10 (omega arith) (decimal i) number.digits);
    }

function_fits : (i : ℕ) → i ≤ 100000 → FunctionFits (generated_function i)
function_fits i small =
    let starts : start_of i < 18446744073709551600 = omega (arith, small) in
    record {
      func_fits = (tt, (tt, (tt, (omega (arith, starts), (tt, (omega arith, (tt, (omega arith, (tt, function_name i small)))))))));
      inlinees_fit = ((tt, (tt, (omega arith, (tt, (omega arith, (tt, (omega arith, (tt, (omega arith, (omega arith, ((tt, (omega (arith, starts), (tt, (omega arith, tt)))), tt))))))))))), tt);
      lines_fit = (
        (omega (arith, starts), (tt, (omega arith, (tt, (omega (arith, small), (tt, (omega arith, tt))))))),
        ((omega (arith, starts), (tt, (omega arith, (tt, (omega (arith, small), (tt, (omega arith, tt))))))), tt),
      );
    }

functions_fit : (n : ℕ) → n ≤ 100000 → AllByRecursion FunctionFits (generated_functions n)
functions_fit zero few = tt
functions_fit (suc i) few = (function_fits i (omega (arith, few)), functions_fit i (omega (arith, few)))

table_printable : (functions : ℕ) → functions ≤ 100000 → IsPrintable (generated_table functions)
table_printable functions few = record {
  module_fits = ((tt, (tt, (tt, (tt, (tt, (tt, (tt, (tt, gen_name)))))))), tt);
  files_fit = ((tt, (tt, (omega arith, (tt, file_name)))), tt);
  origins_fit = ((tt, (tt, (omega arith, (tt, origin_name)))), tt);
  publics_fit = tt;
  functions_fit = functions_fit functions few;
  files_ascend = (tt, tt);
  origins_ascend = (tt, tt);
}

-- the generated text is a file, and says its table
pub generated_is_file : (functions : ℕ) → functions ≤ 100000 → IsFile (generated_text functions) (generated_table functions)
generated_is_file functions few =
    let P : List ℕ → Type 0 = λ text. IsFile text (generated_table functions) in
    subst P (sym (text_is functions)) (headed_accepted module_line (codes "gen") module_written (generated_table functions) (table_printable functions few) refl)
