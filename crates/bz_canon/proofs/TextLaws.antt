-- The canonical text from its parts.
use Rattle.std.proofs.Common.{◌≡◌, ℕ, ◌+◌, ◌≤◌, List, [], ◌∷◌, ◌++◌, length, take, map, flat_map, codes, decimal, Option, Some, None, option_map, refl, sym, ap, ◌∙◌, append_assoc, arith}
use Rattle.std.specs.List.{slice_get}
use Rattle.std.proofs.lemmas.List.{flat_map_more, length-map, take_all, take_more}
use Rattle.std.proofs.lemmas.Option.{get_or_from_slice_get, none-some, same_Some, slice_get-map, slice_get_within}
use Rattle.bz_base.specs.Byte.{line_feed, space}
use Rattle.bz_base.specs.Line.{ended}
use Rattle.bz_base.specs.Sorting.{sorted}
use Rattle.bz_search.proofs.SortingLaws.{sorted_length, sorted_table, table_sorted}
use Rattle.bz_base.proofs.ViewLemmas.{table_seen}
use Rattle.bz_breakpad.specs.InOrder.{calls_in_order, functions_in_order, lines_in_order}
use Rattle.bz_breakpad.specs.Indexed.{functions_in, functions_of}
use Rattle.bz_breakpad.specs.Listed.{files_in, files_of, origins_in, origins_of, publics_in_order, publics_of}
use Rattle.bz_breakpad_lines.specs.Printed.{file_record, func_record, function_records, inlinee_one, line_one, module_records, origin_record, public_record, table_records}
use Rattle.bz_breakpad_lines.specs.Reader.{table_in}
use Rattle.bz_breakpad_lines.specs.Table.{Function, Inlinee, PublicSymbol, SourceLine, Table}
use Rattle.bz_breakpad_lines.specs.Contexts.{Record}
use Rattle.bz_breakpad_lines.specs.Contexts.Record.{OfFunc}
use Rattle.bz_breakpad_lines.specs.Written.{record_text, records_text}
use Rattle.bz_canon.specs.Canon.{canon, canon_function}
use Rattle.bz_canon.specs.Parts.{canon_functions, functions_text, lines_of, named_line, named_lines}

-- Records side by side.

both_texts : (xs ys : List Record) → records_text (xs ++ ys) ≡ records_text xs ++ records_text ys
both_texts [] ys = refl
both_texts (x ∷ xs) ys = ap (λ more. ended (record_text x) ++ more) (both_texts xs ys) ∙ sym (append_assoc (ended (record_text x)) (records_text xs) (records_text ys))

-- the records of items
lines_are : {X : Type 0} (record_of : X → Record) (items : List X) → records_text (map record_of items) ≡ lines_of record_of items
lines_are record_of [] = refl
lines_are record_of (x ∷ items) = ap (λ more. ended (record_text (record_of x)) ++ more) (lines_are record_of items)

-- the records of ids and their names
file_is : (n : ℕ × List ℕ) → ended (record_text (file_record n)) ≡ named_line (codes "FILE") n
file_is n = ap (λ rest. codes "FILE" ++ space ∷ rest) (append_assoc (decimal n.0) (space ∷ n.1) (line_feed ∷ []))

origin_is : (n : ℕ × List ℕ) → ended (record_text (origin_record n)) ≡ named_line (codes "INLINE_ORIGIN") n
origin_is n = ap (λ rest. codes "INLINE_ORIGIN" ++ space ∷ rest) (append_assoc (decimal n.0) (space ∷ n.1) (line_feed ∷ []))

files_are : (names : List (ℕ × List ℕ)) → lines_of file_record names ≡ named_lines (codes "FILE") names
files_are [] = refl
files_are (n ∷ names) =
    ap (λ line. line ++ lines_of file_record names) (file_is n) ∙ ap (λ more. named_line (codes "FILE") n ++ more) (files_are names)

origins_are : (names : List (ℕ × List ℕ)) → lines_of origin_record names ≡ named_lines (codes "INLINE_ORIGIN") names
origins_are [] = refl
origins_are (n ∷ names) = ap (λ line. line ++ lines_of origin_record names) (origin_is n) ∙ ap (λ more. named_line (codes "INLINE_ORIGIN") n ++ more) (origins_are names)

functions_are : (fs : List Function) → records_text (flat_map function_records fs) ≡ functions_text fs
functions_are [] = refl
functions_are (f ∷ fs) =
    both_texts (function_records f) (flat_map function_records fs) ∙ ap (λ more. records_text (function_records f) ++ more) (functions_are fs)

-- A function.

ones_are : (inlinees : List Inlinee) (lines : List SourceLine) →
    records_text (map OfFunc (map inlinee_one inlinees ++ map line_one lines)) ≡ lines_of (λ i. OfFunc (inlinee_one i)) inlinees ++ lines_of (λ l. OfFunc (line_one l)) lines
ones_are [] [] = refl
ones_are [] (l ∷ lines) = ap (λ more. ended (record_text (OfFunc (line_one l))) ++ more) (ones_are [] lines)
ones_are (i ∷ inlinees) lines =
    let text = ended (record_text (OfFunc (inlinee_one i))) in
    ap (λ more. text ++ more) (ones_are inlinees lines)
    ∙ sym (append_assoc text (lines_of (λ (c : Inlinee). OfFunc (inlinee_one c)) inlinees) (lines_of (λ (l : SourceLine). OfFunc (line_one l)) lines))

-- its record, and those of its inlined calls and lines in order
function_text : (f : Function) →
    ended (record_text (func_record f)) ++ (lines_of (λ i. OfFunc (inlinee_one i)) (calls_in_order f) ++ lines_of (λ l. OfFunc (line_one l)) (lines_in_order f))
    ≡ records_text (function_records (canon_function f))
function_text f = ap (λ more. ended (record_text (func_record f)) ++ more) (sym (ones_are (calls_in_order f) (lines_in_order f)))

-- what is written of it, one part after another
pub function_written : (f : Function) (old func inner text : List ℕ) (inlinees : List Inlinee) (lines : List SourceLine) → inlinees ≡ calls_in_order f → lines ≡ lines_in_order f →
    func ≡ old ++ ended (record_text (func_record f)) → inner ≡ func ++ lines_of (λ i. OfFunc (inlinee_one i)) inlinees → text ≡ inner ++ lines_of (λ l. OfFunc (line_one l)) lines →
    text ≡ old ++ records_text (function_records (canon_function f))
function_written f old func inner text inlinees lines called lined func_is inner_is text_is =
    let front = ended (record_text (func_record f)) in
    let calls = lines_of (λ (i : Inlinee). OfFunc (inlinee_one i)) inlinees in
    let records = lines_of (λ (l : SourceLine). OfFunc (line_one l)) lines in
    text_is
    ∙ ap (λ before. before ++ records) (inner_is ∙ ap (λ before. before ++ calls) func_is ∙ append_assoc old front calls)
    ∙ append_assoc old (front ++ calls) records
    ∙ ap (λ more. old ++ more) (append_assoc front calls records
    ∙ ap (λ (is : List Inlinee). front ++ (lines_of (λ i. OfFunc (inlinee_one i)) is ++ records)) called
    ∙ ap (λ (ls : List SourceLine). front ++ (lines_of (λ i. OfFunc (inlinee_one i)) (calls_in_order f) ++ lines_of (λ l. OfFunc (line_one l)) ls)) lined
    ∙ function_text f)

-- functions in order, each in its canonical form
canon_sorted : (fs : List Function) → map canon_function (sorted (λ f. f.start) (λ f. f.size) fs) ≡ sorted (λ f. f.start) (λ f. f.size) (map canon_function fs)
canon_sorted fs =
    table_sorted (λ (f : Function). f.start) (λ f. f.size) (map canon_function fs) (map canon_function (sorted (λ f. f.start) (λ f. f.size) fs))
    (table_seen (λ (f : Function). f.start) (λ f. f.size) canon_function fs (sorted (λ f. f.start) (λ f. f.size) fs) (sorted_table (λ (f : Function). f.start) (λ f. f.size) fs))

-- one function more is written
pub function_more : (bytes : List ℕ) (index : ℕ) (f : Function) (old text more : List ℕ) → slice_get (functions_in_order bytes) index ≡ Some f →
    text ≡ old ++ functions_text (take index (canon_functions bytes)) → more ≡ text ++ records_text (function_records (canon_function f)) →
    more ≡ old ++ functions_text (take (index + 1) (canon_functions bytes))
function_more bytes index f old text more found so_far longer =
    let fs = canon_functions bytes in
    let g = canon_function f in
    let each = λ (h : Function). records_text (function_records h) in
    let there : slice_get fs index ≡ Some g = slice_get-map canon_function (functions_in_order bytes) index ∙ ap (option_map canon_function) found in
    let next : take (index + 1) fs ≡ take index fs ++ g ∷ []
    = take_more fs index g (slice_get_within fs index g there) ∙ ap (λ (h : Function). take index fs ++ h ∷ []) (get_or_from_slice_get fs index g g there) in
    longer
    ∙ ap (λ front. front ++ each g) so_far
    ∙ flat_map_more each old (take index fs) g
    ∙ ap (λ hs. old ++ functions_text hs) (sym next)

-- and all are
pub functions_all : (bytes : List ℕ) (index : ℕ) → length (functions_in bytes) ≤ index → take index (canon_functions bytes) ≡ canon_functions bytes
functions_all bytes index past =
    take_all index (canon_functions bytes)
    (omega (arith, past, length-map (functions_in_order bytes) canon_function, sorted_length (λ (f : Function). f.start) (λ f. f.size) (functions_in bytes)))

-- The table.

-- the parts of its text
parts_are : (t : Table) →
    records_text (table_records t) ≡
    records_text (module_records t.«module») ++ (named_lines (codes "FILE") t.files ++ (named_lines (codes "INLINE_ORIGIN") t.origins ++ (lines_of public_record t.publics ++ functions_text t.functions)))
parts_are t =
    let functions = flat_map function_records t.functions in
    let publics = map public_record t.publics ++ functions in
    let origins = map origin_record t.origins ++ publics in
    let files = map file_record t.files ++ origins in
    let functions_text_is : records_text functions ≡ functions_text t.functions = functions_are t.functions in
    let publics_text : records_text publics ≡ lines_of public_record t.publics ++ functions_text t.functions
    = both_texts (map public_record t.publics) functions ∙ ap (λ text. text ++ records_text functions) (lines_are public_record t.publics) ∙ ap (λ more. lines_of public_record t.publics ++ more) functions_text_is in
    let origins_text : records_text origins ≡ named_lines (codes "INLINE_ORIGIN") t.origins ++ (lines_of public_record t.publics ++ functions_text t.functions)
    = both_texts (map origin_record t.origins) publics ∙ ap (λ text. text ++ records_text publics) (lines_are origin_record t.origins ∙ origins_are t.origins) ∙ ap (λ more. named_lines (codes "INLINE_ORIGIN") t.origins ++ more) publics_text in
    let files_text : records_text files ≡ named_lines (codes "FILE") t.files ++ (named_lines (codes "INLINE_ORIGIN") t.origins ++ (lines_of public_record t.publics ++ functions_text t.functions))
    = both_texts (map file_record t.files) origins ∙ ap (λ text. text ++ records_text origins) (lines_are file_record t.files ∙ files_are t.files) ∙ ap (λ more. named_lines (codes "FILE") t.files ++ more) origins_text in
    both_texts (module_records t.«module») files ∙ ap (λ more. records_text (module_records t.«module») ++ more) files_text

-- what is written of a file, one part after another
module _ (bytes : List ℕ) (name : Option (List ℕ)) (files origins : List (ℕ × List ℕ)) (publics : List PublicSymbol) where
  abbrev pub module_text : List ℕ
  module_text = records_text (module_records name)

  abbrev pub files_text : List ℕ
  files_text = named_lines (codes "FILE") files

  abbrev pub origins_text : List ℕ
  origins_text = named_lines (codes "INLINE_ORIGIN") origins

  abbrev pub publics_text : List ℕ
  publics_text = lines_of public_record publics

  abbrev pub code_text : List ℕ
  code_text = functions_text (canon_functions bytes)

  records_are : option_map (λ (t : Table). t.«module») (table_in bytes) ≡ Some name → files ≡ files_in bytes → origins ≡ origins_in bytes → publics ≡ publics_in_order bytes →
      option_map (λ (t : Table). records_text (table_records (canon t))) (table_in bytes) ≡ Some (module_text ++ (files_text ++ (origins_text ++ (publics_text ++ code_text))))
  records_are named filed origined publiced = by (table_in bytes) refl named where
    by : (o : Option Table) → table_in bytes ≡ o → option_map (λ (t : Table). t.«module») o ≡ Some name →
        option_map (λ (t : Table). records_text (table_records (canon t))) o ≡ Some (module_text ++ (files_text ++ (origins_text ++ (publics_text ++ code_text))))
    by None is named = absurd (none-some name named)
    by (Some t) is named =
        let rest = λ (m : Option (List ℕ)) (x y : List (ℕ × List ℕ)) (p : List PublicSymbol) (g : List Function). records_text (module_records m) ++ (named_lines (codes "FILE") x ++ (named_lines (codes "INLINE_ORIGIN") y ++ (lines_of public_record p ++ functions_text g))) in
        let functions_is : (canon t).functions ≡ canon_functions bytes
        = sym (canon_sorted t.functions) ∙ ap (λ (o : Option Table). map canon_function (sorted (λ (f : Function). f.start) (λ f. f.size) (functions_of o))) (sym is) in
        ap Some (parts_are (canon t)
        ∙ ap (λ m. rest m t.files t.origins (canon t).publics (canon t).functions) (same_Some t.«module» name named)
        ∙ ap (λ x. rest name x t.origins (canon t).publics (canon t).functions) (ap files_of (sym is) ∙ sym filed)
        ∙ ap (λ y. rest name files y (canon t).publics (canon t).functions) (ap origins_of (sym is) ∙ sym origined)
        ∙ ap (λ p. rest name files origins p (canon t).functions) (ap (λ (o : Option Table). sorted (λ (p : PublicSymbol). p.start) (λ p. 0) (publics_of o)) (sym is) ∙ sym publiced)
        ∙ ap (λ g. rest name files origins publics g) functions_is)

  module _ (old on_module on_files on_origins on_publics text : List ℕ) where
    pub written_parts : option_map (λ (t : Table). t.«module») (table_in bytes) ≡ Some name → files ≡ files_in bytes → origins ≡ origins_in bytes → publics ≡ publics_in_order bytes →
        on_module ≡ old ++ module_text → on_files ≡ on_module ++ files_text → on_origins ≡ on_files ++ origins_text → on_publics ≡ on_origins ++ publics_text → text ≡ on_publics ++ code_text →
        option_map (λ (t : Table). old ++ records_text (table_records (canon t))) (table_in bytes) ≡ Some text
    written_parts named filed origined publiced module_is files_is origins_is publics_is text_is =
        after (table_in bytes) (records_are named filed origined publiced) ∙ ap Some (sym whole) where
          whole : text ≡ old ++ (module_text ++ (files_text ++ (origins_text ++ (publics_text ++ code_text))))
          whole =
              text_is
              ∙ ap (λ t. t ++ code_text) publics_is ∙ append_assoc on_origins publics_text code_text
              ∙ ap (λ t. t ++ (publics_text ++ code_text)) origins_is ∙ append_assoc on_files origins_text (publics_text ++ code_text)
              ∙ ap (λ t. t ++ (origins_text ++ (publics_text ++ code_text))) files_is ∙ append_assoc on_module files_text (origins_text ++ (publics_text ++ code_text))
              ∙ ap (λ t. t ++ (files_text ++ (origins_text ++ (publics_text ++ code_text)))) module_is ∙ append_assoc old module_text (files_text ++ (origins_text ++ (publics_text ++ code_text)))

          after : (o : Option Table) {more : List ℕ} → option_map (λ (t : Table). records_text (table_records (canon t))) o ≡ Some more →
              option_map (λ (t : Table). old ++ records_text (table_records (canon t))) o ≡ Some (old ++ more)
          after None {more} is = absurd (none-some more is)
          after (Some t) {more} is = ap (λ r. Some (old ++ r)) (same_Some (records_text (table_records (canon t))) more is)
