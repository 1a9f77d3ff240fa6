-- The text of a table is a file that says the table.
use Rattle.std.proofs.Common.{◌≡◌, ℕ, ◌<◌, List, [], ◌∷◌, ◌++◌, map, length, drop, filter_map, Option, Some, None, refl, sym, ap, subst, ◌∙◌, append-nil, append_assoc, arith, nat_cmp, Greater}
use Rattle.std.specs.BTreeMap.{insert_entry}
use Rattle.std.specs.Cmp.{nat_cmp_is}
use Rattle.std.specs.List.{AllByRecursion, flat_map}
use Rattle.std.proofs.lemmas.Option.{none-some}
use Rattle.bz_breakpad_lines.specs.Choice.{One, one_at}
use Rattle.bz_breakpad_lines.specs.Grammar.{Accepted, IsFile, IsNoModule}
use Rattle.bz_breakpad_lines.specs.Names.{names_in, with_names}
use Rattle.bz_breakpad_lines.specs.Printed.{AreAscending, FunctionFits, IsPrintable, file_record, func_record, function_ones, function_records, inlinee_one, line_one, module_records, or_info, origin_record, printed, public_record, table_records}
use Rattle.bz_breakpad_lines.specs.Reads.{piece_at, run_at}
use Rattle.bz_breakpad_lines.specs.Records.{INNER}
use Rattle.bz_breakpad_lines.specs.Kinds.{as_module, inner_of}
use Rattle.bz_breakpad_lines.specs.Says.{file_of, functions_of, inlinees_of, line_of, first_module, origin_of, inner_records, public_of, table_of, with_inner}
use Rattle.bz_breakpad_lines.specs.Table.{Function, Inlinee, Named, PublicSymbol, SourceLine, Table}
use Rattle.bz_breakpad_lines.specs.Contexts.{Context, Record}
use Rattle.bz_breakpad_lines.specs.Contexts.Context.{Outside, InFunc}
use Rattle.bz_breakpad_lines.specs.Contexts.Record.{Top, OfFunc, OfCfi}
use Rattle.bz_breakpad_lines.specs.Written.{RecordFits, record_text}
use Rattle.bz_base.specs.Line.{ended}
use Rattle.bz_base.specs.Number.{digits_at}
use Rattle.bz_breakpad_lines.proofs.ChoiceLaws.{one_again}
use Rattle.bz_breakpad_lines.proofs.WrittenLaws.{IsWritten, Stand, StandsIn, are_written, lines_accepted, written_accepted}

-- Where the records stand.

-- no record under a FUNC record begins as a FUNC record does
no_inner : (text : List ℕ) → one_at INNER (70 ∷ 85 ∷ 78 ∷ 67 ∷ text) ≡ None
unfolding piece_at run_at digits_at
no_inner text = refl

func_in : (f : Function) → StandsIn InFunc (func_record f)
func_in f (Top one) is = is
func_in f OfCfi is = is
func_in f (OfFunc one) is = none-some one (sym (no_inner _) ∙ one_again INNER refl (record_text (func_record f)) one is)

func_out : (f : Function) → StandsIn Outside (func_record f)
func_out f r is = is

stand_inner : (ones : List (One INNER)) (rest : List Record) → Stand InFunc rest → Stand InFunc (map OfFunc ones ++ rest)
stand_inner [] rest stand = stand
stand_inner (one ∷ ones) rest stand = (refl, stand_inner ones rest stand)

stand_functions : (c : Context) → ((f : Function) → StandsIn c (func_record f)) → (fs : List Function) → Stand c (flat_map function_records fs)
stand_functions c stands [] = tt
stand_functions c stands (f ∷ fs) = (stands f, stand_inner (function_ones f) (flat_map function_records fs) (stand_functions InFunc func_in fs))

module _ {A : Type 0} (g : A → Record) where
  stand_tops : ((a : A) (rest : List Record) → Stand Outside rest → Stand Outside (g a ∷ rest)) → (xs : List A) (rest : List Record) →
      Stand Outside rest → Stand Outside (map g xs ++ rest)
  stand_tops each [] rest stand = stand
  stand_tops each (a ∷ xs) rest stand = each a (map g xs ++ rest) (stand_tops each xs rest stand)

  -- what the rest says of records that say nothing of it
  passed_by : {B : Type 0} → (h : List Record → B) → ((a : A) (rest : List Record) → h (g a ∷ rest) ≡ h rest) → (xs : List A) (rest : List Record) →
      h (map g xs ++ rest) ≡ h rest
  passed_by h each [] rest = refl
  passed_by h each (a ∷ xs) rest = each a (map g xs ++ rest) ∙ passed_by h each xs rest

  -- and of those that each say one thing
  gathered : {C : Type 0} → (h : List Record → List C) → (k : A → C) → ((a : A) (rest : List Record) → h (g a ∷ rest) ≡ k a ∷ h rest) →
      (xs : List A) (rest : List Record) → h (map g xs ++ rest) ≡ map k xs ++ h rest
  gathered h k each [] rest = refl
  gathered h k each (a ∷ xs) rest = each a (map g xs ++ rest) ∙ ap (λ cs. k a ∷ cs) (gathered h k each xs rest)

module _ (t : Table) where
  abbrev functions_part : List Record
  functions_part = flat_map function_records t.functions

  abbrev publics_part : List Record
  publics_part = map public_record t.publics ++ functions_part

  abbrev origins_part : List Record
  origins_part = map origin_record t.origins ++ publics_part

  abbrev files_part : List Record
  files_part = map file_record t.files ++ origins_part

  files_stand : Stand Outside files_part
  files_stand =
      stand_tops file_record (λ a rest stand. (λ r is. is, stand)) t.files origins_part
      (stand_tops origin_record (λ a rest stand. (λ r is. is, stand)) t.origins publics_part
      (stand_tops public_record (λ a rest stand. (λ r is. is, stand)) t.publics functions_part
      (stand_functions Outside func_out t.functions)))

module_stands : (name : Option (List ℕ)) (rest : List Record) → Stand Outside rest → Stand Outside (module_records name ++ rest)
module_stands None rest stand = stand
module_stands (Some name) rest stand = (λ r is. is, stand)

info_stands : (records : List Record) → Stand Outside records → Stand Outside (or_info records)
info_stands [] stand = (λ r is. is, tt)
info_stands (r ∷ records) stand = stand

-- No record but the first is a MODULE record.

inner_no_module : (ones : List (One INNER)) (rest : List Record) → AllByRecursion IsNoModule rest → AllByRecursion IsNoModule (map OfFunc ones ++ rest)
inner_no_module [] rest none = none
inner_no_module (one ∷ ones) rest none = (refl, inner_no_module ones rest none)

functions_no_module : (fs : List Function) → AllByRecursion IsNoModule (flat_map function_records fs)
functions_no_module [] = tt
functions_no_module (f ∷ fs) = (refl, inner_no_module (function_ones f) (flat_map function_records fs) (functions_no_module fs))

tops_no_module : {A : Type 0} → (g : A → Record) → ((a : A) → IsNoModule (g a)) → (xs : List A) (rest : List Record) →
    AllByRecursion IsNoModule rest → AllByRecursion IsNoModule (map g xs ++ rest)
tops_no_module g each [] rest none = none
tops_no_module g each (a ∷ xs) rest none = (each a, tops_no_module g each xs rest none)

files_no_module : (t : Table) → AllByRecursion IsNoModule (files_part t)
files_no_module t =
    tops_no_module file_record (λ a. refl) t.files (origins_part t)
    (tops_no_module origin_record (λ a. refl) t.origins (publics_part t)
    (tops_no_module public_record (λ a. refl) t.publics (functions_part t) (functions_no_module t.functions)))

drop_first : (records : List Record) → AllByRecursion IsNoModule records → AllByRecursion IsNoModule (drop 1 (or_info records))
drop_first [] none = tt
drop_first (r ∷ records) none = none.1

module_stands_first : (name : Option (List ℕ)) (rest : List Record) → AllByRecursion IsNoModule rest → AllByRecursion IsNoModule (drop 1 (or_info (module_records name ++ rest)))
module_stands_first None rest none = drop_first rest none
module_stands_first (Some name) rest none = none

-- What they say.

no_first_module : (rest : List Record) → AllByRecursion IsNoModule rest → first_module rest ≡ None
no_first_module [] none = refl
no_first_module (r ∷ rest) none = none.0

module_again : (name : Option (List ℕ)) (rest : List Record) → AllByRecursion IsNoModule rest → first_module (module_records name ++ rest) ≡ name
module_again None rest none = no_first_module rest none
module_again (Some name) rest none = refl

-- a function again
lines_again : (ls : List SourceLine) → flat_map line_of (map inner_of (map line_one ls)) ≡ ls
lines_again [] = refl
lines_again (l ∷ ls) = ap (λ more. l ∷ more) (lines_again ls)

lines_after : (is : List Inlinee) (ls : List SourceLine) → flat_map line_of (map inner_of (map inlinee_one is ++ map line_one ls)) ≡ ls
lines_after [] ls = lines_again ls
lines_after (i ∷ is) ls = lines_after is ls

no_inlinees : (ls : List SourceLine) → flat_map inlinees_of (map inner_of (map line_one ls)) ≡ []
no_inlinees [] = refl
no_inlinees (l ∷ ls) = no_inlinees ls

inlinees_again : (is : List Inlinee) (ls : List SourceLine) → flat_map inlinees_of (map inner_of (map inlinee_one is ++ map line_one ls)) ≡ is
inlinees_again [] ls = no_inlinees ls
inlinees_again (i ∷ is) ls = ap (λ more. i ∷ more) (inlinees_again is ls)

inner_none : (fs : List Function) → inner_records (flat_map function_records fs) ≡ []
inner_none [] = refl
inner_none (f ∷ fs) = refl

inner_ones : (ones : List (One INNER)) (fs : List Function) → inner_records (map OfFunc ones ++ flat_map function_records fs) ≡ map inner_of ones
inner_ones [] fs = inner_none fs
inner_ones (one ∷ ones) fs = ap (λ inner. inner_of one ∷ inner) (inner_ones ones fs)

functions_past : (ones : List (One INNER)) (rest : List Record) → functions_of (map OfFunc ones ++ rest) ≡ functions_of rest
functions_past [] rest = refl
functions_past (one ∷ ones) rest = functions_past ones rest

-- the function without its records
abbrev bare : Function → Function
bare f = record { start = f.start; size = f.size; parameter_size = f.parameter_size; name = f.name; lines = []; inlinees = [] }

function_again : (f : Function) → with_inner (bare f) (map inner_of (function_ones f)) ≡ f
function_again f = λ k. record {
  start = f.start;
  size = f.size;
  parameter_size = f.parameter_size;
  name = f.name;
  lines = lines_after f.inlinees f.lines k;
  inlinees = inlinees_again f.inlinees f.lines k;
}

functions_again : (fs : List Function) → functions_of (flat_map function_records fs) ≡ fs
functions_again [] = refl
functions_again (f ∷ fs) =
    ap (λ inner. with_inner (bare f) inner ∷ functions_of (map OfFunc (function_ones f) ++ flat_map function_records fs)) (inner_ones (function_ones f) fs)
    ∙ ap (λ g. g ∷ functions_of (map OfFunc (function_ones f) ++ flat_map function_records fs)) (function_again f)
    ∙ ap (λ gs. f ∷ gs) (functions_past (function_ones f) (flat_map function_records fs) ∙ functions_again fs)

-- no names and PUBLIC records stand among functions
module _ {C : Type 0} (h : Record → Option C) (func : (f : Function) → h (func_record f) ≡ None) (inlinee : (i : Inlinee) → h (OfFunc (inlinee_one i)) ≡ None) (line : (l : SourceLine) → h (OfFunc (line_one l)) ≡ None) where
  lines_nothing : (ls : List SourceLine) (rest : List Record) → filter_map h (map OfFunc (map line_one ls) ++ rest) ≡ filter_map h rest
  lines_nothing [] rest = refl
  lines_nothing (l ∷ ls) rest = rw (line l) (lines_nothing ls rest)

  ones_nothing : (is : List Inlinee) (ls : List SourceLine) (rest : List Record) → filter_map h (map OfFunc (map inlinee_one is ++ map line_one ls) ++ rest) ≡ filter_map h rest
  ones_nothing [] ls rest = lines_nothing ls rest
  ones_nothing (i ∷ is) ls rest = rw (inlinee i) (ones_nothing is ls rest)

  functions_nothing : (fs : List Function) → filter_map h (flat_map function_records fs) ≡ []
  functions_nothing [] = refl
  functions_nothing (f ∷ fs) = rw (func f) (ones_nothing f.inlinees f.lines (flat_map function_records fs) ∙ functions_nothing fs)

abbrev named : ℕ × List ℕ → Named
named n = record { id = n.0; name = n.1 }

module_nothing : {C : Type 0} → (h : Record → Option C) → ((name : List ℕ) → h (Top (as_module name)) ≡ None) → (m : Option (List ℕ)) (rest : List Record) →
    filter_map h (module_records m ++ rest) ≡ filter_map h rest
module_nothing h none None rest = refl
module_nothing h none (Some name) rest = rw (none name) refl

module _ (t : Table) where
  functions_told : functions_of (table_records t) ≡ t.functions
  functions_told =
      past t.«module»
      ∙ passed_by file_record functions_of (λ a rest. refl) t.files (origins_part t)
      ∙ passed_by origin_record functions_of (λ a rest. refl) t.origins (publics_part t)
      ∙ passed_by public_record functions_of (λ a rest. refl) t.publics (functions_part t)
      ∙ functions_again t.functions where
        past : (m : Option (List ℕ)) → functions_of (module_records m ++ files_part t) ≡ functions_of (files_part t)
        past None = refl
        past (Some name) = refl

  files_told : filter_map file_of (table_records t) ≡ map named t.files
  files_told =
      module_nothing file_of (λ name. refl) t.«module» (files_part t)
      ∙ gathered file_record (filter_map file_of) named (λ a rest. refl) t.files (origins_part t)
      ∙ ap (λ more. map named t.files ++ more)
      (passed_by origin_record (filter_map file_of) (λ a rest. refl) t.origins (publics_part t)
      ∙ passed_by public_record (filter_map file_of) (λ a rest. refl) t.publics (functions_part t)
      ∙ functions_nothing file_of (λ f. refl) (λ i. refl) (λ l. refl) t.functions)
      ∙ append-nil (map named t.files)

  origins_told : filter_map origin_of (table_records t) ≡ map named t.origins
  origins_told =
      module_nothing origin_of (λ name. refl) t.«module» (files_part t)
      ∙ passed_by file_record (filter_map origin_of) (λ a rest. refl) t.files (origins_part t)
      ∙ gathered origin_record (filter_map origin_of) named (λ a rest. refl) t.origins (publics_part t)
      ∙ ap (λ more. map named t.origins ++ more)
      (passed_by public_record (filter_map origin_of) (λ a rest. refl) t.publics (functions_part t)
      ∙ functions_nothing origin_of (λ f. refl) (λ i. refl) (λ l. refl) t.functions)
      ∙ append-nil (map named t.origins)

  publics_told : filter_map public_of (table_records t) ≡ t.publics
  publics_told =
      module_nothing public_of (λ name. refl) t.«module» (files_part t)
      ∙ passed_by file_record (filter_map public_of) (λ a rest. refl) t.files (origins_part t)
      ∙ passed_by origin_record (filter_map public_of) (λ a rest. refl) t.origins (publics_part t)
      ∙ gathered public_record (filter_map public_of) (λ p. p) (λ a rest. refl) t.publics (functions_part t)
      ∙ ap (λ more. map (λ p. p) t.publics ++ more) (functions_nothing public_of (λ f. refl) (λ i. refl) (λ l. refl) t.functions)
      ∙ append-nil (map (λ p. p) t.publics)
      ∙ same t.publics where
        same : (ps : List PublicSymbol) → map (λ p. p) ps ≡ ps
        same [] = refl
        same (p ∷ ps) = ap (λ more. p ∷ more) (same ps)

-- Names by ascending ids.

-- a name with an id above all others comes last
named_last : (names : List (ℕ × List ℕ)) (id : ℕ) (name : List ℕ) → AllByRecursion (λ n. n.0 < id) names →
    insert_entry nat_cmp names id name ≡ names ++ (id, name) ∷ []
named_last [] id name below = refl
named_last (n ∷ names) id name below =
    let after : nat_cmp id n.0 ≡ Greater = sym (nat_cmp_is id n.0 Greater below.0) in
    rw after (ap (λ more. n ∷ more) (named_last names id name below.1))

all_below_more : (names : List (ℕ × List ℕ)) (id : ℕ) (name : List ℕ) (more : ℕ) → AllByRecursion (λ n. n.0 < more) names → id < more →
    AllByRecursion (λ n. n.0 < more) (names ++ (id, name) ∷ [])
all_below_more [] id name more below small = (small, tt)
all_below_more (n ∷ names) id name more below small = (below.0, all_below_more names id name more below.1 small)

-- each of the names is below all others
abbrev AreBelow : List (ℕ × List ℕ) → List (ℕ × List ℕ) → Type 0
AreBelow before names = AllByRecursion (λ m. AllByRecursion (λ n. n.0 < m.0) before) names

below_more : (before names : List (ℕ × List ℕ)) (n : ℕ × List ℕ) → AreBelow before names → AllByRecursion (λ m. n.0 < m.0) names →
    AreBelow (before ++ n ∷ []) names
below_more before [] n below up = tt
below_more before (m ∷ names) n below up = (all_below_more before n.0 n.1 m.0 below.0 up.0, below_more before names n below.1 up.1)

names_after : (before names : List (ℕ × List ℕ)) → AreBelow before names → AreAscending names → with_names before (map named names) ≡ before ++ names
names_after before [] below up = sym (append-nil before)
names_after before (n ∷ names) below up =
    ap (λ more. with_names more (map named names)) (named_last before n.0 n.1 below.0)
    ∙ names_after (before ++ n ∷ []) names (below_more before names n below.1 up.0) up.1
    ∙ append_assoc before (n ∷ []) names

none_below : (names : List (ℕ × List ℕ)) → AreBelow [] names
none_below [] = tt
none_below (n ∷ names) = (tt, none_below names)

names_again : (names : List (ℕ × List ℕ)) → AreAscending names → names_in (map named names) ≡ names
names_again names up = names_after [] names (none_below names) up

-- the records say the table
table_again : (t : Table) → AreAscending t.files → AreAscending t.origins → table_of (table_records t) ≡ t
table_again t files origins = λ k. record {
  «module» = module_again t.«module» (files_part t) (files_no_module t) k;
  functions = functions_told t k;
  files = (ap names_in (files_told t) ∙ names_again t.files files) k;
  origins = (ap names_in (origins_told t) ∙ names_again t.origins origins) k;
  publics = publics_told t k;
}

info_says : (records : List Record) → table_of (or_info records) ≡ table_of records
info_says [] = refl
info_says (r ∷ records) = refl

info_fits : (records : List Record) → AllByRecursion RecordFits records → AllByRecursion RecordFits (or_info records)
info_fits [] fit = ((tt, tt), tt)
info_fits (r ∷ records) fit = fit

some_record : (records : List Record) → 0 < length (or_info records)
some_record [] = omega arith
some_record (r ∷ records) = omega arith

-- All of the records fit.

pub all_append : {A : Type 0} → (P : A → Type 0) → (xs ys : List A) → AllByRecursion P xs → AllByRecursion P ys → AllByRecursion P (xs ++ ys)
all_append P [] ys all more = more
all_append P (x ∷ xs) ys all more = (all.0, all_append P xs ys all.1 more)

all_map : {A B : Type 0} → (P : B → Type 0) → (g : A → B) → (xs : List A) → AllByRecursion (λ a. P (g a)) xs → AllByRecursion P (map g xs)
all_map P g [] all = tt
all_map P g (x ∷ xs) all = (all.0, all_map P g xs all.1)

function_fits : (f : Function) → FunctionFits f → AllByRecursion RecordFits (function_records f)
function_fits f is = (
  is.func_fits,
  all_map RecordFits OfFunc (function_ones f)
      (all_append (λ one. RecordFits (OfFunc one)) (map inlinee_one f.inlinees) (map line_one f.lines)
      (all_map (λ one. RecordFits (OfFunc one)) inlinee_one f.inlinees is.inlinees_fit)
      (all_map (λ one. RecordFits (OfFunc one)) line_one f.lines is.lines_fit)),
)

functions_fit : (fs : List Function) → AllByRecursion FunctionFits fs → AllByRecursion RecordFits (flat_map function_records fs)
functions_fit [] are = tt
functions_fit (f ∷ fs) are = all_append RecordFits (function_records f) (flat_map function_records fs) (function_fits f are.0) (functions_fit fs are.1)

records_fit : (t : Table) → IsPrintable t → AllByRecursion RecordFits (table_records t)
records_fit t is =
    all_append RecordFits (module_records t.«module») (files_part t) is.module_fits
    (all_append RecordFits (map file_record t.files) (origins_part t) (all_map RecordFits file_record t.files is.files_fit)
    (all_append RecordFits (map origin_record t.origins) (publics_part t) (all_map RecordFits origin_record t.origins is.origins_fit)
    (all_append RecordFits (map public_record t.publics) (functions_part t) (all_map RecordFits public_record t.publics is.publics_fit)
    (functions_fit t.functions is.functions_fit))))

-- the text of a table that a file can say is a file that says it
pub printed_accepted : (t : Table) → IsPrintable t → IsFile (printed t) t
printed_accepted t is =
    let records = or_info (table_records t) in
    let told : table_of records ≡ t = info_says (table_records t) ∙ table_again t is.files_ascend is.origins_ascend in
    let accepted = written_accepted records (some_record (table_records t)) (info_fits (table_records t) (records_fit t is))
    (info_stands (table_records t) (module_stands t.«module» (files_part t) (files_stand t)))
    (module_stands_first t.«module» (files_part t) (files_no_module t)) in
    let P : Table → Type 0 = λ u. Accepted (printed t) u (length records) in
    (length records, subst P told accepted)

-- the records that stand before the module's
abbrev pub after_module : Table → List Record
after_module t = files_part t

-- a line of another MODULE record of the same name may stand at the front
pub headed_accepted : (line name : List ℕ) → IsWritten Outside line (Top (as_module name)) → (t : Table) → IsPrintable t → t.«module» ≡ Some name →
    IsFile (flat_map ended (line ∷ map record_text (after_module t))) t
headed_accepted line name first t is named =
    let records = Top (as_module name) ∷ after_module t in
    let P : Option (List ℕ) → Type 0 = λ m. AllByRecursion RecordFits (module_records m ++ after_module t) in
    let fit = (subst P named (records_fit t is)).1 in
    let accepted = lines_accepted (line ∷ map record_text (after_module t)) records (omega arith)
    (first, are_written Outside (after_module t) fit (files_stand t)) (files_no_module t) in
    let Q : Option (List ℕ) → Type 0 = λ m. table_of (module_records m ++ after_module t) ≡ t in
    let told : table_of records ≡ t = subst Q named (table_again t is.files_ascend is.origins_ascend) in
    let R : Table → Type 0 = λ u. Accepted (flat_map ended (line ∷ map record_text (after_module t))) u (length records) in
    (length records, subst R told accepted)
