-- What is read of records is the table that they make.
use Rattle.std.proofs.Common.{◌≡◌, ℕ, ◌+◌, false, List, [], ◌∷◌, ◌++◌, length, Option, Some, None, option_map, refl, sym, ap, ◌∙◌, append_assoc, append-nil, arith, flat_map, filter_map}
use Rattle.std.specs.List.{AllByRecursion, cons_option}
use Rattle.std.proofs.lemmas.List.Concat.{flat_map-append}
use Rattle.bz_breakpad_lines.specs.Grammar.{IsNoModule}
use Rattle.bz_breakpad_lines.specs.Choice.{One}
use Rattle.bz_breakpad_lines.specs.Names.{with_names}
use Rattle.bz_breakpad_lines.specs.Reader.{Reading, nothing_read, listed, functions_read, module_with, begun, publics_with, with_record, table_read}
use Rattle.bz_breakpad_lines.specs.Records.{TOP, INNER}
use Rattle.bz_breakpad_lines.specs.Kinds.{TopRecord, InnerRecord, top_of, inner_of}
use Rattle.bz_breakpad_lines.specs.Kinds.TopRecord.{Module, Info, File, Origin, Public, Func, StackWin, StackCfiInit}
use Rattle.bz_breakpad_lines.specs.Says.{module_of, file_of, origin_of, public_of, line_of, inlinees_of, inner_records, with_inner, function_with, functions_of, first_module, table_of}
use Rattle.bz_breakpad_lines.specs.Table.{SourceLine, Inlinee, Function, Named, PublicSymbol}
use Rattle.bz_breakpad_lines.specs.Contexts.{Record}
use Rattle.bz_breakpad_lines.specs.Contexts.Record.{Top, OfFunc, OfCfi}
use Rattle.bz_breakpad_lines.proofs.FoldLaws.{folded, Follow}

-- the function with these lines and inlined calls
abbrev listing : Function → List SourceLine → List Inlinee → Function
listing f lines inlinees = record {
  start = f.start;
  size = f.size;
  parameter_size = f.parameter_size;
  name = f.name;
  lines = lines;
  inlinees = inlinees;
}

-- with nothing more under it, a function stays as it is
inner_none : (f : Function) → with_inner f [] ≡ f
inner_none f = ap (λ lines. listing f lines (f.inlinees ++ [])) (append-nil f.lines) ∙ ap (listing f f.lines) (append-nil f.inlinees)

-- records under a function, and then others, are all of them
inner_more : (f : Function) (inner more : List InnerRecord) → with_inner (with_inner f inner) more ≡ with_inner f (inner ++ more)
inner_more f inner more =
    let lines : (f.lines ++ flat_map line_of inner) ++ flat_map line_of more ≡ f.lines ++ flat_map line_of (inner ++ more)
    = append_assoc f.lines (flat_map line_of inner) (flat_map line_of more) ∙ ap (λ ls. f.lines ++ ls) (sym (flat_map-append line_of inner more)) in
    let inlinees : (f.inlinees ++ flat_map inlinees_of inner) ++ flat_map inlinees_of more ≡ f.inlinees ++ flat_map inlinees_of (inner ++ more)
    = append_assoc f.inlinees (flat_map inlinees_of inner) (flat_map inlinees_of more)
    ∙ ap (λ ls. f.inlinees ++ ls) (sym (flat_map-append inlinees_of inner more)) in
    ap (λ ls. listing f ls ((f.inlinees ++ flat_map inlinees_of inner) ++ flat_map inlinees_of more)) lines
    ∙ ap (listing f (f.lines ++ flat_map line_of (inner ++ more))) inlinees

-- the functions of the records, of which the first may stand under a function
abbrev functions_after : Option Function → List Record → List Function
functions_after None records = functions_of records
functions_after (Some f) records = with_inner f (inner_records records) ∷ functions_of records

-- with no more records, the function that was begun is all
after_none : (current : Option Function) → functions_after current [] ≡ listed current
after_none None = refl
after_none (Some f) = ap (λ g. g ∷ []) (inner_none f)

-- a record by itself ends the function before it, and may begin one
after_top : (t : TopRecord) (records : List Record) → functions_after (begun t) records ≡ function_with t (inner_records records) ++ functions_of records
after_top (Module name) records = refl
after_top Info records = refl
after_top (File file) records = refl
after_top (Origin origin) records = refl
after_top (Public symbol) records = refl
after_top (Func f) records = refl
after_top StackWin records = refl
after_top StackCfiInit records = refl

module _ (one : One TOP) (records : List Record) where
  -- what a record by itself does with the function before it
  top_more : (current : Option Function) →
      listed current ++ functions_after (begun (top_of one)) records ≡ functions_after current (Top one ∷ records)
  top_more None = after_top (top_of one) records
  top_more (Some f) =
      ap (λ fs. f ∷ fs) (after_top (top_of one) records)
      ∙ ap (λ g. g ∷ (function_with (top_of one) (inner_records records) ++ functions_of records)) (sym (inner_none f))

-- a record under a function goes into it
func_more : (one : One INNER) (records : List Record) (current : Option Function) →
    functions_after (option_map (λ f. with_inner f (inner_of one ∷ [])) current) records ≡ functions_after current (OfFunc one ∷ records)
func_more one records None = refl
func_more one records (Some f) = ap (λ g. g ∷ functions_of records) (inner_more f (inner_of one ∷ []) (inner_records records))

-- a STACK CFI record goes into no function
cfi_more : (records : List Record) (current : Option Function) → functions_after current records ≡ functions_after current (OfCfi ∷ records)
cfi_more records None = refl
cfi_more records (Some f) = refl

-- the functions read are those before, and those of the records
folded_functions : (records : List Record) (reading : Reading) →
    functions_read (folded reading records) ≡ reading.closed ++ functions_after reading.current records
folded_functions [] reading = ap (λ fs. reading.closed ++ fs) (sym (after_none reading.current))
folded_functions (Top one ∷ records) reading =
    folded_functions records (with_record reading (Top one))
    ∙ append_assoc reading.closed (listed reading.current) (functions_after (begun (top_of one)) records)
    ∙ ap (λ fs. reading.closed ++ fs) (top_more one records reading.current)
folded_functions (OfFunc one ∷ records) reading =
    folded_functions records (with_record reading (OfFunc one)) ∙ ap (λ fs. reading.closed ++ fs) (func_more one records reading.current)
folded_functions (OfCfi ∷ records) reading =
    folded_functions records (with_record reading OfCfi) ∙ ap (λ fs. reading.closed ++ fs) (cfi_more records reading.current)

-- one name more, where there is one
names_more : (names : List (ℕ × List ℕ)) (o : Option Named) (more : List Named) →
    with_names (with_names names (listed o)) more ≡ with_names names (cons_option o more)
names_more names None more = refl
names_more names (Some named) more = refl

-- the names of files are those before, with those of the records
folded_files : (records : List Record) (reading : Reading) →
    (folded reading records).files ≡ with_names reading.files (filter_map file_of records)
folded_files [] reading = refl
folded_files (r ∷ records) reading =
    folded_files records (with_record reading r) ∙ names_more reading.files (file_of r) (filter_map file_of records)

-- the names of inlined functions are those before, with those of the records
folded_origins : (records : List Record) (reading : Reading) →
    (folded reading records).origins ≡ with_names reading.origins (filter_map origin_of records)
folded_origins [] reading = refl
folded_origins (r ∷ records) reading =
    folded_origins records (with_record reading r) ∙ names_more reading.origins (origin_of r) (filter_map origin_of records)

-- one PUBLIC record more, where the record is one
publics_more : (publics : List PublicSymbol) (o : Option PublicSymbol) (more : List PublicSymbol) →
    publics_with publics o ++ more ≡ publics ++ cons_option o more
publics_more publics None more = refl
publics_more publics (Some symbol) more = append_assoc publics (symbol ∷ []) more

-- the PUBLIC records are those before, and then those among the records
folded_publics : (records : List Record) (reading : Reading) →
    (folded reading records).publics ≡ reading.publics ++ filter_map public_of records
folded_publics [] reading = sym (append-nil reading.publics)
folded_publics (r ∷ records) reading =
    folded_publics records (with_record reading r) ∙ publics_more reading.publics (public_of r) (filter_map public_of records)

-- each record is counted
pub folded_count : (records : List Record) (reading : Reading) → (folded reading records).count ≡ reading.count + length records
folded_count [] reading = omega arith
folded_count (r ∷ records) reading = omega (arith, folded_count records (with_record reading r))

-- where no record is a MODULE record, the module stays
folded_module : (records : List Record) (reading : Reading) → AllByRecursion IsNoModule records →
    (folded reading records).«module» ≡ reading.«module»
folded_module [] reading none = refl
folded_module (r ∷ records) reading none =
    folded_module records (with_record reading r) none.1 ∙ ap (module_with reading.«module») none.0

-- a first module is the one that is named
module_alone : (name : Option (List ℕ)) → module_with None name ≡ name
module_alone None = refl
module_alone (Some name) = refl

-- the module is the one of the first record
module_read : (records : List Record) → Follow false records → (folded nothing_read records).«module» ≡ first_module records
module_read [] follow = refl
module_read (r ∷ records) follow =
    folded_module records (with_record nothing_read r) follow ∙ module_alone (module_of r)

-- the table that is read of the records is the one that they make
pub table_folded : (records : List Record) → Follow false records → table_read (folded nothing_read records) ≡ table_of records
table_folded records follow = λ k. record {
  «module» = module_read records follow k;
  functions = folded_functions records nothing_read k;
  files = folded_files records nothing_read k;
  origins = folded_origins records nothing_read k;
  publics = folded_publics records nothing_read k;
}
