-- The canonical form of a table: it can be said, it answers as the table does,
-- and it is its own canonical form.
use Rattle.std.proofs.Common.{◌≡◌, ◌↔◌, ℕ, ◌+◌, ◌≤◌, Bool, cond, nat_le, ◌&&◌, inl, inr, List, [], ◌∷◌, length, map, Option, Some, None, option_map, Result, Ok, Err, refl, sym, ap, subst, ◌∙◌, arith}
use Rattle.std.specs.List.{AllByRecursion, list_any}
use Rattle.std.proofs.lemmas.Bool.{cases_lt}
use Rattle.std.proofs.lemmas.List.{length-map}
use Rattle.std.proofs.lemmas.Option.{same_Some}
use Rattle.bz_base.specs.Answer.{Answer}
use Rattle.bz_base.specs.Answer.Answer.{Known, Unknown}
use Rattle.bz_base.specs.declared.types.Reason.TheVariants as reasons
use Rattle.bz_base.specs.Nearest.{IsTable}
use Rattle.bz_base.specs.declared.error.Error.{Error}
use Rattle.bz_base.specs.declared.types.FindSymOpts.{FindSymOpts}
use Rattle.bz_base.specs.declared.types.FindSymOpts.TheVariants as asked
use Rattle.bz_base.proofs.ChainLemmas.{chain_through}
use Rattle.bz_base.proofs.ViewLemmas.{covering_of_table, covering_seen}
use Rattle.bz_breakpad_lines.specs.Grammar.{IsFile}
use Rattle.bz_breakpad.specs.Locations.{Location, by_line, by_seen, calls_around, calls_asked, line_at, location_at, seen_from}
use Rattle.bz_breakpad.specs.Plain.{any_between, by_function, by_location, by_public, by_records, function_at, plain, public_at, public_symbol_at}
use Rattle.bz_breakpad_lines.specs.Printed.{FunctionFits, IsPrintable, inlinee_one, line_one, printed, public_record}
use Rattle.bz_breakpad_lines.specs.Table.{Function, Inlinee, PublicSymbol, SourceLine, Table}
use Rattle.bz_breakpad_lines.specs.Contexts.Record.{OfFunc}
use Rattle.bz_breakpad_lines.specs.Written.{RecordFits}
use Rattle.bz_breakpad_lines.proofs.GrammarLaws.{accepted_again}
use Rattle.bz_breakpad_lines.proofs.PrintableLaws.{accepted_printable}
use Rattle.bz_breakpad_lines.proofs.PrintedLaws.{printed_accepted}
use Rattle.bz_canon.specs.Canon.{canon, canon_function, canonical_text}
use Rattle.bz_base.specs.Sorting.{sorted}
use Rattle.bz_breakpad.proofs.PublicLemmas.{any_in_table}
use Rattle.bz_breakpad.proofs.PlainLemmas.{plain-some}
use Rattle.bz_canon.proofs.PublicTableLaws.{table_public}
use Rattle.bz_search.proofs.SortingLaws.{sorted_again, sorted_all, sorted_ascends, sorted_length, sorted_table}

-- It can be said.

canon_function_fits : (f : Function) → FunctionFits f → FunctionFits (canon_function f)
canon_function_fits f is = record {
  func_fits = is.func_fits;
  inlinees_fit = sorted_all (λ i. i.depth) (λ i. i.start) (λ i. RecordFits (OfFunc (inlinee_one i))) f.inlinees is.inlinees_fit;
  lines_fit = sorted_all (λ l. l.start) (λ l. l.size) (λ l. RecordFits (OfFunc (line_one l))) f.lines is.lines_fit;
}

all_canon_fit : (fs : List Function) → AllByRecursion FunctionFits fs → AllByRecursion FunctionFits (map canon_function fs)
all_canon_fit [] all = tt
all_canon_fit (f ∷ fs) all = (canon_function_fits f all.0, all_canon_fit fs all.1)

canon_printable : (t : Table) → IsPrintable t → IsPrintable (canon t)
canon_printable t is = record {
  module_fits = is.module_fits;
  files_fit = is.files_fit;
  origins_fit = is.origins_fit;
  publics_fit = sorted_all (λ p. p.start) (λ p. 0) (λ p. RecordFits (public_record p)) t.publics is.publics_fit;
  functions_fit = sorted_all (λ f. f.start) (λ f. f.size) FunctionFits (map canon_function t.functions) (all_canon_fit t.functions is.functions_fit);
  files_ascend = is.files_ascend;
  origins_ascend = is.origins_ascend;
}

-- the canonical text is a file that says it
pub canon_file : (bytes : List ℕ) (t : Table) → IsFile bytes t → IsFile (canonical_text t) (canon t)
canon_file bytes t is = printed_accepted (canon t) (canon_printable t (accepted_printable bytes t is.0 is.1))

-- It answers as the table does.

-- what a table without functions and PUBLIC records answers
plain_none : (table : Table) (opts : FindSymOpts) (addr : ℕ) → length table.functions + length table.publics ≤ 0 → plain table opts addr ≡ Ok (Unknown reasons.MissingSyms)
plain_none table opts addr none = by_list table.functions table.publics none where
  by_list : (fs : List Function) (ps : List PublicSymbol) → length fs + length ps ≤ 0 → by_records table opts addr fs ps ≡ Ok (Unknown reasons.MissingSyms)
  by_list [] [] none = refl
  by_list [] (p ∷ ps) none = absurd (omega arith)
  by_list (f ∷ fs) ps none = absurd (omega arith)

module _ (t : Table) (opts : FindSymOpts) (addr : ℕ) where
  seen_same : (calls : List Inlinee) (line : SourceLine) → seen_from (canon t) calls line ≡ seen_from t calls line
  seen_same calls line = refl

  module _ (f : Function) where
    lines_same : line_at addr (canon_function f).lines ≡ line_at addr f.lines
    lines_same = covering_of_table (λ l. l.start) (λ l. l.size) f.lines (canon_function f).lines (sorted_table (λ l. l.start) (λ l. l.size) f.lines) addr

    same_list : (is : List Inlinee) → map (λ i. i) is ≡ is
    same_list [] = refl
    same_list (i ∷ is) = ap (λ more. i ∷ more) (same_list is)

    around_same : calls_around addr (canon_function f).inlinees ≡ calls_around addr f.inlinees
    around_same =
        let table = (canon_function f).inlinees in
        let P : List Inlinee → Type 0 = IsTable (λ i. i.depth) (λ i. i.start) f.inlinees in
        sym (same_list (calls_around addr table))
        ∙ chain_through (λ (i : Inlinee). i.depth) (λ i. i.start) (λ i. i.size) (λ (i : Inlinee). i) f.inlinees table
        (subst P (sym (same_list table)) (sorted_table (λ i. i.depth) (λ i. i.start) f.inlinees)) addr

    calls_same : (o : FindSymOpts) → calls_asked o addr (canon_function f).inlinees ≡ calls_asked o addr f.inlinees
    calls_same asked.Basic = refl
    calls_same asked.CodeInfo = refl
    calls_same asked.CodeInfoAndInlined = around_same

    by_line_same : (o : FindSymOpts) (line : Option SourceLine) → by_line (canon t) o (canon_function f) addr line ≡ by_line t o f addr line
    by_line_same o None = refl
    by_line_same o (Some line) = ap by_seen (seen_same (calls_asked o addr (canon_function f).inlinees) line ∙ ap (λ calls. seen_from t calls line) (calls_same o))

    on_line : (o : FindSymOpts) → by_line (canon t) o (canon_function f) addr (line_at addr (canon_function f).lines) ≡ by_line t o f addr (line_at addr f.lines)
    on_line o = by_line_same o (line_at addr (canon_function f).lines) ∙ ap (by_line t o f addr) lines_same

    location_same : (o : FindSymOpts) → location_at (canon t) o (canon_function f) addr ≡ location_at t o f addr
    location_same asked.Basic = refl
    location_same asked.CodeInfo = on_line asked.CodeInfo
    location_same asked.CodeInfoAndInlined = on_line asked.CodeInfoAndInlined

    by_location_same : (p : Result Location Error) → by_location (canon t) (canon_function f) addr p ≡ by_location t f addr p
    by_location_same (Ok location) = refl
    by_location_same (Err e) = refl

  -- the same PUBLIC record is found, and the same functions start between
  publics_same : public_at addr (canon t).publics ≡ public_at addr t.publics
  publics_same = table_public addr t.publics (canon t).publics (sorted_table (λ (p : PublicSymbol). p.start) (λ p. 0) t.publics)

  canon_starts : (fs : List Function) → map (λ (f : Function). f.start) (map canon_function fs) ≡ map (λ (f : Function). f.start) fs
  canon_starts [] = refl
  canon_starts (f ∷ fs) = ap (λ more. f.start ∷ more) (canon_starts fs)

  between_same : (from : ℕ) → any_between from addr (map (λ (f : Function). f.start) (canon t).functions) ≡ any_between from addr (map (λ (f : Function). f.start) t.functions)
  between_same from =
      let test = λ (s : ℕ). nat_le from s && nat_le s addr in
      any_in_table (λ (f : Function). f.start) (λ f. f.size) (map canon_function t.functions) (canon t).functions
      (sorted_table (λ (f : Function). f.start) (λ f. f.size) (map canon_function t.functions)) test
      ∙ ap (list_any test) (canon_starts t.functions)

  by_public_same : (o : Option PublicSymbol) → by_public (canon t) addr o ≡ by_public t addr o
  by_public_same None = refl
  by_public_same (Some p) = ap (λ (b : Bool). cond {A = Answer} b (Unknown reasons.UnknownAddr) (Known (public_symbol_at t p addr))) (between_same p.start)

  by_function_same : (o : Option Function) → by_function (canon t) opts addr (option_map canon_function o) ≡ by_function t opts addr o
  by_function_same None = ap Ok (by_public_same (public_at addr (canon t).publics) ∙ ap (by_public t addr) publics_same)
  by_function_same (Some f) = by_location_same f (location_at (canon t) opts (canon_function f) addr) ∙ ap (by_location t f addr) (location_same f opts)

  function_same : (fs : List Function) → function_at addr (sorted (λ f. f.start) (λ f. f.size) (map canon_function fs)) ≡ option_map canon_function (function_at addr fs)
  function_same fs =
      covering_of_table (λ (f : Function). f.start) (λ f. f.size) (map canon_function fs) (sorted (λ f. f.start) (λ f. f.size) (map canon_function fs))
      (sorted_table (λ (f : Function). f.start) (λ f. f.size) (map canon_function fs)) addr
      ∙ sym (covering_seen (λ (f : Function). f.start) (λ f. f.size) canon_function addr fs)

  functions_count : length (canon t).functions ≡ length t.functions
  functions_count = sorted_length (λ (f : Function). f.start) (λ f. f.size) (map canon_function t.functions) ∙ length-map t.functions canon_function

  publics_count : length (canon t).publics ≡ length t.publics
  publics_count = sorted_length (λ (p : PublicSymbol). p.start) (λ p. 0) t.publics

  pub plain_same : plain (canon t) opts addr ≡ plain t opts addr
  plain_same = elim (cases_lt 0 (length t.functions + length t.publics)) [
    | inl some ↦
        plain-some (canon t) opts addr (function_at addr (canon t).functions) (omega (arith, functions_count, publics_count)) refl
        ∙ ap (by_function (canon t) opts addr) (function_same t.functions)
        ∙ by_function_same (function_at addr t.functions)
        ∙ sym (plain-some t opts addr (function_at addr t.functions) some refl)
    | inr none ↦
        plain_none (canon t) opts addr (omega (arith, functions_count, publics_count)) ∙ sym (plain_none t opts addr (omega arith))
  ]

-- It is its own canonical form.

function_again : (f : Function) → canon_function (canon_function f) ≡ canon_function f
function_again f = λ k. record {
  start = f.start;
  size = f.size;
  parameter_size = f.parameter_size;
  name = f.name;
  lines = sorted_again (λ l. l.start) (λ l. l.size) (canon_function f).lines (sorted_ascends (λ l. l.start) (λ l. l.size) f.lines) k;
  inlinees = sorted_again (λ i. i.depth) (λ i. i.start) (canon_function f).inlinees (sorted_ascends (λ i. i.depth) (λ i. i.start) f.inlinees) k;
}

all_again : (fs : List Function) → AllByRecursion (λ f. canon_function f ≡ f) (map canon_function fs)
all_again [] = tt
all_again (f ∷ fs) = (function_again f, all_again fs)

map_again : (fs : List Function) → AllByRecursion (λ f. canon_function f ≡ f) fs → map canon_function fs ≡ fs
map_again [] all = refl
map_again (f ∷ fs) all = ap (λ g. g ∷ map canon_function fs) all.0 ∙ ap (λ gs. f ∷ gs) (map_again fs all.1)

pub canon_again : (t : Table) → canon (canon t) ≡ canon t
canon_again t =
    let fs = map canon_function t.functions in
    let same : map canon_function (canon t).functions ≡ (canon t).functions
    = map_again (canon t).functions (sorted_all (λ f. f.start) (λ f. f.size) (λ f. canon_function f ≡ f) fs (all_again t.functions)) in
    let functions : (canon (canon t)).functions ≡ (canon t).functions
    = ap (sorted (λ f. f.start) (λ f. f.size)) same
    ∙ sorted_again (λ f. f.start) (λ f. f.size) (canon t).functions (sorted_ascends (λ f. f.start) (λ f. f.size) fs) in
    λ k. record {
      «module» = t.«module»;
      functions = functions k;
      files = t.files;
      origins = t.origins;
      publics = sorted_again (λ p. p.start) (λ p. 0) (canon t).publics (sorted_ascends (λ p. p.start) (λ p. 0) t.publics) k;
    }

-- The text tells it.

-- a file says one table
pub one_table : (bytes : List ℕ) (a b : Table) → IsFile bytes a → IsFile bytes b → a ≡ b
one_table bytes a b is also =
    ap (λ (x : Table × ℕ). x.0) (same_Some (a, is.0) (b, also.0) (sym (accepted_again bytes a is.0 is.1) ∙ accepted_again bytes b also.0 also.1))

pub texts_tell : (a b : Table) → IsPrintable a → IsPrintable b → (canonical_text a ≡ canonical_text b) ↔ (canon a ≡ canon b)
texts_tell a b is also = (
  λ same.
      let P : List ℕ → Type 0 = λ bytes. IsFile bytes (canon a) in
      one_table (canonical_text b) (canon a) (canon b) (subst P same (printed_accepted (canon a) (canon_printable a is))) (printed_accepted (canon b) (canon_printable b also)),
  λ same. ap printed same,
)
