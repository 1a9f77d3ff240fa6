-- The table of a file is one that a file can say.
use Rattle.std.proofs.Common.{ℕ, ◌^◌, ◌<◌, ◌≤◌, Bool, not, nat_eq, inl, inr, List, [], ◌∷◌, ◌++◌, filter_map, Option, Some, None, Ordering, Less, Equal, Greater, nat_cmp, refl, sym, subst, arith}
use Rattle.std.specs.BTreeMap.{insert_entry}
use Rattle.std.specs.List.{AllByRecursion, cons_option, flat_map}
use Rattle.std.specs.Ordering.{match_ordering}
use Rattle.std.proofs.lemmas.Bool.{or_from, or_parts, not-true}
use Rattle.bz_base.specs.Byte.{HasNo, carriage_return, line_feed}
use Rattle.bz_base.proofs.NumberLemmas.{digits_below}
use Rattle.bz_breakpad_lines.specs.Byte.{is_carriage_return, is_within_line}
use Rattle.bz_breakpad_lines.specs.Choice.{One, SpellsOne}
use Rattle.bz_breakpad_lines.specs.Form.{Piece, Form, Tell, Value, AllPass, IsPiece, InTurn, Spells, greatest, told}
use Rattle.bz_breakpad_lines.specs.Form.Piece.{Tag, Mark, Separator, ModuleSeparator, Gap, Word, Hex, Decimal}
use Rattle.bz_breakpad_lines.specs.Form.Form.{End, Name, SeparatorText, Many, ◌·◌}
use Rattle.bz_breakpad_lines.specs.Grammar.{Accepted, AreRoles, IsRecordLine, Role, records_of}
use Rattle.bz_breakpad_lines.specs.Grammar.Role.{Blank, Is}
use Rattle.bz_breakpad_lines.specs.Names.{names_in, with_name, with_names}
use Rattle.bz_breakpad_lines.specs.Printed.{AreAscending, FunctionFits, IsPrintable, file_record, inlinee_one, line_one, module_records, origin_record, public_record}
use Rattle.bz_breakpad_lines.specs.Records.{TOP, INNER, INLINE, RANGE}
use Rattle.bz_breakpad_lines.specs.Kinds.{InnerRecord, inlinees_in, inner_of, top_of}
use Rattle.bz_breakpad_lines.specs.Kinds.InnerRecord.{Line, Inline, InnerOrigin}
use Rattle.bz_breakpad_lines.specs.Says.{file_of, functions_of, inlinees_of, line_of, first_module, module_of, origin_of, inner_records, public_of, table_of, function_with}
use Rattle.bz_breakpad_lines.specs.Table.{Named, Table}
use Rattle.bz_breakpad_lines.specs.Contexts.{Context, Record, IsBodyOf}
use Rattle.bz_breakpad_lines.specs.Contexts.Context.{Outside, InFunc, InCfi}
use Rattle.bz_breakpad_lines.specs.Contexts.Record.{Top, OfFunc, OfCfi}
use Rattle.bz_breakpad_lines.specs.Written.{FormFits, OneFits, PieceFits, RecordFits}
use Rattle.bz_breakpad_lines.proofs.PrintedLaws.{all_append}
use Rattle.bz_breakpad_lines.proofs.NameLemmas.{AllAbove, Ascend, ascend_with}

-- A text that a line has tells what a line can tell.

all_front : (test : ℕ → Bool) (front back : List ℕ) → AllPass test (front ++ back) → AllPass test front
all_front test [] back all = tt
all_front test (b ∷ front) back all = (all.0, all_front test front back all.1)

all_back : (test : ℕ → Bool) (front back : List ℕ) → AllPass test (front ++ back) → AllPass test back
all_back test [] back all = all
all_back test (b ∷ front) back all = all_back test front back all.1

piece_fits : (p : Piece) (text : List ℕ) (v : Tell p) → IsPiece p text v → PieceFits p v
piece_fits (Tag tag) text v is = tt
piece_fits (Mark b) text v is = tt
piece_fits Separator text v is = tt
piece_fits ModuleSeparator text v is = tt
piece_fits Gap text v is = tt
piece_fits Word text v is = tt
piece_fits (Hex most) text v is =
    let below = digits_below 16 text most (omega arith) is.few is.digits in
    let P : ℕ → Type 0 = λ n. n < 16 ^ most in
    subst P (sym is.valued) below
piece_fits Decimal text v is = is.fits

told_fits : (p : Piece) (f : Form) (x : Tell p) (v : Value f) → PieceFits p x → FormFits f v → FormFits (p · f) (told p x v)
told_fits (Tag tag) f x v piece form = (tt, form)
told_fits (Mark b) f x v piece form = (tt, form)
told_fits Separator f x v piece form = (tt, form)
told_fits ModuleSeparator f x v piece form = (tt, form)
told_fits Gap f x v piece form = (tt, form)
told_fits Word f x v piece form = (tt, form)
told_fits (Hex most) f x v piece form = (piece, form)
told_fits Decimal f x v piece form = (piece, form)

turns_fit : (f : Form) → ((text : List ℕ) (v : Value f) → AllPass is_within_line text → Spells f text v → FormFits f v) → (values : List (Value f)) (text : List ℕ) →
    AllPass is_within_line text → InTurn (Spells f) text values → AllByRecursion (FormFits f) values
turns_fit f each [] text all is = tt
turns_fit f each (v ∷ values) text all is =
    let P : List ℕ → Type 0 = AllPass is_within_line in
    let parts = subst P is.2 all in
    (each is.0 v (all_front is_within_line is.0 is.1 parts) is.3, turns_fit f each values is.1 (all_back is_within_line is.0 is.1 parts) is.4)

form_fits : (f : Form) (text : List ℕ) (v : Value f) → AllPass is_within_line text → Spells f text v → FormFits f v
form_fits End text v all is = tt
form_fits Name text v all is =
    let P : List ℕ → Type 0 = λ name. FormFits Name name in
    subst P (sym is.1) (record { name_is = is.0; within = all })
form_fits SeparatorText text v all is = tt
form_fits (Many f) text values all is = (is.0, turns_fit f (form_fits f) values text all is.1)
form_fits (p · f) text v all is =
    let P : List ℕ → Type 0 = AllPass is_within_line in
    let parts = subst P is.whole all in
    let Q : Value (p · f) → Type 0 = FormFits (p · f) in
    subst Q (sym is.valued)
    (told_fits p f is.tells is.others (piece_fits p is.front is.tells is.front_is)
    (form_fits f is.back is.others (all_back is_within_line is.front is.back parts) is.back_is))

one_fits : (forms : List Form) (text : List ℕ) (one : One forms) → AllPass is_within_line text → SpellsOne forms text one → OneFits forms one
one_fits [] text one all is = is
one_fits (f ∷ forms) text (inl v) all is = form_fits f text v all is
one_fits (f ∷ forms) text (inr other) all is = one_fits forms text other all is

body_fits : (c : Context) (body : List ℕ) (r : Record) → AllPass is_within_line body → IsBodyOf c body r → RecordFits r
body_fits c body (Top one) all is = one_fits TOP body one all is.1
body_fits Outside body (OfFunc one) all is = absurd is
body_fits InFunc body (OfFunc one) all is = one_fits INNER body one all is
body_fits InCfi body (OfFunc one) all is = absurd is
body_fits c body OfCfi all is = tt

-- the body of a line has no ends
body_within : (body rest : List ℕ) → HasNo line_feed (body ++ rest) → AllPass (λ b. not (is_carriage_return b)) body → AllPass is_within_line body
body_within [] rest none all = tt
body_within (b ∷ body) rest none all =
    let parts = or_parts (nat_eq b line_feed) _ none in
    (rw (or_from (nat_eq b line_feed) (nat_eq b carriage_return) parts.0 (not-true (nat_eq b carriage_return) all.0)) refl, body_within body rest parts.1 all.1)

has_none_after : (front text : List ℕ) → HasNo line_feed (front ++ text) → HasNo line_feed text
has_none_after [] text none = none
has_none_after (b ∷ front) text none = has_none_after front text (or_parts (nat_eq b line_feed) _ none).1

line_fits : (before : List Role) (line : List ℕ) (r : Record) → HasNo line_feed line → IsRecordLine before line r → RecordFits r
line_fits before line r none is =
    let P : List ℕ → Type 0 = HasNo line_feed in
    let text = has_none_after is.text_is.front is.text (subst P is.text_is.whole none) in
    let body = is.record_is.1 in
    body_fits _ is.record_is.0 r (body_within is.record_is.0 body.ends (subst P body.whole text) body.body_is) is.record_is.2

roles_fit : (before : List Role) (lines : List (List ℕ)) (roles : List Role) → AllByRecursion (HasNo line_feed) lines → AreRoles before lines roles →
    AllByRecursion RecordFits (records_of roles)
roles_fit before [] [] none are = tt
roles_fit before [] (role ∷ roles) none are = absurd are
roles_fit before (line ∷ lines) [] none are = absurd are
roles_fit before (line ∷ lines) (Blank ∷ roles) none are = roles_fit (Blank ∷ before) lines roles none.1 are.1
roles_fit before (line ∷ lines) (Is r ∷ roles) none are = (line_fits before line r none.0 are.0, roles_fit (Is r ∷ before) lines roles none.1 are.1)

-- What the records say fits.

-- what is there fits
abbrev IfThere : {A : Type 0} → (A → Type 0) → Option A → Type 0
IfThere P None = Unit {0}
IfThere P (Some x) = P x

all_there : {A : Type 0} → (P : A → Type 0) → (h : Record → Option A) → ((r : Record) → RecordFits r → IfThere P (h r)) → (records : List Record) →
    AllByRecursion RecordFits records → AllByRecursion P (filter_map h records)
all_there P h each [] fit = tt
all_there {A = A} P h each (r ∷ records) fit = by (h r) (each r fit.0) (all_there P h each records fit.1) where
  by : (o : Option A) → IfThere P o → AllByRecursion P (filter_map h records) → AllByRecursion P (cons_option o (filter_map h records))
  by None is more = more
  by (Some x) is more = (is, more)

abbrev named_pair : Named → ℕ × List ℕ
named_pair n = (n.id, n.name)

file_fits : (r : Record) → RecordFits r → IfThere (λ n. RecordFits (file_record (named_pair n))) (file_of r)
file_fits (Top (inl name)) fits = tt
file_fits (Top (inr (inl info))) fits = tt
file_fits (Top (inr (inr (inl file)))) fits = fits
file_fits (Top (inr (inr (inr (inl origin))))) fits = tt
file_fits (Top (inr (inr (inr (inr (inl symbol)))))) fits = tt
file_fits (Top (inr (inr (inr (inr (inr (inl func))))))) fits = tt
file_fits (Top (inr (inr (inr (inr (inr (inr (inl win)))))))) fits = tt
file_fits (Top (inr (inr (inr (inr (inr (inr (inr cfi)))))))) fits = tt
file_fits (OfFunc one) fits = tt
file_fits OfCfi fits = tt

origin_fits : (r : Record) → RecordFits r → IfThere (λ n. RecordFits (origin_record (named_pair n))) (origin_of r)
origin_fits (Top (inl name)) fits = tt
origin_fits (Top (inr (inl info))) fits = tt
origin_fits (Top (inr (inr (inl file)))) fits = tt
origin_fits (Top (inr (inr (inr (inl origin))))) fits = fits
origin_fits (Top (inr (inr (inr (inr (inl symbol)))))) fits = tt
origin_fits (Top (inr (inr (inr (inr (inr (inl func))))))) fits = tt
origin_fits (Top (inr (inr (inr (inr (inr (inr (inl win)))))))) fits = tt
origin_fits (Top (inr (inr (inr (inr (inr (inr (inr cfi)))))))) fits = tt
origin_fits (OfFunc (inl line)) fits = tt
origin_fits (OfFunc (inr (inl inline))) fits = tt
origin_fits (OfFunc (inr (inr (inl origin)))) fits = fits
origin_fits (OfFunc (inr (inr (inr none)))) fits = absurd none
origin_fits OfCfi fits = tt

public_fits : (r : Record) → RecordFits r → IfThere (λ p. RecordFits (public_record p)) (public_of r)
public_fits (Top (inl name)) fits = tt
public_fits (Top (inr (inl info))) fits = tt
public_fits (Top (inr (inr (inl file)))) fits = tt
public_fits (Top (inr (inr (inr (inl origin))))) fits = tt
public_fits (Top (inr (inr (inr (inr (inl symbol)))))) fits = fits
public_fits (Top (inr (inr (inr (inr (inr (inl func))))))) fits = tt
public_fits (Top (inr (inr (inr (inr (inr (inr (inl win)))))))) fits = tt
public_fits (Top (inr (inr (inr (inr (inr (inr (inr cfi)))))))) fits = tt
public_fits (OfFunc one) fits = tt
public_fits OfCfi fits = tt

module_of_fits : (r : Record) → RecordFits r → AllByRecursion RecordFits (module_records (module_of r))
module_of_fits (Top (inl name)) fits = (fits, tt)
module_of_fits (Top (inr (inl info))) fits = tt
module_of_fits (Top (inr (inr (inl file)))) fits = tt
module_of_fits (Top (inr (inr (inr (inl origin))))) fits = tt
module_of_fits (Top (inr (inr (inr (inr (inl symbol)))))) fits = tt
module_of_fits (Top (inr (inr (inr (inr (inr (inl func))))))) fits = tt
module_of_fits (Top (inr (inr (inr (inr (inr (inr (inl win)))))))) fits = tt
module_of_fits (Top (inr (inr (inr (inr (inr (inr (inr cfi)))))))) fits = tt
module_of_fits (OfFunc one) fits = tt
module_of_fits OfCfi fits = tt

first_module_fits : (records : List Record) → AllByRecursion RecordFits records → AllByRecursion RecordFits (module_records (first_module records))
first_module_fits [] fit = tt
first_module_fits (r ∷ records) fit = module_of_fits r fit.0

-- Names by ids.

module _ (P : ℕ × List ℕ → Type 0) (mixed : (a b : ℕ × List ℕ) → P a → P b → P (a.0, b.1)) where
  name_fits : (names : List (ℕ × List ℕ)) (k : ℕ) (v : List ℕ) → AllByRecursion P names → P (k, v) → AllByRecursion P (insert_entry nat_cmp names k v)
  name_fits [] k v all more = (more, tt)
  name_fits (e ∷ names) k v all more = by (nat_cmp k e.0) (name_fits names k v all.1 more) where
    by : (r : Ordering) → AllByRecursion P (insert_entry nat_cmp names k v) →
        AllByRecursion P (match_ordering r ((k, v) ∷ e ∷ names) ((e.0, v) ∷ names) (e ∷ insert_entry nat_cmp names k v))
    by Less later = (more, all)
    by Equal later = (mixed e (k, v) all.0 more, all.1)
    by Greater later = (all.0, later)

  names_fit : (records : List Named) (names : List (ℕ × List ℕ)) → AllByRecursion (λ n. P (named_pair n)) records → AllByRecursion P names →
      AllByRecursion P (with_names names records)
  names_fit [] names records_fit names_are = names_are
  names_fit (n ∷ records) names records_fit names_are = names_fit records (with_name names n) records_fit.1 (name_fits names n.id n.name names_are records_fit.0)

names_ascend : (records : List Named) (names : List (ℕ × List ℕ)) → Ascend names → Ascend (with_names names records)
names_ascend [] names up = up
names_ascend (n ∷ records) names up = names_ascend records (with_name names n) (ascend_with n.id n.name names up)

all_above : (k : ℕ) (names : List (ℕ × List ℕ)) → AllAbove k names → AllByRecursion (λ m. k < m.0) names
all_above k [] above = tt
all_above k (n ∷ names) above = (above.0, all_above k names above.1)

ascending : (names : List (ℕ × List ℕ)) → Ascend names → AreAscending names
ascending [] up = tt
ascending (n ∷ names) up = (all_above n.0 names up.0, ascending names up.1)

-- Functions.

abbrev InnerFits : InnerRecord → Type 0
InnerFits (Line l) = RecordFits (OfFunc (line_one l))
InnerFits (Inline is) = AllByRecursion (λ i. RecordFits (OfFunc (inlinee_one i))) is
InnerFits (InnerOrigin n) = Unit {0}

ranges_fit : (depth call_line call_file origin : ℕ) → depth ≤ greatest → call_line ≤ greatest → call_file ≤ greatest → origin ≤ greatest →
    (ranges : List (Value RANGE)) → AllByRecursion (FormFits RANGE) ranges →
    AllByRecursion (λ i. RecordFits (OfFunc (inlinee_one i))) (inlinees_in (depth, (call_line, (call_file, (origin, ranges)))))
ranges_fit depth call_line call_file origin d l c o [] all = tt
ranges_fit depth call_line call_file origin d l c o (range ∷ ranges) all = (
  (tt, (tt, (d, (tt, (l, (tt, (c, (tt, (o, (omega arith, (all.0, tt))))))))))),
  ranges_fit depth call_line call_file origin d l c o ranges all.1,
)

inlinees_fit : (v : Value INLINE) → FormFits INLINE v → AllByRecursion (λ i. RecordFits (OfFunc (inlinee_one i))) (inlinees_in v)
inlinees_fit v fits =
    let depth = fits.1.1 in
    let line = depth.1.1 in
    let file = line.1.1 in
    let origin = file.1.1 in
    ranges_fit v.0 v.1.0 v.1.1.0 v.1.1.1.0 depth.0 line.0 file.0 origin.0 v.1.1.1.1 origin.1.1

inner_fits : (one : One INNER) → RecordFits (OfFunc one) → InnerFits (inner_of one)
inner_fits (inl line) fits = fits
inner_fits (inr (inl inline)) fits = inlinees_fit inline fits
inner_fits (inr (inr (inl origin))) fits = tt
inner_fits (inr (inr (inr none))) fits = absurd none

inner_records_fit : (records : List Record) → AllByRecursion RecordFits records → AllByRecursion InnerFits (inner_records records)
inner_records_fit [] fit = tt
inner_records_fit (Top one ∷ records) fit = tt
inner_records_fit (OfFunc one ∷ records) fit = (inner_fits one fit.0, inner_records_fit records fit.1)
inner_records_fit (OfCfi ∷ records) fit = inner_records_fit records fit.1

inner_lines_fit : (inner : List InnerRecord) → AllByRecursion InnerFits inner → AllByRecursion (λ l. RecordFits (OfFunc (line_one l))) (flat_map line_of inner)
inner_lines_fit [] fit = tt
inner_lines_fit (Line l ∷ inner) fit = (fit.0, inner_lines_fit inner fit.1)
inner_lines_fit (Inline is ∷ inner) fit = inner_lines_fit inner fit.1
inner_lines_fit (InnerOrigin n ∷ inner) fit = inner_lines_fit inner fit.1

inner_inlinees_fit : (inner : List InnerRecord) → AllByRecursion InnerFits inner → AllByRecursion (λ i. RecordFits (OfFunc (inlinee_one i))) (flat_map inlinees_of inner)
inner_inlinees_fit [] fit = tt
inner_inlinees_fit (Line l ∷ inner) fit = inner_inlinees_fit inner fit.1
inner_inlinees_fit (Inline is ∷ inner) fit =
    all_append (λ i. RecordFits (OfFunc (inlinee_one i))) is (flat_map inlinees_of inner) fit.0 (inner_inlinees_fit inner fit.1)
inner_inlinees_fit (InnerOrigin n ∷ inner) fit = inner_inlinees_fit inner fit.1

function_fits : (one : One TOP) (inner : List InnerRecord) → RecordFits (Top one) → AllByRecursion InnerFits inner → AllByRecursion FunctionFits (function_with (top_of one) inner)
function_fits (inl name) inner fits sub = tt
function_fits (inr (inl info)) inner fits sub = tt
function_fits (inr (inr (inl file))) inner fits sub = tt
function_fits (inr (inr (inr (inl origin)))) inner fits sub = tt
function_fits (inr (inr (inr (inr (inl symbol))))) inner fits sub = tt
function_fits (inr (inr (inr (inr (inr (inl func)))))) inner fits sub = (record { func_fits = fits; inlinees_fit = inner_inlinees_fit inner sub; lines_fit = inner_lines_fit inner sub }, tt)
function_fits (inr (inr (inr (inr (inr (inr (inl win))))))) inner fits sub = tt
function_fits (inr (inr (inr (inr (inr (inr (inr cfi))))))) inner fits sub = tt

functions_fit : (records : List Record) → AllByRecursion RecordFits records → AllByRecursion FunctionFits (functions_of records)
functions_fit [] fit = tt
functions_fit (Top one ∷ records) fit =
    all_append FunctionFits (function_with (top_of one) (inner_records records)) (functions_of records)
    (function_fits one (inner_records records) fit.0 (inner_records_fit records fit.1)) (functions_fit records fit.1)
functions_fit (OfFunc one ∷ records) fit = functions_fit records fit.1
functions_fit (OfCfi ∷ records) fit = functions_fit records fit.1

-- what records say that lines have can be said
records_printable : (records : List Record) → AllByRecursion RecordFits records → IsPrintable (table_of records)
records_printable records fit = record {
  module_fits = first_module_fits records fit;
  files_fit = names_fit (λ n. RecordFits (file_record n)) (λ a b x y. (tt, (tt, (x.1.1.0, (tt, y.1.1.1.1))))) (filter_map file_of records) []
      (all_there (λ n. RecordFits (file_record (named_pair n))) file_of file_fits records fit) tt;
  origins_fit = names_fit (λ n. RecordFits (origin_record n)) (λ a b x y. (tt, (tt, (x.1.1.0, (tt, y.1.1.1.1))))) (filter_map origin_of records) []
      (all_there (λ n. RecordFits (origin_record (named_pair n))) origin_of origin_fits records fit) tt;
  publics_fit = all_there (λ p. RecordFits (public_record p)) public_of public_fits records fit;
  functions_fit = functions_fit records fit;
  files_ascend = ascending (names_in (filter_map file_of records)) (names_ascend (filter_map file_of records) [] tt);
  origins_ascend = ascending (names_in (filter_map origin_of records)) (names_ascend (filter_map origin_of records) [] tt);
}

-- the table of a file can be said
pub accepted_printable : (bytes : List ℕ) (t : Table) (count : ℕ) → Accepted bytes t count → IsPrintable t
accepted_printable bytes t count is =
    let P : Table → Type 0 = IsPrintable in
    subst P (sym is.says) (records_printable (records_of is.roles) (roles_fit [] is.lines is.roles is.are_lines.no_line_feed is.are_roles))
