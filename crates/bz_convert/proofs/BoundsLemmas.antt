-- The numbers and texts of a table that is read of bytes are those of the grammar: they fit their
-- widths, and are UTF-8.
use Rattle.std.proofs.Common.{◌≡◌, ◌⊎◌, inl, inr, ℕ, ◌+◌, ◌^◌, ◌<◌, true, option_map, List, [], ◌∷◌, ◌++◌, length, drop, Option, Some, None, refl, sym, ap, subst, ◌∙◌, arith, append_assoc}
use Rattle.std.specs.Prelude.{unwrap_or}
use Rattle.std.specs.BTreeMap.{is_at}
use Rattle.std.specs.List.{AllByRecursion, join_with_byte, slice_index}
use Rattle.std.specs.Ordering.{nat_cmp}
use Rattle.std.specs.Str.{IsUtf8}
use Rattle.std.proofs.lemmas.List.{length-append, take_at, drop_at}
use Rattle.std.proofs.lemmas.Map.Entries.{place_from_lookup}
use Rattle.std.proofs.lemmas.Str.{IsCharBoundary-after_ascii, IsCharBoundary-before_ascii, IsUtf8-append, IsUtf8-drop, IsUtf8-take}
use Rattle.bz_base.specs.Bind.{◌>>=◌}
use Rattle.bz_base.specs.Path.{AreDead, IsDirectory, IsLastLive, IsSplit, root, begins_with_slash, slash, split}
use Rattle.bz_bytes.proofs.SplitLemmas.{split_found}
use Rattle.bz_breakpad_lines.specs.Grammar.{IsFile}
use Rattle.bz_breakpad_lines.specs.Names.{name_for}
use Rattle.bz_breakpad_lines.specs.Printed.{FunctionFits, IsPrintable, file_record, inlinee_one, line_one, origin_record}
use Rattle.bz_breakpad_lines.specs.Reader.{Reading, reading_in, table_in, table_read}
use Rattle.bz_breakpad_lines.specs.Table.{SourceLine, Inlinee, Function, Table}
use Rattle.bz_breakpad_lines.specs.Contexts.Record.{OfFunc}
use Rattle.bz_breakpad_lines.specs.Written.{RecordFits}
use Rattle.bz_breakpad_lines.proofs.GrammarLaws.{accepted_found}
use Rattle.bz_breakpad_lines.proofs.PrintableLaws.{accepted_printable}
use Rattle.bz_breakpad_lines.proofs.Turns.{bind_some, map_some}
use Rattle.bz_gsym_layout.specs.Members.{In}
use Rattle.bz_convert.specs.Plan.{located, source_by}
use Rattle.bz_gsym_layout.specs.Plan.{Source}
use Rattle.bz_gsym_layout.proofs.MemberLemmas.{all_append, member_of}

-- the numbers of a function fit their widths, and its name is UTF-8
pub record IsBounded (f : Function) : Type 0 where
  pub start : f.start < 2 ^ 64
  pub size : f.size < 2 ^ 32
  pub name : IsUtf8 f.name
  pub lines : (l : SourceLine) → In f.lines l → l.line < 2 ^ 32
  pub calls : (i : Inlinee) → In f.inlinees i → i.call_line < 2 ^ 32
  pub depths : (i : Inlinee) → In f.inlinees i → i.depth < 2 ^ 32

-- so do those of each function, and all texts are UTF-8
pub record AreBounded (table : Table) : Type 0 where
  pub functions : (f : Function) → In table.functions f → IsBounded f
  pub files : (id : ℕ) (source : Source) → located table id ≡ Some source → IsUtf8 source.dir × IsUtf8 source.file
  pub origins : (id : ℕ) (name : List ℕ) → name_for id table.origins ≡ Some name → IsUtf8 name

-- Texts that are cut at a slash.
cut_at : (front rest : List ℕ) (last : ℕ) → slice_index (front ++ last ∷ rest) (length front) ≡ last
cut_at [] rest last = refl
cut_at (b ∷ front) rest last = cut_at front rest last

cut_utf8 : (a b : List ℕ) → IsUtf8 (a ++ slash ∷ b) → IsUtf8 a × IsUtf8 b
cut_utf8 a b is =
    let text : List ℕ = a ++ slash ∷ b in
    let within : length a < length text = omega (arith, length-append a (slash ∷ b)) in
    let low : slice_index text (length a) < 128 = omega (arith, cut_at a b slash) in
    let front = IsUtf8-take text (length a) is (IsCharBoundary-before_ascii text (length a) within low) in
    let back = IsUtf8-drop text (length a + 1) is (IsCharBoundary-after_ascii text (length a) is within low) in
    let whole : text ≡ (a ++ slash ∷ []) ++ b = sym (append_assoc a (slash ∷ []) b) in (
      subst IsUtf8 (take_at a (slash ∷ b) (length a) refl) front,
      subst IsUtf8 (ap (drop (length a + 1)) whole ∙ drop_at (a ++ slash ∷ []) b (length a + 1) (length-append a (slash ∷ []))) back,
    )

slash_utf8 : IsUtf8 (slash ∷ [])
unfolding lib.Utf8.encode
slash_utf8 = (slash ∷ [], (refl, refl))

pieces_utf8 : (all : List (List ℕ)) → IsUtf8 (join_with_byte slash all) → AllByRecursion IsUtf8 all
pieces_utf8 [] is = tt
pieces_utf8 (x ∷ []) is = (is, tt)
pieces_utf8 (x ∷ y ∷ more) is = let two = cut_utf8 x (join_with_byte slash (y ∷ more)) is in (two.0, pieces_utf8 (y ∷ more) two.1)

joined_utf8 : (all : List (List ℕ)) → AllByRecursion IsUtf8 all → IsUtf8 (join_with_byte slash all)
joined_utf8 [] all = ([], (refl, refl))
joined_utf8 (x ∷ []) all = all.0
joined_utf8 (x ∷ y ∷ more) all = IsUtf8-append x (slash ∷ join_with_byte slash (y ∷ more)) all.0 (IsUtf8-append (slash ∷ []) (join_with_byte slash (y ∷ more)) slash_utf8 (joined_utf8 (y ∷ more) all.1))

before_all : (before : List (List ℕ)) (piece : List ℕ) (after : List (List ℕ)) → AllByRecursion IsUtf8 (before ++ piece ∷ after) → AllByRecursion IsUtf8 before × IsUtf8 piece
before_all [] piece after all = (tt, all.0)
before_all (x ∷ before) piece after all = let rest = before_all before piece after all.1 in ((all.0, rest.0), rest.1)

directory_utf8 : (text : List ℕ) (before : List (List ℕ)) (dir : Option (List ℕ)) → AllByRecursion IsUtf8 before → IsDirectory text before dir → IsUtf8 (unwrap_or dir [])
directory_utf8 text before None all is = ([], (refl, refl))
directory_utf8 text before (Some dir) all (inl (earlier, piece, live, same)) =
    let parts = before_all earlier piece live.after (subst (AllByRecursion IsUtf8) live.parts all) in
    subst IsUtf8 (sym same) (joined_utf8 (earlier ++ piece ∷ []) (all_append IsUtf8 earlier (piece ∷ []) parts.0 (parts.1, tt)))
directory_utf8 text before (Some dir) all (inr (dead, rooted, same)) = subst IsUtf8 (sym same) slash_utf8

split_utf8 : (text : List ℕ) (dir : Option (List ℕ)) (file : List ℕ) → IsUtf8 text → IsSplit text dir file → IsUtf8 (unwrap_or dir []) × IsUtf8 file
split_utf8 text dir file utf8 is = by is.file_is where
  all : AllByRecursion IsUtf8 is.all
  all = pieces_utf8 is.all (subst IsUtf8 is.are_pieces.whole utf8)

  by : ((before : List (List ℕ)) × IsLastLive is.all before file × IsDirectory text before dir) ⊎ (AreDead true is.all × (begins_with_slash text ≡ true) × (file ≡ root) × (dir ≡ None)) →
      IsUtf8 (unwrap_or dir []) × IsUtf8 file
  by (inl (before, live, directory)) =
      let parts = before_all before file live.after (subst (AllByRecursion IsUtf8) live.parts all) in
      (directory_utf8 text before dir parts.0 directory, parts.1)
  by (inr (dead, rooted, same, none)) = (ap_none dir none, subst IsUtf8 (sym same) slash_utf8) where
    ap_none : (d : Option (List ℕ)) → d ≡ None → IsUtf8 (unwrap_or d [])
    ap_none d is = subst (λ o. IsUtf8 (unwrap_or o [])) (sym is) ([], (refl, refl))

-- bytes with a table are a file that says it
table_found : (bytes : List ℕ) (table : Table) → table_in bytes ≡ Some table → IsFile bytes table
table_found bytes table is =
    let reading = map_some table_read (reading_in bytes) table is in (
      reading.0.count,
      accepted_found bytes table reading.0.count
          (ap (option_map (λ (r : Reading). (table_read r, r.count))) reading.1 ∙ ap (λ t. Some (t, reading.0.count)) reading.2),
    )

-- what a look-up finds is the name of an entry
found_fits : (P : ℕ × List ℕ → Type 0) (id : ℕ) (names : List (ℕ × List ℕ)) (name : List ℕ) → AllByRecursion P names → name_for id names ≡ Some name → (k : ℕ) × P (k, name)
found_fits P id names name all is =
    let at = place_from_lookup (is_at (nat_cmp id)) names name is in
    (at.1, member_of P names all (at.1, name) (at.0, at.2))

module _ (table : Table) (is : IsPrintable table) where
  file_utf8 : (id : ℕ) (name : List ℕ) → name_for id table.files ≡ Some name → IsUtf8 name
  file_utf8 id name found = (found_fits (λ n. RecordFits (file_record n)) id table.files name is.files_fit found).1.1.1.1.1.name_is.utf8

  origin_utf8 : (id : ℕ) (name : List ℕ) → name_for id table.origins ≡ Some name → IsUtf8 name
  origin_utf8 id name found = (found_fits (λ n. RecordFits (origin_record n)) id table.origins name is.origins_fit found).1.1.1.1.1.name_is.utf8

  function_bounded : (f : Function) → In table.functions f → IsBounded f
  function_bounded f there = let fits = member_of FunctionFits table.functions is.functions_fit f there in record {
    start = omega (arith, fits.func_fits.1.1.1.0);
    size = omega (arith, fits.func_fits.1.1.1.1.1.0);
    name = fits.func_fits.1.1.1.1.1.1.1.1.1.name_is.utf8;
    lines = λ l among. let own = member_of (λ (l : SourceLine). RecordFits (OfFunc (line_one l))) f.lines fits.lines_fit l among in omega (arith, own.1.1.1.1.0);
    calls = λ i among. let own = member_of (λ (i : Inlinee). RecordFits (OfFunc (inlinee_one i))) f.inlinees fits.inlinees_fit i among in omega (arith, own.1.1.1.1.0);
    depths = λ i among. let own = member_of (λ (i : Inlinee). RecordFits (OfFunc (inlinee_one i))) f.inlinees fits.inlinees_fit i among in omega (arith, own.1.1.0);
  }

  source_utf8 : (id : ℕ) (source : Source) → located table id ≡ Some source → IsUtf8 source.dir × IsUtf8 source.file
  source_utf8 id source at =
      let cut = map_some source_by (name_for id table.files >>= split) source at in
      let name = bind_some (name_for id table.files) split cut.0 cut.1 in
      let two = split_utf8 name.0 cut.0.0 cut.0.1 (file_utf8 id name.0 name.1) (split_found name.0 cut.0.0 cut.0.1 name.2) in
      subst (λ (s : Source). IsUtf8 s.dir × IsUtf8 s.file) cut.2 two

  printable_bounded : AreBounded table
  printable_bounded = record { functions = function_bounded; files = source_utf8; origins = origin_utf8 }

-- The table of bytes.
pub table_bounded : (bytes : List ℕ) (table : Table) → table_in bytes ≡ Some table → AreBounded table
table_bounded bytes table is = let file = table_found bytes table is in printable_bounded table (accepted_printable bytes table file.0 file.1)
