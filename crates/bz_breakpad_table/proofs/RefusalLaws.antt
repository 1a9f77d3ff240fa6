-- What is found of bytes is why they are refused.
use Rattle.std.proofs.Common.{◌≡◌, ℕ, ◌<◌, List, [], ◌∷◌, ◌++◌, length, Option, Some, None, refl, sym, ap, subst, ◌∙◌, arith, append-nil, length-append}
use Rattle.std.specs.List.{flat_map}
use Rattle.std.proofs.lemmas.Option.{none-some}
use Rattle.bz_base.specs.Line.{ended, AreEnded, AreLines, all_lines, ended_lines}
use Rattle.bz_base.proofs.LineLemmas.{all_found, all_again, ended_found, ended_again}
use Rattle.bz_breakpad_lines.specs.Grammar.{IsFile, records_of}
use Rattle.bz_breakpad_lines.specs.Says.{table_of}
use Rattle.bz_breakpad_lines.specs.Table.{Table}
use Rattle.bz_breakpad_table.specs.Admitted.{AreAdmitted, at_front, refused_from}
use Rattle.bz_breakpad_table.specs.Refusals.{IsFirstRefused, IsUnended, IsRefusal, refusal_by, refusal_in}
use Rattle.bz_breakpad_table.specs.declared.refused.Refused.{Refused}
use Rattle.bz_breakpad_table.specs.declared.refused.Refused.TheVariants.{Line, NoEnd, Empty}
use Rattle.bz_breakpad_table.proofs.AdmittedLaws.{admitted_found, admitted_again, unadmitted_found, unadmitted_again, stop_found, stop_again, pass_found, pass_again}

-- lines that each have their end are lines
ended_are_lines : (bytes : List ℕ) (lines : List (List ℕ)) → AreEnded bytes lines → AreLines bytes lines
ended_are_lines bytes lines are = record {
  front = lines;
  rest = [];
  whole = are.whole ∙ sym (append-nil (flat_map ended lines));
  no_line_feed = are.no_line_feed;
  rest_has_none = refl;
  lines_are = sym (append-nil lines);
}

-- the lines that each have their end are all lines
ended_all : (bytes : List ℕ) (lines : List (List ℕ)) → AreEnded bytes lines → all_lines bytes ≡ lines
ended_all bytes lines are = all_again bytes lines (ended_are_lines bytes lines are)

-- What is found is so.

-- the line whose number is found is the first that isn't admitted
line_found : (bytes : List ℕ) (number : ℕ) → refused_from at_front 1 (all_lines bytes) ≡ Some number → IsFirstRefused bytes number
line_found bytes number found =
    let stop = stop_found at_front 1 (all_lines bytes) number found in
    record {
      before = stop.before;
      line = stop.line;
      after = stop.after;
      are_lines = subst (AreLines bytes) stop.split (all_found bytes);
      admitted = admitted_found stop.before stop.admitted;
      refused = unadmitted_found (stop.before ++ stop.line ∷ []) stop.refused;
      numbered = stop.numbered;
    }

-- where no line is found and an end is missing, it is that of the last line
unended_found : (bytes : List ℕ) → refused_from at_front 1 (all_lines bytes) ≡ None → ended_lines bytes ≡ None → IsUnended bytes
unended_found bytes found ends = record {
  lines = all_lines bytes;
  are_lines = all_found bytes;
  admitted = admitted_found (all_lines bytes) (pass_found at_front 1 (all_lines bytes) found);
  unended = λ are. none-some (all_lines bytes) (sym ends ∙ ended_again bytes (all_lines bytes) are);
}

-- bytes of lines have a line
some_lines : (b : ℕ) (bytes : List ℕ) (lines : List (List ℕ)) → AreEnded (b ∷ bytes) lines → 0 < length lines
some_lines b bytes [] are = absurd (omega (arith, ap length are.whole))
some_lines b bytes (line ∷ lines) are = omega arith

-- where no line is found and each has its end, the bytes are a Breakpad file
file_found : (b : ℕ) (bytes : List ℕ) (lines : List (List ℕ)) → refused_from at_front 1 (all_lines (b ∷ bytes)) ≡ None → ended_lines (b ∷ bytes) ≡ Some lines →
    (table : Table) × IsFile (b ∷ bytes) table
file_found b bytes lines found ends =
    let are = ended_found (b ∷ bytes) lines ends in
    let admitted = admitted_found (all_lines (b ∷ bytes)) (pass_found at_front 1 (all_lines (b ∷ bytes)) found) in
    let have = subst AreAdmitted (ended_all (b ∷ bytes) lines are) admitted in (
      table_of (records_of have.roles),
      (
        length (records_of have.roles),
        record {
          lines = lines;
          roles = have.roles;
          positive = some_lines b bytes lines are;
          are_lines = are;
          are_roles = have.are_roles;
          module_first = have.module_first;
          says = refl;
          counts = refl;
        },
      ),
    )

-- what is found is why the bytes are refused
pub refusal_found : (bytes : List ℕ) → IsRefusal bytes (refusal_in bytes)
unfolding refusal_in
refusal_found [] = refl
refusal_found (b ∷ bytes) = by (refused_from at_front 1 (all_lines (b ∷ bytes))) refl (ended_lines (b ∷ bytes)) refl
  where
    by : (found : Option ℕ) → refused_from at_front 1 (all_lines (b ∷ bytes)) ≡ found → (ends : Option (List (List ℕ))) → ended_lines (b ∷ bytes) ≡ ends →
        IsRefusal (b ∷ bytes) (refusal_by found ends)
    by (Some number) is ends ends_are = line_found (b ∷ bytes) number is
    by None is None ends_are = unended_found (b ∷ bytes) is ends_are
    by None is (Some lines) ends_are = file_found b bytes lines is ends_are

-- What is so is found.

-- where a line is refused there are bytes
line_bytes : (before : List (List ℕ)) (line : List ℕ) (after : List (List ℕ)) → AreLines [] (before ++ line ∷ after) → ⊥
line_bytes before line after are =
    let same : [] ≡ before ++ line ∷ after = all_again [] (before ++ line ∷ after) are in
    omega (arith, ap length same, length-append before (line ∷ after))

-- the first line that isn't admitted is found
line_again : (bytes : List ℕ) (number : ℕ) → IsFirstRefused bytes number → refusal_in bytes ≡ Some (Line number)
unfolding refusal_in
line_again [] number is = absurd (line_bytes is.before is.line is.after is.are_lines)
line_again (b ∷ bytes) number is =
    let found : refused_from at_front 1 (all_lines (b ∷ bytes)) ≡ Some number
    = ap (refused_from at_front 1) (all_again (b ∷ bytes) (is.before ++ is.line ∷ is.after) is.are_lines)
    ∙ stop_again at_front 1 is.before is.line is.after (admitted_again is.before is.admitted) (unadmitted_again (is.before ++ is.line ∷ []) is.refused)
    ∙ ap Some (sym is.numbered) in
    ap (λ found. refusal_by found (ended_lines (b ∷ bytes))) found

-- where all lines are admitted, no line is found
none_again : (bytes : List ℕ) (lines : List (List ℕ)) → AreLines bytes lines → AreAdmitted lines → refused_from at_front 1 (all_lines bytes) ≡ None
none_again bytes lines are have =
    ap (refused_from at_front 1) (all_again bytes lines are) ∙ pass_again at_front 1 lines (admitted_again lines have)

-- lines of which one has no end aren't read as lines that each have it
ends_none : (bytes : List ℕ) (lines : List (List ℕ)) → AreLines bytes lines → ¬ AreEnded bytes lines → ended_lines bytes ≡ None
ends_none bytes lines are unended = by (ended_lines bytes) refl
  where
    by : (ends : Option (List (List ℕ))) → ended_lines bytes ≡ ends → ended_lines bytes ≡ None
    by None is = is
    by (Some found) is =
        let are_ended = ended_found bytes found is in
        let same : found ≡ lines = sym (ended_all bytes found are_ended) ∙ all_again bytes lines are in
        absurd (unended (subst (AreEnded bytes) same are_ended))

-- a missing end is found
unended_again : (bytes : List ℕ) → IsUnended bytes → refusal_in bytes ≡ Some NoEnd
unfolding refusal_in
unended_again [] is =
    let none : [] ≡ is.lines = all_again [] is.lines is.are_lines in
    absurd (is.unended (subst (AreEnded []) none (record { whole = refl; no_line_feed = tt })))
unended_again (b ∷ bytes) is =
    rw (none_again (b ∷ bytes) is.lines is.are_lines is.admitted, ends_none (b ∷ bytes) is.lines is.are_lines is.unended) refl

-- a text of lines has bytes
text_some : (lines : List (List ℕ)) → 0 < length lines → 0 < length (flat_map ended lines)
text_some [] some = absurd (omega arith)
text_some (line ∷ lines) some = omega (arith, length-append (ended line) (flat_map ended lines), length-append line (10 ∷ []))

-- of a Breakpad file nothing is found
file_again : (bytes : List ℕ) (table : Table) → IsFile bytes table → refusal_in bytes ≡ None
unfolding refusal_in
file_again [] table is = absurd (omega (arith, ap length is.1.are_lines.whole, text_some is.1.lines is.1.positive))
file_again (b ∷ bytes) table is =
    let file = is.1 in
    let have : AreAdmitted file.lines = record { roles = file.roles; are_roles = file.are_roles; module_first = file.module_first } in
    rw (none_again (b ∷ bytes) file.lines (ended_are_lines (b ∷ bytes) file.lines file.are_lines) have, ended_again (b ∷ bytes) file.lines file.are_lines) refl

-- why the bytes are refused is found
pub refusal_again : (bytes : List ℕ) (why : Option Refused) → IsRefusal bytes why → refusal_in bytes ≡ why
unfolding refusal_in
refusal_again bytes (Some (Line number)) is = line_again bytes number is
refusal_again bytes (Some NoEnd) is = unended_again bytes is
refusal_again bytes (Some Empty) is = rw is refl
refusal_again bytes None is = file_again bytes is.0 is.1
