-- A line record that is read quickly begins a run, or goes on one.
use Rattle.std.proofs.Common.{◌≡◌, ℕ, ◌+◌, ◌-◌, ◌<◌, ◌≤◌, List, [], ◌∷◌, ◌++◌, length, take, drop, map, Option, Some, option_map, IfSome, IsSome, refl, sym, ap, subst, ◌∙◌, arith, append_assoc, length-append, length-drop}
use Rattle.std.specs.List.{AllByRecursion, cons_option, filter_map}
use Rattle.std.proofs.lemmas.List.{drop-drop, map-append}
use Rattle.std.proofs.lemmas.List.Elements.{filter_map-append}
use Rattle.std.proofs.Math.Seq.{take-add, take-append_seam}
use Rattle.bz_base.specs.Bind.{◌>>=◌}
use Rattle.bz_base.specs.Byte.{line_feed}
use Rattle.bz_base.specs.Line.{all_lines, ended}
use Rattle.bz_base.proofs.LineLemmas.{all_lines-next}
use Rattle.bz_breakpad_lines.specs.Choice.{body_at}
use Rattle.bz_breakpad_table.specs.Kept.{IsLonger, IsOpenRunAt, text_at}
use Rattle.bz_breakpad_lines.specs.Line.{line_front, line_in, source_line}
use Rattle.bz_breakpad_table.specs.LineRun.{AreLineRecords, lines_in, starts_in}
use Rattle.bz_breakpad_lines.specs.LineStarts.{AscendTo, IsStartText}
use Rattle.bz_breakpad_lines.specs.QuickLine.{IsQuickLine}
use Rattle.bz_breakpad_lines.specs.Reads.{form_at}
use Rattle.bz_breakpad_lines.specs.Records.{LINE}
use Rattle.bz_breakpad_lines.specs.Table.{SourceLine}
use Rattle.bz_breakpad_lines.specs.declared.line.QuickLine.{QuickLine}
use Rattle.bz_breakpad_table.specs.declared.standing.LinesSoFar.TheVariants as sofar
use Rattle.bz_breakpad_lines.specs.declared.start_text.StartText.{StartText}
use Rattle.bz_breakpad_table.specs.declared.types.LineKey.{LineKey}
use Rattle.bz_breakpad_table.specs.declared.types.Part.{Part}
use Rattle.bz_breakpad_lines.proofs.FormLaws.{form_again}
use Rattle.bz_breakpad_table.proofs.KeptLemmas.{all_beside}
use Rattle.bz_breakpad_lines.proofs.LineFrontLemmas.{line_front_of}
use Rattle.bz_breakpad_table.proofs.RunLemmas.{front_front, lines_parts}
use Rattle.bz_breakpad_lines.proofs.StartLemmas.{next_ascends}

module _ (bytes : List ℕ) (keys : List LineKey) (rest : List ℕ) (part : Part) (found : QuickLine) (start : StartText) (is : IsQuickLine rest found) (stands : drop part.from bytes ≡ rest)
    (ends : part.to ≡ part.from + found.len) (start_is : Some start ≡ found.start) where
  -- the line record
  abbrev line : SourceLine
  line = source_line is.value

  rest_long : length rest ≡ found.len + length (drop found.len rest)
  rest_long = omega (arith, ap length is.form.cut, length-append (ended is.form.line) (drop found.len rest), length-append is.form.line (line_feed ∷ []), is.length_is)

  within : part.to ≤ length bytes
  within = omega (arith, ends, rest_long, ap length stands, length-drop part.from bytes, is.length_is)

  -- it stands in its part of the bytes
  text_is : text_at bytes part ≡ ended is.form.line
  text_is =
      let long : part.to - part.from ≡ length (ended is.form.line) = omega (arith, ends, length-append is.form.line (line_feed ∷ []), is.length_is) in
      ap (λ n. take n (drop part.from bytes)) long
      ∙ ap (take (length (ended is.form.line))) (stands ∙ is.form.cut)
      ∙ take-append_seam (ended is.form.line) (drop found.len rest)

  lines_are : all_lines (ended is.form.line) ≡ is.form.line ∷ []
  lines_are = all_lines-next is.form.line [] is.form.no_line_feed

  front_is : line_front is.form.line ≡ is.form.line
  front_is =
      let first = line_front_of is.form.line [] is.form.no_line_feed in
      ap line_front (sym first) ∙ front_front (ended is.form.line ++ []) ∙ first

  reads : line_in is.form.line ≡ Some line
  reads = ap (λ front. option_map source_line (body_at front >>= form_at LINE)) front_is ∙ rw (is.form.body_is, form_again LINE refl is.form.line is.value is.form.spells) refl

  records : AreLineRecords (ended is.form.line)
  records = subst (AllByRecursion (λ (l : List ℕ). IsSome (line_in l))) (sym lines_are) (subst (λ (o : Option SourceLine). IsSome o) (sym reads) refl, tt)

  record_is : lines_in (ended is.form.line) ≡ line ∷ []
  record_is = ap (filter_map line_in) lines_are ∙ ap (λ (o : Option SourceLine). cons_option o []) reads

  start_text : IsStartText line.start start
  start_text = subst (λ (o : Option StartText). IfSome o (IsStartText line.start)) (sym start_is) is.start_is

  -- it begins a run
  pub run_begins : keys ≡ [] → IsLonger bytes keys keys sofar.Empty (sofar.Run part start) line
  run_begins none = record {
    fits = (
      record {
        within = record { ordered = omega (arith, ends); within = within };
        run = record {
          read = subst AreLineRecords (sym text_is) records;
          starts = subst (λ starts. AscendTo starts start) (sym (ap (λ text. starts_in text) text_is ∙ ap (map (λ (l : SourceLine). l.start)) record_is)) (record {
            ascend = λ i j below within. absurd (omega (arith, below, within));
            front = [];
            last = line.start;
            are = refl;
            text_is = start_text;
          });
          front = is.form.line;
          ends = text_is;
        };
      },
      none,
    );
    are = ap lines_in text_is ∙ record_is;
  }

  module _ (run : Part) (last : StartText) (opened : IsOpenRunAt bytes run last) (seam : run.to ≡ part.from)
      (above : (start_before start_here : ℕ) → IsStartText start_before last → IsStartText start_here start → start_before < start_here) where
    abbrev whole : Part
    whole = record { from = run.from; to = part.to }

    abbrev before : List ℕ
    before = text_at bytes run

    whole_is : text_at bytes whole ≡ before ++ ended is.form.line
    whole_is =
        let many = run.to - run.from in
        let more = part.to - part.from in
        let both : part.to - run.from ≡ many + more = omega (arith, ends, seam, opened.within.ordered) in
        let there : run.from + many ≡ part.from = omega (arith, seam, opened.within.ordered) in
        ap (λ n. take n (drop run.from bytes)) both
        ∙ take-add many more (drop run.from bytes)
        ∙ ap (λ text. before ++ take more text) (drop-drop many run.from bytes ∙ ap (λ n. drop n bytes) there)
        ∙ ap (λ text. before ++ text) text_is

    lines_both : all_lines (text_at bytes whole) ≡ all_lines before ++ all_lines (ended is.form.line)
    lines_both =
        ap all_lines (whole_is ∙ ap (λ text. text ++ ended is.form.line) opened.run.ends ∙ append_assoc opened.run.front (line_feed ∷ []) (ended is.form.line))
        ∙ lines_parts opened.run.front (ended is.form.line)
        ∙ ap (λ text. all_lines text ++ all_lines (ended is.form.line)) (sym opened.run.ends)

    records_both : lines_in (text_at bytes whole) ≡ lines_in before ++ line ∷ []
    records_both =
        ap (filter_map line_in) lines_both
        ∙ filter_map-append line_in (all_lines before) (all_lines (ended is.form.line))
        ∙ ap (λ ls. lines_in before ++ ls) record_is

    -- it goes on a run
    pub run_goes_on : keys ≡ [] → IsLonger bytes keys keys (sofar.Run run last) (sofar.Run whole start) line
    run_goes_on none = record {
      fits = (
        record {
          within = record { ordered = omega (arith, ends, seam, opened.within.ordered); within = within };
          run = record {
            read =
                subst (AllByRecursion (λ (l : List ℕ). IsSome (line_in l))) (sym lines_both)
                (all_beside (λ (l : List ℕ). IsSome (line_in l)) (all_lines before) (all_lines (ended is.form.line)) opened.run.read records);
            starts =
                subst (λ starts. AscendTo starts start) (sym (ap (map (λ (l : SourceLine). l.start)) records_both ∙ map-append (λ (l : SourceLine). l.start) (lines_in before) (line ∷ [])))
                (next_ascends (starts_in before) line.start last start opened.run.starts start_text
                (above opened.run.starts.last line.start opened.run.starts.text_is start_text));
            front = before ++ is.form.line;
            ends = whole_is ∙ sym (append_assoc before is.form.line (line_feed ∷ []));
          };
        },
        none,
      );
      are = records_both;
    }
