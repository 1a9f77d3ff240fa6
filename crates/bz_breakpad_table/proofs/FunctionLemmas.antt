-- The functions that are kept: a line record or inlined calls more belong to the one whose records are
-- being read.
use Rattle.std.proofs.Common.{◌≡◌, ℕ, List, [], ◌∷◌, ◌++◌, length, map, Option, Some, None, option_map, refl, sym, ap, subst, ◌∙◌, arith, append-nil, length-append}
use Rattle.std.specs.List.{AllByRecursion, flat_map, slice_range}
use Rattle.std.proofs.lemmas.List.{map-append}
use Rattle.bz_base.specs.Nearest.{IsTable}
use Rattle.bz_base.proofs.ListLemmas.{all_and_one}
use Rattle.bz_base.proofs.ViewLemmas.{table_seen}
use Rattle.bz_breakpad_table.specs.CallRanges.{call_start}
use Rattle.bz_breakpad_table.specs.Kept.{AreCallsAt, AreEndedInOrder, AreNested, IsNested, kept_functions, IsLonger, IsPart, LinesFit, LinesFitSoFar, FunctionFits, FunctionsSoFar, kept_call, kept_lines, kept_function, current_function, records_of, records_so_far}
use Rattle.bz_breakpad_lines.specs.Reader.{listed}
use Rattle.bz_breakpad_lines.specs.Kinds.{InnerRecord, inlinees_in}
use Rattle.bz_breakpad_lines.specs.Kinds.InnerRecord.{Line}
use Rattle.bz_breakpad_lines.specs.Says.{with_inner, line_of, inlinees_of}
use Rattle.bz_breakpad_lines.specs.Table.{Function, Inlinee, SourceLine}
use Rattle.bz_breakpad_lines.specs.Told.{inline_told, inlinee_told, inlinees_told}
use Rattle.bz_breakpad_table.specs.declared.functions.FunctionsReading.{FunctionsReading}
use Rattle.bz_breakpad_lines.specs.declared.record.InlineCall.{InlineCall}
use Rattle.bz_breakpad_lines.specs.declared.record.Range.{Range}
use Rattle.bz_breakpad_table.specs.declared.types.CallRange.{CallRange}
use Rattle.bz_breakpad_table.specs.declared.types.KeptFunction.{KeptFunction}
use Rattle.bz_breakpad_table.specs.declared.types.LineRecords.{LineRecords}
use Rattle.bz_breakpad_table.specs.declared.types.LineRecords.TheVariants as records
use Rattle.bz_breakpad_table.specs.declared.types.Part.{Part}
use Rattle.bz_breakpad_table.proofs.KeptLemmas.{all_weaker, last_part, part_more}
use Rattle.bz_breakpad_table.proofs.LineKeyLemmas.{itself}

-- a part of a list is one of a longer list
part_still : {A : Type 0} (xs more : List A) (part : Part) → IsPart (length xs) part → IsPart (length (xs ++ more)) part
part_still xs more part is = record { ordered = is.ordered; within = omega (arith, is.within, length-append xs more) }

module _ (bytes : List ℕ) (lines more_lines : List ℕ) (inlinees more_inlinees : List CallRange) where
  -- line records stay, where more places follow
  records_stay : (r : LineRecords) → LinesFit bytes lines r → records_of bytes (lines ++ more_lines) r ≡ records_of bytes lines r
  records_stay (records.Run part) fits = refl
  records_stay (records.Listed part) fits = ap (kept_lines bytes) (part_more lines more_lines part fits.within)

  -- and fit still
  records_fit : (r : LineRecords) → LinesFit bytes lines r → LinesFit bytes (lines ++ more_lines) r
  records_fit (records.Run part) fits = fits
  records_fit (records.Listed part) fits =
      let same = part_more lines more_lines part fits.within in
      record { within = part_still lines more_lines part fits.within; searchable = rw same fits.searchable; table = rw same fits.table }

  -- and so do inlined calls
  calls_fit : (part : Part) → AreCallsAt inlinees part → AreCallsAt (inlinees ++ more_inlinees) part
  calls_fit part fits = record { within = part_still inlinees more_inlinees part fits.within; table = rw (part_more inlinees more_inlinees part fits.within) fits.table }

  -- the functions that are at their end stay, where more places and inlined calls follow
  pub functions_stay : (fs : List KeptFunction) → AllByRecursion (FunctionFits bytes lines inlinees) fs →
      map (kept_function bytes (lines ++ more_lines) (inlinees ++ more_inlinees)) fs ≡ map (kept_function bytes lines inlinees) fs
  functions_stay [] fit = refl
  functions_stay (f ∷ fs) fit =
      rw (records_stay f.lines fit.0.lines, part_more inlinees more_inlinees f.inlinees fit.0.inlinees.within)
      (ap (λ rest. kept_function bytes lines inlinees f ∷ rest) (functions_stay fs fit.1))

  -- and fit still
  pub fit_still : (fs : List KeptFunction) → AllByRecursion (FunctionFits bytes lines inlinees) fs →
      AllByRecursion (FunctionFits bytes (lines ++ more_lines) (inlinees ++ more_inlinees)) fs
  fit_still fs fit =
      all_weaker _ _
      (λ (f : KeptFunction) fits. record { name = fits.name; lines = records_fit f.lines fits.lines; inlinees = calls_fit f.inlinees fits.inlinees }) fs fit

-- functions that are kept stay so, and one more is
nested_more : (functions kept : List Function) (f k : Function) → AreNested functions kept → IsNested f k → AreNested (functions ++ f ∷ []) (kept ++ k ∷ [])
nested_more [] [] f k are is = (is, tt)
nested_more [] (j ∷ kept) f k are is = absurd are
nested_more (g ∷ functions) [] f k are is = absurd are
nested_more (g ∷ functions) (j ∷ kept) f k are is = (are.0, nested_more functions kept f k are.1 is)

-- with more line records and inlined calls under the function whose records are being read
module _ (bytes : List ℕ) (old new : FunctionsReading) (subs : List InnerRecord) (table_same : new.table ≡ old.table) (current_same : new.current ≡ old.current)
    (fits : LinesFitSoFar bytes new.listed.items new.lines)
    (says_lines : records_so_far bytes new.listed.items new.lines ≡ records_so_far bytes old.listed.items old.lines ++ flat_map line_of subs)
    (says_calls : map (kept_call bytes) new.calls.items ≡ map (kept_call bytes) old.calls.items ++ flat_map inlinees_of subs) where
  current_more : (f : KeptFunction) →
      current_function bytes new.listed.items new.lines new.calls.items f ≡ with_inner (current_function bytes old.listed.items old.lines old.calls.items f) subs
  current_more f = rw (says_lines, says_calls) refl

  currents_more : (o : Option KeptFunction) →
      option_map (current_function bytes new.listed.items new.lines new.calls.items) o
      ≡ option_map (λ f. with_inner f subs) (option_map (current_function bytes old.listed.items old.lines old.calls.items) o)
  currents_more None = refl
  currents_more (Some f) = ap (λ g. Some g) (current_more f)

  pub more_so_far : (closed_functions : List Function) (current_is : Option Function) →
      FunctionsSoFar bytes old closed_functions current_is → FunctionsSoFar bytes new closed_functions (option_map (λ f. with_inner f subs) current_is)
  more_so_far closed_functions current_is so_far = record {
    closed_are = rw table_same so_far.closed_are;
    current_is = rw current_same (currents_more old.current ∙ ap (option_map (λ f. with_inner f subs)) so_far.current_is);
    closed_fit = rw table_same so_far.closed_fit;
    current_fits = rw current_same so_far.current_fits;
    lines_fit = fits;
  }

-- a line record more
pub longer_so_far : (bytes : List ℕ) (old new : FunctionsReading) (line : SourceLine) → new.table ≡ old.table → new.calls.items ≡ old.calls.items →
    new.current ≡ old.current → IsLonger bytes old.listed.items new.listed.items old.lines new.lines line →
    (closed_functions : List Function) (current_is : Option Function) →
    FunctionsSoFar bytes old closed_functions current_is → FunctionsSoFar bytes new closed_functions (option_map (λ f. with_inner f (Line line ∷ [])) current_is)
longer_so_far bytes old new line table calls current longer =
    more_so_far bytes old new (Line line ∷ []) table current longer.fits longer.are (ap (map (kept_call bytes)) calls ∙ sym (append-nil (map (kept_call bytes) old.calls.items)))

-- the same line records still
pub same_so_far : (bytes : List ℕ) (old new : FunctionsReading) (subs : List InnerRecord) →
    new.table ≡ old.table → new.listed.items ≡ old.listed.items → new.lines ≡ old.lines → new.current ≡ old.current → flat_map line_of subs ≡ [] →
    map (kept_call bytes) new.calls.items ≡ map (kept_call bytes) old.calls.items ++ flat_map inlinees_of subs →
    (closed_functions : List Function) (current_is : Option Function) →
    FunctionsSoFar bytes old closed_functions current_is → FunctionsSoFar bytes new closed_functions (option_map (λ f. with_inner f subs) current_is)
same_so_far bytes old new subs table keys lines current no_lines says_calls closed_functions current_is so_far =
    more_so_far bytes old new subs table current (rw (keys, lines) so_far.lines_fit)
    (rw (keys, lines, no_lines) (sym (append-nil (records_so_far bytes old.listed.items old.lines)))) says_calls closed_functions current_is so_far

module _ (bytes : List ℕ) (old new : FunctionsReading) (function kept : KeptFunction) (places : List ℕ) (sorted : List CallRange)
    (current_was : old.current ≡ Some function) (current_is : new.current ≡ None)
    (functions_are : new.table.functions.items ≡ old.table.functions.items ++ kept ∷ []) (places_are : new.table.lines.items ≡ old.table.lines.items ++ places)
    (inlinees_are : new.table.inlinees.items ≡ old.table.inlinees.items ++ sorted)
    (table : IsTable (λ c. c.depth) call_start old.calls.items sorted)
    (kept_is : kept ≡ record function { lines = kept.lines; inlinees = record { from = length old.table.inlinees.items; to = length new.table.inlinees.items } })
    (fit : LinesFitSoFar bytes old.listed.items old.lines → LinesFitSoFar bytes new.listed.items new.lines)
    (ends : LinesFitSoFar bytes old.listed.items old.lines → AreEndedInOrder bytes new.table.lines.items old.listed.items old.lines kept.lines) where
  -- its inlined calls are the last of the table
  own_calls : slice_range new.table.inlinees.items (length old.table.inlinees.items) (length new.table.inlinees.items) ≡ sorted
  own_calls = last_part old.table.inlinees.items sorted new.table.inlinees.items (record { from = length old.table.inlinees.items; to = length new.table.inlinees.items }) inlinees_are refl refl

  nested : AreEndedInOrder bytes new.table.lines.items old.listed.items old.lines kept.lines →
      IsNested (current_function bytes old.listed.items old.lines old.calls.items function) (kept_function bytes new.table.lines.items new.table.inlinees.items kept)
  nested done =
      let seen = table_seen (λ (i : Inlinee). i.depth) (λ i. i.start) (kept_call bytes) old.calls.items sorted table in
      record {
        same = rw kept_is refl;
        lines = done.table;
        calls = rw (kept_is, own_calls) seen;
      }

  -- it is the last of those at their end
  pub ended_so_far : (closed_functions : List Function) (current : Option Function) →
      FunctionsSoFar bytes old closed_functions current → FunctionsSoFar bytes new (closed_functions ++ listed current) None
  ended_so_far closed_functions current so_far =
      let done = ends so_far.lines_fit in
      let stay = functions_stay bytes old.table.lines.items places old.table.inlinees.items sorted old.table.functions.items so_far.closed_fit in
      let still = fit_still bytes old.table.lines.items places old.table.inlinees.items sorted old.table.functions.items so_far.closed_fit in
      let was : Some (current_function bytes old.listed.items old.lines old.calls.items function) ≡ current
      = ap (option_map (current_function bytes old.listed.items old.lines old.calls.items)) (sym current_was) ∙ so_far.current_is in
      let kept_before : AreNested closed_functions (map (kept_function bytes new.table.lines.items new.table.inlinees.items) old.table.functions.items)
      = rw (places_are, inlinees_are) (subst (AreNested closed_functions) (sym stay) so_far.closed_are) in
      let name = (rw current_was at so_far.current_fits).name in
      record {
        closed_are =
            subst (λ c. AreNested (closed_functions ++ listed c) (kept_functions bytes new.table)) was
            (rw (functions_are, map-append (kept_function bytes new.table.lines.items new.table.inlinees.items) old.table.functions.items (kept ∷ []))
            (nested_more closed_functions _ _ _ kept_before (nested done)));
        current_is = rw current_is refl;
        closed_fit =
            rw functions_are
            (all_and_one (FunctionFits bytes new.table.lines.items new.table.inlinees.items) old.table.functions.items kept
            (rw (places_are, inlinees_are) still) (record {
              name = rw kept_is name;
              lines = done.fit;
              inlinees = rw kept_is (record {
                within = record { ordered = omega (arith, ap length inlinees_are, length-append old.table.inlinees.items sorted); within = omega arith };
                table = rw own_calls (itself (λ (c : CallRange). c.depth) call_start old.calls.items sorted table);
              });
            }));
        current_fits = rw current_is tt;
        lines_fit = fit so_far.lines_fit;
      }

-- what an INLINE record says are the inlined calls of its ranges
pub told_said : (call : InlineCall) (ranges : List Range) → inlinees_in (inline_told call ranges) ≡ inlinees_told call ranges
told_said call [] = refl
told_said call (r ∷ ranges) = ap (λ rest. inlinee_told call r ∷ rest) (told_said call ranges)
