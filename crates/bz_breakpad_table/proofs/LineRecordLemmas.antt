-- A line record that is read quickly under a FUNC record: where it stands,
-- and what is read of it and the lines after it.
use Rattle.std.proofs.Common.{◌≡◌, ℕ, ◌<◌, ◌≤◌, ◌+◌, ◌-◌, false, inl, List, drop, length, Some, refl, sym, ap, subst, ◌∙◌, arith, length-drop}
use Rattle.bz_breakpad_table.specs.Kept.{IsSoFar, LinesFitSoFar}
use Rattle.bz_breakpad_lines.specs.Line.{line_in, source_line}
use Rattle.bz_breakpad_lines.specs.QuickLine.{IsOnRun, IsQuickLine}
use Rattle.bz_breakpad_lines.specs.Reader.{with_record}
use Rattle.bz_breakpad_lines.specs.Told.{context_told}
use Rattle.bz_breakpad_lines.specs.Contexts.Context.{InFunc}
use Rattle.bz_breakpad_lines.specs.Contexts.Record.{OfFunc}
use Rattle.bz_breakpad_table.specs.Walked.{IsMidway, running}
use Rattle.bz_breakpad_lines.specs.declared.line.QuickLine.{QuickLine}
use Rattle.bz_breakpad_lines.specs.declared.on_run.RunLine.{RunLine}
use Rattle.bz_breakpad_table.specs.declared.standing.LinesSoFar.TheVariants as sofar
use Rattle.bz_breakpad_lines.specs.declared.start_text.StartText.{StartText}
use Rattle.bz_breakpad_table.specs.declared.walk.Walk.{Walk}
use Rattle.bz_breakpad_table.specs.declared.types.Part.{Part}
use Rattle.bz_breakpad_table.proofs.KeptLemmas.{with_functions}
use Rattle.bz_breakpad_table.proofs.FunctionLemmas.{longer_so_far}
use Rattle.bz_breakpad_lines.proofs.QuickLemmas.{form_line_in, quick_line}
use Rattle.bz_breakpad_table.proofs.QuickStep.{quick_on}
use Rattle.bz_breakpad_table.proofs.RunGrowLemmas.{run_goes_on}

module _ (rest : List ℕ) (found : QuickLine) (p : IsQuickLine rest found) where
  -- it is read from the place where it stands
  pub line_stands : (bytes : List ℕ) (start : ℕ) → drop start bytes ≡ rest → line_in (drop start bytes) ≡ Some (source_line p.value)
  line_stands bytes start stands = ap line_in stands ∙ form_line_in rest (drop found.len rest) p.value p.form

  -- the walk is midway still, once it has kept the record
  pub line_on : (bytes : List ℕ) (old new : Walk) (m : IsMidway bytes rest old) → context_told old.context ≡ InFunc → context_told new.context ≡ InFunc →
      new.white_allowed ≡ false → new.count ≡ old.count + 1 → IsSoFar bytes new.kept (with_record m.reading (OfFunc (inl p.value))) → IsMidway bytes (drop found.len rest) new
  line_on bytes old new m =
      quick_on InFunc rest (OfFunc (inl p.value)) (drop found.len rest) (quick_line rest (drop found.len rest) p.value p.form) bytes old new m refl

-- the last start of the walk's run has one to eight digits
pub run_start : (bytes rest : List ℕ) (walk : Walk) (run : Part) (last : StartText) → walk.kept.functions.lines ≡ sofar.Run run last → IsMidway bytes rest walk →
    (0 < last.digits) × (last.digits ≤ 8)
run_start bytes rest walk run last is m =
    let fits = subst (LinesFitSoFar bytes walk.kept.functions.listed.items) is m.walked.so_far.functions.lines_fit in
    let text = fits.0.run.starts.text_is in
    (text.positive, text.few)

-- the walk whose run is this one, up to the rest, has it as its run
pub begins_run : (bytes rest : List ℕ) (walk : Walk) (run : Part) (last : StartText) → walk.kept.functions.lines ≡ sofar.Run run last → run.to ≡ length bytes - length rest →
    IsMidway bytes rest walk → IsMidway bytes rest (running walk run.from (length bytes - length rest) last walk.count)
begins_run bytes rest walk run last is to m =
    subst (λ place. IsMidway bytes rest (running walk run.from place last walk.count)) to
    (subst (λ lines. IsMidway bytes rest (record walk { kept = record walk.kept { functions = record walk.kept.functions { lines = lines } } })) is m)

-- the walk that has a part as its run is midway, where it would be with the part's ends
pub ends_run : (bytes left : List ℕ) (walk : Walk) (from : ℕ) (last : StartText) (count : ℕ) (run : Part) → run.from ≡ from → run.to ≡ length bytes - length left →
    IsMidway bytes left (running walk from (length bytes - length left) last count) → IsMidway bytes left (running walk run.from run.to last count)
ends_run bytes left walk from last count run from_is to_is m =
    subst (λ place. IsMidway bytes left (running walk place run.to last count)) (sym from_is)
    (subst (λ place. IsMidway bytes left (running walk from place last count)) (sym to_is) m)

-- one line record more
pub run_step : (bytes rest : List ℕ) (walk : Walk) (from count : ℕ) (last : StartText) (next : RunLine) → context_told walk.context ≡ InFunc → walk.white_allowed ≡ false →
    IsOnRun rest last next → IsMidway bytes rest (running walk from (length bytes - length rest) last count) →
    IsMidway bytes (drop next.len rest) (running walk from (length bytes - length (drop next.len rest)) next.start (count + 1))
run_step bytes rest walk from count last next in_func bound on m =
    let functions = walk.kept.functions in
    let place = length bytes - length rest in
    let found : QuickLine = record { len = next.len; start = Some next.start } in
    let run : Part = record { from = from; to = place } in
    let part : Part = record { from = place; to = place + next.len } in
    let so_far = m.walked.so_far in
    let longer = run_goes_on bytes functions.listed.items rest part found next.start on.quick m.rest_is refl refl run last so_far.functions.lines_fit.0 refl on.above so_far.functions.lines_fit.1 in
    let there : place + next.len ≡ length bytes - length (drop next.len rest) = omega (arith, m.within, on.within, length-drop next.len rest) in
    subst (λ to. IsMidway bytes (drop next.len rest) (running walk from to next.start (count + 1))) there
    (line_on rest found on.quick bytes (running walk from place last count) (running walk from (place + next.len) next.start (count + 1)) m in_func in_func bound refl (with_functions so_far (longer_so_far bytes _ _ (source_line on.quick.value) refl refl refl longer m.reading.closed m.reading.current so_far.functions)))
