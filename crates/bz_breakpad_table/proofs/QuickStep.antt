-- A line that is read quickly: where it stands, and what is read of it and the lines after it.
use Rattle.std.proofs.Common.{◌≡◌, ℕ, ◌+◌, ◌-◌, ◌≤◌, Bool, true, false, ◌&&◌, List, [], ◌∷◌, length, drop, nat_lt, None, is_some, option_map, refl, ap, ◌∙◌, arith, append_assoc}
use Rattle.bz_base.specs.Byte.{begins_with}
use Rattle.bz_base.specs.Line.{ended_lines}
use Rattle.bz_base.proofs.LineLemmas.{ended_lines-next}
use Rattle.bz_breakpad_lines.specs.Byte.{is_nothing, is_white}
use Rattle.bz_breakpad_lines.specs.Choice.{body_at}
use Rattle.bz_breakpad_table.specs.Kept.{IsRecordAt, IsSoFar}
use Rattle.bz_breakpad_lines.specs.Quick.{IsQuick}
use Rattle.bz_breakpad_lines.specs.Reader.{Reading, lines_read, with_record}
use Rattle.bz_breakpad_lines.specs.Says.{module_of}
use Rattle.bz_breakpad_lines.specs.Told.{context_told}
use Rattle.bz_breakpad_lines.specs.Contexts.{Context, Record, context_after, white_allowed_after, record_at, after_white}
use Rattle.bz_breakpad_table.specs.Walked.{IsMidway, IsStep}
use Rattle.bz_breakpad_table.specs.declared.walk.Walk.{Walk}
use Rattle.bz_breakpad_table.proofs.MidwayLemmas.{line_stands, midway_on}
use Rattle.bz_breakpad_table.proofs.StepLemmas.{record_read, step_read}

-- a line without white space in front is its own text
its_text : (white_allowed : Bool) (line : List ℕ) → begins_with is_white line ≡ false → after_white white_allowed line ≡ line
unfolding after_white
its_text false line solid = refl
its_text true [] solid = refl
its_text true (b ∷ line) solid = rw solid refl

-- of a line with something in it and no white space before it there is something left after white space
some_text : (white_allowed : Bool) (line : List ℕ) → begins_with is_white line ≡ false → is_nothing line ≡ false → (white_allowed && is_nothing (after_white white_allowed line)) ≡ false
some_text false line solid some = refl
some_text true line solid some = ap is_nothing (its_text true line solid) ∙ some

module _ (c : Context) (text : List ℕ) (r : Record) (rest : List ℕ) (p : IsQuick c text r rest) where
  -- it stands where the text begins
  pub quick_stands : (bytes : List ℕ) → length text ≤ length bytes → drop (length bytes - length text) bytes ≡ text → IsRecordAt bytes (length bytes - length text) p.line
  quick_stands bytes within stands =
      let at = line_stands bytes text p.line rest p.cut p.no_line_feed within stands in
      record { within = at.within; body_is = ap body_at at.line_is ∙ p.body_is }

  -- its line is the first one of the text
  quick_first : ended_lines text ≡ option_map (λ lines. p.line ∷ lines) (ended_lines rest)
  quick_first = ap ended_lines p.cut ∙ ap ended_lines (append_assoc p.line _ rest) ∙ ended_lines-next p.line rest p.no_line_feed

  -- it is read, and then the lines after it
  quick_step : (white_allowed : Bool) (reading : Reading) (lines : List (List ℕ)) → (is_some (module_of r) && nat_lt 0 reading.count) ≡ false →
      lines_read c white_allowed reading (p.line ∷ lines) ≡ lines_read (context_after r) (white_allowed_after r) (with_record reading r) lines
  quick_step white_allowed reading lines first =
      step_read c white_allowed reading p.line r lines (some_text white_allowed p.line p.solid p.something)
      (ap (record_at c) (its_text white_allowed p.line p.solid) ∙ record_read c p.line p.line r p.body_is p.reads) first

  -- the walk is midway still, once it has kept the record
  pub quick_on : (bytes : List ℕ) (old new : Walk) (m : IsMidway bytes text old) → module_of r ≡ None → context_told old.context ≡ c →
      context_told new.context ≡ context_after r → new.white_allowed ≡ white_allowed_after r → new.count ≡ old.count + 1 → IsSoFar bytes new.kept (with_record m.reading r) →
      IsMidway bytes rest new
  quick_on bytes old new m no_module before after white_allowed count so_far =
      let step : IsStep bytes old new p.line m.reading = record {
        next = with_record m.reading r;
        walked = record { so_far = so_far; count_is = count ∙ ap (λ n. n + 1) m.walked.count_is };
        same = λ lines. rw (before, after, white_allowed) (quick_step old.white_allowed m.reading lines (rw no_module refl));
      } in
      midway_on bytes text p.line rest old new m p.cut quick_first step (omega (arith, count))
