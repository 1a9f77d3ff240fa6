use Rattle.std.proofs.Common.{[], ◌∷◌, ◌++◌, map, refl, sym, ap, append-nil, ◌∙◌}
use Rattle.std.proofs.lemmas.List.{map-append}
use Rattle.std.proofs.lemmas.Result.{on_ok_weaker}
use Rattle.bz_breakpad_table.specs.CallRanges.{range_kept}
use Rattle.bz_breakpad_table.specs.Kept.{kept_call}
use Rattle.bz_breakpad_lines.specs.Kinds.InnerRecord.{Inline}
use Rattle.bz_breakpad_lines.specs.Told.{inlinees_told}
use Rattle.bz_breakpad_table.proofs.CallLemmas.{ranges_say}
use Rattle.bz_breakpad_table.proofs.FunctionLemmas.{same_so_far}
use Rattle.bz_breakpad_table.proofs.functions.FunctionsReading.inline.Goals as goal

pub returns : goal.returns
returns c =
    let call = c.args.call.now in
    let ranges = c.args.ranges.now in
    let told = inlinees_told call ranges in
    let before = c.args.self.now.calls.items in
    on_ok_weaker c.keep_ranges.result
    (λ kept bytes closed current reads so_far.
    same_so_far bytes c.args.self.now _ (Inline told ∷ []) refl refl refl refl refl
    (ap (map (kept_call bytes)) kept
    ∙ map-append (kept_call bytes) before (map (range_kept call.depth c.args.place) ranges)
    ∙ ap (λ calls. map (kept_call bytes) before ++ calls) (ranges_say bytes call c.args.place reads ranges ∙ sym (append-nil told))) closed current so_far)
    c.keep_ranges.ensures
