use Rattle.std.proofs.Common.{◌≡◌, ◌+◌, Some, option_map, refl, ap, sym, ◌∙◌}
use Rattle.std.specs.List.{slice_get, slice_range}
use Rattle.std.proofs.lemmas.Option.{slice_get-map}
use Rattle.bz_breakpad_table.specs.Kept.{kept_call}
use Rattle.bz_breakpad_function.proofs.InOrderLemmas.{range_at}
use Rattle.bz_breakpad_function.proofs.walks.inlinee_at_index.Goals as goal

pub returns : goal.returns
returns c =
    let bytes = c.args.bytes.now in
    let calls = c.args.code.now.inlinees.items in
    let part = c.args.function.now.inlinees in
    let range = c.index.result.now in
    let there : slice_get (slice_range calls part.from part.to) c.args.index ≡ Some range
    = range_at calls part.from part.to c.args.index (part.from + c.args.index) range c.requires.function.inlinees.within.within c.requires.within refl c.index.ensures in
    slice_get-map (kept_call bytes) (slice_range calls part.from part.to) c.args.index
    ∙ ap (option_map (kept_call bytes)) there
    ∙ ap Some (sym c.inlinee_of.ensures)
