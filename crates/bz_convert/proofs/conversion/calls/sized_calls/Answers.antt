use Rattle.std.proofs.Common.{None, ap, ◌∙◌}
use Rattle.std.specs.List.{filter}
use Rattle.bz_convert.specs.Plan.{has_size}
use Rattle.bz_convert.specs.Sized.{placed_inlinees, without_repeats}
use Rattle.bz_gsym_layout.proofs.ListingLemmas.{if_ok}
use Rattle.bz_convert.proofs.SizedLemmas.{placed_are}
use Rattle.bz_convert.proofs.conversion.calls.sized_calls.Goals as goal

pub returns : goal.returns
returns c =
    if_ok c.without_repeats.result _ _
    (λ calls is f apart told. is ∙ ap (λ l. without_repeats None (placed_inlinees l)) c.deref.ensures.value
    ∙ placed_are f apart c.in_ok-placed.placed.items c.sort_table.new.records.items c.in_ok-sort_table.ensures.table (c.in_ok-placed.ensures ∙ ap (filter has_size) told))
    c.without_repeats.ensures
