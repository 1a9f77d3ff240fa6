use Rattle.std.proofs.Common.{ap, map, ◌∙◌}
use Rattle.bz_proc.specs.Maps.{if_begins, mapping_of}
use Rattle.bz_proc.proofs.OwnerLemmas.{owner_at, place_seen}
use Rattle.bz_proc.proofs.maps.owner.Goals as goal

pub returns-clause-place : goal.returns-clause-place
returns-clause-place c =
    let mappings = map mapping_of c.args.entries.now in
    c.if_begins.ensures.place ∙ ap (if_begins mappings c.args.addr) (c.place_above.ensures ∙ place_seen c.args.addr c.args.entries.now) ∙ owner_at mappings c.args.addr
