use Rattle.std.proofs.Common.{◌∙◌, arith}
use Rattle.bz_breakpad_table.proofs.PlaceLemmas.{name_at_end}
use Rattle.bz_breakpad_table.proofs.reading.name_part.Goals as goal

pub returns : goal.returns
returns c bytes body start stands end ends =
    let part = c.in_ok-part.ensures in
    name_at_end bytes start body c.args.name.now stands ends c.utf8.name c.in_ok-part.part (part.to ∙ end) (omega (arith, part.from, part.to, c.saturating_sub.ensures))
