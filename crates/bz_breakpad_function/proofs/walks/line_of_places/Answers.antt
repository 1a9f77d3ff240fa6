use Rattle.std.proofs.Common.{Some, ap, sym, ◌∙◌}
use Rattle.bz_breakpad_function.proofs.InOrderLemmas.{listed_at}
use Rattle.bz_breakpad_function.proofs.walks.line_of_places.Goals as goal

pub returns : goal.returns
returns c = listed_at c.args.bytes.now c.args.places.now c.requires.read c.args.index c.requires.within ∙ ap Some (sym c.line_or_zeros.ensures)
