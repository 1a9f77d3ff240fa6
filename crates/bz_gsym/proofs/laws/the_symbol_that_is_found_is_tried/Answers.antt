use Rattle.bz_gsym.proofs.SymbolLemmas.{tried_with}
use Rattle.bz_gsym.proofs.laws.the_symbol_that_is_found_is_tried.Goals as goal

pub returns : goal.returns
returns c bytes addr index at place formed tried there = tried_with bytes addr formed index at tried place there
