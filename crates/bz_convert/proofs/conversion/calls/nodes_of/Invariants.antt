use Rattle.std.proofs.Common.{◌≡◌, ℕ, List, Some, map, take}
use Rattle.bz_breakpad.specs.Lent.{inlinee_seen}
use Rattle.bz_breakpad_lines.specs.Reader.{table_in}
use Rattle.bz_breakpad_lines.specs.Table.{Table}
use Rattle.bz_convert.specs.Laid.{IsNodeFor, sources_of_call, texts_of_call}
use Rattle.bz_convert.specs.Numbered.{IsNumbering, listed_sources}
use Rattle.bz_gsym_layout.specs.Listing.{listed_texts}
use Rattle.bz_convert.proofs.SoFarLemmas.{SoFar}
use Rattle.bz_gsym_layout.specs.Plan.{Source}
use Rattle.bz_convert.proofs.conversion.calls.nodes_of.Given as goal

-- the nodes of the calls so far
abbrev pub invariant-loop-call : goal.invariant-loop-call
invariant-loop-call l = (table : Table) (texts : List (List ℕ)) (sources : List Source) → table_in l.file ≡ Some table → IsNumbering table texts sources l.fn.numbering →
    SoFar table (texts_of_call table) (sources_of_call table) (λ n. IsNodeFor table (listed_texts n.texts) (listed_sources n)) texts sources l.numbering (map inlinee_seen (take l.call-index l.calls)) l.nodes.items
