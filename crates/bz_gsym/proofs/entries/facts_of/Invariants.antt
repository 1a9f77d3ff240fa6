use Rattle.std.proofs.Common.{◌≡◌}
use Rattle.bz_gsym.specs.Entries.{entries_in}
use Rattle.bz_gsym.specs.Joining.{facts_after, facts_of}
use Rattle.bz_gsym.specs.JoiningSeen.{HasAskedFrames, facts_seen}
use Rattle.bz_gsym.proofs.entries.facts_of.Given as goal

-- what is told with the entries that are left is what is told with all
abbrev pub invariant-loop-entry : goal.invariant-loop-entry
invariant-loop-entry l = record {
  facts : facts_after l.opts l.start l.addr (facts_seen l.facts) l.entry-iterator ≡ facts_of l.opts l.start l.addr (entries_in l.bytes);
  asked : HasAskedFrames l.opts l.facts.frames.items;
}
