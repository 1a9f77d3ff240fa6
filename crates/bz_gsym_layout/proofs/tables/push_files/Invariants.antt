use Rattle.std.proofs.Common.{◌≡◌, ◌++◌, drop, flat_map}
use Rattle.bz_gsym_layout.specs.Pass.{source_bytes}
use Rattle.bz_gsym_layout.proofs.tables.push_files.Given as goal

-- what is written, with the source files that are left, is the whole
abbrev pub invariant-loop-source : goal.invariant-loop-source
invariant-loop-source l = l.out.items ++ flat_map (source_bytes l.places) (drop l.source-index l.sources) ≡ l.fn.out.items ++ flat_map (source_bytes l.places) l.sources
