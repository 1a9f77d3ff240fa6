use Rattle.std.proofs.Common.{◌≡◌, ◌-◌, ◌<◌, ◌≤◌, ℕ}
use Rattle.bz_gsym.proofs.StartLemmas.{start_in}
use Rattle.bz_gsym.proofs.parser.starts.starts_ascend.Given as goal

-- the starts so far never descend, and the last one of them is known
abbrev pub invariant-loop-index : goal.invariant-loop-index
invariant-loop-index l = record {
  first : l.index ≡ 0 → l.last ≡ 0;
  last : 0 < l.index → l.last ≡ start_in l.bytes l.header.addr_off_size (l.index - 1);
  ascend : (i j : ℕ) → i ≤ j → j < l.index → start_in l.bytes l.header.addr_off_size i ≤ start_in l.bytes l.header.addr_off_size j;
}
