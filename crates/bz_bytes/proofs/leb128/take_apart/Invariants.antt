use Rattle.std.proofs.Common.{◌≡◌, ◌≤◌, ◌<◌, ◌^◌, take}
use Rattle.std.specs.List.{AllByRecursion}
use Rattle.bz_bytes.specs.Leb128.{IsMarked, low_bits}
use Rattle.bz_bytes.proofs.leb128.take_apart.Given as goal

-- the bytes so far are marked, and these are their bits
abbrev pub invariant-loop-byte : goal.invariant-loop-byte
invariant-loop-byte l = record {
  counted : l.len ≡ l.byte-index;
  few : l.len ≤ 9;
  marked : AllByRecursion IsMarked (take l.len l.bytes);
  bits : low_bits (take l.len l.bytes) ≡ l.low;
  weighs : l.weight ≡ 128 ^ l.len;
  small : l.low < l.weight;
}
