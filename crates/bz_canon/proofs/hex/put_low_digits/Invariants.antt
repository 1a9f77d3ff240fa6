use Rattle.std.proofs.Common.{◌≡◌, ◌-◌, drop, length}
use Rattle.bz_canon.specs.LowDigits.{low_digits}
use Rattle.bz_canon.proofs.hex.put_low_digits.Given as goal

-- the digits that are left, in front of those that are written, are those of the number
abbrev pub invariant-loop-turn : goal.invariant-loop-turn
invariant-loop-turn g l = record {
  long : length l.room ≡ 96;
  written : low_digits (g.row.TURNS - l.turn) l.rest (drop (l.end - l.turn) l.room) ≡ low_digits g.row.TURNS l.number (drop l.end l.fn.room);
}
