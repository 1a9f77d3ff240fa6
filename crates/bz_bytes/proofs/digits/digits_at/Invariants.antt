use Rattle.std.proofs.Common.{◌≡◌, ◌≤◌, take}
use Rattle.std.specs.Str.Parse.{AllDigits, digits_value}
use Rattle.bz_bytes.proofs.digits.digits_at.Given as goal

-- the value is that of the digits so far
abbrev pub invariant-loop-byte : goal.invariant-loop-byte
invariant-loop-byte l = record {
  counted : l.len ≡ l.byte-index;
  few : l.len ≤ l.most;
  digits : AllDigits l.base (take l.len l.text);
  valued : l.value ≡ digits_value l.base (take l.len l.text);
}
