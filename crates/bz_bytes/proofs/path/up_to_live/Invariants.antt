use Rattle.std.proofs.Common.{◌≡◌, ◌<◌, true, length, IsUtf8}
use Rattle.bz_bytes.specs.Path.{begins_with_slash, last_live, pieces}
use Rattle.bz_bytes.proofs.path.up_to_live.Given as goal

-- what was cut is dead
abbrev pub invariant-loop-front : goal.invariant-loop-front
invariant-loop-front l = record {
  utf8 : IsUtf8 l.kept;
  live : last_live true (pieces l.kept) ≡ last_live true (pieces l.text);
  rooted : 0 < length l.kept → begins_with_slash l.kept ≡ begins_with_slash l.text;
}

abbrev pub decreases-loop-front : goal.decreases-loop-front
decreases-loop-front l = length l.kept
