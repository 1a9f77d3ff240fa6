use Rattle.std.proofs.Common.{◌≡◌, length}
use Rattle.std.specs.Io.KnownBytes.{Keeps}
use Rattle.bz_files.proofs.real_text.read_some.Given as goal

-- the piece keeps its length, and calls that were interrupted took nothing
abbrev pub invariant-loop : goal.invariant-loop
invariant-loop g l = (length l.piece ≡ length l.initial.piece) × Keeps (g.R.Read.remaining l.initial.reader) (g.R.Read.remaining l.reader)
