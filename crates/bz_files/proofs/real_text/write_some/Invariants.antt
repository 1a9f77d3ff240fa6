use Rattle.std.specs.Io.KnownBytes.{Keeps}
use Rattle.bz_files.proofs.real_text.write_some.Given as goal

-- calls that were interrupted wrote nothing
abbrev pub invariant-loop : goal.invariant-loop
invariant-loop g l = Keeps (g.W.Write.contents l.initial.writer) (g.W.Write.contents l.writer)
