use Rattle.std.proofs.Common.{subst}
use Rattle.bz_breakpad_table.specs.Sorted.{IsKept}
use Rattle.bz_breakpad.proofs.file.SymbolParser.run.Goals as goal

pub invariant_of-file : goal.invariant_of-file
invariant_of-file c =
    let read = c.in_ok-read.read in
    subst (λ text. IsKept text read.table read.starts read.publics) c.as_slice.ensures.value c.in_ok-read.ensures.kept
