use Rattle.bz_breakpad_function.proofs.IndexedLemmas.{kept_in_file}
use Rattle.bz_breakpad_function.proofs.function.Function.new.Goals as goal

pub invariant_of-result : goal.invariant_of-result
invariant_of-result c =
    kept_in_file c.args.bytes.now c.requires.stands.0 c.args.kept.now c.requires.stands.1 c.requires.stands.2 c.args.index c.requires.within c.index.result.now c.index.ensures
