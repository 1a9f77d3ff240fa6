use Rattle.bz_canon.proofs.GeneratedLemmas.{generated_is_file}
use Rattle.bz_canon.proofs.laws.generated_texts_are_files.Goals as goal

pub returns : goal.returns
returns c = generated_is_file
