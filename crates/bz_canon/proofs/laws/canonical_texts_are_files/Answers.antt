use Rattle.bz_canon.proofs.CanonLaws.{canon_file}
use Rattle.bz_canon.proofs.laws.canonical_texts_are_files.Goals as goal

pub returns : goal.returns
returns c = canon_file
