use Rattle.bz_elf.specs.Format.{checks}
use Rattle.bz_elf.proofs.FormatLemmas.{each_passes, fails_first, none_refuses, refused_by_first}
use Rattle.bz_elf.proofs.ProfileLaws.{profile, taken}
use Rattle.bz_elf.proofs.laws.files_are_exact.Goals as goal

pub returns-clause-taken : goal.returns-clause-taken
returns-clause-taken c bytes = (profile bytes, taken bytes)

pub returns-clause-passed : goal.returns-clause-passed
returns-clause-passed c bytes = (each_passes bytes checks, none_refuses bytes checks)

pub returns-clause-refused : goal.returns-clause-refused
returns-clause-refused c bytes e = (fails_first bytes checks e, λ is. refused_by_first bytes checks is.0 e is.1)
