use Rattle.std.proofs.Common.{List, ℕ, subst}
use Rattle.bz_base.specs.ZeroEnded.{IsString}
use Rattle.bz_elf.proofs.NameLaws.{found, stands}
use Rattle.bz_elf.proofs.laws.names_are_exact.Goals as goal

pub returns : goal.returns
returns c strings place name =
    (λ is. let P : List ℕ → Type 0 = IsString strings place in subst P is.1 (stands strings place is.0), found strings place name)
