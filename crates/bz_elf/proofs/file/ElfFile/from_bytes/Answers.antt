use Rattle.std.proofs.Common.{sym, ap, ◌∙◌}
use Rattle.bz_elf.specs.Format.{format_test}
use Rattle.bz_elf.proofs.ProfileLaws.{profile}
use Rattle.bz_elf.proofs.file.ElfFile.from_bytes.Goals as goal

pub returns-clause-accepted : goal.returns-clause-accepted
returns-clause-accepted c =
    profile c.args.bytes.items (ap format_test (sym c.as_slice.ensures.value) ∙ c.in_ok-kept.ensures.ok.formed)
