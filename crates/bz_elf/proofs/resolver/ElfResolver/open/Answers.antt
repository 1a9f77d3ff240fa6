use Rattle.bz_files.specs.World.{entry_at}
use Rattle.bz_elf.proofs.ProfileLaws.{opens}
use Rattle.bz_elf.proofs.resolver.ElfResolver.open.Goals as goal

pub returns-clause-answer : goal.returns-clause-answer
returns-clause-answer g c world view =
    let there = c.in_ok-bytes.ensures.answer world view in
    opens there.1 c.in_ok-bytes.bytes.items there.0 (entry_at world c.args.path.now) there.2 there.3
    c.args.path.now c.from_bytes.result c.from_bytes.ensures.ok c.from_bytes.ensures.accepted c.from_bytes.ensures.refusal
