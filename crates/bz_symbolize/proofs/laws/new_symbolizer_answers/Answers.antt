use Rattle.bz_files.specs.World.{entry_at}
use Rattle.bz_symbolize.proofs.NewLemmas.{new_breakpad, new_elf, new_gsym}
use Rattle.bz_symbolize.proofs.laws.new_symbolizer_answers.Goals as goal

pub returns-clause-breakpad : goal.returns-clause-breakpad
returns-clause-breakpad c opts settings path addrs world = new_breakpad opts settings.reload path addrs.now (entry_at world path)

pub returns-clause-gsym : goal.returns-clause-gsym
returns-clause-gsym c opts settings path addrs world = new_gsym opts settings.reload path addrs.now (entry_at world path)

pub returns-clause-elf : goal.returns-clause-elf
returns-clause-elf c opts settings path kind addrs world = new_elf opts settings.reload path addrs kind (entry_at world path)
