use Rattle.bz_symbolize.proofs.BatchLemmas.{never_refused, plain_batch, plain_elf, plain_gsym}
use Rattle.bz_symbolize.proofs.laws.batches_are_answered.Goals as goal

pub returns-clause-refused : goal.returns-clause-refused
returns-clause-refused c source opts bytes kind addrs e is = never_refused source opts bytes kind addrs e is

pub returns-clause-breakpad : goal.returns-clause-breakpad
returns-clause-breakpad c opts bytes kind addrs answers = plain_batch opts bytes kind addrs answers

pub returns-clause-gsym : goal.returns-clause-gsym
returns-clause-gsym c opts bytes kind addrs answers = plain_gsym opts bytes kind addrs answers

pub returns-clause-elf : goal.returns-clause-elf
returns-clause-elf c path bytes kind addrs answers = plain_elf path bytes kind addrs answers
