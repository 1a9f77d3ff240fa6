use Rattle.std.proofs.Common.{refl}
use Rattle.bz_base.specs.Answer.{reading}
use Rattle.bz_process.specs.Caches.{caches}
use Rattle.bz_process.proofs.ProcessLemmas.{still, looks_at_elf}
use Rattle.bz_process.proofs.UntoldLemmas.{some_read}
use Rattle.bz_process.proofs.mapped_file.answer_by_name.Goals as goal

-- a part of the system has no symbols
pub returns-in-Component-clause-step : goal.returns-in-Component-clause-step
returns-in-Component-clause-step g c own kept = rw c.in-Component.is (still g.F.Files own reading _ _ (caches c.args.elf.now kept) c.args.files.now refl)

-- the mapped file answers
pub returns-in-Path-clause-step : goal.returns-in-Path-clause-step
returns-in-Path-clause-step g c own kept =
    let called = rw (c.file_of-file.ensures, c.as_str.ensures.value, c.offset_in-offset.ensures) at c.elf_answer.ensures in
    rw c.in-Path.is (looks_at_elf g.F.Files own reading _ _ c.elf_answer.result (caches c.args.elf.now kept) c.elf_answer.new.cache c.args.files.now c.elf_answer.new.files called)

-- where files tell nothing, some version of the file does
pub returns-in-Component-clause-untold : goal.returns-in-Component-clause-untold
returns-in-Component-clause-untold g c own kept = rw c.in-Component.is (refl, refl)

pub returns-in-Path-clause-untold : goal.returns-in-Path-clause-untold
returns-in-Path-clause-untold g c own kept =
    let called = rw (c.file_of-file.ensures, c.as_str.ensures.value, c.offset_in-offset.ensures) at c.elf_answer.ensures in
    rw c.in-Path.is (record { untold = some_read reading _ _ c.elf_answer.result c.args.elf.now c.elf_answer.new.cache called.untold; rest = refl })
