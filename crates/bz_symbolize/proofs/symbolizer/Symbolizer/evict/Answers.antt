use Rattle.std.proofs.Common.{◌≡◌, rules}
use Rattle.bz_symbolize.specs.Requests.{EvictElf, EvictProcess, evict_read}
use Rattle.bz_symbolize.proofs.EvictingLemmas.{elf_forgotten, process_forgotten}
use Rattle.bz_symbolize.proofs.symbolizer.Symbolizer.evict.Goals as goal

-- an ELF file is forgotten
pub returns-in-Elf : goal.returns-in-Elf
returns-in-Elf g c =
    let is : evict_read c.args.evict.now ≡ EvictElf c.as_str-path.result.now = search rules in
    rw (← c.self.view_is)
    (rw is (elf_forgotten c.self.inside.processes c.forget_path.new.self c.as_str-path.result.now c.self.inside.files c.forget_elf.new.self c.forget_elf.ensures c.forget_path.ensures))

-- a process is
pub returns-in-Process : goal.returns-in-Process
returns-in-Process g c =
    let is : evict_read c.args.evict.now ≡ EvictProcess c.in-Process.process.pid = search rules in
    rw (← c.self.view_is)
    (rw is (process_forgotten c.self.inside.processes c.evict_process.new.self c.in-Process.process.pid c.self.inside.files c.evict_process.ensures))
