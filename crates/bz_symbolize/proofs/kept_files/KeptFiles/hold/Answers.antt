use Rattle.std.proofs.Common.{◌≡◌, ap, refl, rules}
use Rattle.bz_base.specs.InputKind.{address_kind}
use Rattle.bz_base.specs.declared.types.FindSymOpts.TheVariants.{Basic}
use Rattle.bz_lookups.specs.Batch.{held_singles}
use Rattle.bz_lookups.specs.Formats.{gsym_handed}
use Rattle.bz_symbolize.specs.FileCall.{each_of}
use Rattle.bz_symbolize.specs.Sources.{form_of, process_query}
use Rattle.bz_symbolize.specs.declared.source.Gsym.TheVariants as gsyms
use Rattle.bz_symbolize.specs.declared.source.Source.TheVariants as sources
use Rattle.bz_symbolize.proofs.AskingLemmas.{asks_none}
use Rattle.bz_symbolize.proofs.Formats.{any_process}
use Rattle.bz_symbolize.proofs.HeldLemmas.{asks_handed}
use Rattle.bz_symbolize.proofs.kept_files.KeptFiles.hold.Goals as goal

-- bytes that are handed in are held, and nothing changes
pub returns-in-Gsym-Data-clause-asked : goal.returns-in-Gsym-Data-clause-asked
returns-in-Gsym-Data-clause-asked g c opts =
    let is : c.args.src.now ≡ sources.Gsym (gsyms.Data c.in-Gsym-Data.source) = search rules in
    asks_handed g.F.Files (held_singles opts) c.args.src.now opts (each_of (address_kind c.args.input.now)) c.hold_data.result c.args.self.now c.args.files.now
    (gsym_handed c.in-Gsym-Data.source.bytes.now) (ap form_of is) (c.hold_data.ensures.held opts) c.hold_data.ensures.refusal (search rules)

-- a file's version is held, whatever the options
pub returns-in-Breakpad-clause-asked : goal.returns-in-Breakpad-clause-asked
returns-in-Breakpad-clause-asked g c opts = let given = c.hold_file.ensures.called opts in search rules

pub returns-in-Gsym-File-clause-asked : goal.returns-in-Gsym-File-clause-asked
returns-in-Gsym-File-clause-asked g c opts = let given = c.hold_file-in-Gsym-File.ensures.called opts in search rules

pub returns-in-Elf-clause-asked : goal.returns-in-Elf-clause-asked
returns-in-Elf-clause-asked g c opts = let given = c.hold_file-in-Elf.ensures.called opts in search rules

-- its cache stays well kept
pub invariant_of-self : goal.invariant_of-self
invariant_of-self g c = let given = c.hold_file.ensures.called Basic in search rules

pub invariant_of-self-in-Gsym-File : goal.invariant_of-self-in-Gsym-File
invariant_of-self-in-Gsym-File g c = let given = c.hold_file-in-Gsym-File.ensures.called Basic in search rules

pub invariant_of-self-in-Elf : goal.invariant_of-self-in-Elf
invariant_of-self-in-Elf g c = let given = c.hold_file-in-Elf.ensures.called Basic in search rules

-- a process is refused, and nothing changes
pub returns-in-Process-clause-asked : goal.returns-in-Process-clause-asked
returns-in-Process-clause-asked g c opts =
    let is : c.args.src.now ≡ sources.Process c.in-Process.field-0 = search rules in
    asks_none g.F.Files (held_singles opts) c.args.src.now opts (each_of (address_kind c.args.input.now)) c.args.self.now c.args.files.now (process_query c.in-Process.field-0) (ap form_of is) (search rules)

pub returns-in-Process-clause-process : goal.returns-in-Process-clause-process
returns-in-Process-clause-process g c = any_process c.args.src.now (λ query. (refl, refl, refl))
