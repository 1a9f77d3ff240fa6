use Rattle.std.proofs.Common.{sym}
use Rattle.bz_proc.specs.Maps.{mapping_of}
use Rattle.bz_process.specs.Terms.{kept_by, terms_of}
use Rattle.bz_process.proofs.AskLemmas.{adds_owned, unmapped}
use Rattle.bz_process.proofs.answering.Answerer.answer_at.Goals as goal

-- no mapping has the address
pub returns-in-None-clause-asks : goal.returns-in-None-clause-asks
returns-in-None-clause-asks g c =
    let terms = terms_of g.D.ProcessDispatch g.D.Resolver.TranslateFileOffset g.D.Resolver.Symbolize c.args.self.now c.args.question.now (g.F.Files.pid c.args.files.now) in
    unmapped g.F.Files terms c.args.mappings.now c.args.addr (kept_by c.args.elf.now c.args.self.now) c.args.files.now (sym c.in-None.ensures)

-- the mapping has it
pub returns-in-Some-clause-adds : goal.returns-in-Some-clause-adds
returns-in-Some-clause-adds g c =
    let terms = terms_of g.D.ProcessDispatch g.D.Resolver.TranslateFileOffset g.D.Resolver.Symbolize c.args.self.now c.args.question.now (g.F.Files.pid c.args.files.now) in
    adds_owned g.F.Files terms c.args.mappings.now c.args.addr (mapping_of c.in-Some.entry.now) c.args.self.now.dispatching.answers c.in_mapping.new.self.dispatching.answers (sym c.in-Some.ensures) c.in_mapping.ensures.adds
