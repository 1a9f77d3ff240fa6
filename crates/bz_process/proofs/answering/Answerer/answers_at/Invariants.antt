use Rattle.std.proofs.Common.{◌≡◌, take}
use Rattle.bz_process.specs.ProcessAsk.{AsksFront}
use Rattle.bz_process.specs.Terms.{kept_by, terms_of}
use Rattle.bz_process.proofs.answering.Answerer.answers_at.Given as goal

-- the first addresses were asked, and the dispatcher is the one that was
abbrev pub invariant-loop-addr : goal.invariant-loop-addr
invariant-loop-addr g l = record {
  front : AsksFront g.F.Files (terms_of g.D.ProcessDispatch g.D.Resolver.TranslateFileOffset g.D.Resolver.Symbolize l.fn.self l.question (g.F.Files.pid l.fn.files))
      l.mappings (take l.addr-index l.addrs) l.answers (kept_by l.fn.elf l.fn.self) (kept_by l.elf l.self) l.fn.files l.files;
  dispatch : l.self.dispatching.dispatch ≡ l.fn.self.dispatching.dispatch;
}
