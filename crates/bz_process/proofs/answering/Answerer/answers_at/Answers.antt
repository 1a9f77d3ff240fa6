use Rattle.std.proofs.Common.{◌≡◌, ◌<◌, take, length, get_or, drop, suc, ℕ, refl, ap, arith, ◌∙◌, rules, Err, Vec, Global}
use Rattle.std.proofs.lemmas.List.{take_more}
use Rattle.std.proofs.Math.Seq.{take-length}
use Rattle.std.proofs.lemmas.Result.{err_from_is_err_and}
use Rattle.bz_base.specs.declared.types.Symbolized.{Symbolized}
use Rattle.bz_files.specs.Looked.{Faulted, Looked}
use Rattle.bz_process.specs.Terms.{kept_by, terms_of}
use Rattle.bz_process.proofs.AskLemmas.{all_done, all_fail, all_stop, front_more, front_none, looked_ok, none_asked, split_at_next}
use Rattle.bz_process.proofs.ProcessLemmas.{looked_both, unfailed, unfaulted}
use Rattle.bz_process.proofs.answering.Answerer.answers_at.Goals as goal

-- memory ran out for the list of answers
pub returns-in_err-answers-clause-asks : goal.returns-in_err-answers-clause-asks
returns-in_err-answers-clause-asks g c =
    let terms = terms_of g.D.ProcessDispatch g.D.Resolver.TranslateFileOffset g.D.Resolver.Symbolize c.args.self.now c.args.question.now (g.F.Files.pid c.args.files.now) in
    let same = err_from_is_err_and c.from_residual.result c.from_residual.ensures.1 in
    rw (same.1, same.2) (none_asked g.F.Files terms c.args.mappings.now c.args.addrs.now (kept_by c.args.elf.now c.args.self.now) c.args.files.now)

-- no address is asked yet
pub loop-addr-init : goal.loop-addr-init
loop-addr-init g c =
    let terms = terms_of g.D.ProcessDispatch g.D.Resolver.TranslateFileOffset g.D.Resolver.Symbolize c.args.self.now c.args.question.now (g.F.Files.pid c.args.files.now) in
    record {
      front = front_none g.F.Files terms c.args.mappings.now c.in_ok-answers.answers (kept_by c.args.elf.now c.args.self.now) c.args.files.now c.in_ok-answers.ensures.items;
      dispatch = refl;
    }

-- one more address is asked
pub loop-addr-preserved : goal.loop-addr-preserved
loop-addr-preserved g c =
    let terms = terms_of g.D.ProcessDispatch g.D.Resolver.TranslateFileOffset g.D.Resolver.Symbolize c.args.self.now c.args.question.now (g.F.Files.pid c.args.files.now) in
    let addrs = c.args.addrs.now in
    let i = c.loop-addr.addr-index in
    let there : i < length addrs = search rules in
    let front = c.loop-addr.invariant.front in
    let one = rw (c.loop-addr.invariant.dispatch, c.loop-addr.invariant.front.step.looked.pid) at c.answer_at-answer.ensures in
    record {
      front = rw (take_more addrs i 0 there)
          (front_more g.F.Files terms c.args.mappings.now (take i addrs) _ c.loop-addr.answers c.push.new.self c.answer_at-answer.result c.in_ok-entry.entry
          (kept_by c.args.elf.now c.args.self.now) (kept_by c.loop-addr.elf c.loop-addr.self) (kept_by c.answer_at-answer.new.elf c.answer_at-answer.new.self) c.args.files.now c.loop-addr.files c.answer_at-answer.new.files
          front one.asks one.keeps one.adds c.in_ok-entry.ensures.entry c.in_ok-entry.ensures.failed c.in_ok-push.ensures.items);
      dispatch = c.answer_at-answer.ensures.dispatch ∙ c.loop-addr.invariant.dispatch;
    }

-- an address failed
pub returns-in_err-entry-clause-asks : goal.returns-in_err-entry-clause-asks
returns-in_err-entry-clause-asks g c =
    let terms = terms_of g.D.ProcessDispatch g.D.Resolver.TranslateFileOffset g.D.Resolver.Symbolize c.args.self.now c.args.question.now (g.F.Files.pid c.args.files.now) in
    let addrs = c.args.addrs.now in
    let i = c.loop-addr.addr-index in
    let there : i < length addrs = search rules in
    let front = c.loop-addr.invariant.front in
    let one = rw (c.loop-addr.invariant.dispatch, c.loop-addr.invariant.front.step.looked.pid) at c.answer_at-answer.ensures in
    let e = c.in_err-entry.field-0.0 in
    let same = err_from_is_err_and c.from_residual-in_err-entry.result c.from_residual-in_err-entry.ensures.1 in
    let looked : Looked g.F.Files c.loop-addr.files c.answer_at-answer.new.files (Faulted {A = Vec Symbolized Global} (Err e)) = rw c.in_err-entry.ensures.refusal at one.asks.step.looked in
    rw (same.1, same.2)
    (all_fail g.F.Files terms c.args.mappings.now (take i addrs) (get_or addrs i 0) (drop (suc i) addrs) addrs c.loop-addr.answers c.answer_at-answer.result e
    (kept_by c.args.elf.now c.args.self.now) (kept_by c.loop-addr.elf c.loop-addr.self) (kept_by c.answer_at-answer.new.elf c.answer_at-answer.new.self) c.args.files.now c.loop-addr.files c.answer_at-answer.new.files
    (split_at_next addrs i there) front one.asks one.keeps one.adds c.in_err-entry.ensures.refusal c.in_err-entry.ensures.failure (looked_both g.F.Files (g.F.Files.pid c.args.files.now) _ _ _ front.step.looked looked))

-- memory ran out for an answer
pub returns-in_err-push-clause-asks : goal.returns-in_err-push-clause-asks
returns-in_err-push-clause-asks g c =
    let terms = terms_of g.D.ProcessDispatch g.D.Resolver.TranslateFileOffset g.D.Resolver.Symbolize c.args.self.now c.args.question.now (g.F.Files.pid c.args.files.now) in
    let addrs = c.args.addrs.now in
    let i = c.loop-addr.addr-index in
    let there : i < length addrs = search rules in
    let front = c.loop-addr.invariant.front in
    let one = rw (c.loop-addr.invariant.dispatch, c.loop-addr.invariant.front.step.looked.pid) at c.answer_at-answer.ensures in
    let same = err_from_is_err_and c.from_residual-in_err-push.result c.from_residual-in_err-push.ensures.1 in
    let looked = looked_ok g.F.Files c.answer_at-answer.result c.in_ok-entry.entry _ _ c.in_ok-entry.ensures.failed one.asks.step.looked in
    rw (same.1, same.2)
    (all_stop g.F.Files terms c.args.mappings.now (take i addrs) (get_or addrs i 0) (drop (suc i) addrs) addrs c.loop-addr.answers c.answer_at-answer.result c.in_ok-entry.entry
    (kept_by c.args.elf.now c.args.self.now) (kept_by c.loop-addr.elf c.loop-addr.self) (kept_by c.answer_at-answer.new.elf c.answer_at-answer.new.self) c.args.files.now c.loop-addr.files c.answer_at-answer.new.files
    (split_at_next addrs i there) front one.asks one.keeps one.adds c.in_ok-entry.ensures.failed
    (unfailed g.F.Files c.args.question.now.query.now.pid (g.F.Files.pid c.args.files.now) _ _ (looked_both g.F.Files (g.F.Files.pid c.args.files.now) _ _ _ front.step.looked looked) (unfaulted (Vec Symbolized Global))))

pub returns-in_err-push-clause-keeps : goal.returns-in_err-push-clause-keeps
returns-in_err-push-clause-keeps g c name answer kept = c.answer_at-answer.ensures.keeps name answer (c.loop-addr.invariant.front.keeps name answer kept)

-- every address was asked
pub returns-clause-asks : goal.returns-clause-asks
returns-clause-asks g c =
    let terms = terms_of g.D.ProcessDispatch g.D.Resolver.TranslateFileOffset g.D.Resolver.Symbolize c.args.self.now c.args.question.now (g.F.Files.pid c.args.files.now) in
    let last : c.loop-addr.addr-index ≡ length c.args.addrs.now = omega arith in
    let all : take c.loop-addr.addr-index c.args.addrs.now ≡ c.args.addrs.now = ap (λ (n : ℕ). take n c.args.addrs.now) last ∙ take-length c.args.addrs.now in
    all_done g.F.Files terms c.args.mappings.now c.args.addrs.now c.loop-addr.answers (kept_by c.args.elf.now c.args.self.now) (kept_by c.loop-addr.elf c.loop-addr.self) c.args.files.now c.loop-addr.files (rw all at c.loop-addr.invariant.front)
