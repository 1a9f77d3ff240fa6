use Rattle.std.proofs.Common.{◌≡◌, Option, None, Some, Result, Ok, Err, option_map, refl, sym, ap, subst, ◌∙◌}
use Rattle.std.proofs.lemmas.Result.{err_from_is_err_and}
use Rattle.bz_base.specs.Answer.{reading}
use Rattle.bz_base.specs.declared.error.Error.{Error}
use Rattle.bz_base.specs.declared.types.Symbolized.{Symbolized}
use Rattle.bz_proc.specs.Maps.{mapping_of, name_of}
use Rattle.bz_process.specs.Caches.{caches}
use Rattle.bz_process.specs.ProcessAsk.{AsksMapping}
use Rattle.bz_process.specs.Terms.{kept_by, terms_of}
use Rattle.bz_process.proofs.AskLemmas.{adds_named, in_named, in_unnamed, says, says_no_fault, says_refusal, unless, unless_same}
use Rattle.bz_process.proofs.answering.Answerer.in_mapping.Goals as goal

-- the mapping is of nothing
pub returns-in-None-clause-asks : goal.returns-in-None-clause-asks
returns-in-None-clause-asks g c =
    let terms = terms_of g.D.ProcessDispatch g.D.Resolver.TranslateFileOffset g.D.Resolver.Symbolize c.args.self.now c.args.question.now (g.F.Files.pid c.args.files.now) in
    let none : option_map name_of c.args.entry.now.path_name ≡ None = ap (option_map name_of) c.in-None.is in
    in_unnamed g.F.Files terms (mapping_of c.args.entry.now) _ c.args.addr c.answer_without_name.result (caches c.args.elf.now c.args.self.now.perf_maps) (caches c.args.elf.now c.answer_without_name.new.self) c.args.self.now.dispatching.answers c.args.files.now c.answer_without_name.new.files
    none (c.answer_without_name.ensures.step c.args.elf.now) (c.answer_without_name.ensures.untold c.args.elf.now)

-- the resolver that is in charge answered
pub returns-in-Some-2-clause-asks : goal.returns-in-Some-2-clause-asks
returns-in-Some-2-clause-asks g c =
    let terms = terms_of g.D.ProcessDispatch g.D.Resolver.TranslateFileOffset g.D.Resolver.Symbolize c.args.self.now c.args.question.now (g.F.Files.pid c.args.files.now) in
    let kept = caches c.args.elf.now c.args.self.now.perf_maps in
    let named : option_map name_of c.args.entry.now.path_name ≡ Some (name_of c.in-Some.name) = ap (option_map name_of) c.in-Some.is in
    in_named g.F.Files terms (mapping_of c.args.entry.now) c.in-Some.name _ c.args.addr (Some (Ok (reading c.in-Some-2.answer))) (Ok c.in-Some-2.answer)
    (kept_by c.args.elf.now c.args.self.now) (record { caches = kept; answers = c.say.new.self.answers }) c.args.files.now c.args.files.now named
    (rw c.in-Some-2.is at c.in_ok-answer-in-Some.ensures).said tt (refl, refl)
    (says g.F.Files terms.asked (mapping_of c.args.entry.now) c.args.addr (name_of c.in-Some.name) (Ok (reading c.in-Some-2.answer)) (Ok c.in-Some-2.answer) kept c.args.files.now refl (λ none. none))

-- it refused, or the dispatcher did
pub returns-in_err-answer-in-Some-clause-asks : goal.returns-in_err-answer-in-Some-clause-asks
returns-in_err-answer-in-Some-clause-asks g c =
    let terms = terms_of g.D.ProcessDispatch g.D.Resolver.TranslateFileOffset g.D.Resolver.Symbolize c.args.self.now c.args.question.now (g.F.Files.pid c.args.files.now) in
    let kept = caches c.args.elf.now c.args.self.now.perf_maps in
    let named : option_map name_of c.args.entry.now.path_name ≡ Some (name_of c.in-Some.name) = ap (option_map name_of) c.in-Some.is in
    let same = err_from_is_err_and c.from_residual.result c.from_residual.ensures.1 in
    subst (λ (r : Result Symbolized Error). AsksMapping g.F.Files terms (mapping_of c.args.entry.now) c.args.addr r
    (kept_by c.args.elf.now c.args.self.now) (record { caches = kept; answers = c.say.new.self.answers }) c.args.files.now c.args.files.now)
    (sym (same.1 ∙ ap Err same.2))
    (in_named g.F.Files terms (mapping_of c.args.entry.now) c.in-Some.name _ c.args.addr (Some (Err c.in_err-answer-in-Some.field-0.0)) (Err c.in_err-answer-in-Some.field-0.0)
    (kept_by c.args.elf.now c.args.self.now) (record { caches = kept; answers = c.say.new.self.answers }) c.args.files.now c.args.files.now named
    (unless_same (Option Symbolized) Symbolized c.in_err-answer-in-Some.field-0.0 _ c.in_err-answer-in-Some.ensures.said) (says_no_fault c.in_err-answer-in-Some.field-0.0 c.in_err-answer-in-Some.ensures.faultless) (refl, refl)
    (says_refusal g.F.Files terms.asked (mapping_of c.args.entry.now) c.args.addr (name_of c.in-Some.name) c.in_err-answer-in-Some.field-0.0 kept c.args.files.now c.in_err-answer-in-Some.ensures.faultless))

-- nobody is in charge
pub returns-in-None-2-clause-asks : goal.returns-in-None-2-clause-asks
returns-in-None-2-clause-asks g c =
    let terms = terms_of g.D.ProcessDispatch g.D.Resolver.TranslateFileOffset g.D.Resolver.Symbolize c.args.self.now c.args.question.now (g.F.Files.pid c.args.files.now) in
    let own = g.F.Files.pid c.args.files.now in
    let named : option_map name_of c.args.entry.now.path_name ≡ Some (name_of c.in-Some.name) = ap (option_map name_of) c.in-Some.is in
    in_named g.F.Files terms (mapping_of c.args.entry.now) c.in-Some.name _ c.args.addr None c.answer_by_name.result
    (kept_by c.args.elf.now c.args.self.now) (record { caches = caches c.answer_by_name.new.elf c.args.self.now.perf_maps; answers = c.say.new.self.answers }) c.args.files.now c.answer_by_name.new.files named
    (unless c.answer_by_name.result _ (rw c.in-None-2.is at c.in_ok-answer-in-Some.ensures).said) tt (c.answer_by_name.ensures.untold own c.args.self.now.perf_maps) (c.answer_by_name.ensures.step own c.args.self.now.perf_maps)

pub returns-in-Some-2-clause-adds : goal.returns-in-Some-2-clause-adds
returns-in-Some-2-clause-adds g c =
    let terms = terms_of g.D.ProcessDispatch g.D.Resolver.TranslateFileOffset g.D.Resolver.Symbolize c.args.self.now c.args.question.now (g.F.Files.pid c.args.files.now) in
    let named : option_map name_of c.args.entry.now.path_name ≡ Some (name_of c.in-Some.name) = ap (option_map name_of) c.in-Some.is in
    adds_named g.F.Files terms (mapping_of c.args.entry.now) c.in-Some.name c.args.self.now.dispatching.answers c.say.new.self.answers named c.say.ensures.adds

pub returns-in_err-answer-in-Some-clause-adds : goal.returns-in_err-answer-in-Some-clause-adds
returns-in_err-answer-in-Some-clause-adds g c =
    let terms = terms_of g.D.ProcessDispatch g.D.Resolver.TranslateFileOffset g.D.Resolver.Symbolize c.args.self.now c.args.question.now (g.F.Files.pid c.args.files.now) in
    let named : option_map name_of c.args.entry.now.path_name ≡ Some (name_of c.in-Some.name) = ap (option_map name_of) c.in-Some.is in
    adds_named g.F.Files terms (mapping_of c.args.entry.now) c.in-Some.name c.args.self.now.dispatching.answers c.say.new.self.answers named c.say.ensures.adds

pub returns-in-None-2-clause-adds : goal.returns-in-None-2-clause-adds
returns-in-None-2-clause-adds g c =
    let terms = terms_of g.D.ProcessDispatch g.D.Resolver.TranslateFileOffset g.D.Resolver.Symbolize c.args.self.now c.args.question.now (g.F.Files.pid c.args.files.now) in
    let named : option_map name_of c.args.entry.now.path_name ≡ Some (name_of c.in-Some.name) = ap (option_map name_of) c.in-Some.is in
    adds_named g.F.Files terms (mapping_of c.args.entry.now) c.in-Some.name c.args.self.now.dispatching.answers c.say.new.self.answers named c.say.ensures.adds
