use Rattle.std.proofs.Common.{◌≡◌, ◌∙◌, false, List, length, map, Ok, Err, Vec, Global, inl, inr, refl, sym, ap}
use Rattle.std.proofs.lemmas.List.{length-map}
use Rattle.std.proofs.lemmas.Result.{err_from_is_err_and}
use Rattle.bz_base.specs.Answer.{Answer, reading}
use Rattle.bz_base.specs.InputKind.{address_kind}
use Rattle.bz_base.specs.declared.error.Error.TheVariants as errors
use Rattle.bz_base.specs.declared.input.Input.{Input}
use Rattle.bz_base.specs.declared.types.Symbolized.{Symbolized}
use Rattle.bz_process.specs.Processes.{is_in_process}
use Rattle.bz_stacks.proofs.FoldsLemmas.{answers_given, folds_asked, folds_first, folds_untaken}
use Rattle.bz_stacks.proofs.asking.fold_process.Goals as goal

abbrev read : Vec Symbolized Global → List Answer
read answers = map reading answers.items

-- memory ran out before the process was asked
pub returns-in_err-addrs-in-AbsAddr : goal.returns-in_err-addrs-in-AbsAddr
returns-in_err-addrs-in-AbsAddr g c =
    let same = err_from_is_err_and c.from_residual.result c.from_residual.ensures.1 in
    folds_first g.F.Files (g.D.ProcessDispatch.may_dispatch c.args.symbolizer.now.processes.dispatcher) g.D.Resolver.TranslateFileOffset g.D.Resolver.Symbolize c.args.src.now (address_kind c.args.kind) c.args.stacks.now
    c.requires.process.0 c.requires.process.1 c.from_residual.result c.args.symbolizer.now c.requires.caches c.args.files.now
    (ap address_kind c.in-AbsAddr.is) (same.1 ∙ ap Err same.2 ∙ ap Err c.in_err-addrs-in-AbsAddr.ensures.memory)

-- it refused
pub returns-in_err-answers-in-AbsAddr : goal.returns-in_err-answers-in-AbsAddr
returns-in_err-answers-in-AbsAddr g c =
    let same = err_from_is_err_and c.from_residual-in_err-answers-in-AbsAddr.result c.from_residual-in_err-answers-in-AbsAddr.ensures.1 in
    folds_asked g.F.Files (g.D.ProcessDispatch.may_dispatch c.args.symbolizer.now.processes.dispatcher) g.D.Resolver.TranslateFileOffset g.D.Resolver.Symbolize c.args.src.now (address_kind c.args.kind) c.args.stacks.now
    read c.as_slice.result.now (c.as_slice.ensures.value ∙ c.in_ok-addrs-in-AbsAddr.ensures.ok) (ap address_kind c.in-AbsAddr.is) c.args.symbolizer.now c.symbolize.new.self c.args.files.now c.symbolize.new.files
    (Err c.in_err-answers-in-AbsAddr.field-0.0) c.from_residual-in_err-answers-in-AbsAddr.result (same.1 ∙ ap Err same.2) c.in_err-answers-in-AbsAddr.ensures.call c.in_err-answers-in-AbsAddr.ensures.process

-- it gave an answer for each address
pub fold_answers-requires-clause-answers : goal.fold_answers-requires-clause-answers
fold_answers-requires-clause-answers g c =
    let answers = c.in_ok-answers-in-AbsAddr.answers in
    ap length c.deref.ensures.value
    ∙ sym (length-map answers.items reading)
    ∙ answers_given g.F.Files (g.D.ProcessDispatch.may_dispatch c.args.symbolizer.now.processes.dispatcher) g.D.Resolver.TranslateFileOffset g.D.Resolver.Symbolize c.args.src.now
    read c.as_slice.result.now c.requires.process.0 c.requires.process.1 answers c.args.symbolizer.now c.symbolize.new.self c.args.files.now c.symbolize.new.files c.in_ok-answers-in-AbsAddr.ensures.process
    ∙ ap length (c.as_slice.ensures.value ∙ c.in_ok-addrs-in-AbsAddr.ensures.ok)

pub returns-in_ok-answers-in-AbsAddr : goal.returns-in_ok-answers-in-AbsAddr
returns-in_ok-answers-in-AbsAddr g c =
    folds_asked g.F.Files (g.D.ProcessDispatch.may_dispatch c.args.symbolizer.now.processes.dispatcher) g.D.Resolver.TranslateFileOffset g.D.Resolver.Symbolize c.args.src.now (address_kind c.args.kind) c.args.stacks.now
    read c.as_slice.result.now (c.as_slice.ensures.value ∙ c.in_ok-addrs-in-AbsAddr.ensures.ok) (ap address_kind c.in-AbsAddr.is) c.args.symbolizer.now c.symbolize.new.self c.args.files.now c.symbolize.new.files
    (Ok c.in_ok-answers-in-AbsAddr.answers) c.fold_answers.result (rw c.deref.ensures.value at c.fold_answers.ensures.ok, c.fold_answers.ensures.memory) c.in_ok-answers-in-AbsAddr.ensures.call c.in_ok-answers-in-AbsAddr.ensures.process

-- another kind of address is refused
pub returns-in-VirtOffset : goal.returns-in-VirtOffset
returns-in-VirtOffset g c =
    let other : is_in_process (address_kind c.args.kind) ≡ false = elim c.in-VirtOffset.is [
      | inl is ↦ ap (λ (kind : Input (Unit {0})). is_in_process (address_kind kind)) is.1
      | inr is ↦ ap (λ (kind : Input (Unit {0})). is_in_process (address_kind kind)) is.1
    ] in
    folds_untaken g.F.Files (g.D.ProcessDispatch.may_dispatch c.args.symbolizer.now.processes.dispatcher) g.D.Resolver.TranslateFileOffset g.D.Resolver.Symbolize c.args.src.now (address_kind c.args.kind) c.args.stacks.now
    c.requires.process.0 c.requires.process.1 (Err errors.Unsupported) c.args.symbolizer.now c.requires.caches c.args.files.now other refl
