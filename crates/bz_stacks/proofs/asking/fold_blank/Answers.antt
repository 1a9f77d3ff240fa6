use Rattle.std.proofs.Common.{◌∙◌, Ok, Err, refl, sym}
use Rattle.bz_base.specs.InputKind.{address_kind}
use Rattle.bz_lookups.specs.Batch.{answers_to}
use Rattle.bz_symbolize.specs.Sources.{form_of}
use Rattle.bz_stacks.specs.Fold.{addrs_of}
use Rattle.bz_stacks.proofs.FoldsLemmas.{folds_file}
use Rattle.bz_stacks.proofs.FormLemmas.{never_process, on_process_by}
use Rattle.bz_stacks.proofs.asking.fold_blank.Goals as goal

-- a file, or bytes, answer for one stack after the other
pub returns-in-Ok : goal.returns-in-Ok
returns-in-Ok g c =
    folds_file g.F.Files (g.D.ProcessDispatch.may_dispatch c.args.symbolizer.now.processes.dispatcher) g.D.Resolver.TranslateFileOffset g.D.Resolver.Symbolize c.args.src.now (address_kind c.args.kind) c.args.stacks.now
    (answers_to (addrs_of c.args.stacks.now)) (Ok c.in-Ok.lookups) c.fold_lookups.result c.args.symbolizer.now c.look_up.new.self c.args.files.now c.look_up.new.files
    (rw c.with-none.ensures.kind at (c.in-Ok.ensures.every (addrs_of c.args.stacks.now)))
    (c.fold_lookups.ensures.ok, c.fold_lookups.ensures.memory)
    (on_process_by (form_of c.args.src.now) (λ query refused. cc refused.0) c.in-Ok.ensures.process)
    c.in-Ok.ensures.processes

-- a file, or bytes, refuse
pub returns : goal.returns
returns g c =
    folds_file g.F.Files (g.D.ProcessDispatch.may_dispatch c.args.symbolizer.now.processes.dispatcher) g.D.Resolver.TranslateFileOffset g.D.Resolver.Symbolize c.args.src.now (address_kind c.args.kind) c.args.stacks.now
    (answers_to (addrs_of c.args.stacks.now)) (Err c.in-Err.error) (Err c.in-Err.error) c.args.symbolizer.now c.look_up.new.self c.args.files.now c.look_up.new.files
    (rw c.with-none.ensures.kind at (c.in-Err.ensures.every (addrs_of c.args.stacks.now)))
    refl
    (never_process (form_of c.args.src.now) (sym c.is_process.ensures ∙ c.if-is_process.false))
    c.in-Err.ensures.processes
