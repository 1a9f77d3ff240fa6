use Rattle.std.proofs.Common.{◌≡◌, map, Err, Ok, ap, length, refl, subst, arith, rules}
use Rattle.std.proofs.lemmas.Result.{err_from_is_err_and}
use Rattle.bz_store.specs.Calls.{Visits}
use Rattle.bz_store.specs.Frames.{frame_of, reading_of}
use Rattle.bz_store.proofs.Running.{all_answered, answers_done, answers_failed, answers_unmade, frames_left, visits_begun, visits_then}
use Rattle.bz_store.proofs.store.Store.answer.Goals as goal

pub returns-in_err-answers : goal.returns-in_err-answers
returns-in_err-answers g c =
    let same = err_from_is_err_and c.from_residual.result c.from_residual.ensures.1 in
    rw (same.1, same.2) (answers_unmade g.F.Files c.args.opts.now (map frame_of c.args.frames.now) (λ answers. map reading_of answers.items) c.args.self.now c.args.files.now)

pub loop-alloc-init : goal.loop-alloc-init
loop-alloc-init g c =
    visits_begun g.F.Files c.args.opts.now (map frame_of c.args.frames.now) c.args.self.now c.args.files.now (map reading_of c.in_ok-answers.answers.items) (ap (map reading_of) c.in_ok-answers.ensures.items)

pub loop-alloc-preserved : goal.loop-alloc-preserved
loop-alloc-preserved g c =
    let long : c.len-in-loop-alloc.result ≡ length c.loop-alloc.answers.items = search rules in
    let left = frames_left c.loop-alloc.answers.items c.args.frames.now c.len-in-loop-alloc.result long in
    let here = subst (λ fs. Visits {A = Unit {0}} g.F.Files c.args.opts.now fs (Ok tt) (map reading_of c.loop-alloc.answers.items) (map reading_of c.visit.new.answers.items) c.loop-alloc.self c.visit.new.self c.loop-alloc.files c.visit.new.files) left c.in_ok-visit.ensures.visits in
    visits_then g.F.Files c.args.opts.now (map frame_of c.args.frames.now) c.args.self.now c.loop-alloc.self c.visit.new.self c.args.files.now c.loop-alloc.files c.visit.new.files
    (map reading_of c.loop-alloc.answers.items) (map reading_of c.visit.new.answers.items) c.loop-alloc.invariant (Ok tt) here

pub returns-in_err-visit : goal.returns-in_err-visit
returns-in_err-visit g c =
    let same = err_from_is_err_and c.from_residual-in_err-visit.result c.from_residual-in_err-visit.ensures.1 in
    let e = c.in_err-visit.field-0.0 in
    let long : c.len-in-loop-alloc.result ≡ length c.loop-alloc.answers.items = search rules in
    let left = frames_left c.loop-alloc.answers.items c.args.frames.now c.len-in-loop-alloc.result long in
    let here = subst (λ fs. Visits {A = Unit {0}} g.F.Files c.args.opts.now fs (Err e) (map reading_of c.loop-alloc.answers.items) (map reading_of c.visit.new.answers.items) c.loop-alloc.self c.visit.new.self c.loop-alloc.files c.visit.new.files) left c.in_err-visit.ensures.visits in
    rw (same.1, same.2) (answers_failed g.F.Files c.args.opts.now (map frame_of c.args.frames.now) (λ answers. map reading_of answers.items) c.args.self.now c.visit.new.self c.args.files.now c.visit.new.files
    (map reading_of c.visit.new.answers.items) e
    (visits_then g.F.Files c.args.opts.now (map frame_of c.args.frames.now) c.args.self.now c.loop-alloc.self c.visit.new.self c.args.files.now c.loop-alloc.files c.visit.new.files
    (map reading_of c.loop-alloc.answers.items) (map reading_of c.visit.new.answers.items) c.loop-alloc.invariant (Err e) here))

pub returns : goal.returns
returns g c =
    answers_done g.F.Files c.args.opts.now (map frame_of c.args.frames.now) (λ answers. map reading_of answers.items) c.args.self.now c.loop-alloc.self c.args.files.now c.loop-alloc.files
    (map reading_of c.loop-alloc.answers.items) c.loop-alloc.invariant (all_answered c.loop-alloc.answers.items c.args.frames.now (omega (arith, c.loop-alloc-test.false))) c.loop-alloc.answers refl
