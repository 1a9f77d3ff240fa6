use Rattle.std.proofs.Common.{[], ◌∷◌, ◌++◌, Ok, refl, slice_index_or, map, take, ap, subst, ◌∙◌, arith}
use Rattle.std.proofs.lemmas.List.{length-map, map-append, take-map}
use Rattle.std.proofs.lemmas.Result.{err_from_is_err_and}
use Rattle.bz_breakpad.specs.Reader.{table_in}
use Rattle.bz_store.specs.Calls.{Seeks}
use Rattle.bz_store.specs.Frames.{Frame, frame_of, key_of, reading_of}
use Rattle.bz_store.specs.Visits.{by_table}
use Rattle.bz_store.proofs.Grouping.{first_frame, more_answers, run_frames, run_long, visits_one, visits_run, visits_unpushed, visits_unrun, visits_unsought}
use Rattle.bz_store.proofs.store.Store.visit.Goals as goal

pub returns-in_err-answer-clause-visits : goal.returns-in_err-answer-clause-visits
returns-in_err-answer-clause-visits g c =
    let first = slice_index_or c.args.frames.now 0 c.index-frames-0.result in
    let same = err_from_is_err_and c.from_residual.result c.from_residual.ensures.1 in
    rw (same.1, same.2) (visits_unsought g.F.Files c.args.opts.now (map frame_of c.args.frames.now) (key_of first.key) (map reading_of c.args.answers.now.items) c.args.self.now c.seek.new.self c.args.files.now c.seek.new.files
    c.in_err-answer.field-0.0 (omega (arith, c.requires, length-map c.args.frames.now frame_of)) c.in_err-answer.ensures (map reading_of c.args.answers.now.items))

pub returns-in_ok-push-in-Some-clause-visits : goal.returns-in_ok-push-in-Some-clause-visits
returns-in_ok-push-in-Some-clause-visits g c =
    let first = slice_index_or c.args.frames.now 0 c.index-frames-0.result in
    let key = key_of first.key in
    visits_one g.F.Files c.args.opts.now (map frame_of c.args.frames.now) key (map reading_of c.args.answers.now.items) c.args.self.now c.seek.new.self c.args.files.now c.seek.new.files
    (frame_of first) refl (first_frame c.args.frames.now c.requires first c.index-frames-0.result refl)
    c.in-Some.answer (subst (λ m. Seeks g.F.Files key (Ok m) c.args.self.now c.seek.new.self c.args.files.now c.seek.new.files) c.in-Some.is c.in_ok-answer.ensures)
    (map reading_of c.push.new.self.items) (ap (map reading_of) c.in_ok-push-in-Some.ensures.items ∙ map-append reading_of c.args.answers.now.items (c.in-Some.answer ∷ []))

pub returns-in_err-push-in-Some-clause-visits : goal.returns-in_err-push-in-Some-clause-visits
returns-in_err-push-in-Some-clause-visits g c =
    let first = slice_index_or c.args.frames.now 0 c.index-frames-0.result in
    let same = err_from_is_err_and c.from_residual-in_err-push-in-Some.result c.from_residual-in_err-push-in-Some.ensures.1 in
    let key = key_of first.key in
    rw (same.1, same.2) (visits_unpushed g.F.Files c.args.opts.now (map frame_of c.args.frames.now) key (map reading_of c.args.answers.now.items) c.args.self.now c.seek.new.self c.args.files.now c.seek.new.files
    (frame_of first) refl (first_frame c.args.frames.now c.requires first c.index-frames-0.result refl)
    c.in-Some.answer (subst (λ m. Seeks g.F.Files key (Ok m) c.args.self.now c.seek.new.self c.args.files.now c.seek.new.files) c.in-Some.is c.in_ok-answer.ensures)
    (map reading_of c.push.new.self.items))

pub returns-in_err-push_known-in-None-clause-visits : goal.returns-in_err-push_known-in-None-clause-visits
returns-in_err-push_known-in-None-clause-visits g c =
    let first = slice_index_or c.args.frames.now 0 c.index-frames-0.result in
    let same = err_from_is_err_and c.from_residual-in_err-push_known-in-None.result c.from_residual-in_err-push_known-in-None.ensures.1 in
    let memory = c.in_err-push_known-in-None.ensures.memory in
    let key = key_of first.key in
    rw (same.1, same.2, memory) (visits_unrun g.F.Files c.args.opts.now (map frame_of c.args.frames.now) key (map reading_of c.args.answers.now.items) c.args.self.now c.seek.new.self c.args.files.now c.seek.new.files
    (frame_of first) refl (first_frame c.args.frames.now c.requires first c.index-frames-0.result refl)
    (subst (λ m. Seeks g.F.Files key (Ok m) c.args.self.now c.seek.new.self c.args.files.now c.seek.new.files) c.in-None.is c.in_ok-answer.ensures)
    c.front.result.now c.front.ensures.first c.front.ensures.formed (map reading_of c.push_known.new.answers.items))

pub returns-in_ok-push_known-in-None-clause-visits : goal.returns-in_ok-push_known-in-None-clause-visits
returns-in_ok-push_known-in-None-clause-visits g c =
    let first = slice_index_or c.args.frames.now 0 c.index-frames-0.result in
    let key = key_of first.key in
    let n = c.run_len.result in
    let run = run_frames c.args.frames.now c.requires first c.index-frames-0.result refl in
    let seen = ap (λ n. map frame_of (take n c.args.frames.now)) c.run_len.ensures.value ∙ run.2 in
    visits_run g.F.Files c.args.opts.now (map frame_of c.args.frames.now) key (map reading_of c.args.answers.now.items) c.args.self.now c.seek.new.self c.args.files.now c.seek.new.files
    (frame_of first) refl (first_frame c.args.frames.now c.requires first c.index-frames-0.result refl)
    (subst (λ m. Seeks g.F.Files key (Ok m) c.args.self.now c.seek.new.self c.args.files.now c.seek.new.files) c.in-None.is c.in_ok-answer.ensures)
    c.front.result.now c.front.ensures.first c.front.ensures.formed
    n run.0 run.1 (take-map frame_of n c.args.frames.now ∙ seen) (run_long c.args.frames.now n (frame_of first) run.0 c.run_len.ensures.within seen)
    (map reading_of c.push_known.new.answers.items)
    (c.in_ok-push_known-in-None.ensures.ok ∙ ap (λ l. map reading_of c.args.answers.now.items ++ map (λ (f : Frame). by_table c.args.opts.now f.offset (table_in c.front.result.now)) l) seen)

pub returns-in_ok-push_known-in-None-clause-more : goal.returns-in_ok-push_known-in-None-clause-more
returns-in_ok-push_known-in-None-clause-more g c =
    let first = slice_index_or c.args.frames.now 0 c.index-frames-0.result in
    let run = run_frames c.args.frames.now c.requires first c.index-frames-0.result refl in
    let seen = ap (λ n. map frame_of (take n c.args.frames.now)) c.run_len.ensures.value ∙ run.2 in
    more_answers c.args.answers.now.items c.push_known.new.answers.items _ _
    (c.in_ok-push_known-in-None.ensures.ok ∙ ap (λ l. map reading_of c.args.answers.now.items ++ map (λ (f : Frame). by_table c.args.opts.now f.offset (table_in c.front.result.now)) l) seen)
