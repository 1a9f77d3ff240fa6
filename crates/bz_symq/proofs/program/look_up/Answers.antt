use Rattle.std.proofs.Common.{◌≡◌, ap}
use Rattle.bz_base.specs.InputKind.{address_kind}
use Rattle.bz_symbolize.specs.State.{new_state}
use Rattle.bz_symq.specs.Command.{file_target_of}
use Rattle.bz_symq.specs.Kept.{KeptState, opts_in, settings_of}
use Rattle.bz_symq.proofs.CauseLemmas.{file_refusal}
use Rattle.bz_symq.proofs.TargetLemmas.{answer_new, few_from_kept, of_its_file, of_its_source, of_untaken, opened_by_target, some_from_kept, takes_few}
use Rattle.bz_symq.proofs.ReplyLemmas.{answers_read, given_from_ok}
use Rattle.bz_symq.proofs.program.look_up.Goals as goal

-- a symbolizer that keeps nothing answers as the file answers
pub returns-clause-answer : goal.returns-clause-answer
returns-clause-answer g c world told =
    let files : c.new_symbolizer-symbolizer.result.files ≡ new_state (settings_of c.args.batch.now.config) = ap (λ (kept : KeptState). kept.files) c.new_symbolizer-symbolizer.ensures in
    let looked = rw (files, c.with.ensures.kind, c.with.ensures.payload) at ((of_its_source (file_target_of c.args.batch.now.file) c.in_ok-src.src _ c.in_ok-src.ensures.ok (c.look_up.ensures.call.told world told)).answer) in
    rw (answer_new c.args.batch.now.config c.args.addrs.items world (file_target_of c.args.batch.now.file) (address_kind c.args.batch.now.kind) c.in_ok-src.src (g.F.Files.pid c.args.files.now) c.in_ok-src.ensures.ok) at looked

-- by bytes in the format, whatever is told
pub returns-clause-answered : goal.returns-clause-answered
returns-clause-answered g c =
    let files : c.new_symbolizer-symbolizer.result.files ≡ new_state (settings_of c.args.batch.now.config) = ap (λ (kept : KeptState). kept.files) c.new_symbolizer-symbolizer.ensures in
    let kept = rw (files, c.with.ensures.kind, c.with.ensures.payload) at c.look_up.ensures.call.kept in
    let untaken = rw c.with.ensures.kind at c.look_up.ensures.call.untaken in
    some_from_kept c.args.batch.now.config c.args.addrs.items answers_read (address_kind c.args.batch.now.kind) _ _ _ (file_target_of c.args.batch.now.file) c.in_ok-src.src c.look_up.result c.in_ok-src.ensures.ok (λ refused. refused.0) untaken kept

-- or refused by a cause that the file may have
pub returns-clause-refusal : goal.returns-clause-refusal
returns-clause-refusal g c =
    let files : c.new_symbolizer-symbolizer.result.files ≡ new_state (settings_of c.args.batch.now.config) = ap (λ (kept : KeptState). kept.files) c.new_symbolizer-symbolizer.ensures in
    let untaken = of_untaken (file_target_of c.args.batch.now.file) (address_kind c.args.batch.now.kind) c.in_ok-src.src _ c.in_ok-src.ensures.ok (rw c.with.ensures.kind at c.look_up.ensures.call.untaken) in
    file_refusal (opts_in c.args.batch.now.config) c.args.addrs.items (address_kind c.args.batch.now.kind) c.args.batch.now.config (file_target_of c.args.batch.now.file) c.in_ok-src.src c.look_up.result c.in_ok-src.ensures.ok (λ is. (untaken is).0)
    (rw (files, c.with.ensures.kind, c.with.ensures.payload) at c.look_up.ensures.call.refusal)

-- one file at most was read, and where answers are given one was
pub returns-clause-opens : goal.returns-clause-opens
returns-clause-opens g c =
    let files : c.new_symbolizer-symbolizer.result.files ≡ new_state (settings_of c.args.batch.now.config) = ap (λ (kept : KeptState). kept.files) c.new_symbolizer-symbolizer.ensures in
    record {
      most = of_its_file (file_target_of c.args.batch.now.file) c.in_ok-src.src _ c.in_ok-src.ensures.ok c.look_up.ensures.call.most;
      opened = λ world told.
          let opened = rw (files, c.with.ensures.kind) at ((of_its_source (file_target_of c.args.batch.now.file) c.in_ok-src.src _ c.in_ok-src.ensures.ok (c.look_up.ensures.call.told world told)).opened) in
          given_from_ok c.look_up.result _ (opened_by_target c.args.batch.now.config c.args.addrs.items answers_read world _ _ c.look_up.result (file_target_of c.args.batch.now.file) (address_kind c.args.batch.now.kind) c.in_ok-src.src (g.F.Files.pid c.args.files.now) c.in_ok-src.ensures.ok
          (returns-clause-answer g c world told) opened);
    }

-- none for a kind of address that isn't taken
pub returns-clause-untaken : goal.returns-clause-untaken
returns-clause-untaken g c untaken = (of_untaken (file_target_of c.args.batch.now.file) (address_kind c.args.batch.now.kind) c.in_ok-src.src _ c.in_ok-src.ensures.ok (rw c.with.ensures.kind at c.look_up.ensures.call.untaken) untaken).2

-- in few steps
pub returns-clause-found : goal.returns-clause-found
returns-clause-found g c =
    let files : c.new_symbolizer-symbolizer.result.files ≡ new_state (settings_of c.args.batch.now.config) = ap (λ (kept : KeptState). kept.files) c.new_symbolizer-symbolizer.ensures in
    let kept = rw (files, c.with.ensures.kind, c.with.ensures.payload) at c.look_up.ensures.call.kept in
    few_from_kept c.args.batch.now.config c.args.addrs.items answers_read (address_kind c.args.batch.now.kind) _ _ _ (file_target_of c.args.batch.now.file) c.in_ok-src.src c.look_up.result c.in_ok-src.ensures.ok kept (rw c.with.ensures.payload at c.look_up.ensures.steps)

pub returns-clause-steps : goal.returns-clause-steps
returns-clause-steps g c =
    takes_few _ _ _ _ (file_target_of c.args.batch.now.file) c.in_ok-src.src c.in_ok-src.ensures.ok c.look_up.ensures.call.caches (rw c.with.ensures.payload at c.look_up.ensures.steps)
