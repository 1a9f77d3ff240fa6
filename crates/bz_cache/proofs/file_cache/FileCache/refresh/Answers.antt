use Rattle.std.proofs.Common.{Some, sym, ◌∙◌, rules}
use Rattle.bz_files.specs.World.{Present}
use Rattle.bz_cache.specs.View.{bytes_at}
use Rattle.bz_cache.proofs.Looking.{current_named, answer_kept, not_unmoved, read_lies, some_kept, some_taken}
use Rattle.bz_files.proofs.LookedLemmas.{looked_then, looked_unfailed}
use Rattle.bz_cache.proofs.file_cache.FileCache.refresh.Goals as goal

pub returns-then-is_kept-clause-answer : goal.returns-then-is_kept-clause-answer
returns-then-is_kept-clause-answer g c = λ w told.
    answer_kept g.T.Version.test c.args.self.now c.update_path.new.self c.args.path.now c.in_ok-stamp.stamp _ (c.in_ok-stamp.ensures.answer w told)
    c.is_kept.ensures.consistent (sym c.is_kept.ensures.kept ∙ c.if-is_kept.true) c.in_ok-update_path.ensures.ok

-- the kept version of the present stamp is the path's current one
pub returns-then-is_kept-clause-cache : goal.returns-then-is_kept-clause-cache
returns-then-is_kept-clause-cache g c = record {
  told = search rules;
  refused = search rules;
  current = rw c.in_ok-update_path.ensures.ok (current_named c.args.self.now c.args.path.now c.in_ok-stamp.stamp (bytes_at c.args.self.now c.in_ok-stamp.stamp));
  untold = some_kept g.T.Version.test c.args.self.now c.update_path.new.self c.args.path.now c.in_ok-stamp.stamp c.is_kept.ensures.consistent (sym c.is_kept.ensures.kept ∙ c.if-is_kept.true) c.in_ok-update_path.ensures.ok;
  consistent = search rules;
}

pub returns-in_err-read-clause-unmoved : goal.returns-in_err-read-clause-unmoved
returns-in_err-read-clause-unmoved g c = λ w told unmoved.
    absurd (not_unmoved g.T.Version.test c.args.self.now c.args.self.now c.args.path.now c.in_ok-stamp.stamp _ (c.in_ok-stamp.ensures.answer w told) c.is_kept.ensures.consistent (sym c.is_kept.ensures.kept ∙ c.if-is_kept.false) unmoved)

pub returns-clause-unmoved : goal.returns-clause-unmoved
returns-clause-unmoved g c = λ w told unmoved.
    absurd (not_unmoved g.T.Version.test c.args.self.now c.args.self.now c.args.path.now c.in_ok-stamp.stamp _ (c.in_ok-stamp.ensures.answer w told) c.is_kept.ensures.consistent (sym c.is_kept.ensures.kept ∙ c.if-is_kept.false) unmoved)

-- what was read is taken in as what lies there
pub returns-clause-answer : goal.returns-clause-answer
returns-clause-answer g c = λ w told.
    rw (read_lies _ _ _ (c.in_ok-read.ensures.answer w (rw c.in_ok-stamp.ensures.files.worlds told))) c.take_in.ensures.answer

pub returns-clause-cache : goal.returns-clause-cache
returns-clause-cache g c = record {
  told = λ w told. rw (read_lies _ _ _ (c.in_ok-read.ensures.answer w (rw c.in_ok-stamp.ensures.files.worlds told))) c.take_in.ensures.state;
  refused = c.take_in.ensures.err;
  current = c.take_in.ensures.current;
  untold = some_taken g.T.Version.test c.args.self.now c.take_in.new.self c.args.path.now (Some (Present c.in_ok-read.read.stamp c.in_ok-read.read.bytes.items)) c.take_in.result c.take_in.ensures.answer c.take_in.ensures.state;
  consistent = c.take_in.ensures.consistent;
}

-- no fault of the files comes of that
pub returns-clause-files : goal.returns-clause-files
returns-clause-files g c = record {
  reads = record { opened = search rules; spared = search rules; most = search rules };
  looked = looked_unfailed g.F.Files c.args.files.now c.contents.new.files _ c.take_in.ensures.no_fault (looked_then g.F.Files c.args.files.now c.present.new.files ⊥ c.contents.new.files c.in_ok-stamp.ensures.files c.in_ok-read.ensures.files);
}
