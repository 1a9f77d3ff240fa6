use Rattle.std.proofs.Common.{sym, ap, ◌∙◌, refl}
use Rattle.std.proofs.lemmas.Result.{err_from_is_err_and}
use Rattle.bz_cache.specs.View.{bytes_at}
use Rattle.bz_cache.proofs.Looking.{none_of, current_named, answer_kept, answer_new, left_kept, left_new}
use Rattle.bz_cache.proofs.Refusing.{never_fault}
use Rattle.bz_cache.proofs.file_cache.FileCache.take_in.Goals as goal

-- the version was refused, which is no fault of the files
pub returns-in_err-version-clause-no_fault : goal.returns-in_err-version-clause-no_fault
returns-in_err-version-clause-no_fault g c =
    let same = err_from_is_err_and c.from_residual-in_err-version.result c.from_residual-in_err-version.ensures.1 in
    let never = never_fault g.T.Version.test g.met.T.Version.refusals c.args.read.bytes.items c.in_err-version.field-0.0 c.in_err-version.ensures.refusal in
    rw (same.1, same.2) never

-- the kept version with the file's stamp answers
pub returns-then-is_kept-clause-answer : goal.returns-then-is_kept-clause-answer
returns-then-is_kept-clause-answer g c =
    answer_kept g.T.Version.test c.args.self.now c.update_path.new.self c.args.path.now c.args.read.stamp _ (c.args.read.stamp, c.args.read.bytes.items, refl, refl)
    c.is_kept.ensures.consistent (sym c.is_kept.ensures.kept ∙ c.if-is_kept.true) c.in_ok-update_path.ensures.ok

pub returns-then-is_kept-clause-state : goal.returns-then-is_kept-clause-state
returns-then-is_kept-clause-state g c =
    left_kept g.T.Version.test c.args.self.now c.update_path.new.self c.args.path.now c.args.read.stamp c.args.read.bytes.items
    c.is_kept.ensures.consistent (sym c.is_kept.ensures.kept ∙ c.if-is_kept.true) c.in_ok-update_path.ensures.ok

pub returns-then-is_kept-clause-current : goal.returns-then-is_kept-clause-current
returns-then-is_kept-clause-current g c =
    rw c.in_ok-update_path.ensures.ok (current_named c.args.self.now c.args.path.now c.args.read.stamp (bytes_at c.args.self.now c.args.read.stamp))

-- or the version that was read
pub returns-clause-answer : goal.returns-clause-answer
returns-clause-answer g c =
    answer_new g.T.Version.test c.args.self.now c.insert_version.new.self c.args.path.now c.args.read.stamp _ (c.args.read.stamp, c.args.read.bytes.items, refl, refl)
    c.args.read.bytes.items (g.T.Version.bytes_of c.in_ok-shared.shared.value) (none_of _ (sym c.is_kept.ensures.kept ∙ c.if-is_kept.false)) (c.args.read.stamp, c.args.read.bytes.items, refl, refl)
    c.in_ok-version.ensures.formed (ap g.T.Version.bytes_of c.in_ok-shared.ensures.ok ∙ c.in_ok-version.ensures.ok) c.in_ok-insert_version.ensures.ok

pub returns-clause-state : goal.returns-clause-state
returns-clause-state g c =
    left_new g.T.Version.test c.args.self.now c.insert_version.new.self c.args.path.now c.args.read.stamp c.args.read.bytes.items (g.T.Version.bytes_of c.in_ok-shared.shared.value)
    (none_of _ (sym c.is_kept.ensures.kept ∙ c.if-is_kept.false)) c.in_ok-version.ensures.formed (ap g.T.Version.bytes_of c.in_ok-shared.ensures.ok ∙ c.in_ok-version.ensures.ok) c.in_ok-insert_version.ensures.ok

pub returns-clause-current : goal.returns-clause-current
returns-clause-current g c =
    rw c.in_ok-insert_version.ensures.ok (current_named c.args.self.now c.args.path.now c.args.read.stamp (g.T.Version.bytes_of c.in_ok-shared.shared.value))
