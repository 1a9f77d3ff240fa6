use Rattle.std.proofs.Common.{◌≡◌, sym, ◌∙◌, Err}
use Rattle.std.proofs.lemmas.Result.{err_from_is_err_and}
use Rattle.bz_base.specs.declared.error.Error.TheVariants as errors
use Rattle.bz_files.proofs.LookedLemmas.{looked_unfailed}
use Rattle.bz_store.specs.Frames.{key_of}
use Rattle.bz_store.proofs.Seeking.{failure, not_there, seeks_bad, seeks_failed, seeks_kept, stayed, unfaulted}
use Rattle.bz_store.proofs.store.Store.seek.Goals as goal

pub returns-then-not-is_good : goal.returns-then-not-is_good
returns-then-not-is_good g c = seeks_bad g.F.Files (key_of c.args.key.now) c.args.self.now c.args.self.now c.args.files.now c.args.files.now (sym c.is_good.ensures ∙ c.if-not-is_good.true)

pub returns-then-bring : goal.returns-then-bring
returns-then-bring g c =
    seeks_kept g.F.Files (key_of c.args.key.now) c.args.self.now c.bring.new.self c.args.files.now c.args.files.now
    (sym c.is_good.ensures ∙ c.if-not-is_good.false) (sym c.bring.ensures.kept ∙ c.if-bring.true) c.bring.ensures.room c.bring.ensures.state

pub returns-in_err-find_file : goal.returns-in_err-find_file
returns-in_err-find_file g c =
    let same = err_from_is_err_and c.from_residual.result c.from_residual.ensures.1 in
    rw (same.1, same.2) (seeks_failed g.F.Files (key_of c.args.key.now) c.args.self.now c.bring.new.self c.args.files.now c.find_file.new.files c.in_err-find_file.field-0.0
    (stayed c.args.self.now c.bring.new.self c.args.self.now.cap (key_of c.args.key.now) _ (not_there _ (sym c.bring.ensures.kept ∙ c.if-bring.false)) c.bring.ensures.state)
    c.in_err-find_file.ensures.most c.in_err-find_file.ensures.files c.in_err-find_file.ensures.failure)

pub returns-in_err-take_in-in-Holds : goal.returns-in_err-take_in-in-Holds
returns-in_err-take_in-in-Holds g c =
    let same = err_from_is_err_and c.from_residual-in_err-take_in-in-Holds.result c.from_residual-in_err-take_in-in-Holds.ensures.1 in
    let e = c.in_err-take_in-in-Holds.field-0.0 in
    let there = stayed c.args.self.now c.bring.new.self c.args.self.now.cap (key_of c.args.key.now) _ (not_there _ (sym c.bring.ensures.kept ∙ c.if-bring.false)) c.bring.ensures.state in
    rw (same.1, same.2) (seeks_failed g.F.Files (key_of c.args.key.now) c.args.self.now c.take_in.new.self c.args.files.now c.find_file.new.files e
    (c.in_err-take_in-in-Holds.ensures.err ∙ there) c.in_ok-find_file.ensures.most
    (looked_unfailed g.F.Files c.args.files.now c.find_file.new.files (e ≡ errors.ReadFault) (unfaulted {A = Unit {0}} (Err e) c.in_err-take_in-in-Holds.ensures.memory) c.in_ok-find_file.ensures.files)
    (failure {A = Unit {0}} (Err e) c.in_err-take_in-in-Holds.ensures.memory))
