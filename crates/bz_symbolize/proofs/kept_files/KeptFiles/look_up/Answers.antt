use Rattle.std.proofs.Common.{Ok, Err, ap, ◌∙◌, List}
use Rattle.std.proofs.lemmas.Result.{err_from_is_err_and}
use Rattle.bz_base.specs.Answer.{Answer}
use Rattle.bz_base.specs.InputKind.{address_kind, payload}
use Rattle.bz_lookups.proofs.BatchLemmas.{any_of_batch, own_of_batch}
use Rattle.bz_lookups.proofs.HeldLemmas.{given_or_memory}
use Rattle.bz_lookups.specs.Batch.{answers_to, version_of}
use Rattle.bz_lookups.specs.declared.lookups.Lookups.{Lookups}
use Rattle.bz_symbolize.proofs.CallLemmas.{promised_held}
use Rattle.bz_symbolize.specs.State.{State, opts_of}
use Rattle.bz_symbolize.specs.FileCall.{batch_of}
use Rattle.bz_symbolize.proofs.kept_files.KeptFiles.look_up.Goals as goal

abbrev read : Lookups → List Answer
read lookups = lookups.answers

-- nothing is held
pub returns-in_err-held-clause-call : goal.returns-in_err-held-clause-call
returns-in_err-held-clause-call g c =
    let same = err_from_is_err_and c.from_residual.result c.from_residual.ensures.1 in
    promised_held g.F.Files read c.args.src.now (batch_of (address_kind c.args.input) (payload c.args.input).items) (Err c.in_err-held.field-0.0) c.from_residual.result
    c.args.self.now c.hold.new.self c.args.files.now c.hold.new.files c.in_err-held.ensures.asked (same.1 ∙ ap Err same.2)

pub returns-in_err-held-clause-every : goal.returns-in_err-held-clause-every
returns-in_err-held-clause-every g c others =
    let same = err_from_is_err_and c.from_residual.result c.from_residual.ensures.1 in
    promised_held g.F.Files (answers_to others) c.args.src.now (batch_of (address_kind c.args.input) others) (Err c.in_err-held.field-0.0) c.from_residual.result
    c.args.self.now c.hold.new.self c.args.files.now c.hold.new.files c.in_err-held.ensures.asked (same.1 ∙ ap Err same.2)

-- what is held answers
pub returns-clause-call : goal.returns-clause-call
returns-clause-call g c =
    let opts_is = c.opts-opts.ensures ∙ ap (λ (s : State). opts_of s.settings) c.self.view_is in
    let answers = rw (opts_is, c.into_inner.ensures) at (own_of_batch (version_of c.in_ok-held.held) c.opts-opts.result c.into_inner.result.items c.find.result c.find.ensures.batch) in
    promised_held g.F.Files read c.args.src.now (batch_of (address_kind c.args.input) (payload c.args.input).items) (Ok c.in_ok-held.held) c.find.result
    c.args.self.now c.hold.new.self c.args.files.now c.hold.new.files c.in_ok-held.ensures.asked (given_or_memory read _ c.find.result answers c.find.ensures.memory)

-- at any addresses
pub returns-clause-every : goal.returns-clause-every
returns-clause-every g c others =
    let opts_is = c.opts-opts.ensures ∙ ap (λ (s : State). opts_of s.settings) c.self.view_is in
    let answers = rw opts_is at (any_of_batch others (version_of c.in_ok-held.held) c.opts-opts.result c.into_inner.result.items c.find.result c.find.ensures.batch) in
    promised_held g.F.Files (answers_to others) c.args.src.now (batch_of (address_kind c.args.input) others) (Ok c.in_ok-held.held) c.find.result
    c.args.self.now c.hold.new.self c.args.files.now c.hold.new.files c.in_ok-held.ensures.asked (given_or_memory (answers_to others) _ c.find.result answers c.find.ensures.memory)
