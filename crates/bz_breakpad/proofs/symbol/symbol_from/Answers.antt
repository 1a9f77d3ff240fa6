use Rattle.std.proofs.Common.{Ok, ap, sym, subst, ◌∙◌}
use Rattle.std.proofs.lemmas.Result.{err_from_is_err_and}
use Rattle.bz_breakpad.specs.Found.{IsRecordFor}
use Rattle.bz_breakpad.specs.Plain.{by_location}
use Rattle.bz_breakpad.specs.Resolver.{found_in}
use Rattle.bz_breakpad_table.specs.Kept.{function_seen}
use Rattle.bz_breakpad.proofs.AnsweredLemmas.{function_answers, function_below, public_answers, public_starts}
use Rattle.bz_breakpad.proofs.FoundInLemmas.{found_refused}
use Rattle.bz_breakpad.proofs.symbol.symbol_from.Goals as goal

pub returns-in_ok-location-in-Function-clause-answer : goal.returns-in_ok-location-in-Function-clause-answer
returns-in_ok-location-in-Function-clause-answer c table stands record_is =
    let f = function_seen c.args.bytes.now c.args.kept.now.code c.index-function.result.now in
    ap (λ s. Ok (Ok s)) (c.function_symbol.ensures.symbol table c.args.at.now.addr (sym stands.module_is))
    ∙ sym (ap found_in
    (function_answers c.args.bytes.now table c.args.kept.now stands c.args.at.now.addr c.in-Function.index (subst (IsRecordFor table c.args.at.now.addr) c.in-Function.is record_is) c.index-function.result.now c.index-function.ensures c.args.opts.now
    ∙ ap (by_location table f c.args.at.now.addr) (c.in_ok-location-in-Function.ensures.location table stands)))

pub returns-in_ok-location-in-Function-clause-starts : goal.returns-in_ok-location-in-Function-clause-starts
returns-in_ok-location-in-Function-clause-starts c =
    let at = c.requires in
    rw c.function_symbol.ensures.start
    (function_below c.args.bytes.now at.0 c.args.kept.now at.1 c.args.at.now.addr c.in-Function.index (subst (IsRecordFor at.0 c.args.at.now.addr) c.in-Function.is at.2) c.index-function.result.now c.index-function.ensures)

pub returns-in_err-location-in-Function-clause-answer : goal.returns-in_err-location-in-Function-clause-answer
returns-in_err-location-in-Function-clause-answer c table stands record_is =
    let f = function_seen c.args.bytes.now c.args.kept.now.code c.index-function.result.now in
    let same = err_from_is_err_and c.from_residual.result c.from_residual.ensures.1 in
    rw (same.1, same.2) (found_refused table f c.args.at.now.addr _ _ c.in_err-location-in-Function.field-0.0
    (function_answers c.args.bytes.now table c.args.kept.now stands c.args.at.now.addr c.in-Function.index (subst (IsRecordFor table c.args.at.now.addr) c.in-Function.is record_is) c.index-function.result.now c.index-function.ensures c.args.opts.now)
    (c.in_err-location-in-Function.ensures.location table stands) c.in_err-location-in-Function.ensures.refusal)

pub returns-in-Public-clause-answer : goal.returns-in-Public-clause-answer
returns-in-Public-clause-answer c table stands record_is =
    ap (λ s. Ok (Ok s)) (c.public_symbol.ensures.symbol table c.args.at.now.addr (sym stands.module_is))
    ∙ sym (ap found_in
    (public_answers c.args.bytes.now table c.args.kept.now stands c.args.at.now.addr c.in-Public.index (subst (IsRecordFor table c.args.at.now.addr) c.in-Public.is record_is) c.index-public.result.now c.index-public.ensures c.args.opts.now))

pub returns-in-Public-clause-starts : goal.returns-in-Public-clause-starts
returns-in-Public-clause-starts c =
    let at = c.requires in
    rw c.public_symbol.ensures.start
    (public_starts c.args.bytes.now at.0 c.args.kept.now at.1 c.args.at.now.addr c.in-Public.index (subst (IsRecordFor at.0 c.args.at.now.addr) c.in-Public.is at.2) c.index-public.result.now c.index-public.ensures)
