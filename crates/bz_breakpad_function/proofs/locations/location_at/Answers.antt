use Rattle.std.proofs.Common.{◌≢◌, ap, sym, subst, ◌∙◌, map}
use Rattle.std.proofs.lemmas.Bool.{true≢false}
use Rattle.std.specs.Borrow.{Bor}
use Rattle.bz_base.specs.Answer.{Gives}
use Rattle.bz_base.specs.declared.types.FindSymOpts.TheVariants as asked
use Rattle.bz_breakpad_table.specs.Kept.{function_seen, kept_call}
use Rattle.bz_breakpad_table.specs.declared.types.CallRange.{CallRange}
use Rattle.bz_breakpad_function.specs.Lent.{location_seen}
use Rattle.bz_breakpad_function.proofs.LocationLemmas.{location_by_line}
use Rattle.bz_breakpad_function.proofs.locations.location_at.Goals.{in-Basic, in_default}
use Rattle.bz_breakpad_function.proofs.locations.location_at.Goals as goal

pub returns-clause-location : goal.returns-clause-location
returns-clause-location c table stands =
    let view = λ (call : Bor CallRange). kept_call c.args.bytes.now call.now in
    let f = function_seen c.args.bytes.now c.args.kept.now.code c.args.function.now in
    let more : c.args.opts.now ≢ asked.Basic = elim c.match-matches.branch [
      | in-Basic w ↦ absurd (true≢false (sym w.matches-is ∙ c.if-matches.false))
      | in_default w ↦ w.in_default.not-Basic
    ] in
    subst (λ expected. Gives location_seen expected c.seen_from.result)
    (sym (location_by_line table c.args.opts.now f c.args.addr _ _ more c.in-Some.ensures (ap (map view) c.deref.ensures.value ∙ c.in_ok-calls.ensures.calls)))
    (c.seen_from.ensures.location table stands)
