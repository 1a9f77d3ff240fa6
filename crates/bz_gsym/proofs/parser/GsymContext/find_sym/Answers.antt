use Rattle.std.proofs.Common.{Some, sym, ◌∙◌}
use Rattle.std.proofs.lemmas.Result.{err_from_is_err_and}
use Rattle.bz_gsym.specs.JoiningSeen.{location_seen}
use Rattle.bz_gsym.specs.Seen.{info_seen}
use Rattle.bz_gsym.proofs.SymbolLemmas.{no_data, none_tried, not_reached, reached, refused}
use Rattle.bz_gsym.proofs.parser.GsymContext.find_sym.Goals as goal

pub returns-in_default-clause-answer : goal.returns-in_default-clause-answer
returns-in_default-clause-answer c = sym (none_tried c.args.self.now c.args.addr c.in_default.ensures.formed c.args.opts.now c.in_default.ensures.found)

pub returns-in_default-addr_info-clause-answer : goal.returns-in_default-addr_info-clause-answer
returns-in_default-addr_info-clause-answer c =
    no_data c.args.self.now c.args.addr c.in-Some.ensures.formed c.in-Some.index c.in-Some.start c.in-Some.ensures.found c.args.opts.now c.in_default-addr_info.ensures

pub returns-then-not-reaches-clause-answer : goal.returns-then-not-reaches-clause-answer
returns-then-not-reaches-clause-answer c =
    not_reached c.args.self.now c.args.addr c.in-Some.ensures.formed c.in-Some.index c.in-Some.start c.in-Some.ensures.found c.args.opts.now
    (info_seen c.in-Some-addr_info.info) c.in-Some-addr_info.ensures (sym c.reaches.ensures ∙ c.if-not-reaches.true)

pub returns-in_err-location-clause-answer : goal.returns-in_err-location-clause-answer
returns-in_err-location-clause-answer c =
    let same = err_from_is_err_and c.from_residual.result c.from_residual.ensures.1 in
    rw (same.1, same.2)
    (refused c.args.self.now c.args.addr c.in-Some.ensures.formed c.in-Some.index c.in-Some.start c.in-Some.ensures.found c.args.opts.now
    (info_seen c.in-Some-addr_info.info) c.in-Some-addr_info.ensures (sym c.reaches.ensures ∙ c.if-not-reaches.false) c.in_err-location.field-0.0 c.in_err-location.ensures.refusal)

pub returns-clause-answer : goal.returns-clause-answer
returns-clause-answer c =
    reached c.args.self.now c.args.addr c.in-Some.ensures.formed c.in-Some.index c.in-Some.start c.in-Some.ensures.found c.args.opts.now
    (info_seen c.in-Some-addr_info.info) c.in-Some-addr_info.ensures (sym c.reaches.ensures ∙ c.if-not-reaches.false)
    (Some (location_seen c.in_ok-location.location)) c.in_ok-location.ensures.ok
