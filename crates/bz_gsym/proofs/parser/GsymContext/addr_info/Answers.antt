use Rattle.std.proofs.Common.{ap, sym, ◌+◌, ◌*◌, ◌∙◌}
use Rattle.std.specs.Option.{option_and_then}
use Rattle.bz_base.specs.Little.{number_at}
use Rattle.bz_gsym.specs.Entries.{info_at}
use Rattle.bz_gsym.proofs.FileLemmas.{no_place, place_there}
use Rattle.bz_gsym.proofs.parser.GsymContext.addr_info.Goals as goal

pub returns-then-idx-self : goal.returns-then-idx-self
returns-then-idx-self c =
    let s = c.self.inside in
    rw (← c.self.view_is) (sym (ap (option_and_then (info_at s.bytes.now)) (no_place s.bytes.now s.header c.self.invariant.head c.args.idx c.if-idx-self.true)))

pub returns : goal.returns
returns c =
    let s = c.self.inside in
    rw (← c.self.view_is)
    (c.info.ensures
    ∙ ap (info_at s.bytes.now) (c.u32_at-place.ensures ∙ ap (λ table. number_at 4 s.bytes.now (table + c.args.idx * 4)) c.data_table.ensures.place)
    ∙ sym (ap (option_and_then (info_at s.bytes.now)) (place_there s.bytes.now s.header c.self.invariant.head c.args.idx c.if-idx-self.false)))
