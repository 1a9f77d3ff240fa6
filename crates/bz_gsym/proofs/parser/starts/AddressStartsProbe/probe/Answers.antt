use Rattle.std.proofs.Common.{◌<◌, length, arith, sym, ap, ◌∙◌}
use Rattle.bz_gsym.specs.Tables.{header_len}
use Rattle.bz_gsym.proofs.StartLemmas.{length_starts}
use Rattle.bz_gsym.proofs.TableLemmas.{entry_within, number_in}
use Rattle.bz_gsym.proofs.parser.starts.AddressStartsProbe.probe.Goals as goal

pub start_at-requires-clause-within : goal.start_at-requires-clause-within
start_at-requires-clause-within g c =
    let s = c.self.inside in
    entry_within header_len s.size s.count c.args.i (length s.bytes.now) (omega (arith, c.requires, ap length c.self.view_is, length_starts s.bytes.now s.size s.count)) c.self.invariant.within

pub returns-clause-value : goal.returns-clause-value
returns-clause-value g c =
    let s = c.self.inside in
    let within : c.args.i < s.count = omega (arith, c.requires, ap length c.self.view_is, length_starts s.bytes.now s.size s.count) in
    rw (← c.self.view_is) (c.start_at.ensures ∙ sym (number_in s.size s.count s.bytes.now header_len c.args.i within))
