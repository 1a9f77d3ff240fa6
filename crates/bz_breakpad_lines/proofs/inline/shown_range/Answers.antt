use Rattle.std.proofs.Common.{◌≡◌, arith}
use Rattle.bz_breakpad_lines.specs.Stops.{number_between}
use Rattle.bz_breakpad_lines.proofs.QuickLemmas.{range_read}
use Rattle.bz_breakpad_lines.proofs.inline.shown_range.Goals as goal

pub returns-clause-reads : goal.returns-clause-reads
returns-clause-reads c =
    let text = c.args.shown.text.now in
    let addr = c.in_ok-addr in
    let size = c.in_ok-size in
    let start : c.from.result ≡ number_between 16 text 1 addr.addr = omega (arith, c.hex.ensures) in
    rw (start, c.hex-2.ensures, c.after.ensures.text) (range_read text addr.addr size.size addr.ensures.space addr.ensures.digits size.ensures.space size.ensures.digits)
