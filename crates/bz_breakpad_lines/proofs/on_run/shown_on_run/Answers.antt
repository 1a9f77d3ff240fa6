use Rattle.std.proofs.Common.{Some, arith}
use Rattle.bz_breakpad_lines.proofs.on_run.shown_on_run.Goals as goal

pub returns : goal.returns
returns c =
    let len = c.in_ok-len.ensures in
    record {
      quick = len.quick (Some c.of_front-start.result) c.of_front-start.ensures.text;
      above = c.is_below.ensures c.if-not-is_below.false;
      digits = c.of_front-start.ensures.digits;
      positive = omega (arith, len.within.0);
      within = len.within.2;
      stops = c.after.ensures c.args.shown.text.now c.requires.stops;
    }
