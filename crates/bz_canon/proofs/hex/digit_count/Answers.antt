use Rattle.bz_canon.proofs.HexLemmas.{count_few, count_short, count_needed, count_enough}
use Rattle.bz_canon.proofs.hex.digit_count.Goals as goal

pub returns-clause-short : goal.returns-clause-short
returns-clause-short c small = count_short c.ilog2.result c.args.number (rw (← c.max.ensures) c.ilog2.ensures.power_le) small

pub returns-clause-shorter : goal.returns-clause-shorter
returns-clause-shorter c small = count_few c.ilog2.result c.args.number (rw (← c.max.ensures) c.ilog2.ensures.power_le) small

pub returns-clause-enough : goal.returns-clause-enough
returns-clause-enough c = count_enough c.ilog2.result c.args.number (rw (← c.max.ensures) c.ilog2.ensures.next_power_gt)

pub returns-clause-needed : goal.returns-clause-needed
returns-clause-needed c some = count_needed c.ilog2.result c.args.number (rw (← c.max.ensures) c.ilog2.ensures.power_le) some
