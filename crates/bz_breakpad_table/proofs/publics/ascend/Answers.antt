use Rattle.std.proofs.Common.{◌≤◌, arith}
use Rattle.std.specs.Prelude.{slice_index}
use Rattle.bz_breakpad_table.specs.Publics.{starts_kept}
use Rattle.bz_breakpad_table.specs.declared.types.KeptPublic.{KeptPublic}
use Rattle.bz_breakpad_table.proofs.PublicKeyLemmas.{below_more, start_read, up_more}
use Rattle.bz_breakpad_table.proofs.publics.ascend.Goals as goal

-- what stands at an index where no record does
abbrev none : KeptPublic
none = record { start = 0; parameter_size = 0; name = record { from = 0; to = 0 } }

pub loop-public-preserved : goal.loop-public-preserved
loop-public-preserved c =
    let starts = starts_kept c.args.publics.now in
    let i = c.loop-public.public-index in
    let last = c.loop-public.last in
    let so_far = c.loop-public.invariant in
    let here = start_read c.args.publics.now i none c.loop-public-test.true in
    let from : last ≤ slice_index starts i = omega (arith, here, c.if-public-last.false) in
    record {
      below = λ k less. omega (arith, here, below_more starts i last so_far.below from k less);
      up = up_more starts i last so_far.below from so_far.up;
    }
