use Rattle.std.proofs.Common.{arith}
use Rattle.bz_breakpad_table.specs.Kept.{IsTextAt}
use Rattle.bz_breakpad_table.specs.declared.types.KeptPublic.{KeptPublic}
use Rattle.bz_breakpad_table.proofs.KeptLemmas.{all_get}
use Rattle.bz_breakpad.proofs.publics.lend_publics.Goals as goal

pub lend_public-requires : goal.lend_public-requires
lend_public-requires c =
    all_get (λ (p : KeptPublic). IsTextAt c.args.bytes.now p.name) c.args.publics.now c.loop-public.public-index
    (record { start = 0; parameter_size = 0; name = record { from = 0; to = 0 } }) c.requires (omega (arith, c.loop-public-test.true))
