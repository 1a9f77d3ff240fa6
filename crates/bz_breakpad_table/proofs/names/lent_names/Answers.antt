use Rattle.std.proofs.Common.{ℕ, arith}
use Rattle.bz_breakpad_table.specs.Kept.{IsTextAt}
use Rattle.bz_breakpad_table.specs.declared.types.Part.{Part}
use Rattle.bz_breakpad_table.proofs.KeptLemmas.{all_get}
use Rattle.bz_breakpad_table.proofs.names.lent_names.Goals as goal

pub text_of-requires : goal.text_of-requires
text_of-requires c =
    all_get (λ (e : ℕ × Part). IsTextAt c.args.bytes.now e.1) c.args.entries.now c.loop-entry.entry-index (0, record { from = 0; to = 0 })
    c.requires (omega (arith, c.loop-entry-test.true))
