use Rattle.std.proofs.Common.{sym, subst}
use Rattle.bz_breakpad_table.specs.Publics.{ArePublicKeys, starts_kept}
use Rattle.bz_breakpad_table.proofs.PublicKeyLemmas.{if_table_is}
use Rattle.bz_breakpad_table.proofs.publics.public_table.Goals as goal

pub returns : goal.returns
returns c =
    if_table_is c.args.publics.now c.deref.result.now c.table_of.result
    (subst (ArePublicKeys (starts_kept c.args.publics.now)) (sym c.deref.ensures.value) c.in_ok-keys.ensures.keys) c.table_of.ensures.indices c.table_of.ensures.starts
