use Rattle.std.proofs.Common.{List, subst, sym, rules}
use Rattle.std.proofs.lemmas.Fn.{dedup_same}
use Rattle.bz_base.specs.Nearest.{IsTable}
use Rattle.bz_breakpad_table.specs.Publics.{ArePublicKeys, starts_kept}
use Rattle.bz_breakpad_table.specs.declared.publics.PublicKey.{PublicKey}
use Rattle.bz_breakpad_table.proofs.PublicKeyLemmas.{ascends_never, public_keys_are, starts_alike}
use Rattle.bz_breakpad_table.proofs.publics.public_keys.Goals as goal

pub returns-clause-keys : goal.returns-clause-keys
returns-clause-keys c =
    let starts = starts_kept c.args.publics.now in
    let sorted = c.sort_table.new.records.items in
    let kept = dedup_same _ starts_alike _ (λ x y b f' x' y' k. search rules) sorted _ c.dedup_by_key.ensures.filtered in
    subst (ArePublicKeys starts) (sym kept)
    (public_keys_are starts sorted (subst (λ (keys : List PublicKey). IsTable (λ (k : PublicKey). k.start) (λ k. k.index) keys sorted) c.in_ok-keys.ensures c.in_ok-sort_table.ensures.table))

pub returns-clause-ascending : goal.returns-clause-ascending
returns-clause-ascending c = ascends_never _ (returns-clause-keys c).addresses.ascend
