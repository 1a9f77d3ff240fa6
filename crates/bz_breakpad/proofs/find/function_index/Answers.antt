use Rattle.bz_breakpad.proofs.FoundLemmas.{key_for, no_key_for}
use Rattle.bz_breakpad.proofs.KeyLemmas.{key_found}
use Rattle.bz_breakpad.proofs.find.function_index.Goals as goal

pub returns : goal.returns
returns c bytes table stands =
    let kept = c.args.kept.now in
    key_for bytes table kept stands c.args.addr c.in_ok-key.key.now
    (key_found kept.code.functions.items kept.code.keys.items c.deref.result.now c.args.addr _ stands.keys c.deref.ensures.value c.in_ok-key.ensures.covering)

pub returns-in_err-key : goal.returns-in_err-key
returns-in_err-key c bytes table stands =
    let kept = c.args.kept.now in
    rw c.from_residual.ensures (no_key_for bytes table kept stands c.args.addr
    (key_found kept.code.functions.items kept.code.keys.items c.deref.result.now c.args.addr _ stands.keys c.deref.ensures.value c.in_err-key.ensures.covering))
