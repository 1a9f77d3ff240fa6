use Rattle.std.proofs.Common.{refl}
use Rattle.std.proofs.lemmas.Result.{err_from_is_err_and}
use Rattle.bz_base.specs.InputKind.{InTable}
use Rattle.bz_cache.specs.FileCall.{each_of}
use Rattle.bz_lookups.specs.Batch.{held_singles}
use Rattle.bz_lookups.proofs.GsymLemmas.{gives_refused, handed_given}
use Rattle.bz_lookups.proofs.gsym.hold_data.Goals as goal

-- the bytes aren't in the format
pub returns-in_err-context-in-VirtOffset-clause-held : goal.returns-in_err-context-in-VirtOffset-clause-held
returns-in_err-context-in-VirtOffset-clause-held g c opts =
    let same = err_from_is_err_and c.from_residual.result c.from_residual.ensures.1 in
    let refused = c.in_err-context-in-VirtOffset.ensures.refusal in
    rw (c.in-VirtOffset.is, same.1, same.2) (gives_refused c.args.bytes.now opts (each_of InTable) refl (held_singles opts) c.in_err-context-in-VirtOffset.field-0.0 refused.0 refused.1)

-- they are held
pub returns-in_ok-context-in-VirtOffset-clause-held : goal.returns-in_ok-context-in-VirtOffset-clause-held
returns-in_ok-context-in-VirtOffset-clause-held g c opts =
    let context = c.in_ok-context-in-VirtOffset in
    rw (c.in-VirtOffset.is, context.ensures.ok) (handed_given c.args.bytes.now opts (each_of InTable) refl context.ensures.accepted)
