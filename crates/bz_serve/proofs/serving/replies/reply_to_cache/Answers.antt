use Rattle.std.proofs.Common.{inl}
use Rattle.bz_serve.specs.RequestSteps.{okay}
use Rattle.bz_serve.proofs.DoesLemmas.{does_keep}
use Rattle.bz_serve.proofs.KeptTextLemmas.{keeping_of_text}
use Rattle.bz_serve.proofs.RequestReplyLemmas.{replied_given, replied_refused}
use Rattle.bz_serve.proofs.SomeReplyLemmas.{keep_refused, kept_settings}
use Rattle.bz_serve.proofs.serving.replies.reply_to_cache.Goals as goal

-- that it was done is said
pub returns-in-Ok-clause-reply : goal.returns-in-Ok-clause-reply
returns-in-Ok-clause-reply g c asked is =
    replied_given g.F.Files _ _ (λ (done : Unit {0}). done) okay _ _ _ tt _ (does_keep g.F.Files _ _ _ _ _ asked (rw is at c.in-Ok.ensures)) c.said_okay.ensures

pub returns-in-Ok-clause-untold : goal.returns-in-Ok-clause-untold
returns-in-Ok-clause-untold g c asked is = inl (tt, tt, c.said_okay.ensures)

pub returns-in-Ok-clause-settings : goal.returns-in-Ok-clause-settings
returns-in-Ok-clause-settings g c = kept_settings g.F.Files _ _ _ _ _ _ c.in-Ok.ensures.called

-- the refusal is said
pub returns-in-Err-clause-reply : goal.returns-in-Err-clause-reply
returns-in-Err-clause-reply g c asked is =
    replied_refused g.F.Files _ _ (λ (done : Unit {0}). done) okay _ _ _ c.in-Err.error c.said_refusal.result (does_keep g.F.Files _ _ _ _ _ asked (rw is at c.in-Err.ensures)) c.said_refusal.ensures

-- for a cause that there may be
pub returns-in-Err-clause-untold : goal.returns-in-Err-clause-untold
returns-in-Err-clause-untold g c asked is =
    keep_refused g.F.Files _ _ _ _ c.args.cache.now asked c.in-Err.error c.said_refusal.result is (rw is at c.in-Err.ensures.called) c.said_refusal.ensures

pub returns-in-Err-clause-settings : goal.returns-in-Err-clause-settings
returns-in-Err-clause-settings g c = kept_settings g.F.Files _ _ _ _ _ _ c.in-Err.ensures.called

-- mappings that are kept are of some text
pub returns-in-Ok-clause-kept : goal.returns-in-Ok-clause-kept
returns-in-Ok-clause-kept g c = keeping_of_text _ _ c.requires g.F.Files _ _ _ _ c.in-Ok.ensures.called

pub returns-in-Err-clause-kept : goal.returns-in-Err-clause-kept
returns-in-Err-clause-kept g c = keeping_of_text _ _ c.requires g.F.Files _ _ _ _ c.in-Err.ensures.called
