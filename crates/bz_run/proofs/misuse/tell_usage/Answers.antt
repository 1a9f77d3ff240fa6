use Rattle.bz_run.proofs.misuse.tell_usage.Goals as goal

pub returns : goal.returns
returns g c = rw c.stored_reply-reply.ensures at c.finish.ensures
