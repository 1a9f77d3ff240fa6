use Rattle.std.proofs.Common.{◌≤◌, length, refl, inl, inr, arith}
use Rattle.bz_requests.specs.InputText.{greatest_input}
use Rattle.bz_stacks.proofs.SpellingLemmas.{stack_agrees}
use Rattle.bz_stacks.specs.Spelling.{IsStack, stack_in}
use Rattle.bz_requests.proofs.InputTextLemmas.{err_from_bad, over_at_end}
use Rattle.bz_symq.proofs.ReplyLemmas.{given_always}
use Rattle.bz_symq.proofs.UnreadLemmas.{unread_counts, unread_undone, unread_whole}
use Rattle.bz_run.proofs.StackReplyLemmas.{reply_from_input, reply_from_unread}
use Rattle.bz_run.proofs.stacks.replying.reply_with_stacks.Goals as goal

-- the input was read whole, and the reply to it is the reply to the run
pub returns-in-Ok-clause-reply : goal.returns-in-Ok-clause-reply
returns-in-Ok-clause-reply g c =
    let short : length c.in-Ok.text.items ≤ greatest_input = omega (arith, c.in-Ok.text.ok.0, c.in-Ok.ensures.short) in
    reply_from_input c.args.path.now c.args.config c.in-Ok.text.items short _ _ c.reply_to_input.result
    c.in-Ok.ensures.whole c.reply_to_input.ensures.reply c.reply_to_input.ensures.answered c.reply_to_input.ensures.refusal c.reply_to_input.ensures.status c.reply_to_input.ensures.line

-- input and file in their turn
pub returns-in-Ok-clause-turns : goal.returns-in-Ok-clause-turns
returns-in-Ok-clause-turns g c =
    let short : length c.in-Ok.text.items ≤ greatest_input = omega (arith, c.in-Ok.text.ok.0, c.in-Ok.ensures.short) in
    record {
      unlooked = λ text left bad. c.reply_to_input.ensures.unlooked (err_from_bad stack_in IsStack stack_agrees c.in-Ok.text.items short (rw (c.in-Ok.ensures.whole text left) bad));
      read = given_always c.reply_to_input.result (over_at_end _ _ c.in-Ok.text.items short c.in-Ok.ensures.whole c.in-Ok.ensures.end);
      bounded = c.in-Ok.ensures.bounded;
      order = inr (over_at_end _ _ c.in-Ok.text.items short c.in-Ok.ensures.whole c.in-Ok.ensures.end);
    }

-- the input wasn't read to its end
pub returns-in-Err-clause-reply : goal.returns-in-Err-clause-reply
returns-in-Err-clause-reply g c =
    reply_from_unread c.args.path.now c.args.config _ _ c.in-Err.stop c.unread.result c.unread.ensures c.in-Err.ensures.long

pub returns-in-Err-clause-turns : goal.returns-in-Err-clause-turns
returns-in-Err-clause-turns g c = record {
  unlooked = λ text left bad. refl;
  read = unread_whole c.in-Err.stop c.unread.result _ _ c.unread.ensures c.in-Err.ensures.past;
  bounded = c.in-Err.ensures.bounded;
  order = inl refl;
}

pub returns-in-Err-clause-opens : goal.returns-in-Err-clause-opens
returns-in-Err-clause-opens g c =
    record { most = inl refl; opened = λ world told done. absurd (unread_undone c.in-Err.stop c.unread.result c.unread.ensures done) }

pub returns-in-Err-clause-fails : goal.returns-in-Err-clause-fails
returns-in-Err-clause-fails g c = inl (refl, unread_counts c.in-Err.stop c.unread.result _ _ c.unread.ensures c.in-Err.ensures.faults)
