use Rattle.std.proofs.Common.{◌≤◌, length, refl, inl, inr, arith}
use Rattle.bz_symq.specs.Command.{Batch, asking_of, target_of}
use Rattle.bz_requests.specs.InputText.{greatest_input}
use Rattle.bz_requests.proofs.InputTextLemmas.{over_at_end}
use Rattle.bz_symq.proofs.ReadLemmas.{input_reads, none_read_for}
use Rattle.bz_symq.proofs.ReplyLemmas.{given_always, no_make, reply_from_input, reply_from_unread, takes_same, when_given}
use Rattle.bz_symq.proofs.RunLemmas.{err_from_bad}
use Rattle.bz_symq.proofs.UnreadLemmas.{unread_counts, unread_undone, unread_whole}
use Rattle.bz_symq.proofs.program.reply_with_answers.Goals as goal

-- the input was read whole, and the reply to it is the reply to the command
pub returns-in-Ok-clause-reply : goal.returns-in-Ok-clause-reply
returns-in-Ok-clause-reply g c =
    let asking = asking_of c.args.batch.now in
    let short : length c.in-Ok.text.items ≤ greatest_input = omega (arith, c.in-Ok.text.ok.0, c.in-Ok.ensures.short) in
    reply_from_input (Batch asking) asking c.in-Ok.text.items refl short _ _ _ c.reply_to_input.result
    c.in-Ok.ensures.whole c.reply_to_input.ensures.reply c.reply_to_input.ensures.answered c.reply_to_input.ensures.refusal c.reply_to_input.ensures.status c.reply_to_input.ensures.line

-- input and files in their turn
pub returns-in-Ok-clause-turns : goal.returns-in-Ok-clause-turns
returns-in-Ok-clause-turns g c =
    let asking = asking_of c.args.batch.now in
    let short : length c.in-Ok.text.items ≤ greatest_input = omega (arith, c.in-Ok.text.ok.0, c.in-Ok.ensures.short) in
    record {
      unasked = λ product make. absurd (no_make (Batch asking) asking refl product make);
      unlooked = λ text left bad. c.reply_to_input.ensures.unlooked
          (err_from_bad (Batch asking) asking c.in-Ok.text.items refl short (rw (c.in-Ok.ensures.whole text left) bad));
      untaken = λ other is untaken. c.reply_to_input.ensures.untaken (takes_same asking other is untaken);
      read = given_always c.reply_to_input.result (λ other given. over_at_end _ _ c.in-Ok.text.items short c.in-Ok.ensures.whole c.in-Ok.ensures.end);
      bounded = c.in-Ok.ensures.bounded;
      order = inr (λ other given. over_at_end _ _ c.in-Ok.text.items short c.in-Ok.ensures.whole c.in-Ok.ensures.end);
    }

-- and no more files were read than its answers read
pub returns-in-Ok-clause-opens : goal.returns-in-Ok-clause-opens
returns-in-Ok-clause-opens g c = input_reads g.F.Files _ _ _ c.args.batch.now.config (target_of c.args.batch.now.target) _ c.in-Ok.text.items c.in-Ok.ensures.whole c.reply_to_input.ensures.opens

-- the input wasn't read to its end
pub returns-in-Err-clause-reply : goal.returns-in-Err-clause-reply
returns-in-Err-clause-reply g c =
    let asking = asking_of c.args.batch.now in
    reply_from_unread (Batch asking) asking refl _ _ _ c.in-Err.stop c.unread.result c.unread.ensures c.in-Err.ensures.long

pub returns-in-Err-clause-turns : goal.returns-in-Err-clause-turns
returns-in-Err-clause-turns g c =
    let asking = asking_of c.args.batch.now in
    record {
      unasked = λ product make. absurd (no_make (Batch asking) asking refl product make);
      unlooked = λ text left bad. refl;
      untaken = λ other is untaken. refl;
      read = when_given c.unread.result (λ given whole other same. whole) (unread_whole c.in-Err.stop c.unread.result _ _ c.unread.ensures c.in-Err.ensures.past);
      bounded = c.in-Err.ensures.bounded;
      order = inl refl;
    }

pub returns-in-Err-clause-opens : goal.returns-in-Err-clause-opens
returns-in-Err-clause-opens g c =
    none_read_for g.F.Files _ _ _ c.args.batch.now.config (target_of c.args.batch.now.target) _ (unread_undone c.in-Err.stop c.unread.result c.unread.ensures) refl

pub returns-in-Err-clause-fails : goal.returns-in-Err-clause-fails
returns-in-Err-clause-fails g c = inl (refl, unread_counts c.in-Err.stop c.unread.result _ _ c.unread.ensures c.in-Err.ensures.faults)
