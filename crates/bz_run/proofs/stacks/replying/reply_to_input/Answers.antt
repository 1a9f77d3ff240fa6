use Rattle.std.proofs.Common.{◌≡◌, ◌≤◌, Ok, length, arith}
use Rattle.bz_stacks.specs.Spelling.{stacks_in}
use Rattle.bz_requests.specs.InputText.{greatest_input}
use Rattle.bz_run.proofs.StackCountLemmas.{few_stacks}
use Rattle.bz_run.proofs.stacks.replying.reply_to_input.Goals as goal

-- an input that isn't too long has few stacks
pub reply_of_file-requires : goal.reply_of_file-requires
reply_of_file-requires g c =
    let short : length c.args.text.items ≤ greatest_input = omega (arith, c.args.text.ok.0, c.requires.short) in
    let read : stacks_in c.args.text.items ≡ Ok c.in-Ok.stacks.items = rw c.as_slice.ensures.value at c.in-Ok.ensures.ok in
    record { few = rw c.as_slice-in-Ok.ensures.value (few_stacks c.args.text.items c.in-Ok.stacks.items short read) }

-- the stacks that were read are answered
pub returns-in-Ok-clause-reply : goal.returns-in-Ok-clause-reply
returns-in-Ok-clause-reply g c world told =
    let read : stacks_in c.args.text.items ≡ Ok c.in-Ok.stacks.items = rw c.as_slice.ensures.value at c.in-Ok.ensures.ok in
    rw read (rw c.as_slice-in-Ok.ensures.value at (c.reply_of_file.ensures.reply world told))
