use Rattle.std.proofs.Common.{◌≡◌, ◌<◌, length, sym, subst, Option, IfOk, rules}
use Rattle.bz_stacks.specs.Stack.{CountedStack}
use Rattle.bz_stacks.proofs.SpellingLemmas.{by_last}
use Rattle.bz_stacks.proofs.reading.stack_of_fields.Goals as goal

-- the last field is the count
pub returns : goal.returns
returns c =
    let some : 0 < length c.in-Some.front.now = search rules in
    subst (λ (read : Option CountedStack). IfOk c.counted_stack.result (λ stack. stack ≡ read)) (sym (by_last c.args.fields.now c.in-Some.front.now c.in-Some.last.now c.in-Some.ensures.cases.0 some)) c.counted_stack.ensures
