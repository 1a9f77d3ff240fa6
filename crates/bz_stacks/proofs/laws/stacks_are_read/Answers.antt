use Rattle.bz_requests.proofs.LineGrammarLemmas.{items_found, items_again, first_bad_found, first_bad_again}
use Rattle.bz_stacks.specs.Spelling.{IsStack, stack_in}
use Rattle.bz_stacks.proofs.SpellingLemmas.{stack_agrees, stack_found, stack_again}
use Rattle.bz_stacks.proofs.laws.stacks_are_read.Goals as goal

pub returns : goal.returns
returns c = record {
  stack = λ text stack. (stack_found text stack, stack_again text stack);
  stacks = λ text stacks. (items_found stack_in IsStack stack_agrees text stacks, items_again stack_in IsStack stack_agrees text stacks);
  line = λ text n. (first_bad_found stack_in IsStack stack_agrees text n, first_bad_again stack_in IsStack stack_agrees text n);
}
