use Rattle.std.proofs.Common.{◌≡◌, map}
use Rattle.bz_base.specs.Answer.{call_of}
use Rattle.bz_base.proofs.types.owned_calls.Given as goal

abbrev pub invariant-loop-call : goal.invariant-loop-call
invariant-loop-call l = map call_of l.all.items ≡ map call_of l.yielded
