use Rattle.std.proofs.Common.{◌≡◌, ◌+◌, ◌-◌, ◌≤◌, vec_len}
use Rattle.bz_requests.specs.InputText.{greatest_input, Moves}
use Rattle.bz_requests.proofs.input.read_input.Given as goal

-- what was read and what is left are the whole input, and no read failed
abbrev pub invariant-loop-input : goal.invariant-loop-input
invariant-loop-input g l =
    Moves (g.R.TextIn.left l.initial.input) (g.R.TextIn.left l.input) l.all.items
    × (vec_len l.all ≤ greatest_input + 1) × (g.R.TextIn.faults l.input ≡ g.R.TextIn.faults l.initial.input)

abbrev pub decreases-loop-input : goal.decreases-loop-input
decreases-loop-input g l = greatest_input + 1 - vec_len l.all
