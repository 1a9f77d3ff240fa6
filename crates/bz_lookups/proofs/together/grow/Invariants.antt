use Rattle.std.proofs.Common.{◌+◌, ◌-◌, ◌≤◌, vec_capacity, vec_len}
use Rattle.bz_lookups.specs.Together.{Grows}
use Rattle.bz_lookups.proofs.together.grow.Given as goal

-- so many places so far, and there is room for the others
abbrev pub invariant-loop-place : goal.invariant-loop-place
invariant-loop-place l = record {
  grows : Grows l._place l.fn.answers.items l.answers.items;
  room : vec_len l.answers + (l.count - l._place) ≤ vec_capacity l.answers;
}
