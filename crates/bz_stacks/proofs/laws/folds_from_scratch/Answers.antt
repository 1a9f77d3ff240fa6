use Rattle.std.proofs.Common.{ap}
use Rattle.bz_stacks.specs.Text.{text_of}
use Rattle.bz_stacks.proofs.Grouping.{from_scratch, grouped, paths_are, stacks_are, sums_are}
use Rattle.bz_stacks.proofs.laws.folds_from_scratch.Goals as goal

pub returns-clause-grouped : goal.returns-clause-grouped
returns-clause-grouped c = grouped

pub returns-clause-text : goal.returns-clause-text
returns-clause-text c = λ seen. ap text_of (from_scratch seen)

pub returns-clause-stacks : goal.returns-clause-stacks
returns-clause-stacks c = stacks_are

pub returns-clause-scratch : goal.returns-clause-scratch
returns-clause-scratch c = from_scratch

pub returns-clause-sums : goal.returns-clause-sums
returns-clause-sums c = sums_are

pub returns-clause-paths : goal.returns-clause-paths
returns-clause-paths c = paths_are
