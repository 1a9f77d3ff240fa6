use Rattle.bz_run.proofs.FoldLemmas.{folds_answer, folds_looked, folds_opens, folds_refusal, folds_some}
use Rattle.bz_run.proofs.stacks.replying.folded.Goals as goal

-- a symbolizer that keeps nothing folds by what lies at the path
pub returns-clause-answer : goal.returns-clause-answer
returns-clause-answer g c =
    folds_answer g.F.Files c.args.path.now c.args.config c.args.stacks.now c.in_ok-src.src c.in_ok-src.ensures.source c.fold.result _ c.new_symbolizer-symbolizer.ensures _ _ _ c.fold.ensures.answered c.fold.ensures.text c.fold.ensures.call

-- by some Breakpad file, whatever is told
pub returns-clause-answered : goal.returns-clause-answered
returns-clause-answered g c =
    folds_some g.F.Files c.args.path.now c.args.config c.args.stacks.now c.in_ok-src.src c.in_ok-src.ensures.source c.fold.result _ c.new_symbolizer-symbolizer.ensures _ _ _ c.fold.ensures.answered c.fold.ensures.text c.fold.ensures.call

-- refused by such a cause, whatever is told
pub returns-clause-refusal : goal.returns-clause-refusal
returns-clause-refusal g c =
    folds_refusal g.F.Files c.args.path.now c.args.config c.args.stacks.now c.in_ok-src.src c.in_ok-src.ensures.source c.fold.result _ c.new_symbolizer-symbolizer.ensures _ _ _ c.fold.ensures.answered c.fold.ensures.text c.fold.ensures.call

-- one file at most was read, and where a text is given one was
pub returns-clause-opens : goal.returns-clause-opens
returns-clause-opens g c =
    folds_opens g.F.Files c.args.path.now c.args.config c.args.stacks.now c.in_ok-src.src c.in_ok-src.ensures.source c.fold.result _ c.new_symbolizer-symbolizer.ensures _ _ _ c.fold.ensures.answered c.fold.ensures.text c.fold.ensures.call

-- of the files only counts have moved
pub returns-clause-files : goal.returns-clause-files
returns-clause-files g c =
    folds_looked g.F.Files c.args.path.now c.args.config c.args.stacks.now c.in_ok-src.src c.in_ok-src.ensures.source c.fold.result _ c.new_symbolizer-symbolizer.ensures _ _ _ c.fold.ensures.answered c.fold.ensures.text c.fold.ensures.call
