use Rattle.std.proofs.Common.{drop, drop-drop, ap, ◌∙◌}
use Rattle.bz_base.specs.Line.{all_lines}
use Rattle.bz_breakpad_function.proofs.walks.after_lines.Goals as goal

pub loop-index-preserved : goal.loop-index-preserved
loop-index-preserved c = c.after_line-rest.ensures ∙ ap (drop 1) c.loop-index.invariant ∙ drop-drop 1 c.loop-index._index (all_lines c.args.text.now)
