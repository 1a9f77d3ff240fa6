use Rattle.std.proofs.Common.{◌≡◌, map, ◌∙◌, rules}
use Rattle.std.specs.Prelude.{drop}
use Rattle.bz_base.specs.Answer.{reading}
use Rattle.bz_stacks.specs.Led.{led_by}
use Rattle.bz_stacks.proofs.Joining.{led_path}
use Rattle.bz_stacks.proofs.path.path_of.Goals as goal

-- the frames are cut
pub returns-then-is_empty-clause-ok : goal.returns-then-is_empty-clause-ok
returns-then-is_empty-clause-ok c =
    let cut : c.in_ok-path.path.items ≡ drop 1 (led_by (map reading c.args.answers.now)) = search rules in
    cut ∙ led_path (map reading c.args.answers.now)

pub returns-clause-ok : goal.returns-clause-ok
returns-clause-ok c =
    let cut : c.remove.new.self.items ≡ drop 1 (led_by (map reading c.args.answers.now)) = search rules in
    cut ∙ led_path (map reading c.args.answers.now)
