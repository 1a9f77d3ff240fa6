use Rattle.std.proofs.Common.{Bor, List, map, option_map, ℕ, ap, ◌∙◌}
use Rattle.bz_breakpad.specs.Listed.{lent_public}
use Rattle.bz_canon.proofs.TextLaws.{written_parts}
use Rattle.bz_canon.proofs.text.push_records.Goals as goal

abbrev named : ℕ × Bor (List ℕ) → ℕ × List ℕ
named name = (name.0, name.1.now)

pub returns-clause-ok : goal.returns-clause-ok
returns-clause-ok c =
    written_parts c.args.file.now (option_map (λ (name : Bor (List ℕ)). name.now) c.module.result) (map named c.deref.result.now) (map named c.deref-2.result.now) (map lent_public c.deref-3.result.now)
    c.args.text.now.items c.push_module.new.text.items c.push_names.new.text.items c.push_names-2.new.text.items c.push_publics.new.text.items c.push_functions.new.text.items
    c.module.ensures
    (ap (map named) c.deref.ensures.value ∙ c.in_ok-files.ensures.files)
    (ap (map named) c.deref-2.ensures.value ∙ c.in_ok-origins.ensures.origins)
    (ap (map lent_public) c.deref-3.ensures.value ∙ c.in_ok-publics.ensures.publics)
    c.in_ok-push_module.ensures.ok c.in_ok-push_names.ensures.ok c.in_ok-push_names-2.ensures.ok c.in_ok-push_publics.ensures.ok c.in_ok-push_functions.ensures.ok
