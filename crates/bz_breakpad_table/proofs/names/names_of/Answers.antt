use Rattle.std.proofs.Common.{ℕ, List, subst, sym, ◌∙◌}
use Rattle.std.specs.List.{AllByRecursion}
use Rattle.bz_breakpad_table.specs.Kept.{IsTextAt}
use Rattle.bz_breakpad_table.specs.declared.types.Part.{Part}
use Rattle.bz_breakpad_table.proofs.KeptLemmas.{each_value}
use Rattle.bz_breakpad_table.proofs.names.names_of.Goals as goal

pub lent_names-requires : goal.lent_names-requires
lent_names-requires c =
    subst (λ (entries : List (ℕ × Part)). AllByRecursion (λ e. IsTextAt c.args.bytes.now e.1) entries) (sym (c.deref.ensures.value ∙ c.in_ok-entries.ensures))
    (each_value (IsTextAt c.args.bytes.now) c.args.names.now c.requires)

pub returns : goal.returns
returns c = rw (sym (c.deref.ensures.value ∙ c.in_ok-entries.ensures)) c.lent_names.ensures
