use Rattle.std.proofs.Common.{◌≤◌, ◌^◌, ◌++◌, ℕ, List, length, ap, ap₂, subst, sym, ◌∙◌}
use Rattle.std.specs.List.{enumerate_from}
use Rattle.bz_breakpad_table.specs.declared.types.Part.{Part}
use Rattle.bz_breakpad_table.proofs.names.Names.entries.Goals as goal

pub push_dense-requires : goal.push_dense-requires
push_dense-requires c = subst (λ (parts : List Part). length parts ≤ 2 ^ 32) (sym c.deref.ensures.value) c.self.invariant

pub returns : goal.returns
returns c =
    let sparse = c.self.inside.sparse.entries in
    c.in_ok-push_sparse.ensures
    ∙ ap (λ (first : List (ℕ × Part)). first ++ sparse)
    (c.in_ok-push_dense.ensures ∙ ap₂ (λ (before : List (ℕ × Part)) (parts : List Part). before ++ enumerate_from 0 parts) c.in_ok-entries.ensures.items c.deref.ensures.value)
    ∙ c.self.view_is
