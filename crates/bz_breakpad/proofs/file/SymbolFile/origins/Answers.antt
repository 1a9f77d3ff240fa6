use Rattle.std.proofs.Common.{◌≡◌, ℕ, List, Some, ap, sym, ◌∙◌}
use Rattle.bz_breakpad_lines.specs.Reader.{table_in}
use Rattle.bz_breakpad_table.specs.Kept.{kept_names}
use Rattle.bz_breakpad.specs.Listed.{origins_of}
use Rattle.bz_breakpad.proofs.file.SymbolFile.origins.Goals as goal

pub returns-clause-origins : goal.returns-clause-origins
returns-clause-origins c =
    let kept = c.self.invariant in
    let read : table_in c.args.self.now ≡ Some kept.table = ap table_in (sym c.self.view_is) ∙ kept.read in
    c.in_ok-origins.ensures
    ∙ ap (λ (text : List ℕ). kept_names text c.self.inside.table.origins) c.as_slice.ensures.value
    ∙ kept.stands.origins
    ∙ ap origins_of (sym read)
