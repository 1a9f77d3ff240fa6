use Rattle.std.proofs.Common.{◌≡◌, ℕ, List, Some, ap, sym, ◌∙◌}
use Rattle.bz_breakpad_lines.specs.Reader.{table_in}
use Rattle.bz_breakpad_table.specs.Kept.{kept_names}
use Rattle.bz_breakpad.specs.Listed.{files_of}
use Rattle.bz_breakpad.proofs.file.SymbolFile.files.Goals as goal

pub returns-clause-files : goal.returns-clause-files
returns-clause-files c =
    let kept = c.self.invariant in
    let read : table_in c.args.self.now ≡ Some kept.table = ap table_in (sym c.self.view_is) ∙ kept.read in
    c.in_ok-files.ensures
    ∙ ap (λ (text : List ℕ). kept_names text c.self.inside.table.files) c.as_slice.ensures.value
    ∙ kept.stands.files
    ∙ ap files_of (sym read)
