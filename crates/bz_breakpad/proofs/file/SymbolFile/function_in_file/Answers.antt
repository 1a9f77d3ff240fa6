use Rattle.std.proofs.Common.{Some, ap, sym, arith, ◌∙◌}
use Rattle.bz_breakpad_function.specs.Indexed.{function_in}
use Rattle.bz_breakpad_function.proofs.IndexedLemmas.{listed_in_file}
use Rattle.bz_breakpad_lines.specs.Table.{Function}
use Rattle.bz_breakpad.proofs.file.SymbolFile.function_in_file.Goals as goal

pub returns : goal.returns
returns c =
    listed_in_file c.args.self.now c.args.index c.requires
    ∙ ap (λ bytes. Some (function_in bytes c.args.index)) (sym (c.as_slice.ensures.value ∙ c.self.view_is))
    ∙ ap (λ index. Some (function_in c.as_slice.result.now index)) (omega arith)
    ∙ ap (λ (f : Function). Some f) (sym c.new.ensures)
