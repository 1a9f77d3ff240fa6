use Rattle.std.proofs.Common.{Option, take, unwrap_or, sym, ap, arith, ◌∙◌}
use Rattle.std.proofs.lemmas.List.{length-take-le}
use Rattle.bz_base.specs.Nearest.{if_covers}
use Rattle.bz_breakpad_lines.specs.LineStarts.{no_line}
use Rattle.bz_breakpad_lines.specs.Table.{SourceLine}
use Rattle.bz_breakpad_table.proofs.RunLemmas.{only_answers}
use Rattle.bz_breakpad_function.proofs.RunFrontLemmas.{read_first}
use Rattle.bz_breakpad_function.proofs.line_run.only_line.Goals as goal

pub line_if_covers-requires : goal.line_if_covers-requires
line_if_covers-requires c = read_first c.args.text.now c.args.len c.requires.run (omega arith)

pub returns-else-len-eq0 : goal.returns-else-len-eq0
returns-else-len-eq0 c =
    let front = c.requires.run in
    let text = take c.args.len c.args.text.now in
    c.line_if_covers.ensures
    ∙ ap (λ (o : Option SourceLine). if_covers (λ (l : SourceLine). l.start) (λ l. l.size) c.args.addr (unwrap_or o no_line)) (sym (front.same 0 (omega arith)))
    ∙ only_answers text c.args.addr (omega (arith, length-take-le c.args.len c.args.text.now front.within)) front.run.read c.requires.only
