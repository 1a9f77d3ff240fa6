use Rattle.std.proofs.Common.{ap, subst, sym}
use Rattle.bz_breakpad_table.specs.Kept.{IsRunAt, LinesFit, records_of}
use Rattle.bz_breakpad_function.proofs.walks.line_text.Goals as goal

pub returns-in-Run : goal.returns-in-Run
returns-in-Run c =
    let bytes = c.args.bytes.now in
    let places = c.args.code.now.lines.items in
    let at : IsRunAt bytes c.in-Run.part = subst (LinesFit bytes places) c.in-Run.is c.requires.lines in
    record {
      run = at.run;
      ended = at.ended;
      says = sym (ap (λ lines. records_of bytes places lines) c.in-Run.is);
    }
