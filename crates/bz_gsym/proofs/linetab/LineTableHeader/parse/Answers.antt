use Rattle.std.proofs.Common.{sym, ap, ◌∙◌}
use Rattle.bz_base.specs.Cursor.{Reading}
use Rattle.bz_gsym.specs.LineTable.{behind_delta}
use Rattle.bz_gsym.proofs.LineTableLemmas.{delta_missing, delta_read, if_none}
use Rattle.bz_gsym.proofs.linetab.LineTableHeader.parse.Goals as goal

pub returns-in_err-min_delta-clause-stands : goal.returns-in_err-min_delta-clause-stands
returns-in_err-min_delta-clause-stands c =
    let missing = delta_missing c.args.cursor.now.left c.in_err-min_delta.ensures.reads in
    if_none c.from_residual.result (ap (λ (r : Reading). r.left) c.in_err-min_delta.ensures.none ∙ sym (ap behind_delta missing ∙ missing))

pub returns-in_err-max_delta-clause-stands : goal.returns-in_err-max_delta-clause-stands
returns-in_err-max_delta-clause-stands c =
    let read = delta_read c.args.cursor.now.left c.read_sleb.new.self.left c.in_ok-min_delta.min_delta c.in_ok-min_delta.ensures.reads in
    let missing = delta_missing c.read_sleb.new.self.left c.in_err-max_delta.ensures.reads in
    if_none c.from_residual-in_err-max_delta.result (ap (λ (r : Reading). r.left) c.in_err-max_delta.ensures.none ∙ sym (ap behind_delta read ∙ missing))

pub returns-in_err-first_line-clause-stands : goal.returns-in_err-first_line-clause-stands
returns-in_err-first_line-clause-stands c =
    let first = delta_read c.args.cursor.now.left c.read_sleb.new.self.left c.in_ok-min_delta.min_delta c.in_ok-min_delta.ensures.reads in
    let second = delta_read c.read_sleb.new.self.left c.read_sleb-2.new.self.left c.in_ok-max_delta.max_delta c.in_ok-max_delta.ensures.reads in
    if_none c.from_residual-in_err-first_line.result (ap (λ (r : Reading). r.left) c.in_err-first_line.ensures.none ∙ sym (ap behind_delta first ∙ second))
