use Rattle.std.proofs.Common.{drop, refl, ap, ◌∙◌, arith}
use Rattle.bz_breakpad_lines.specs.Line.{source_line}
use Rattle.bz_breakpad_table.proofs.FunctionLemmas.{longer_so_far}
use Rattle.bz_breakpad_table.proofs.LineRecordLemmas.{line_stands}
use Rattle.bz_breakpad_table.proofs.functions.FunctionsReading.line.Goals as goal

pub returns-in-Some : goal.returns-in-Some
returns-in-Some c closed current rest is stands so_far =
    let old = c.args.self.now in
    let part = c.in_ok-part.ensures in
    longer_so_far c.args.bytes.now old _ (source_line is.value) refl refl refl
    (c.in-Some.ensures c.args.bytes.now old.listed.items rest c.args.line is (ap (λ n. drop n c.args.bytes.now) part.from ∙ stands) (omega (arith, part.from, part.to)) refl so_far.lines_fit) closed current so_far

pub returns-in_ok-list-in-None : goal.returns-in_ok-list-in-None
returns-in_ok-list-in-None c closed current rest is stands so_far =
    c.in_ok-list-in-None.ensures closed current (source_line is.value) (line_stands rest c.args.line is c.args.bytes.now c.args.place stands) so_far
