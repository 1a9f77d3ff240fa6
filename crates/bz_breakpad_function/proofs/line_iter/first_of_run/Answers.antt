use Rattle.std.proofs.Common.{◌≡◌, ◌+◌, ◌-◌, ◌∷◌, take, drop, sym, ap, ◌∙◌, arith}
use Rattle.bz_breakpad_lines.specs.LineStarts.{line_read}
use Rattle.bz_breakpad_lines.specs.Table.{SourceLine}
use Rattle.bz_breakpad_table.specs.LineRun.{lines_in}
use Rattle.bz_breakpad_function.proofs.RunFrontLemmas.{read_first}
use Rattle.bz_breakpad_function.proofs.RunWalkLemmas.{front_then, line_then, one_line}
use Rattle.bz_breakpad_function.proofs.line_iter.first_of_run.Goals as goal

pub known_line_record-next-requires : goal.known_line_record-next-requires
known_line_record-next-requires c = read_first c.args.text.now c.args.len c.requires.run c.requires.positive

pub returns-then-end-len-clause-lines : goal.returns-then-end-len-clause-lines
returns-then-end-len-clause-lines c =
    let next = c.known_line_record-next in
    let text = c.args.text.now in
    let end = next.result.end + 1 in
    line_then text c.args.len c.requires.run next.result.end next.ensures.end (omega arith)
    ∙ ap (λ (first : SourceLine). first ∷ lines_in (take (c.args.len - end) (drop end text))) (sym next.ensures.line)

pub returns-then-end-len-clause-rest : goal.returns-then-end-len-clause-rest
returns-then-end-len-clause-rest c =
    let next = c.known_line_record-next in
    front_then c.args.text.now c.args.len c.requires.run next.result.end next.ensures.end (omega arith)

pub returns-else-end-len-clause-lines : goal.returns-else-end-len-clause-lines
returns-else-end-len-clause-lines c =
    let next = c.known_line_record-next in
    let text = c.args.text.now in
    let len = c.args.len in
    let none : 0 ≡ len - len = omega arith in
    one_line text len c.requires.run c.requires.positive (omega (arith, next.ensures.end))
    ∙ ap (λ n. line_read text 0 ∷ lines_in (take n (drop len text))) none
    ∙ ap (λ (first : SourceLine). first ∷ lines_in (take (len - len) (drop len text))) (sym next.ensures.line)
