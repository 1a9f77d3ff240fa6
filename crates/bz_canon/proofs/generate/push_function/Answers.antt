use Rattle.std.proofs.Common.{◌+◌, codes, string_bytes}
use Rattle.bz_canon.specs.Generated.{function_line, inline_line, line_record, start_of}
use Rattle.bz_canon.proofs.TextLemmas.{joined}
use Rattle.bz_canon.proofs.generate.push_function.Goals as goal

-- the lines, one after the other
pub returns-clause-ok : goal.returns-clause-ok
returns-clause-ok c =
    let i = c.args.i in
    let start = c.start_of-start.ensures.start in
    let inlined = rw start at c.in_ok-push_inline_line.ensures.ok in
    let first = rw start at c.in_ok-push_line_record.ensures.ok in
    let second = rw start at c.push_line_record-2.ensures.ok in
    joined c.push_line_record-2.result (string_bytes c.args.text.now) (function_line i) (inline_line i) (line_record (start_of i) (codes "10") (i + 1)) (line_record (start_of i + 16) (codes "20") (i + 2))
    (string_bytes c.push_function_line.new.text) (string_bytes c.push_inline_line.new.text) (string_bytes c.push_line_record.new.text) _
    c.in_ok-push_function_line.ensures.ok inlined first second
