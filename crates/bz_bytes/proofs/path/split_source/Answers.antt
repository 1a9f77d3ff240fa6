use Rattle.std.proofs.Common.{None, Some, arith, rules}
use Rattle.bz_bytes.specs.Path.{slash}
use Rattle.bz_bytes.proofs.PathLemmas.{cut_at_last, split_alone, split_in_root, split_in}
use Rattle.bz_bytes.proofs.path.split_source.Goals as goal

pub returns-in_default : goal.returns-in_default
returns-in_default c =
    let kept = c.up_to_live-kept in
    split_alone c.args.text.now kept.result.now kept.ensures.live kept.ensures.rooted (search rules)
    (cut_at_last slash kept.result.now None c.in_default.ensures.cases (omega arith))

pub returns-then-is_empty-3 : goal.returns-then-is_empty-3
returns-then-is_empty-3 c =
    let kept = c.up_to_live-kept in
    let cut = cut_at_last slash kept.result.now (Some (c.in-Some.before, c.in-Some.file)) c.in-Some.ensures.cases (omega arith) in
    split_in_root c.args.text.now kept.result.now kept.ensures.live kept.ensures.rooted kept.ensures.ends c.in-Some.before.now c.in-Some.file.now cut.0 cut.1
    c.up_to_live-directory.result.now c.up_to_live-directory.ensures.live (search rules)

pub returns-else-is_empty-3 : goal.returns-else-is_empty-3
returns-else-is_empty-3 c =
    let kept = c.up_to_live-kept in
    let directory = c.up_to_live-directory in
    let cut = cut_at_last slash kept.result.now (Some (c.in-Some.before, c.in-Some.file)) c.in-Some.ensures.cases (omega arith) in
    split_in c.args.text.now kept.result.now kept.ensures.live kept.ensures.rooted kept.ensures.ends c.in-Some.before.now c.in-Some.file.now cut.0 cut.1
    directory.result.now directory.ensures.live directory.ensures.ends (search rules)
