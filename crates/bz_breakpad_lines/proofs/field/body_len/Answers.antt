use Rattle.std.proofs.Common.{not, length, sym, ap, arith}
use Rattle.std.proofs.lemmas.Bool.{false_from_ne_true}
use Rattle.std.proofs.lemmas.List.Sums.{prefix_len_is}
use Rattle.bz_breakpad_lines.specs.Byte.{is_carriage_return}
use Rattle.bz_breakpad_lines.proofs.field.body_len.Goals as goal

pub returns-in-Some-clause-value : goal.returns-in-Some-clause-value
returns-in-Some-clause-value c =
    let first = c.in-Some.ensures.0 in
    sym (prefix_len_is (λ b. not (is_carriage_return b)) c.args.line.now c.in-Some.len 0 (omega arith)
    (λ k below. ap not (false_from_ne_true _ (first.before k (omega arith) below))) (λ within. ap not c.in-Some.ensures.1))

pub returns-in-None-clause-value : goal.returns-in-None-clause-value
returns-in-None-clause-value c =
    sym (prefix_len_is (λ b. not (is_carriage_return b)) c.args.line.now (length c.args.line.now) 0 (omega arith)
    (λ k within. ap not (false_from_ne_true _ (c.in-None.ensures k (omega arith) within))) (λ past. absurd (omega arith)))
