use Rattle.std.proofs.Common.{arith}
use Rattle.bz_bytes.specs.Byte.{line_feed}
use Rattle.bz_bytes.proofs.ByteLemmas.{HasNo-take, HasNo-nowhere}
use Rattle.bz_bytes.proofs.LineLemmas.{ended_lines-first, ended_lines-none, all_lines-first, all_lines-last}
use Rattle.bz_bytes.proofs.line.next_line.Goals as goal

pub returns-in_err-end-clause-none : goal.returns-in_err-end-clause-none
returns-in_err-end-clause-none c =
    rw c.from_residual.ensures (HasNo-nowhere line_feed c.args.text.now (λ i within. c.in_err-end.ensures i (omega arith) within))

pub returns-in_err-end-clause-last : goal.returns-in_err-end-clause-last
returns-in_err-end-clause-last c =
    let none = HasNo-nowhere line_feed c.args.text.now (λ i within. c.in_err-end.ensures i (omega arith) within) in
    rw c.from_residual.ensures (all_lines-last c.args.text.now none)

pub returns-in_err-end-clause-unended : goal.returns-in_err-end-clause-unended
returns-in_err-end-clause-unended c =
    let none = HasNo-nowhere line_feed c.args.text.now (λ i within. c.in_err-end.ensures i (omega arith) within) in
    rw c.from_residual.ensures (ended_lines-none c.args.text.now none)

pub returns-clause-no_line_feed : goal.returns-clause-no_line_feed
returns-clause-no_line_feed c = HasNo-take line_feed c.args.text.now c.in_ok-end.end (λ i below _. c.in_ok-end.ensures.0.before i (omega arith) below)

pub returns-clause-some : goal.returns-clause-some
returns-clause-some c =
    let first = c.in_ok-end.ensures.0 in
    let none = HasNo-take line_feed c.args.text.now c.in_ok-end.end (λ i below _. first.before i (omega arith) below) in
    ended_lines-first c.args.text.now c.in_ok-end.end first.high none c.in_ok-end.ensures.1

pub returns-clause-all : goal.returns-clause-all
returns-clause-all c =
    let first = c.in_ok-end.ensures.0 in
    let none = HasNo-take line_feed c.args.text.now c.in_ok-end.end (λ i below _. first.before i (omega arith) below) in
    all_lines-first c.args.text.now c.in_ok-end.end first.high none c.in_ok-end.ensures.1
