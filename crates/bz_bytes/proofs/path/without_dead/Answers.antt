use Rattle.std.proofs.Common.{None, Some, arith}
use Rattle.std.proofs.lemmas.Str.Pattern.{strip_suffix_char}
use Rattle.bz_bytes.specs.Path.{slash, dot}
use Rattle.bz_bytes.proofs.PathLemmas.{cut_dot, ends_without_dot, ends_in_dot}
use Rattle.bz_bytes.proofs.path.without_dead.Goals as goal

pub returns-in_err-strip_suffix-in-None-clause-none : goal.returns-in_err-strip_suffix-in-None-clause-none
returns-in_err-strip_suffix-in-None-clause-none c =
    rw c.from_residual.ensures
    (ends_without_dot c.args.text.now
    (strip_suffix_char slash c.args.text.now None c.in-None.ensures.cases (omega arith))
    (strip_suffix_char dot c.args.text.now None c.in_err-strip_suffix-in-None.ensures.cases (omega arith)))

pub returns-in_ok-strip_suffix-in-None-clause-some : goal.returns-in_ok-strip_suffix-in-None-clause-some
returns-in_ok-strip_suffix-in-None-clause-some c =
    let shorter = c.in_ok-strip_suffix-in-None.field-0 in
    let ends = strip_suffix_char dot c.args.text.now (Some shorter) c.in_ok-strip_suffix-in-None.ensures.cases (omega arith) in
    cut_dot c.args.text.now shorter.now c.strip_suffix-in-None-2.result ends
    (strip_suffix_char slash shorter.now c.strip_suffix-in-None-2.result c.strip_suffix-in-None-2.ensures.cases (omega arith))

pub returns-in_ok-strip_suffix-in-None-clause-none : goal.returns-in_ok-strip_suffix-in-None-clause-none
returns-in_ok-strip_suffix-in-None-clause-none c =
    let shorter = c.in_ok-strip_suffix-in-None.field-0 in
    let ends = strip_suffix_char dot c.args.text.now (Some shorter) c.in_ok-strip_suffix-in-None.ensures.cases (omega arith) in
    ends_in_dot c.args.text.now shorter.now c.strip_suffix-in-None-2.result
    (strip_suffix_char slash c.args.text.now None c.in-None.ensures.cases (omega arith)) ends
    (strip_suffix_char slash shorter.now c.strip_suffix-in-None-2.result c.strip_suffix-in-None-2.ensures.cases (omega arith))
