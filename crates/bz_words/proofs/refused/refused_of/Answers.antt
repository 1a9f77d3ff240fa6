use Rattle.std.proofs.Common.{string_bytes}
use Rattle.bz_words.proofs.WhereLemmas.{none_of, some_of}
use Rattle.bz_words.proofs.refused.refused_of.Goals as goal

pub returns-in_ok-line-in-Some-clause-tells : goal.returns-in_ok-line-in-Some-clause-tells
returns-in_ok-line-in-Some-clause-tells c =
    some_of c.args.path.now c.args.bytes.now _ c.in_ok-why.ensures c.in-Some.why (string_bytes c.in_ok-line-in-Some.line) c.in-Some.is c.in_ok-line-in-Some.ensures

pub returns-in-None-clause-tells : goal.returns-in-None-clause-tells
returns-in-None-clause-tells c = none_of c.args.path.now c.args.bytes.now _ c.in_ok-why.ensures c.in-None.is
