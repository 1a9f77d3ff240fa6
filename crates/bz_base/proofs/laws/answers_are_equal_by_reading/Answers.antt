use Rattle.std.proofs.Common.{rules}
use Rattle.std.specs.Cow.{cow_str_bytes}
use Rattle.bz_base.specs.Answer.{site_of, call_of, symbol_of, resolved_of}
use Rattle.bz_base.proofs.EqualityLemmas.{pairs_agree, options_agree, lists_agree, texts_agree, sizes_agree, symbols_agree, resolved_agree}
use Rattle.bz_base.specs.declared.types.Symbolized.TheVariants as symbolized
use Rattle.bz_base.proofs.laws.answers_are_equal_by_reading.Goals as goal

pub returns-clause-sites : goal.returns-clause-sites
returns-clause-sites c = search rules

pub returns-clause-calls : goal.returns-clause-calls
returns-clause-calls c a b = search (options_agree _ site_of (returns-clause-sites c) a.code_info b.code_info, rules)

pub returns-clause-symbols : goal.returns-clause-symbols
returns-clause-symbols c a b =
    symbols_agree _ (symbol_of a) (symbol_of b)
    (pairs_agree _ _ (texts_agree a.name b.name)
    (pairs_agree _ _ (options_agree _ cow_str_bytes texts_agree a.«module» b.«module»)
    (pairs_agree _ _ (search rules)
    (pairs_agree _ _ (search rules)
    (pairs_agree _ _ (sizes_agree a.size b.size)
    (pairs_agree _ _ (options_agree _ site_of (returns-clause-sites c) a.code_info b.code_info)
    (pairs_agree _ _ (lists_agree _ call_of (returns-clause-calls c) a.inlined.items b.inlined.items)
    (search rules))))))))

pub returns-clause-resolved : goal.returns-clause-resolved
returns-clause-resolved c a b =
    resolved_agree _ (resolved_of a) (resolved_of b)
    (pairs_agree _ _ (search rules)
    (pairs_agree _ _ (options_agree _ (λ text. text.now) (λ x y. search rules) a.«module» b.«module»)
    (pairs_agree _ _ (search rules)
    (pairs_agree _ _ (sizes_agree a.size b.size)
    (pairs_agree _ _ (search rules)
    (pairs_agree _ _ (options_agree _ site_of (returns-clause-sites c) a.code_info b.code_info)
    (lists_agree _ call_of (returns-clause-calls c) a.inlined.items b.inlined.items)))))))

pub returns-clause-answers : goal.returns-clause-answers
returns-clause-answers c (symbolized.Sym s) (symbolized.Sym t) = search (returns-clause-symbols c s t, rules)
returns-clause-answers c (symbolized.Sym s) (symbolized.Unknown r) = search rules
returns-clause-answers c (symbolized.Unknown r) (symbolized.Sym s) = search rules
returns-clause-answers c (symbolized.Unknown r) (symbolized.Unknown q) = search rules
