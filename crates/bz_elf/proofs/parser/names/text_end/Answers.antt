use Rattle.std.proofs.Common.{List, ◌∙◌, ℕ, ◌≡◌, drop, sym, ap, subst, arith}
use Rattle.std.proofs.lemmas.Bool.{eq-eqb, eqb-true}
use Rattle.std.proofs.lemmas.List.{get_or-take, length-take-le, take_rest}
use Rattle.bz_elf.specs.Symbols.{is_name}
use Rattle.bz_elf.proofs.NameLemmas.{ZeroInText, name_in_front, no_zero_no_name, text_to}
use Rattle.bz_elf.proofs.parser.names.text_end.Goals as goal

pub returns-in_err-last-clause-none : goal.returns-in_err-last-clause-none
returns-in_err-last-clause-none c =
    let rest = c.in_ok-rest.rest.now in
    let len = c.utf8_len.result in
    let rest_is : rest ≡ drop c.args.place c.args.strings.now = c.in_ok-rest.ensures.lookup.0.2 ∙ take_rest c.args.strings.now c.args.place in
    let long = length-take-le len rest c.utf8_len.ensures.within in
    rw c.from_residual-in_err-last.ensures
    (ap is_name (sym rest_is)
    ∙ no_zero_no_name rest len c.utf8_len.ensures.longest (λ k before zero.
    c.in_err-last.ensures k (omega arith) (omega (arith, before, long)) (eq-eqb _ _ (get_or-take len rest k 0 before ∙ zero))))

pub returns-clause-text : goal.returns-clause-text
returns-clause-text c =
    let rest = c.in_ok-rest.rest.now in
    let rest_is : rest ≡ drop c.args.place c.args.strings.now = c.in_ok-rest.ensures.lookup.0.2 ∙ take_rest c.args.strings.now c.args.place in
    let found : ZeroInText rest c.utf8_len.result c.in_ok-last.last = record {
      long = c.utf8_len.ensures.within;
      utf8 = c.utf8_len.ensures.utf8;
      before = c.in_ok-last.ensures.0.high;
      zero = eqb-true _ _ c.in_ok-last.ensures.1;
    } in
    text_to c.args.strings.now c.args.place c.utf8_len.result c.in_ok-last.last (subst (λ (l : List ℕ). ZeroInText l c.utf8_len.result c.in_ok-last.last) rest_is found)

pub returns-clause-name : goal.returns-clause-name
returns-clause-name c =
    let rest = c.in_ok-rest.rest.now in
    let rest_is : rest ≡ drop c.args.place c.args.strings.now = c.in_ok-rest.ensures.lookup.0.2 ∙ take_rest c.args.strings.now c.args.place in
    ap is_name (sym rest_is)
    ∙ name_in_front rest c.utf8_len.result c.in_ok-last.last (record {
      long = c.utf8_len.ensures.within;
      utf8 = c.utf8_len.ensures.utf8;
      before = c.in_ok-last.ensures.0.high;
      zero = eqb-true _ _ c.in_ok-last.ensures.1;
    })
