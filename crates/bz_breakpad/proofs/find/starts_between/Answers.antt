use Rattle.std.proofs.Common.{nat_le, length, refl, sym, ap, subst, ◌∙◌, arith}
use Rattle.std.specs.List.{slice_index}
use Rattle.std.proofs.lemmas.List.{length-map}
use Rattle.std.proofs.lemmas.Option.{slice_get_read}
use Rattle.bz_base.specs.Starts.{IsAt}
use Rattle.bz_base.proofs.TableLemmas.{start_at}
use Rattle.bz_breakpad_table.specs.Sorted.{starts_of}
use Rattle.bz_breakpad_table.specs.declared.types.FunctionKey.{FunctionKey}
use Rattle.bz_breakpad.proofs.PublicLemmas.{between_found, between_none}
use Rattle.bz_breakpad.proofs.find.starts_between.Goals as goal

pub returns-in-Some : goal.returns-in-Some
returns-in-Some c addr up found =
    let keys = c.args.code.now.keys.items in
    let starts = starts_of c.args.code.now in
    let place = c.in-Some.place in
    let at = subst (IsAt starts addr) c.in-Some.is found in
    let key = slice_get_read keys (length keys) place c.index.result.now refl (omega (arith, at.within, length-map keys (λ (k : FunctionKey). k.start))) c.index.ensures in
    ap (nat_le c.args.from) (sym (start_at (λ (k : FunctionKey). k.start) (λ k. k.size) keys place c.index.result.now key))
    ∙ between_found c.args.from addr starts up place (slice_index starts place) at

pub returns-in-None : goal.returns-in-None
returns-in-None c addr up found =
    let starts = starts_of c.args.code.now in
    between_none c.args.from addr starts up (subst (IsAt starts addr) c.in-None.is found)
