use Rattle.std.proofs.Common.{◌≡◌, ◌<◌, ◌≤◌, length, get_or, Some, sym, ap, subst, ◌∙◌, arith}
use Rattle.std.specs.BTreeMap.{is_at}
use Rattle.std.specs.Map.{lookup}
use Rattle.std.specs.Ordering.{nat_cmp}
use Rattle.bz_breakpad_table.proofs.DenseLemmas.{found_at, missed}
use Rattle.bz_breakpad_table.proofs.names.Names.get.Goals as goal

pub returns-in-Some : goal.returns-in-Some
returns-in-Some c =
    let names = c.self.inside in
    let id = c.args.id in
    let part = c.in-Some.part.now in
    let within = subst (λ xs. id < length xs) c.deref.ensures.value c.in-Some.ensures.lookup.3.0 in
    let is = subst (λ xs. part ≡ get_or xs id part) c.deref.ensures.value c.in-Some.ensures.lookup.1 in
    ap Some is
    ∙ sym (found_at id names.dense.items names.sparse.entries part within)
    ∙ ap (lookup (is_at (nat_cmp id))) c.self.view_is

pub returns-in-None : goal.returns-in-None
returns-in-None c =
    let names = c.self.inside in
    let id = c.args.id in
    let behind = subst (λ xs. length xs ≤ id) c.deref.ensures.value c.in-None.ensures.lookup.3 in
    c.get-in-None.ensures.value
    ∙ sym (missed 0 id names.dense.items names.sparse.entries (omega (arith, behind)))
    ∙ ap (lookup (is_at (nat_cmp id))) c.self.view_is
