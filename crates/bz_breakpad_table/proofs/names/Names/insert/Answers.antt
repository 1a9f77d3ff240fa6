use Rattle.std.proofs.Common.{◌≡◌, [], ◌++◌, refl, ap, ◌∙◌, arith}
use Rattle.std.specs.BTreeMap.{insert_entry}
use Rattle.std.specs.List.{enumerate_from}
use Rattle.std.specs.Ordering.{nat_cmp}
use Rattle.std.proofs.lemmas.List.{nil_from_length}
use Rattle.bz_breakpad_table.proofs.DenseLemmas.{behind, next_one, replaced_at}
use Rattle.bz_breakpad_table.proofs.names.Names.insert.Goals as goal
use Rattle.bz_breakpad_table.proofs.names.Names.insert.Goals.{else-at-count-2-via-then-at-count-2+else-is_empty, else-at-count-2-via-else-at-count-2}

pub returns-then-at-count : goal.returns-then-at-count
returns-then-at-count c =
    let names = c.self.inside in
    let id = c.args.id in
    replaced_at id names.dense.items names.sparse.entries c.args.part (omega (arith, c.if-at-count.true, c.len-count.ensures))
    ∙ ap (λ entries. insert_entry nat_cmp entries id c.args.part) c.self.view_is

pub returns-in_ok-push : goal.returns-in_ok-push
returns-in_ok-push c =
    let names = c.self.inside in
    let id = c.args.id in
    let none : names.sparse.entries ≡ [] = nil_from_length names.sparse.entries (c.if-is_empty.ensures.0 refl) in
    ap (λ dense. enumerate_from 0 dense ++ names.sparse.entries) c.in_ok-push.ensures.items
    ∙ next_one id names.dense.items names.sparse.entries c.args.part (omega (arith, c.if-at-count-2.true, c.len-count.ensures)) none
    ∙ ap (λ entries. insert_entry nat_cmp entries id c.args.part) c.self.view_is

pub returns-in_ok-insert : goal.returns-in_ok-insert
returns-in_ok-insert c =
    let names = c.self.inside in
    let id = c.args.id in
    ap (λ sparse. enumerate_from 0 names.dense.items ++ sparse) c.in_ok-insert.ensures.entries
    ∙ behind 0 id names.dense.items names.sparse.entries c.args.part (omega (arith, c.if-at-count.false, c.len-count.ensures))
    ∙ ap (λ entries. insert_entry nat_cmp entries id c.args.part) c.self.view_is
