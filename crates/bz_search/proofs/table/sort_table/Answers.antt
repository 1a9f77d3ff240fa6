use Rattle.std.proofs.Common.{rules}
use Rattle.std.proofs.lemmas.List.Sorted.{answers_always, length_permutation}
use Rattle.bz_search.proofs.SortLemmas.{table_from_sort, starts_never_descend}
use Rattle.bz_search.proofs.table.sort_table.Goals as goal

pub returns-clause-table : goal.returns-clause-table
returns-clause-table g c =
    table_from_sort g.T.Spanned.start g.T.Spanned.size _ _
    (c.in_ok-sort_by_key.ensures.sorted (λ r. (g.T.Spanned.start r, g.T.Spanned.size r)) (answers_always _ _ _ (λ f a r k h. search rules)))
    (c.sort_by_key.ensures.stable (λ r. (g.T.Spanned.start r, g.T.Spanned.size r)) (answers_always _ _ _ (λ f a r k h. search rules)))

pub returns-clause-ascending : goal.returns-clause-ascending
returns-clause-ascending g c =
    starts_never_descend g.T.Spanned.start g.T.Spanned.size _
    (c.in_ok-sort_by_key.ensures.sorted (λ r. (g.T.Spanned.start r, g.T.Spanned.size r)) (answers_always _ _ _ (λ f a r k h. search rules)))

pub returns-clause-count : goal.returns-clause-count
returns-clause-count g c = length_permutation _ _ c.sort_by_key.ensures.permutation
