use Rattle.std.proofs.Common.{rules}
use Rattle.std.proofs.lemmas.List.Sorted.{answers_always}
use Rattle.bz_search.proofs.SortLemmas.{table_from_sort}
use Rattle.bz_search.proofs.chain.sort_nested.Goals as goal

pub returns-clause-table : goal.returns-clause-table
returns-clause-table g c =
    table_from_sort g.T.Nested.depth g.T.Spanned.start _ _
    (c.in_ok-sort_by_key.ensures.sorted (λ r. (g.T.Nested.depth r, g.T.Spanned.start r)) (answers_always _ _ _ (λ f a r k h. search rules)))
    (c.sort_by_key.ensures.stable (λ r. (g.T.Nested.depth r, g.T.Spanned.start r)) (answers_always _ _ _ (λ f a r k h. search rules)))
