use Rattle.std.proofs.Common.{rules, sym, ◌∙◌}
use Rattle.std.proofs.lemmas.List.Sorted.{IsPartitionPoint-from_clause}
use Rattle.bz_search.proofs.InnerTableLemmas.{is_before, is_parted, at_point, not_at_point, no_point}
use Rattle.bz_search.proofs.chain.inner_in.Goals as goal

pub returns-then-place-eq0 : goal.returns-then-place-eq0
returns-then-place-eq0 g c records is =
    no_point g.T.Nested.depth g.T.Spanned.start records c.args.table.now is c.args.depth c.args.addr c.partition_point-place.result
    (IsPartitionPoint-from_clause (is_before g.T.Nested.depth g.T.Spanned.start c.args.depth c.args.addr) c.args.table.now c.partition_point-place.result c.partition_point-place.ensures.partitioned
    (is_parted g.T.Nested.depth g.T.Spanned.start records c.args.table.now is c.args.depth c.args.addr) (λ a r f k. search rules))
    c.if-place-eq0.true

pub returns-then-depth : goal.returns-then-depth
returns-then-depth g c records is =
    at_point g.T.Nested.depth g.T.Spanned.start records c.args.table.now is c.args.depth c.args.addr c.partition_point-place.result
    (IsPartitionPoint-from_clause (is_before g.T.Nested.depth g.T.Spanned.start c.args.depth c.args.addr) c.args.table.now c.partition_point-place.result c.partition_point-place.ensures.partitioned
    (is_parted g.T.Nested.depth g.T.Spanned.start records c.args.table.now is c.args.depth c.args.addr) (λ a r f k. search rules))
    c.index-table-place.result c.partition_point-place.ensures.bound c.if-place-eq0.false c.index-table-place.is (sym c.depth.ensures ∙ c.if-depth.true)

pub returns-else-depth : goal.returns-else-depth
returns-else-depth g c records is =
    not_at_point g.T.Nested.depth g.T.Spanned.start records c.args.table.now is c.args.depth c.args.addr c.partition_point-place.result
    (IsPartitionPoint-from_clause (is_before g.T.Nested.depth g.T.Spanned.start c.args.depth c.args.addr) c.args.table.now c.partition_point-place.result c.partition_point-place.ensures.partitioned
    (is_parted g.T.Nested.depth g.T.Spanned.start records c.args.table.now is c.args.depth c.args.addr) (λ a r f k. search rules))
    c.index-table-place.result c.partition_point-place.ensures.bound c.if-place-eq0.false c.index-table-place.is (λ same. c.if-depth.false (c.depth.ensures ∙ same))
