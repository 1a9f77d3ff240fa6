use Rattle.bz_search.proofs.SortingLaws.{sorted_table, sorted_ascends, table_sorted, sorted_again}
use Rattle.bz_search.proofs.laws.sorted_tables_are_one.Goals as goal

pub returns-clause-table : goal.returns-clause-table
returns-clause-table g c first second records = sorted_table first second records

pub returns-clause-ascends : goal.returns-clause-ascends
returns-clause-ascends g c first second records = sorted_ascends first second records

pub returns-clause-only : goal.returns-clause-only
returns-clause-only g c first second records table is = table_sorted first second records table is

pub returns-clause-again : goal.returns-clause-again
returns-clause-again g c first second records up = sorted_again first second records up
