use Rattle.bz_search.proofs.TableLemmas.{table_candidate}
use Rattle.bz_search.proofs.laws.tables_answer_alike.Goals as goal

pub returns : goal.returns
returns g c start size records table is addr found at = table_candidate start size records table is addr found at
