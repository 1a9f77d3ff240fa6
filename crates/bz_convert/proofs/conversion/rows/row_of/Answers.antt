use Rattle.bz_convert.proofs.conversion.rows.row_of.Goals as goal

pub returns-clause-numbering : goal.returns-clause-numbering
returns-clause-numbering c table read = c.in_ok-source.ensures.numbering table read
