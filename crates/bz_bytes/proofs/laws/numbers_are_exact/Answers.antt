use Rattle.bz_bytes.proofs.NumberLemmas.{number_found, front_again, decimal_found, decimal_again, number_whole_found, number_whole_again, decimal_whole_found, decimal_whole_again}
use Rattle.bz_bytes.proofs.laws.numbers_are_exact.Goals as goal

pub returns-clause-front : goal.returns-clause-front
returns-clause-front c base most text value rest = (number_found base most text value rest, front_again base most text value rest)

pub returns-clause-decimal_front : goal.returns-clause-decimal_front
returns-clause-decimal_front c most greatest text value rest =
    (decimal_found most greatest text value rest, λ is. decimal_again most greatest text value rest is.0 is.1)

pub returns-clause-whole_hex : goal.returns-clause-whole_hex
returns-clause-whole_hex c most text value = (number_whole_found 16 most text value, number_whole_again 16 most text value)

pub returns-clause-whole_decimal : goal.returns-clause-whole_decimal
returns-clause-whole_decimal c most greatest text value = (decimal_whole_found most greatest text value, decimal_whole_again most greatest text value)
