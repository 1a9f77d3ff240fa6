-- What a caller asks of a plain answer.
use Rattle.std.specs.Prelude.{ℕ, List, Option, Some, None, Result, Ok, Err}
use Rattle.bz_base.specs.Answer.{Resolved}
use Rattle.bz_base.specs.declared.types.Reason.{Reason}

-- the name in an answer, if there is a symbol
abbrev pub name_of : Result Resolved Reason → Option (List ℕ)
name_of (Ok symbol) = Some symbol.name
name_of (Err reason) = None
