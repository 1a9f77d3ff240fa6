-- What a caller asks of a plain answer.
use Rattle.std.specs.Prelude.{ℕ, List, Option, Some, None, Result, Ok, Err}
use Rattle.bz_base.specs.Answer.{Resolved}
use Rattle.bz_base.specs.declared.error.Error.{Error}
use Rattle.bz_base.specs.declared.types.Reason.{Reason}

-- the name in an answer, if there is a symbol; none at all where the address is refused
abbrev pub name_of : Result (Result Resolved Reason) Error → Option (Option (List ℕ))
name_of (Ok (Ok symbol)) = Some (Some symbol.name)
name_of (Ok (Err reason)) = Some None
name_of (Err e) = None
