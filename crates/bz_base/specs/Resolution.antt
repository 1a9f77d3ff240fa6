-- What a table of symbols answers for an address: the symbol there, or the reason why there is none.
use Rattle.std.specs.Prelude.{◌≡◌, ℕ, false, ◌-◌, ◌≤◌, Result, Ok, Err}
use Rattle.bz_base.specs.Answer.{Symbol, Resolved, Answer, Known, Unknown, resolved_of}
use Rattle.bz_base.specs.declared.error.Error.{Error}
use Rattle.bz_base.specs.declared.error.Error.TheVariants as errors
use Rattle.bz_base.specs.declared.types.ResolvedSym.{ResolvedSym}
use Rattle.bz_base.specs.declared.types.Reason.{Reason}
use Rattle.bz_base.specs.declared.types.SrcLang.TheVariants as languages

-- the plain data of what was found
abbrev pub found_of : Result ResolvedSym Reason → Result Resolved Reason
found_of (Ok symbol) = Ok (resolved_of symbol)
found_of (Err reason) = Err reason

-- the plain data of an answer
abbrev pub answer_seen : Result (Result ResolvedSym Reason) Error → Result (Result Resolved Reason) Error
answer_seen (Ok found) = Ok (found_of found)
answer_seen (Err e) = Err e

-- a table's symbol as the symbol at an address, which lies so far past its start
abbrev pub symbol_at : ℕ → Resolved → Symbol
symbol_at addr r = record {
  name = r.name;
  «module» = r.«module»;
  addr = r.addr;
  offset = addr - r.addr;
  size = r.size;
  site = r.site;
  calls = r.calls;
  public = false;
}

-- what was found as the answer for the address
abbrev pub answer_at : ℕ → Result Resolved Reason → Answer
answer_at addr (Ok r) = Known (symbol_at addr r)
answer_at addr (Err reason) = Unknown reason

-- a table that knows no languages finds this answer: its symbol, its reason, or the refusal of the
-- address
abbrev pub Finds : ℕ → Result Answer Error → Result (Result Resolved Reason) Error → Type 0
Finds addr expected (Ok (Ok r)) = (expected ≡ Ok (Known (symbol_at addr r))) × (r.lang ≡ languages.Unknown)
Finds addr expected (Ok (Err reason)) = expected ≡ Ok (Unknown reason)
Finds addr expected (Err e) = expected ≡ Err e

-- a symbol that was found starts at the address or before it
abbrev pub StartsBefore : ℕ → Result Resolved Reason → Type 0
StartsBefore addr (Ok r) = r.addr ≤ addr
StartsBefore addr (Err reason) = Unit {0}

-- the result reads as one that is allowed; but for want of memory, which may come anywhere
abbrev pub MayGive : {A B : Type 0} → (A → B) → (Result B Error → Type 0) → Result A Error → Type 0
MayGive reading allowed (Ok given) = allowed (Ok (reading given))
MayGive reading allowed (Err errors.OutOfMemory) = Unit {0}
MayGive reading allowed (Err e) = allowed (Err e)
