-- Which record of a table answers for an address.
use Rattle.std.specs.Prelude.{◌≡◌, ◌<◌, ◌≤◌, ◌⊎◌, ℕ, Bool, true, false, List, length, Option, Some, None, slice_get, slice_index, slice_index_or}
use Rattle.std.specs.List.{AllByRecursion}
use Rattle.bz_base.specs.Answer.Answer.{Known, Unknown}
use Rattle.bz_base.specs.declared.types.Reason.TheVariants as reasons
use Rattle.bz_breakpad.specs.Plain.{by_public, function_at, public_at, public_symbol_at}
use Rattle.bz_breakpad_lines.specs.Table.{Function, PublicSymbol, Table}
use Rattle.bz_breakpad.specs.declared.found.FoundRecord.{FoundRecord}
use Rattle.bz_breakpad.specs.declared.found.FoundRecord.TheVariants as found

-- the function of the index answers for the address
pub record IsFunctionFor (table : Table) (addr index : ℕ) : Type 0 where
  pub function : Function
  pub there : slice_get table.functions index ≡ Some function
  pub answers : function_at addr table.functions ≡ Some function

-- no function does, and the PUBLIC record of the index answers
pub record IsPublicFor (table : Table) (addr index : ℕ) : Type 0 where
  pub public : PublicSymbol
  pub there : slice_get table.publics index ≡ Some public
  pub no_function : function_at addr table.functions ≡ None
  pub answers : by_public table addr (public_at addr table.publics) ≡ Known (public_symbol_at table public addr)

-- no record does
pub record IsUnanswered (table : Table) (addr : ℕ) : Type 0 where
  pub no_function : function_at addr table.functions ≡ None
  pub no_public : by_public table addr (public_at addr table.publics) ≡ Unknown reasons.UnknownAddr

-- the function of the index answers for the address, or none does
abbrev pub IsFunctionOr : Table → ℕ → Option ℕ → Type 0
IsFunctionOr table addr (Some index) = IsFunctionFor table addr index
IsFunctionOr table addr None = function_at addr table.functions ≡ None

-- the record answers for the address
abbrev pub IsRecordFor : Table → ℕ → FoundRecord → Type 0
IsRecordFor table addr (found.Function index) = IsFunctionFor table addr index
IsRecordFor table addr (found.Public index) = IsPublicFor table addr index
IsRecordFor table addr found.Absent = IsUnanswered table addr

-- it is a PUBLIC record
abbrev pub is_public : FoundRecord → Bool
is_public (found.Public index) = true
is_public _ = false

-- each record answers for the address at its index
abbrev pub AreRecordsFor : Table → List ℕ → List FoundRecord → Type 0
AreRecordsFor table addrs records = (k : ℕ) → k < length addrs → IsRecordFor table (slice_index addrs k) (slice_index_or records k found.Absent)

-- no function answers for the addresses of the indices
abbrev pub AreUncovered : Table → List ℕ → List ℕ → Type 0
AreUncovered table addrs left = AllByRecursion (λ index. function_at (slice_index addrs index) table.functions ≡ None) left

-- no record is given to an index, which is one of those that are left from a place on
pub record IsLeft (given : FoundRecord) (index : ℕ) (left : List ℕ) (from : ℕ) : Type 0 where
  pub absent : given ≡ found.Absent
  pub place : ℕ
  pub from_on : from ≤ place
  pub there : slice_get left place ≡ Some index

-- the record that is given to an index answers for the address there, or it is left to be found
abbrev pub IsFoundOrLeft : Table → List ℕ → List ℕ → ℕ → ℕ → FoundRecord → Type 0
IsFoundOrLeft table addrs left from index given = IsRecordFor table (slice_index addrs index) given ⊎ IsLeft given index left from

-- each record answers for the address at its index, or is left to be found
abbrev pub AreFunctionsFor : Table → List ℕ → List FoundRecord → List ℕ → ℕ → Type 0
AreFunctionsFor table addrs records left from = (k : ℕ) → k < length records → IsFoundOrLeft table addrs left from k (slice_index_or records k found.Absent)
