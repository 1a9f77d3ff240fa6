-- The plain answer of a table at an address, field by field, and the answers to a batch of addresses.
use Rattle.std.specs.Prelude.{◌≡◌, ℕ, ◌-◌, ◌≤◌, nat_le, ◌&&◌, Bool, true, false, if◌then◌else◌, List, [], ◌∷◌, map, Option, Some, None, Result, Ok, Err, slice_get}
use Rattle.std.specs.List.{list_any}
use Rattle.bz_base.specs.Answer.{Symbol, Answer, in_batch}
use Rattle.bz_base.specs.Answer.Answer.{Known, Unknown}
use Rattle.bz_base.specs.Nearest.{nearest_covering}
use Rattle.bz_base.specs.declared.error.Error.{Error}
use Rattle.bz_base.specs.declared.types.FindSymOpts.{FindSymOpts}
use Rattle.bz_base.specs.declared.types.Reason.TheVariants as reasons
use Rattle.bz_breakpad_lines.specs.Table.{Function, PublicSymbol, Table}
use Rattle.bz_breakpad_function.specs.Locations.{Location, location_at}

-- the function that answers for the address
abbrev pub function_at : ℕ → List Function → Option Function
function_at addr functions = nearest_covering (λ f. f.start) (λ f. f.size) addr functions

-- the PUBLIC record at a place answers for the address: no other starts nearer below it,
-- and of equal starts it is the first
pub record IsNearestPublic (publics : List PublicSymbol) (addr place : ℕ) (p : PublicSymbol) : Type 0 where
  pub there : slice_get publics place ≡ Some p
  pub not_above : p.start ≤ addr
  pub closest : (i : ℕ) (q : PublicSymbol) → slice_get publics i ≡ Some q → q.start ≤ addr → q.start ≤ p.start
  pub first : (i : ℕ) (q : PublicSymbol) → slice_get publics i ≡ Some q → q.start ≡ p.start → place ≤ i

-- of a PUBLIC record and the one found among those after it, the one that starts nearer below the
-- address, and of equals the first
abbrev pub first_public : ℕ → PublicSymbol → Option PublicSymbol → Option PublicSymbol
first_public addr p None = if nat_le p.start addr then Some p else None
first_public addr p (Some q) = if nat_le p.start addr && nat_le q.start p.start then Some p else Some q

-- the first of the PUBLIC records that start nearest below the address, or at it
abbrev pub public_at : ℕ → List PublicSymbol → Option PublicSymbol
public_at addr [] = None
public_at addr (p ∷ publics) = first_public addr p (public_at addr publics)

-- one of the starts lies from the first address on, and not above the second
abbrev pub any_between : ℕ → ℕ → List ℕ → Bool
any_between from to starts = list_any (λ s. nat_le from s && nat_le s to) starts

-- the function as the symbol at the address, which lies there in the source code
abbrev pub symbol_at : Table → Function → ℕ → Location → Symbol
symbol_at table f addr location = record {
  name = f.name;
  «module» = table.«module»;
  addr = f.start;
  offset = addr - f.start;
  size = Some f.size;
  site = location.site;
  calls = location.calls;
  public = false;
}

-- the PUBLIC record as the symbol at the address
abbrev pub public_symbol_at : Table → PublicSymbol → ℕ → Symbol
public_symbol_at table p addr = record {
  name = p.name;
  «module» = table.«module»;
  addr = p.start;
  offset = addr - p.start;
  size = None;
  site = None;
  calls = [];
  public = true;
}

-- the symbol, or the refusal of the address
abbrev pub by_location : Table → Function → ℕ → Result Location Error → Result Answer Error
by_location table f addr (Ok location) = Ok (Known (symbol_at table f addr location))
by_location table f addr (Err e) = Err e

-- where no function answers: a PUBLIC record does, if no function starts from it on up to the address
abbrev pub by_public : Table → ℕ → Option PublicSymbol → Answer
by_public table addr None = Unknown reasons.UnknownAddr
by_public table addr (Some p) = if any_between p.start addr (map (λ f. f.start) table.functions) then Unknown reasons.UnknownAddr else Known (public_symbol_at table p addr)

abbrev pub by_function : Table → FindSymOpts → ℕ → Option Function → Result Answer Error
by_function table opts addr None = Ok (by_public table addr (public_at addr table.publics))
by_function table opts addr (Some f) = by_location table f addr (location_at table opts f addr)

-- the answer of the records: where there are no functions and no PUBLIC records at all,
-- symbols are missing
abbrev pub by_records : Table → FindSymOpts → ℕ → List Function → List PublicSymbol → Result Answer Error
by_records table opts addr [] [] = Ok (Unknown reasons.MissingSyms)
by_records table opts addr [] (p ∷ publics) = by_function table opts addr None
by_records table opts addr (f ∷ fs) publics = by_function table opts addr (function_at addr (f ∷ fs))

-- the answer at one address alone, or its refusal
abbrev pub plain : Table → FindSymOpts → ℕ → Result Answer Error
plain table opts addr = by_records table opts addr table.functions table.publics

-- the answers to a batch, each at its own address, in the order of the addresses
abbrev pub batch : Table → FindSymOpts → List ℕ → List Answer
batch table opts addrs = map (λ addr. in_batch (plain table opts addr)) addrs
