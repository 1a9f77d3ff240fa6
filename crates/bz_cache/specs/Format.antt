-- When the bytes of a version are refused, and what a call of the cache may answer.
use Rattle.std.specs.Prelude.{◌≡◌, ℕ, Bool, true, false, cond, List, Option, Some, None, Result, Ok, Err}
use Rattle.std.proofs.Common.{subst}
use Rattle.bz_base.specs.Refusals.{IsFormatRefusal}
use Rattle.bz_base.specs.declared.error.Error.{Error}
use Rattle.bz_base.specs.declared.error.Error.TheVariants as errors
use Rattle.bz_files.specs.declared.stamp.Stamp.{Stamp}
use Rattle.bz_files.specs.World.{Entry, Denied, Present}

-- a format that refuses all other bytes by one refusal refuses by no other
pub refused_by : (formed : Bool) (refusal e : Error) → IsFormatRefusal refusal → cond formed None (Some refusal) ≡ Some e → IsFormatRefusal e
refused_by true refusal e may is = cc
refused_by false refusal e may is = subst IsFormatRefusal (cc is) may

-- the refusal is the one that the format's test gives, and so the bytes aren't in the format; but for
-- want of memory
abbrev pub IsRefusalBy : Option Error → Error → Type 0
IsRefusalBy given errors.OutOfMemory = Unit {0}
IsRefusalBy given e = given ≡ Some e

-- the refusal is the one that is expected; but for a fault and want of memory, which may come anywhere.
-- It is of a refusal alone, where `GivesOrFaults` is of a whole result.
abbrev pub FailsAs : {A : Type 0} → Result A Error → Error → Type 0
FailsAs expected errors.ReadFault = Unit {0}
FailsAs expected errors.OutOfMemory = Unit {0}
FailsAs expected e = expected ≡ Err e

-- the answer reads as the expected one; but for a fault and want of memory, which may come anywhere. It
-- is of calls that look at files, where `Gives` and `MayGive` are of calls that can't fault.
abbrev pub GivesOrFaults : {A B : Type 0} → (A → B) → Result B Error → Result A Error → Type 0
GivesOrFaults reading expected (Ok x) = expected ≡ Ok (reading x)
GivesOrFaults reading expected (Err e) = FailsAs expected e

-- a look at a file that is told answers what lies there; a fault and want of memory may come anywhere.
-- It is `IsAnswer` in the refusals of a symbolizer, and compares with a file, where `GivesOrFaults`
-- compares with an expected result.
abbrev pub IsLookAnswer : {A : Type 0} → (A → Stamp → List ℕ → Type 0) → Option Entry → Result A Error → Type 0
IsLookAnswer Shows there (Ok given) = (stamp : Stamp) × (bytes : List ℕ) × (there ≡ Some (Present stamp bytes)) × Shows given stamp bytes
IsLookAnswer Shows there (Err errors.NotFound) = there ≡ None
IsLookAnswer Shows there (Err errors.PermissionDenied) = there ≡ Some Denied
IsLookAnswer Shows there (Err errors.ReadFault) = Unit {0}
IsLookAnswer Shows there (Err errors.OutOfMemory) = Unit {0}
IsLookAnswer Shows there (Err _) = ⊥

-- a look at a file is refused by one of these
abbrev pub MayMiss : Error → Type 0
MayMiss errors.NotFound = Unit {0}
MayMiss errors.PermissionDenied = Unit {0}
MayMiss errors.ReadFault = Unit {0}
MayMiss errors.OutOfMemory = Unit {0}
MayMiss _ = ⊥

-- a look through the cache is refused by one of the four refusals of a look at a file, or by one that
-- the format gives to some bytes
abbrev pub MayFail : (List ℕ → Option Error) → Error → Type 0
MayFail test errors.NotFound = Unit {0}
MayFail test errors.PermissionDenied = Unit {0}
MayFail test errors.ReadFault = Unit {0}
MayFail test errors.OutOfMemory = Unit {0}
MayFail test e = (bytes : List ℕ) × (test bytes ≡ Some e)
