-- How the refusal of a version is one of its format's.
use Rattle.std.proofs.Common.{◌≡◌, ℕ, List, Option, Some}
use Rattle.bz_base.specs.Refusals.{IsFormatRefusal}
use Rattle.bz_base.specs.declared.error.Error.{Error}
use Rattle.bz_base.specs.declared.error.Error.TheVariants as errors
use Rattle.bz_cache.specs.Format.{IsRefusalBy, MayFail}

-- a refusal of some bytes may come of a look
pub may_refuse : (test : List ℕ → Option Error) (bytes : List ℕ) (e : Error) → IsRefusalBy (test bytes) e → MayFail test e
may_refuse test bytes errors.NotFound given = tt
may_refuse test bytes errors.PermissionDenied given = tt
may_refuse test bytes errors.ReadFault given = tt
may_refuse test bytes errors.OutOfMemory given = tt
may_refuse test bytes _ given = (bytes, given)

-- no format refuses bytes by a fault of reading
pub never_fault : (test : List ℕ → Option Error) → ((bytes : List ℕ) (e : Error) → test bytes ≡ Some e → IsFormatRefusal e) → (bytes : List ℕ) (e : Error) → IsRefusalBy (test bytes) e → e ≡ errors.ReadFault → ⊥
never_fault test refusals bytes errors.ReadFault given is = refusals bytes errors.ReadFault given
never_fault test refusals bytes _ given is = cc
