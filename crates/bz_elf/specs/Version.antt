-- ELF files as versions of files: they are refused as formats refuse.
use Rattle.std.specs.Prelude.{◌≡◌, ℕ, Bool, true, false, if◌then◌else◌, List, [], ◌∷◌, Option, Some}
use Rattle.std.proofs.Common.{subst}
use Rattle.bz_base.specs.Refusals.{IsFormatRefusal}
use Rattle.bz_base.specs.declared.error.Error.{Error}
use Rattle.bz_elf.specs.Format.{Check, checks, first_refusal, format_test}

-- each check refuses by a refusal that a format may give
abbrev pub MayRefuseBy : List Check → Type 0
MayRefuseBy [] = Unit {0}
MayRefuseBy (check ∷ later) = IsFormatRefusal check.refusal × MayRefuseBy later

by_first : (passes : Bool) (refusal e : Error) (later : Option Error) → IsFormatRefusal refusal → (later ≡ Some e → IsFormatRefusal e) →
    (if passes then later else Some refusal) ≡ Some e → IsFormatRefusal e
by_first true refusal e later here after is = after is
by_first false refusal e later here after is = subst IsFormatRefusal (cc is) here

-- so does the first that fails
refusals_of : (list : List Check) (bytes : List ℕ) (e : Error) → MayRefuseBy list → first_refusal list bytes ≡ Some e → IsFormatRefusal e
refusals_of [] bytes e may is = absurd (cc is)
refusals_of (check ∷ later) bytes e may is =
    by_first (check.test bytes) check.refusal e (first_refusal later bytes) may.0 (refusals_of later bytes e may.1) is

pub format_refusals : (bytes : List ℕ) (e : Error) → format_test bytes ≡ Some e → IsFormatRefusal e
format_refusals bytes e is = refusals_of checks bytes e (tt, (tt, (tt, (tt, (tt, (tt, (tt, (tt, tt)))))))) is
