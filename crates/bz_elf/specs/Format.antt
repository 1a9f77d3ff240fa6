-- Which bytes are taken as ELF files, and how other bytes are refused: by the first check that they
-- fail.
use Rattle.std.specs.Prelude.{◌≡◌, ℕ, ◌<◌, Bool, true, false, if◌then◌else◌, List, [], ◌∷◌, Option, Some, None, slice_get}
use Rattle.bz_base.specs.declared.error.Error.{Error}
use Rattle.bz_base.specs.declared.error.Error.TheVariants as errors
use Rattle.bz_elf.specs.Checks.{is_elf, is_supported, has_head, has_program_headers, has_sections, has_symbols, has_strings, has_names}

-- a check: what is asked of the bytes, and how they are refused where they fail it
pub record Check : Type 0 where
  pub test : List ℕ → Bool
  pub refusal : Error

abbrev pub else_refused : (List ℕ → Bool) → Error → Check
else_refused test refusal = record { test = test; refusal = refusal }

-- the checks, in their order
abbrev pub checks : List Check
checks =
    else_refused is_elf errors.InvalidData
    ∷ (else_refused is_supported errors.Unsupported
    ∷ (else_refused has_head errors.InvalidData
    ∷ (else_refused has_program_headers errors.InvalidData
    ∷ (else_refused has_sections errors.InvalidData
    ∷ (else_refused has_symbols errors.InvalidData
    ∷ (else_refused has_strings errors.InvalidData
    ∷ (else_refused has_names errors.InvalidData
    ∷ [])))))))

-- the refusal of the first check that fails; none where each is passed
abbrev pub first_refusal : List Check → List ℕ → Option Error
first_refusal [] bytes = None
first_refusal (check ∷ later) bytes = if check.test bytes then first_refusal later bytes else Some check.refusal

-- which refusal the bytes give; none where they are taken as an ELF file
abbrev pub format_test : List ℕ → Option Error
format_test bytes = first_refusal checks bytes

-- the check at an index fails by the refusal, and is the first that fails
pub record IsFirstFailing (list : List Check) (bytes : List ℕ) (index : ℕ) (refusal : Error) : Type 0 where
  pub check : Check
  pub there : slice_get list index ≡ Some check
  pub fails : check.test bytes ≡ false
  pub refusal_is : check.refusal ≡ refusal
  pub before : (i : ℕ) (other : Check) → i < index → slice_get list i ≡ Some other → other.test bytes ≡ true

-- the bytes pass each check
abbrev pub PassesChecks : List ℕ → Type 0
PassesChecks bytes = (i : ℕ) (check : Check) → slice_get checks i ≡ Some check → check.test bytes ≡ true
