-- The walk over a file's lines, from one record to the next.
use Rattle.std.specs.Prelude.{◌≡◌, ◌↔◌, ℕ, Bool, true, ◌&&◌, ◌⊎◌, List, [], ◌∷◌, Option, Some, option_map, if◌then◌else◌}
use Rattle.bz_base.specs.Bind.{◌>>=◌}
use Rattle.bz_breakpad_lines.specs.Byte.{is_white, is_nothing}
use Rattle.bz_breakpad_lines.specs.Form.{AllPass}
use Rattle.bz_breakpad_lines.specs.Contexts.{Context, Record, context_after, white_allowed_after, IsRecord, IsText, record_at, after_white}

-- a line that is read, and the lines after it
pub record IsRead (c : Context) (white_allowed : Bool) (line : List ℕ) (Rest : Context → Bool → List Record → Type 0) (records : List Record) : Type 0 where
  pub text : List ℕ
  pub first : Record
  pub others : List Record
  pub text_is : IsText white_allowed line text
  pub first_is : IsRecord c text first
  pub rest : Rest (context_after first) (white_allowed_after first) others
  pub records_are : records ≡ first ∷ others

-- the lines are the records: white lines are passed over where white space may stand,
-- and each other line is read
abbrev pub Walks : Context → Bool → List (List ℕ) → List Record → Type 0
Walks c white_allowed [] records = records ≡ []
Walks c white_allowed (line ∷ lines) records =
    ((white_allowed ≡ true) × AllPass is_white line × Walks c white_allowed lines records)
    ⊎ IsRead c white_allowed line (λ d f. Walks d f lines) records

-- the records of the lines
abbrev pub walk : Context → Bool → List (List ℕ) → Option (List Record)
walk c white_allowed [] = Some []
walk c white_allowed (line ∷ lines) =
    if white_allowed && is_nothing (after_white white_allowed line)
    then walk c white_allowed lines
    else record_at c (after_white white_allowed line) >>= (λ r. option_map (λ rest. r ∷ rest) (walk (context_after r) (white_allowed_after r) lines))

abbrev pub IsWalkedExactly : Type 0
IsWalkedExactly =
    (c : Context) (white_allowed : Bool) (lines : List (List ℕ)) (records : List Record) → (walk c white_allowed lines ≡ Some records) ↔ Walks c white_allowed lines records
