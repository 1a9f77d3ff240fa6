-- What a run writes and ends with where nothing fails: a function of command, input, world and
-- the id of the own process.
use Rattle.std.specs.Prelude.{◌≡◌, ◌⊎◌, ◌<◌, ◌≤◌, ℕ, List, ◌++◌, length, codes, decimal, Option, Some, None, Result, Ok, Err}
use Rattle.bz_base.specs.Answer.{Answer}
use Rattle.bz_base.specs.ErrorNames.{name_of}
use Rattle.bz_base.specs.declared.error.Error.{Error}
use Rattle.bz_files.specs.World.{World}
use Rattle.bz_requests.specs.Addresses.{addresses_in}
use Rattle.bz_requests.specs.Lines.{IsFirstBad}
use Rattle.bz_canon.specs.AnswerText.{answer_texts}
use Rattle.bz_symq.specs.Command.{Asking, Command, Batch, Make}
use Rattle.bz_requests.specs.InputText.{by_length, greatest_input}
use Rattle.bz_symq.specs.Products.{made_in}
use Rattle.bz_symq.specs.Targets.{answer_to}
use Rattle.bz_symq.specs.declared.status.Status.{Status}
use Rattle.bz_symq.specs.declared.status.Status.TheVariants as statuses

-- the number that the program ends with
abbrev pub code_of : Status → ℕ
code_of statuses.Done = 0
code_of statuses.Refused = 1
code_of statuses.Usage = 2
code_of statuses.Input = 3
code_of statuses.Fault = 4
code_of statuses.Memory = 5

-- what a status says by itself, without a line's end: where reading or writing
-- failed, or memory ran out
abbrev pub message_of : Status → Option (List ℕ)
message_of statuses.Fault = Some (codes "symq: reading or writing failed")
message_of statuses.Memory = Some (codes "symq: out of memory")
message_of _ = None

-- a status, and all that is written to standard output
pub record Outcome : Type 0 where
  pub status : Status
  pub text : List ℕ

-- a run is done, and this is its text
abbrev pub done_with : List ℕ → Outcome
done_with text = record { status = statuses.Done; text = text }

-- a refusal is written by its name
abbrev pub refused_as : List ℕ → Outcome
refused_as name = record { status = statuses.Refused; text = codes "refused: " ++ (name ++ codes "\n") }

abbrev pub refused : Error → Outcome
refused e = refused_as (name_of e)

-- the answers' texts, or the refusal
abbrev pub by_answer : List ℕ → Result (List Answer) Error → Outcome
by_answer addrs (Ok answers) = done_with (answer_texts addrs answers)
by_answer addrs (Err e) = refused e

-- an input with a line that isn't well formed is named by the number of the first such line, in decimal
abbrev pub bad_line : ℕ → Outcome
bad_line n = record { status = statuses.Input; text = codes "input: line " ++ (decimal n ++ codes "\n") }

-- a bad line is named, and addresses are answered by what is asked
abbrev pub by_addresses : Asking → World → ℕ → Result (List ℕ) ℕ → Outcome
by_addresses asking world own (Err n) = bad_line n
by_addresses asking world own (Ok addrs) = by_answer addrs (answer_to asking addrs world own)

-- an input that is too long is named as such
abbrev pub too_long : Outcome
too_long = record { status = statuses.Input; text = codes "input: too long\n" }

-- what is said names an input of such lines as too long, or else its first bad line
abbrev pub NamesBad : {A : Type 0} → (List ℕ → A → Type 0) → List ℕ → List ℕ → Type 0
NamesBad Spells text said = ((greatest_input < length text) × (said ≡ too_long.text))
    ⊎ ((length text ≤ greatest_input) × ((n : ℕ) × IsFirstBad Spells text n × (said ≡ (bad_line n).text)))

-- the whole input comes first, then the target
abbrev pub outcome : Asking → List ℕ → World → ℕ → Outcome
outcome asking input world own = by_length input too_long (by_addresses asking world own (addresses_in input))

-- what was made, or the refusal
abbrev pub by_product : Result (List ℕ) (List ℕ) → Outcome
by_product (Ok made) = done_with made
by_product (Err name) = refused_as name

-- by the command
abbrev pub run_outcome : Command → List ℕ → World → ℕ → Outcome
run_outcome (Batch asking) input world own = outcome asking input world own
run_outcome (Make product) input world own = by_product (made_in product world)
