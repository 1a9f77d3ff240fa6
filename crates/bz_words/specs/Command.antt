-- What the words of the command line ask for.
use Rattle.std.specs.Prelude.{◌≡◌, ◌<◌, ◌≤◌, ℕ, Bool, false, not, List, [], ◌∷◌, codes, Option, Some, None, Result, Ok, Err, option_map, option_and_then, unwrap_or, if◌then◌else◌, bytes_eq, nat_le, string_bytes}
use Rattle.bz_base.specs.InputKind.{AddressKind, InProcess, InTable, InFile, address_kind}
use Rattle.bz_base.specs.Number.{decimal_at, whole}
use Rattle.bz_requests.specs.Requests.{Target, Breakpad, Gsym, Elf, Process, target_of, usual_kind}
use Rattle.bz_requests.specs.declared.requests.Config.{Config}
use Rattle.clap.specs.Words.{Row, Text, all_of, first_of}
use Rattle.bz_words.specs.Definition.{faults, rows}
use Rattle.bz_words.specs.declared.words.BadWords.{BadWords}
use Rattle.bz_words.specs.declared.words.BadWords.TheVariants as bad_words
use Rattle.bz_words.specs.declared.given.Command as made
use Rattle.bz_words.specs.declared.given.Job as made_job
use Rattle.bz_words.specs.declared.given.Job.TheVariants as made_jobs
use Rattle.bz_words.specs.declared.given.Product as made_product
use Rattle.bz_words.specs.declared.given.Product.TheVariants as made_products

-- what is made of one file, and written as it is
pub data Product : Type 0 where
  -- the GSYM bytes of the Breakpad file at a path
  Converted : Text → Product
  -- the canonical text of the Breakpad file at a path
  Canonical : Text → Product

-- what is to be done
pub data Job : Type 0 where
  -- one batch of the addresses of the input, which are of a kind
  Batch : Target → AddressKind → Job
  -- the requests of the input
  Serve : Job
  -- the generated job, by seed, functions and addresses
  Generate : ℕ → ℕ → ℕ → Job
  -- a product
  Make : Product → Job
  -- the stacks of the input, over the Breakpad file at a path
  Stacks : Text → Job
  -- the frames of the input, over the store at a path
  Frames : Text → Job

pub record Command : Type 0 where
  pub config : Config
  pub job : Job

-- the same of the values that the code has
abbrev pub product_of : made_product.Product → Product
product_of (made_products.Converted path) = Converted (string_bytes path)
product_of (made_products.Canonical path) = Canonical (string_bytes path)

abbrev pub job_of : made_job.Job → Job
job_of (made_jobs.Batch target kind) = Batch (target_of target) (address_kind kind)
job_of made_jobs.Serve = Serve
job_of (made_jobs.Generate seed functions addresses) = Generate seed functions addresses
job_of (made_jobs.Make product) = Make (product_of product)
job_of (made_jobs.Stacks path) = Stacks (string_bytes path)
job_of (made_jobs.Frames path) = Frames (string_bytes path)

abbrev pub command_of : made.Command → Command
command_of command = record { config = command.config; job = job_of command.job }

-- the numbers of a generated job are as small as that job takes
abbrev pub HasSmallNumbers : Job → Type 0
HasSmallNumbers (Generate seed functions addresses) = (seed < 2147483648) × (functions ≤ 100000) × (addresses ≤ 100000)
HasSmallNumbers other = Unit {0}

-- a number of one to ten decimal digits that isn't above the greatest
abbrev pub number_in : ℕ → Text → Option ℕ
number_in greatest text = whole (decimal_at 10 greatest text)

-- the kind of address `abs`, `virt` or `file`
abbrev pub kind_named : Text → Option AddressKind
kind_named text =
    if bytes_eq text (codes "abs") then Some InProcess
    else (if bytes_eq text (codes "virt") then Some InTable else (if bytes_eq text (codes "file") then Some InFile else None))

abbrev pub kind_for : Target → Option Text → Option AddressKind
kind_for target None = Some (usual_kind target)
kind_for target (Some text) = kind_named text

-- a target is asked for addresses of the kind that is named, or else of the usual one
abbrev pub batch_in : Option Text → Target → Option Job
batch_in input target = option_map (λ kind. Batch target kind) (kind_for target input)

-- a process is named by its id
abbrev pub process_in : Option Text → Text → Option Job
process_in input text = option_and_then (λ pid. batch_in input (Process pid)) (number_in 4294967295 text)

-- `serve` has no argument, and no kind of address
abbrev pub serve_in : Option Text → List Text → Option Job
serve_in None [] = Some Serve
serve_in _ _ = None

-- a number from 1 on
abbrev pub positive_in : ℕ → Text → Option ℕ
positive_in greatest text = option_and_then (λ n. if nat_le 1 n then Some n else None) (number_in greatest text)

-- `gen SEED FUNCTIONS ADDRESSES`
abbrev pub numbers_in : Text → Text → Text → Option Job
numbers_in seed functions addresses =
    option_and_then (λ s. option_and_then (λ f. option_map (λ a. Generate s f a) (number_in 100000 addresses)) (positive_in 100000 functions)) (number_in 2147483647 seed)

abbrev pub generate_in : Option Text → List Text → Option Job
generate_in None (seed ∷ functions ∷ addresses ∷ []) = numbers_in seed functions addresses
generate_in _ _ = None

-- `convert PATH`, `canon PATH`, `stacks PATH` and `frames ROOT`
abbrev pub path_job : Text → Text → Option Job
path_job kind path =
    if bytes_eq kind (codes "convert") then Some (Make (Converted path))
    else (if bytes_eq kind (codes "canon") then Some (Make (Canonical path))
    else (if bytes_eq kind (codes "stacks") then Some (Stacks path)
    else (if bytes_eq kind (codes "frames") then Some (Frames path) else None)))

-- with no kind of address
abbrev pub on_path_in : Text → Option Text → Text → Option Job
on_path_in kind None path = path_job kind path
on_path_in kind (Some text) path = None

-- `breakpad PATH`, `gsym PATH` and `elf PATH` ask a file for addresses, and `process PID` a process;
-- others are work on a path
abbrev pub job_on : Text → Option Text → Text → Option Job
job_on kind input arg =
    if bytes_eq kind (codes "breakpad") then batch_in input (Breakpad arg)
    else (if bytes_eq kind (codes "gsym") then batch_in input (Gsym arg)
    else (if bytes_eq kind (codes "elf") then batch_in input (Elf arg)
    else (if bytes_eq kind (codes "process") then process_in input arg else on_path_in kind input arg)))

-- they all take one argument
abbrev pub with_argument : Text → Option Text → List Text → Option Job
with_argument kind input (arg ∷ []) = job_on kind input arg
with_argument kind input _ = None

abbrev pub job_by : Text → Option Text → List Text → Option Job
job_by kind input args =
    if bytes_eq kind (codes "serve") then serve_in input args
    else (if bytes_eq kind (codes "gen") then generate_in input args else with_argument kind input args)

abbrev pub job_in : Option Text → Option Text → List Text → Option Job
job_in None input args = None
job_in (Some kind) input args = job_by kind input args

-- a flag that is given has this value
abbrev pub is_given : Option Text → Bool
is_given None = false
is_given (Some value) = bytes_eq value (codes "true")

abbrev pub has_flag : Text → List Row → Bool
has_flag flag found = is_given (first_of flag found)

abbrev pub config_in : List Row → Config
config_in found = record {
  reload = not (has_flag (codes "no-reload") found);
  code_info = not (has_flag (codes "no-code-info") found);
  inlined = not (has_flag (codes "no-inlined") found);
  map_files = not (has_flag (codes "no-map-files") found);
}

-- what is to be done by matches
abbrev pub job_by_rows : List Row → Option Job
job_by_rows found = job_in (first_of (codes "kind") found) (first_of (codes "input") found) (unwrap_or (all_of (codes "arg") found) [])

-- the command that matches give
abbrev pub command_by : List Row → Option Command
command_by found = option_map (λ job. record { config = config_in found; job = job }) (job_by_rows found)

-- the words read as this command: the matches that `clap` gives for them do
abbrev pub command_read : List Text → Option Command
command_read words = command_by (rows words)

-- what `clap` finds no fault with
abbrev pub unless_faulty : {A B : Type 0} → List A → Option B → Option B
unless_faulty [] read = read
unless_faulty (fault ∷ others) read = None

-- the command of words that `clap` takes and that read as one
abbrev pub command_in : List Text → Option Command
command_in words = unless_faulty (faults words) (command_read words)

-- the words were refused as a faulty command line
abbrev pub IsUsage : {A : Type 0} → Result A BadWords → Type 0
IsUsage (Ok given) = ⊥
IsUsage (Err bad) = bad ≡ bad_words.Usage
