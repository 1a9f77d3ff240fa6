-- The numbers of a generated job that words give are small.
use Rattle.std.proofs.Common.{◌≡◌, ℕ, ◌≤◌, Bool, true, false, cond, nat_le, List, [], ◌∷◌, codes, Option, Some, None, option_map, option_and_then, bytes_eq, unwrap_or, subst, arith}
use Rattle.std.proofs.lemmas.Bool.{cond_both}
use Rattle.bz_base.proofs.NumberLemmas.{decimal_whole_found}
use Rattle.bz_requests.proofs.OptionLemmas.{map_some, then_some}
use Rattle.bz_requests.specs.Requests.{Target, Breakpad, Elf, Gsym, Process}
use Rattle.clap.specs.Words.{Row, Text, all_of, first_of}
use Rattle.bz_words.specs.Command.{Batch, Canonical, Command, Converted, Frames, Generate, HasSmallNumbers, Job, Make, Serve, Stacks, batch_in, command_by, command_in, command_read, config_in, generate_in, job_by, job_by_rows, job_in, job_on, kind_for, number_in, numbers_in, on_path_in, path_job, positive_in, process_in, serve_in, unless_faulty, with_argument}
use Rattle.bz_words.specs.Definition.{faults, rows}

if_some : (b : Bool) (m n : ℕ) → cond b (Some m) None ≡ Some n → m ≡ n
if_some true m n is = cc
if_some false m n is = cc

number_small : (greatest : ℕ) (text : Text) (n : ℕ) → number_in greatest text ≡ Some n → n ≤ greatest
number_small greatest text n is = (decimal_whole_found 10 greatest text n is).fits

positive_small : (greatest : ℕ) (text : Text) (n : ℕ) → positive_in greatest text ≡ Some n → n ≤ greatest
positive_small greatest text n is =
    let read = then_some (λ n. cond (nat_le 1 n) (Some n) None) (number_in greatest text) n is in
    subst (λ n. n ≤ greatest) (if_some (nat_le 1 read.0) read.0 n read.2) (number_small greatest text read.0 read.1)

numbers_small : (seed functions addresses : Text) (job : Job) → numbers_in seed functions addresses ≡ Some job → HasSmallNumbers job
numbers_small seed functions addresses job is =
    let first = then_some (λ s. option_and_then (λ f. option_map (λ a. Generate s f a) (number_in 100000 addresses)) (positive_in 100000 functions)) (number_in 2147483647 seed) job is in
    let second = then_some (λ f. option_map (λ a. Generate first.0 f a) (number_in 100000 addresses)) (positive_in 100000 functions) job first.2 in
    let third = map_some (λ a. Generate first.0 second.0 a) (number_in 100000 addresses) job second.2 in
    let few = number_small 2147483647 seed first.0 first.1 in
    subst HasSmallNumbers third.2 (omega (arith, few), positive_small 100000 functions second.0 second.1, number_small 100000 addresses third.0 third.1)

serve_small : (input : Option Text) (args : List Text) (job : Job) → serve_in input args ≡ Some job → HasSmallNumbers job
serve_small None [] job is = let same : Serve ≡ job = cc in subst HasSmallNumbers same tt
serve_small None (arg ∷ args) job is = cc
serve_small (Some text) args job is = cc

generate_small : (input : Option Text) (args : List Text) (job : Job) → generate_in input args ≡ Some job → HasSmallNumbers job
generate_small None [] job is = cc
generate_small None (a ∷ []) job is = cc
generate_small None (a ∷ b ∷ []) job is = cc
generate_small None (seed ∷ functions ∷ addresses ∷ []) job is = numbers_small seed functions addresses job is
generate_small None (a ∷ b ∷ c ∷ d ∷ args) job is = cc
generate_small (Some text) args job is = cc

batch_small : (input : Option Text) (target : Target) (job : Job) → batch_in input target ≡ Some job → HasSmallNumbers job
batch_small input target job is =
    let kind = map_some (λ kind. Batch target kind) (kind_for target input) job is in
    subst HasSmallNumbers kind.2 tt

process_small : (input : Option Text) (text : Text) (job : Job) → process_in input text ≡ Some job → HasSmallNumbers job
process_small input text job is =
    let pid = then_some (λ pid. batch_in input (Process pid)) (number_in 4294967295 text) job is in
    batch_small input (Process pid.0) job pid.2

path_small : (kind path : Text) (job : Job) → path_job kind path ≡ Some job → HasSmallNumbers job
path_small kind path job =
    cond_both (bytes_eq kind (codes "convert")) _ _ (λ read. read ≡ Some job → HasSmallNumbers job)
    (λ here is. let same : Make (Converted path) ≡ job = cc in subst HasSmallNumbers same tt)
    (λ other. cond_both (bytes_eq kind (codes "canon")) _ _ (λ read. read ≡ Some job → HasSmallNumbers job)
    (λ here is. let same : Make (Canonical path) ≡ job = cc in subst HasSmallNumbers same tt)
    (λ other. cond_both (bytes_eq kind (codes "stacks")) _ _ (λ read. read ≡ Some job → HasSmallNumbers job)
    (λ here is. let same : Stacks path ≡ job = cc in subst HasSmallNumbers same tt)
    (λ other. cond_both (bytes_eq kind (codes "frames")) _ _ (λ read. read ≡ Some job → HasSmallNumbers job)
    (λ here is. let same : Frames path ≡ job = cc in subst HasSmallNumbers same tt)
    (λ other is. cc))))

on_path_small : (kind : Text) (input : Option Text) (path : Text) (job : Job) → on_path_in kind input path ≡ Some job → HasSmallNumbers job
on_path_small kind None path job is = path_small kind path job is
on_path_small kind (Some text) path job is = cc

on_small : (kind : Text) (input : Option Text) (arg : Text) (job : Job) → job_on kind input arg ≡ Some job → HasSmallNumbers job
on_small kind input arg job =
    cond_both (bytes_eq kind (codes "breakpad")) _ _ (λ read. read ≡ Some job → HasSmallNumbers job)
    (λ here is. batch_small input (Breakpad arg) job is)
    (λ other. cond_both (bytes_eq kind (codes "gsym")) _ _ (λ read. read ≡ Some job → HasSmallNumbers job)
    (λ here is. batch_small input (Gsym arg) job is)
    (λ other. cond_both (bytes_eq kind (codes "elf")) _ _ (λ read. read ≡ Some job → HasSmallNumbers job)
    (λ here is. batch_small input (Elf arg) job is)
    (λ other. cond_both (bytes_eq kind (codes "process")) _ _ (λ read. read ≡ Some job → HasSmallNumbers job)
    (λ here is. process_small input arg job is)
    (λ other is. on_path_small kind input arg job is))))

argument_small : (kind : Text) (input : Option Text) (args : List Text) (job : Job) → with_argument kind input args ≡ Some job → HasSmallNumbers job
argument_small kind input [] job is = cc
argument_small kind input (arg ∷ []) job is = on_small kind input arg job is
argument_small kind input (a ∷ b ∷ args) job is = cc

job_small : (kind : Text) (input : Option Text) (args : List Text) (job : Job) → job_by kind input args ≡ Some job → HasSmallNumbers job
job_small kind input args job =
    cond_both (bytes_eq kind (codes "serve")) _ _ (λ read. read ≡ Some job → HasSmallNumbers job)
    (λ here is. serve_small input args job is)
    (λ other. cond_both (bytes_eq kind (codes "gen")) _ _ (λ read. read ≡ Some job → HasSmallNumbers job)
    (λ here is. generate_small input args job is)
    (λ other is. argument_small kind input args job is))

given_small : (kind : Option Text) (input : Option Text) (args : List Text) (job : Job) → job_in kind input args ≡ Some job → HasSmallNumbers job
given_small None input args job is = cc
given_small (Some kind) input args job is = job_small kind input args job is

rows_small : (found : List Row) (command : Command) → command_by found ≡ Some command → HasSmallNumbers command.job
rows_small found command is =
    let given = map_some (λ job. record { config = config_in found; job = job }) (job_by_rows found) command is in
    subst (λ (c : Command). HasSmallNumbers c.job) given.2 (given_small (first_of (codes "kind") found) (first_of (codes "input") found) (unwrap_or (all_of (codes "arg") found) []) given.0 given.1)

unless_some : {A B : Type 0} (all : List A) (read : Option B) (y : B) → unless_faulty all read ≡ Some y → read ≡ Some y
unless_some [] read y is = is
unless_some (fault ∷ others) read y is = cc

-- those of the words' command are
pub command_small : (words : List Text) (command : Command) → command_in words ≡ Some command → HasSmallNumbers command.job
command_small words command is = rows_small (rows words) command (unless_some (faults words) (command_read words) command is)
