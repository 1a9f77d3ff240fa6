-- How many steps the searches of a run take.
use Rattle.std.specs.Prelude.{◌≡◌, ◌⊎◌, ℕ, List, length, Option, Result, Ok, Err}
use Rattle.bz_base.specs.Answer.{Answer}
use Rattle.bz_base.specs.InputKind.{AddressKind}
use Rattle.bz_files.specs.World.{Told}
use Rattle.bz_requests.specs.Addresses.{addresses_in}
use Rattle.bz_requests.specs.declared.requests.Config.{Config}
use Rattle.bz_lookups.specs.Counted.{breakpad_steps, no_steps}
use Rattle.bz_symq.specs.Command.{Command, Batch, Make, FileTarget, Breakpad, Gsym, Elf, Target, OneFile, OneProcess}
use Rattle.bz_symq.specs.Targets.{IsBatch, IsVersion}

-- those of a batch of so many addresses in bytes of the file's source: of a Breakpad file few for
-- its table; none of others
abbrev pub StepsIn : FileTarget → List ℕ → ℕ → ℕ → ℕ → Type 0
StepsIn (Breakpad path) bytes addrs before after = breakpad_steps bytes addrs before after
StepsIn (Gsym path) bytes addrs before after = no_steps bytes addrs before after
StepsIn (Elf path) bytes addrs before after = no_steps bytes addrs before after

-- the answers are those of some bytes in the format of the file's source, in which the
-- addresses were found in few steps
abbrev pub AnswersInFew : FileTarget → AddressKind → Config → List ℕ → List Answer → ℕ → ℕ → Type 0
AnswersInFew file kind config addrs answers before after =
    (bytes : List ℕ) × IsBatch file kind config bytes addrs answers × StepsIn file bytes (length addrs) before after

-- a batch of a file's addresses took no step, or few in some bytes in its format;
-- one of a process took none
abbrev pub TakesFew : Target → ℕ → ℕ → ℕ → Type 0
TakesFew (OneFile file) addrs before after =
    (after ≡ before) ⊎ ((bytes : List ℕ) × IsVersion file bytes × StepsIn file bytes addrs before after)
TakesFew (OneProcess number) addrs before after = after ≡ before

-- an input: none where a line isn't well formed, and else those of its addresses
abbrev pub InputTakesFew : Target → Result (List ℕ) ℕ → ℕ → ℕ → Type 0
InputTakesFew target (Err n) before after = after ≡ before
InputTakesFew target (Ok addrs) before after = TakesFew target (length addrs) before after

-- a run, by its command and by what is left of its input: none, or those of that input
abbrev pub RunTakesFew : Command → Option (List ℕ) → ℕ → ℕ → Type 0
RunTakesFew (Make product) left before after = after ≡ before
RunTakesFew (Batch asking) left before after = Told left (λ text. (after ≡ before) ⊎ InputTakesFew asking.target (addresses_in text) before after)
