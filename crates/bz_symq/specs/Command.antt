-- What a run is asked for.
use Rattle.std.specs.Prelude.{ℕ, List, [], Option, Some}
use Rattle.bz_base.specs.InputKind.{AddressKind, address_kind}
use Rattle.bz_requests.specs.declared.requests.Config.{Config}
use Rattle.bz_symq.specs.declared.command.Batch as lent_batch
use Rattle.bz_symq.specs.declared.command.Command as lent_command
use Rattle.bz_symq.specs.declared.command.Command.TheVariants as commands
use Rattle.bz_symq.specs.declared.command.FileBatch as lent_file_batch
use Rattle.bz_symq.specs.declared.command.FileTarget as lent_file
use Rattle.bz_symq.specs.declared.command.FileTarget.TheVariants as files
use Rattle.bz_symq.specs.declared.command.ProcessBatch as lent_process_batch
use Rattle.bz_symq.specs.declared.command.Product as lent_product
use Rattle.bz_symq.specs.declared.command.Product.TheVariants as products
use Rattle.bz_symq.specs.declared.command.Target as lent_target
use Rattle.bz_symq.specs.declared.command.Target.TheVariants as targets

-- a file that answers addresses
pub data FileTarget : Type 0 where
  -- the Breakpad file at a path
  Breakpad : List ℕ → FileTarget
  -- the GSYM file at a path
  Gsym : List ℕ → FileTarget
  -- the ELF file at a path
  Elf : List ℕ → FileTarget

-- what answers addresses
pub data Target : Type 0 where
  -- a file
  OneFile : FileTarget → Target
  -- the process with an id; 0 stands for the own one
  OneProcess : ℕ → Target

-- what answers the addresses of the input, what they are relative to, and how it is asked
pub record Asking : Type 0 where
  pub target : Target
  pub kind : AddressKind
  pub config : Config

-- a file is asked so
abbrev pub of_file : FileTarget → AddressKind → Config → Asking
of_file file kind config = record { target = OneFile file; kind = kind; config = config }

-- and a process
abbrev pub of_process : ℕ → AddressKind → Config → Asking
of_process number kind config = record { target = OneProcess number; kind = kind; config = config }

-- what is made of one file, and written as it is
pub data Product : Type 0 where
  -- the GSYM bytes of the Breakpad file at a path
  Converted : List ℕ → Product
  -- the canonical text of the Breakpad file at a path
  Canonical : List ℕ → Product

-- what a run is asked for
pub data Command : Type 0 where
  -- the answers to the addresses of the input
  Batch : Asking → Command
  -- a product; the input isn't read
  Make : Product → Command

-- the same of the values that the code has, whose words are lent
abbrev pub file_target_of : lent_file.FileTarget → FileTarget
file_target_of (files.Breakpad path) = Breakpad path.now
file_target_of (files.Gsym path) = Gsym path.now
file_target_of (files.Elf path) = Elf path.now

abbrev pub target_of : lent_target.Target → Target
target_of (targets.File file) = OneFile (file_target_of file)
target_of (targets.Process number) = OneProcess number

abbrev pub asking_of : lent_batch.Batch → Asking
asking_of batch = record { target = target_of batch.target; kind = address_kind batch.kind; config = batch.config }

-- what a batch of a file asks, and one of a process
abbrev pub file_asking : lent_file_batch.FileBatch → Asking
file_asking batch = of_file (file_target_of batch.file) (address_kind batch.kind) batch.config

abbrev pub process_asking : lent_process_batch.ProcessBatch → Asking
process_asking batch = of_process batch.number (address_kind batch.kind) batch.config

abbrev pub product_of : lent_product.Product → Product
product_of (products.Converted path) = Converted path.now
product_of (products.Canonical path) = Canonical path.now

abbrev pub command_of : lent_command.Command → Command
command_of (commands.Batch batch) = Batch (asking_of batch)
command_of (commands.Make product) = Make (product_of product)

-- an input as a command sees it: whole where answers are asked for, and else as if it were
-- empty, since it isn't read
abbrev pub seen_by : Command → Option (List ℕ) → Option (List ℕ)
seen_by (Batch asking) input = input
seen_by (Make product) input = Some []
