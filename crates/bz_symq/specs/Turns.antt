-- What is done to input and files for a reply, and in which order.
use Rattle.std.specs.Prelude.{◌≡◌, ◌⊎◌, ℕ, ◌+◌, ◌≤◌, false, List, Option, Result, Ok, Err, IfOk}
use Rattle.bz_base.specs.declared.error.Error.{Error}
use Rattle.bz_files.specs.Count.{CountsFaults, counted}
use Rattle.bz_files.specs.Looked.{Looked, ReadsOne}
use Rattle.bz_files.specs.World.{Told, in_view}
use Rattle.bz_files.specs.declared.files.Files as files_trait
use Rattle.bz_files.specs.declared.text.TextIn as input_trait
use Rattle.bz_requests.specs.Addresses.{addresses_in}
use Rattle.bz_requests.specs.declared.requests.Config.{Config}
use Rattle.bz_symq.specs.Command.{Asking, Batch, Command, Make, OneFile, OneProcess, Product, Target}
use Rattle.bz_requests.specs.InputText.{greatest_input, MovesAtMost}
use Rattle.bz_symq.specs.Processes.{process_batch}
use Rattle.bz_symq.specs.Run.{IsBadInput, IsReadWhole}
use Rattle.bz_symq.specs.Targets.{takes}
use Rattle.bz_symq.specs.declared.reply.Reply.{Reply}

-- a reply was to be made: the input comes first, then the files
pub record TakesTurns {R F : Type 0} (reads : input_trait.Ghosts R) (looks : files_trait.Ghosts F) (command : Command) (result : Result Reply Error)
    (input_before input_after : R) (files_before files_after : F) : Type 0 where
  -- what isn't asked is left alone
  pub unasked : (product : Product) → command ≡ Make product → input_after ≡ input_before
  pub unlooked : Told (reads.left input_before) (λ text. IsBadInput command text → files_after ≡ files_before)
  pub untaken : (asking : Asking) → command ≡ Batch asking → takes asking.target asking.kind ≡ false → files_after ≡ files_before
  -- a reply that is given has read the input, and none reads on past the byte that makes it too long
  pub read : IfOk result (λ given. IsReadWhole command (reads.left input_before) (reads.left input_after))
  pub bounded : MovesAtMost (greatest_input + 1) (reads.left input_before) (reads.left input_after)
  -- until the input is read, no file is looked at
  pub order : (files_after ≡ files_before) ⊎ IsReadWhole command (reads.left input_before) (reads.left input_after)

-- one file at most was read, and where the run is done one was
pub record ReadsOneFor {F : Type 0} (looks : files_trait.Ghosts F) (answered : Type 0) (before after : F) : Type 0 where
  pub most : ReadsOne looks before after
  pub opened : Told (in_view (looks.worlds before)) (λ world. answered → looks.opens after ≡ counted (looks.opens before))

-- how many files were read for an input that is read so. Where a file is asked, it is one at most,
-- and one where the run is done. Where a process is asked, it is none at a bad line, and else no
-- more than its batch reads
abbrev pub ReadsForInput : {F : Type 0} → files_trait.Ghosts F → Config → Target → Result (List ℕ) ℕ → Type 0 → F → F → Type 0
ReadsForInput looks config (OneFile file) read answered before after = ReadsOneFor looks answered before after
ReadsForInput looks config (OneProcess number) (Err n) answered before after = looks.opens after ≡ looks.opens before
ReadsForInput looks config (OneProcess number) (Ok addrs) answered before after =
    Told (in_view (looks.worlds before)) (λ world. looks.opens after ≤ looks.opens before + (process_batch config number (looks.pid before) addrs world).opens)

-- what was read for a batch, with what is left of the input
abbrev pub ReadsForBatch : {F : Type 0} → files_trait.Ghosts F → Config → Target → Option (List ℕ) → Type 0 → F → F → Type 0
ReadsForBatch looks config (OneFile file) left answered before after = ReadsOneFor looks answered before after
ReadsForBatch looks config (OneProcess number) left answered before after =
    Told left (λ text. (addrs : List ℕ) → addresses_in text ≡ Ok addrs → ReadsForInput looks config (OneProcess number) (Ok addrs) answered before after)

-- and for a command
abbrev pub ReadsFor : {F : Type 0} → files_trait.Ghosts F → Command → Option (List ℕ) → Type 0 → F → F → Type 0
ReadsFor looks (Make product) left answered before after = ReadsOneFor looks answered before after
ReadsFor looks (Batch asking) left answered before after = ReadsForBatch looks asking.config asking.target left answered before after

-- one side at most failed: the input, and then the files are as they were; or the files, and no
-- call of the input failed
abbrev pub FailsAtOne : {R F : Type 0} → input_trait.Ghosts R → files_trait.Ghosts F → Type 0 → R → R → F → F → Type 0
FailsAtOne reads looks failed input_before input_after files_before files_after =
    ((files_after ≡ files_before) × CountsFaults (reads.faults input_before) (reads.faults input_after) failed)
    ⊎ ((reads.faults input_after ≡ reads.faults input_before) × Looked looks files_before files_after failed)
