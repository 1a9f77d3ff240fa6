-- How many files a run reads.
use Rattle.std.proofs.Common.{◌≡◌, ℕ, ◌+◌, ◌≤◌, List, Option, Some, Result, Ok, Err, refl, ap, subst, ◌∙◌, inl, arith}
use Rattle.bz_files.specs.Count.{counted}
use Rattle.bz_files.specs.Looked.{ReadsOne}
use Rattle.bz_files.specs.World.{Told, in_view}
use Rattle.bz_files.specs.declared.files.Files as files_trait
use Rattle.bz_requests.specs.Addresses.{addresses_in}
use Rattle.bz_requests.specs.declared.requests.Config.{Config}
use Rattle.bz_symq.specs.Command.{Asking, Command, Batch, Make, Target, OneFile, OneProcess, seen_by}
use Rattle.bz_symq.specs.Processes.{process_batch}
use Rattle.bz_symq.specs.Run.{Asks, UnlessProcess, UnlessProcessTarget}
use Rattle.bz_symq.specs.Turns.{ReadsFor, ReadsForBatch, ReadsForInput}
use Rattle.bz_requests.proofs.InputTextLemmas.{addresses_again}

module _ {F : Type 0} (looks : files_trait.Ghosts F) (answered : Type 0) (before after : F) where
  -- one file at most was read, unless a process was asked
  most_by_target : (config : Config) (target : Target) (left : Option (List ℕ)) → ReadsForBatch looks config target left answered before after → UnlessProcessTarget target (ReadsOne looks before after)
  most_by_target config (OneFile file) left reads = reads.most
  most_by_target config (OneProcess number) left reads = tt

  pub most_read : (command : Command) (left : Option (List ℕ)) → ReadsFor looks command left answered before after → UnlessProcess command (ReadsOne looks before after)
  most_read (Make product) left reads = reads.most
  most_read (Batch asking) left reads = most_by_target asking.config asking.target left reads

  -- and one where the run is done
  opened_by_target : (config : Config) (done : Type 0) (target : Target) (left : Option (List ℕ)) → (done → answered) → ReadsForBatch looks config target left answered before after →
      UnlessProcessTarget target (Told (in_view (looks.worlds before)) (λ world. done → looks.opens after ≡ counted (looks.opens before)))
  opened_by_target config done (OneFile file) left from reads = λ world seen is. reads.opened world seen (from is)
  opened_by_target config done (OneProcess number) left from reads = tt

  pub one_opened : (done : Type 0) (command : Command) (left : Option (List ℕ)) → (done → answered) → ReadsFor looks command left answered before after →
      UnlessProcess command (Told (in_view (looks.worlds before)) (λ world. done → looks.opens after ≡ counted (looks.opens before)))
  one_opened done (Make product) left from reads = λ world seen is. reads.opened world seen (from is)
  one_opened done (Batch asking) left from reads = opened_by_target asking.config done asking.target left from reads

  -- for a process no more than its batch reads
  pub few_read : (command : Command) (left : Option (List ℕ)) → ReadsFor looks command left answered before after →
      Told (seen_by command left) (λ text. Told (in_view (looks.worlds before)) (λ world. (asking : Asking) (number : ℕ) (addrs : List ℕ) → Asks command text asking addrs → asking.target ≡ OneProcess number →
      looks.opens after ≤ looks.opens before + (process_batch asking.config number (looks.pid before) addrs world).opens))
  few_read command left reads text seen world told asking number addrs asks is =
      let of_batch = subst (λ command. ReadsFor looks command left answered before after) asks.command_is reads in
      let of_process = subst (λ target. ReadsForBatch looks asking.config target left answered before after) is of_batch in
      let whole = subst (λ command. seen_by command left ≡ Some text) asks.command_is seen in
      of_process text whole addrs (addresses_again text addrs asks.input_is) world told

  -- where nothing is looked at, and the run isn't done, no file was read
  pub none_read : (config : Config) (target : Target) (read : Result (List ℕ) ℕ) → (answered → ⊥) → after ≡ before → ReadsForInput looks config target read answered before after
  none_read config (OneFile file) read never same = record { most = inl (rw same refl); opened = λ world seen done. absurd (never done) }
  none_read config (OneProcess number) (Err n) never same = rw same refl
  none_read config (OneProcess number) (Ok addrs) never same = λ world seen. rw same (omega arith)

  -- what was read for the answers to an input was read for the batch
  pub input_reads : (config : Config) (target : Target) (left : Option (List ℕ)) (text : List ℕ) → Told left (λ whole. text ≡ whole) → ReadsForInput looks config target (addresses_in text) answered before after →
      ReadsForBatch looks config target left answered before after
  input_reads config (OneFile file) left text whole reads = reads
  input_reads config (OneProcess number) left text whole reads = λ given told addrs is.
      subst (λ read. ReadsForInput looks config (OneProcess number) read answered before after) (ap addresses_in (whole given told) ∙ is) reads

  -- and where nothing is looked at none is
  pub none_read_for : (config : Config) (target : Target) (left : Option (List ℕ)) → (answered → ⊥) → after ≡ before → ReadsForBatch looks config target left answered before after
  none_read_for config (OneFile file) left never same = none_read config (OneFile file) (Err 0) never same
  none_read_for config (OneProcess number) left never same = λ text told addrs is. none_read config (OneProcess number) (Ok addrs) never same
