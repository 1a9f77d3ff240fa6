-- What a run of the program promises: what it writes and ends with, and what it does to its input,
-- its output and the files.
use Rattle.std.specs.Prelude.{◌≡◌, ◌≢◌, ◌⊎◌, ◌↔◌, ℕ, ◌+◌, ◌≤◌, false, List, [], ◌++◌, length, Option, Some, IsSome}
use Rattle.bz_base.specs.Answer.{Answer}
use Rattle.bz_base.specs.declared.error.Error.{Error}
use Rattle.bz_files.specs.Count.{CountsFaults, counted}
use Rattle.bz_files.specs.Looked.{Looked, ReadsOne}
use Rattle.bz_files.specs.World.{World, Told, in_view}
use Rattle.bz_files.specs.declared.files.Files as files_trait
use Rattle.bz_files.specs.declared.text.TextIn as input_trait
use Rattle.bz_files.specs.declared.text.TextOut as output_trait
use Rattle.bz_requests.specs.Addresses.{AreAddresses, IsAddress}
use Rattle.bz_canon.specs.AnswerText.{answer_texts}
use Rattle.bz_symq.specs.Command.{Asking, Batch, Command, Make, OneFile, OneProcess, Product, Target, seen_by}
use Rattle.bz_requests.specs.InputText as inputs
use Rattle.bz_requests.specs.InputText.{greatest_input, MovesAtMost}
use Rattle.bz_symq.specs.Outcome.{Outcome, NamesBad, refused, refused_as, run_outcome}
use Rattle.bz_symq.specs.Processes.{process_batch}
use Rattle.bz_symq.specs.Products.{MadeIn, MadeOfSome, UnmadeIn, UnmadeOfSome}
use Rattle.bz_symq.specs.Targets.{HasAnswers, AnswersIn, AnswersSome, IsCause, IsSomeCause, takes}
use Rattle.bz_symq.specs.declared.status.Status.{Status}
use Rattle.bz_symq.specs.declared.status.Status.TheVariants as statuses

-- a front of the text was written after what stood there
abbrev pub WritesFront : List ℕ → List ℕ → Option (List ℕ) → Type 0
WritesFront text old new = (front : List ℕ) × (rest : List ℕ) × (text ≡ front ++ rest) × (new ≡ Some (old ++ front))

-- the run ends as the outcome says and has written its text; or it failed and has
-- written a front of that text
abbrev pub Ends : Outcome → List ℕ → Status → Option (List ℕ) → Type 0
Ends expected old statuses.Fault new = WritesFront expected.text old new
Ends expected old statuses.Memory new = WritesFront expected.text old new
Ends expected old status new = (expected.status ≡ status) × (new ≡ Some (old ++ expected.text))

-- the run ends with the status, or it failed
abbrev pub IsOrFails : Status → Status → Type 0
IsOrFails expected status = (status ≡ expected) ⊎ ((status ≡ statuses.Fault) ⊎ (status ≡ statuses.Memory))

-- the status is one of those that a run ends with where nothing failed
abbrev pub IsNoFailure : Status → Type 0
IsNoFailure status = (status ≢ statuses.Fault) × (status ≢ statuses.Memory)

-- the command asks for these answers, and the input is the addresses
pub record Asks (command : Command) (input : List ℕ) (asking : Asking) (addrs : List ℕ) : Type 0 where
  pub command_is : command ≡ Batch asking
  pub short : length input ≤ greatest_input
  pub input_is : AreAddresses input addrs

-- the run is asked for addresses of a source that has answers: a file in its format, or a process
-- of which mappings are told
pub record IsAnswerable (command : Command) (input : List ℕ) (world : World) : Type 0 where
  pub asking : Asking
  pub addrs : List ℕ
  pub asks : Asks command input asking addrs
  pub answerable : HasAnswers asking world

-- the run was asked for addresses of a source that has answers, and wrote the texts of its plain
-- answers to them in order
pub record IsDone (command : Command) (input : List ℕ) (world : World) (own : ℕ) (old : List ℕ) (new : Option (List ℕ)) : Type 0 where
  pub asking : Asking
  pub addrs : List ℕ
  pub answers : List Answer
  pub asks : Asks command input asking addrs
  pub answers_are : AnswersIn asking world own addrs answers
  pub written : new ≡ Some (old ++ answer_texts addrs answers)

-- whatever the files tell, the run was asked for addresses, and wrote the texts of answers to them in
-- order. Of a file these are the plain answers of some bytes in its format. Of a process they are by
-- some text of its mappings and some versions of its files
pub record IsSomeDone (command : Command) (input : List ℕ) (own : ℕ) (old : List ℕ) (new : Option (List ℕ)) : Type 0 where
  pub asking : Asking
  pub addrs : List ℕ
  pub answers : List Answer
  pub asks : Asks command input asking addrs
  pub answers_are : AnswersSome asking own addrs answers
  pub written : new ≡ Some (old ++ answer_texts addrs answers)

-- the run is asked for addresses of a source that has no answers
pub record IsRefusable (command : Command) (input : List ℕ) (world : World) : Type 0 where
  pub asking : Asking
  pub addrs : List ℕ
  pub refusal : Error
  pub asks : Asks command input asking addrs
  pub cause : IsCause asking world refusal

-- the run was asked for addresses of a source that has no answers: the refusal is what was written
pub record IsRefused (command : Command) (input : List ℕ) (world : World) (old : List ℕ) (new : Option (List ℕ)) : Type 0 where
  pub refusable : IsRefusable command input world
  pub written : new ≡ Some (old ++ (refused refusable.refusal).text)

-- whatever the files tell, the run was asked for addresses, and a refusal that their source may
-- have is what was written
pub record IsSomeRefused (command : Command) (input old : List ℕ) (new : Option (List ℕ)) : Type 0 where
  pub asking : Asking
  pub addrs : List ℕ
  pub refusal : Error
  pub asks : Asks command input asking addrs
  pub cause : IsSomeCause asking refusal
  pub written : new ≡ Some (old ++ (refused refusal).text)

-- the run is asked for a product that can be made of its file
pub record IsMakeable (command : Command) (world : World) : Type 0 where
  pub product : Product
  pub made : List ℕ
  pub asks : command ≡ Make product
  pub made_is : MadeIn product world made

-- the run was asked for a product, which was made of its file, and is what was written
pub record IsMade (command : Command) (world : World) (old : List ℕ) (new : Option (List ℕ)) : Type 0 where
  pub makeable : IsMakeable command world
  pub written : new ≡ Some (old ++ makeable.made)

-- the run was asked for a product, and whatever the files tell, what some Breakpad file
-- makes is what was written
pub record IsSomeMade (command : Command) (old : List ℕ) (new : Option (List ℕ)) : Type 0 where
  pub product : Product
  pub made : List ℕ
  pub asks : command ≡ Make product
  pub made_is : MadeOfSome product made
  pub written : new ≡ Some (old ++ made)

-- the run is asked for a product that can't be made of its file
pub record IsUnmakeable (command : Command) (world : World) : Type 0 where
  pub product : Product
  pub name : List ℕ
  pub asks : command ≡ Make product
  pub cause : UnmadeIn product world name

-- the run was asked for such a product: the refusal is what was written
pub record IsUnmade (command : Command) (world : World) (old : List ℕ) (new : Option (List ℕ)) : Type 0 where
  pub unmakeable : IsUnmakeable command world
  pub written : new ≡ Some (old ++ (refused_as unmakeable.name).text)

-- whatever the files tell, the run was asked for a product, and a refusal that it may
-- have is what was written
pub record IsSomeUnmade (command : Command) (old : List ℕ) (new : Option (List ℕ)) : Type 0 where
  pub product : Product
  pub name : List ℕ
  pub asks : command ≡ Make product
  pub cause : UnmadeOfSome product name
  pub written : new ≡ Some (old ++ (refused_as name).text)

-- the command asks for answers, and the input is too long for that, or has a
-- line that isn't well formed
abbrev pub IsBadInput : Command → List ℕ → Type 0
IsBadInput command input =
    (asking : Asking) × (command ≡ Batch asking) × inputs.IsBadInput IsAddress input

-- what is bad of an input of such lines was named by what was written
abbrev pub IsBadNamed : {A : Type 0} → (List ℕ → A → Type 0) → List ℕ → List ℕ → Option (List ℕ) → Type 0
IsBadNamed Spells text old new = (said : List ℕ) × NamesBad Spells text said × (new ≡ Some (old ++ said))

-- what a run comes to has the status exactly where the command, the input and the world are such
abbrev pub ComesExactlyWhere : Status → (Command → List ℕ → World → Type 0) → Type 0
ComesExactlyWhere status Such = (command : Command) (input : List ℕ) (world : World) (own : ℕ) →
    ((run_outcome command input world own).status ≡ status) ↔ Such command input world

-- where a run ended by the status, as its outcome, what it was asked for and
-- what it has written are such
abbrev pub EndsOnlyWhere : Status → (Command → List ℕ → World → ℕ → List ℕ → Option (List ℕ) → Type 0) → Type 0
EndsOnlyWhere status Such = (command : Command) (input : List ℕ) (world : World) (own : ℕ) (old : List ℕ) (new : Option (List ℕ)) →
    Ends (run_outcome command input world own) old status new → Such command input world own old new

-- the input at which answers are asked for was read: to its end, or to the byte that makes it too long
abbrev pub IsReadWhole : Command → Option (List ℕ) → Option (List ℕ) → Type 0
IsReadWhole command before after = (asking : Asking) → command ≡ Batch asking → inputs.IsReadWhole before after

-- this holds, unless a process is asked
abbrev pub UnlessProcessTarget : Target → Type 0 → Type 0
UnlessProcessTarget (OneFile file) P = P
UnlessProcessTarget (OneProcess number) P = Unit {0}

-- the same by the command
abbrev pub UnlessProcess : Command → Type 0 → Type 0
UnlessProcess (Make product) P = P
UnlessProcess (Batch asking) P = UnlessProcessTarget asking.target P

-- the sides of a run: what it reads, what it looks at and what it writes to
pub data Side : Type 0 where
  AtInput : Side
  AtFiles : Side
  AtOutput : Side

-- at which side a call failed, if one did, in a run that ends by a fault exactly then. At that side the
-- count of faults rose, at the others it stands still: no failed call is hidden behind another status.
pub record Fails {R W F : Type 0} (reads : input_trait.Ghosts R) (writes : output_trait.Ghosts W) (looks : files_trait.Ghosts F) (status : Status)
    (input_before input_after : R) (output_before output_after : W) (files_before files_after : F) : Type 0 where
  pub failed : Option Side
  pub fault : (status ≡ statuses.Fault) ↔ IsSome failed
  pub input_faults : CountsFaults (reads.faults input_before) (reads.faults input_after) (failed ≡ Some AtInput)
  pub output_faults : CountsFaults (writes.faults output_before) (writes.faults output_after) (failed ≡ Some AtOutput)
  -- no other world of files comes into view
  pub files : Looked looks files_before files_after (failed ≡ Some AtFiles)
  -- where the input failed, no file was looked at and nothing was written
  pub unreached : failed ≡ Some AtInput → (files_after ≡ files_before) × (output_after ≡ output_before)
  -- files are looked at only while the output is as it was, so they fail only then
  pub untouched : failed ≡ Some AtFiles → output_after ≡ output_before

-- all that a run promises
pub record Runs {R W F : Type 0} (reads : input_trait.Ghosts R) (writes : output_trait.Ghosts W) (looks : files_trait.Ghosts F) (command : Command) (ended : Status)
    (input_before input_after : R) (output_before output_after : W) (files_before files_after : F) : Type 0 where
  -- the run wrote the outcome's text and ended by its status, or it failed and
  -- wrote a front of that text
  pub ends : Told (seen_by command (reads.left input_before)) (λ text. Told (in_view (looks.worlds files_before)) (λ world. Told (writes.written output_before) (λ old.
      Ends (run_outcome command text world (looks.pid files_before)) old ended (writes.written output_after))))
  pub status : Told (seen_by command (reads.left input_before)) (λ text. Told (in_view (looks.worlds files_before)) (λ world.
      IsOrFails (run_outcome command text world (looks.pid files_before)).status ended))
  -- status 0 means that the answers or the product that were asked for are what was written
  pub done : ended ≡ statuses.Done →
      Told (seen_by command (reads.left input_before)) (λ text. Told (in_view (looks.worlds files_before)) (λ world. Told (writes.written output_before) (λ old.
      IsDone command text world (looks.pid files_before) old (writes.written output_after) ⊎ IsMade command world old (writes.written output_after))))
  -- and whatever the files tell, that these are answers that the source may have, or a
  -- product that some file makes
  pub answered : ended ≡ statuses.Done → Told (seen_by command (reads.left input_before)) (λ text. Told (writes.written output_before) (λ old.
      IsSomeDone command text (looks.pid files_before) old (writes.written output_after) ⊎ IsSomeMade command old (writes.written output_after)))
  -- status 1 means that the source has no answers or the product can't be made, and that the
  -- refusal is what was written
  pub refused : ended ≡ statuses.Refused →
      Told (seen_by command (reads.left input_before)) (λ text. Told (in_view (looks.worlds files_before)) (λ world. Told (writes.written output_before) (λ old.
      IsRefused command text world old (writes.written output_after) ⊎ IsUnmade command world old (writes.written output_after))))
  -- and whatever the files tell, that the refusal is one that the source or the product may have
  pub refusal : ended ≡ statuses.Refused → Told (seen_by command (reads.left input_before)) (λ text. Told (writes.written output_before) (λ old.
      IsSomeRefused command text old (writes.written output_after) ⊎ IsSomeUnmade command old (writes.written output_after)))
  -- status 2 is for words that give no command, and command and input alone decide on status 3
  pub usage : ended ≢ statuses.Usage
  pub input : Told (seen_by command (reads.left input_before)) (λ text.
      (ended ≡ statuses.Input → IsBadInput command text) × (IsBadInput command text → IsOrFails statuses.Input ended))
  -- and whatever the files tell, status 3 means that what was written names what is bad of the input
  pub named : ended ≡ statuses.Input → Told (seen_by command (reads.left input_before)) (λ text. Told (writes.written output_before) (λ old.
      IsBadNamed IsAddress text old (writes.written output_after)))
  -- a source that has answers is answered, and a product that can be made is made, unless something
  -- fails or memory runs out
  pub complete : Told (seen_by command (reads.left input_before)) (λ text. Told (in_view (looks.worlds files_before)) (λ world.
      IsAnswerable command text world ⊎ IsMakeable command world → IsOrFails statuses.Done ended))
  -- a source that has none is refused, and a product that can't be made, unless something
  -- fails or memory runs out
  pub refuses : Told (seen_by command (reads.left input_before)) (λ text. Told (in_view (looks.worlds files_before)) (λ world.
      IsRefusable command text world ⊎ IsUnmakeable command world → IsOrFails statuses.Refused ended))
  -- no input is read for a product, and no file is looked at for a bad input or for addresses
  -- that the target doesn't take
  pub unasked : (product : Product) → command ≡ Make product → input_after ≡ input_before
  pub unlooked : Told (reads.left input_before) (λ text. IsBadInput command text → files_after ≡ files_before)
  pub untaken : (asking : Asking) → command ≡ Batch asking → takes asking.target asking.kind ≡ false → files_after ≡ files_before
  -- a run that doesn't fail has read the input, and no run reads on past the
  -- byte that makes it too long
  pub read : IsNoFailure ended → IsReadWhole command (reads.left input_before) (reads.left input_after)
  pub bounded : MovesAtMost (greatest_input + 1) (reads.left input_before) (reads.left input_after)
  -- until the input is read, no file is looked at and nothing is written
  pub order : ((files_after ≡ files_before) × (output_after ≡ output_before)) ⊎ IsReadWhole command (reads.left input_before) (reads.left input_after)
  -- where there is nothing to write, the output is left alone
  pub silent : Told (seen_by command (reads.left input_before)) (λ text. Told (in_view (looks.worlds files_before)) (λ world.
      (run_outcome command text world (looks.pid files_before)).text ≡ [] → output_after ≡ output_before))
  -- one file at most is read, and where a run is done one was; unless a process is asked
  pub most : UnlessProcess command (ReadsOne looks files_before files_after)
  pub opened : UnlessProcess command (Told (in_view (looks.worlds files_before)) (λ world.
      ended ≡ statuses.Done → looks.opens files_after ≡ counted (looks.opens files_before)))
  -- for a process no more files are read than its batch reads
  pub process : Told (seen_by command (reads.left input_before)) (λ text. Told (in_view (looks.worlds files_before)) (λ world.
      (asking : Asking) (number : ℕ) (addrs : List ℕ) → Asks command text asking addrs → asking.target ≡ OneProcess number →
      looks.opens files_after ≤ looks.opens files_before + (process_batch asking.config number (looks.pid files_before) addrs world).opens))
  -- a fault comes exactly where a call failed, on one side at most, and of the
  -- files only before the output
  pub fails : Fails reads writes looks ended input_before input_after output_before output_after files_before files_after
  pub fault : ended ≡ statuses.Fault → (reads.faults input_after ≡ counted (reads.faults input_before))
      ⊎ ((writes.faults output_after ≡ counted (writes.faults output_before)) ⊎ (looks.faults files_after ≡ counted (looks.faults files_before)))
  pub steady : (ended ≡ statuses.Fault) ⊎ ((reads.faults input_after ≡ reads.faults input_before) × (writes.faults output_after ≡ writes.faults output_before)
      × (looks.faults files_after ≡ looks.faults files_before))
  pub before_output : (looks.faults files_after ≡ looks.faults files_before) ⊎ (output_after ≡ output_before)
