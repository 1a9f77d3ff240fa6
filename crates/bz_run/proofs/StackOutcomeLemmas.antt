-- What the outcome of a run says of its input and its file.
use Rattle.std.proofs.Common.{◌≡◌, ◌⊎◌, ℕ, ◌≤◌, Bool, true, false, List, ◌++◌, length, Option, Some, Result, Ok, Err, refl, sym, ap, ◌∙◌, inl, inr, ltb}
use Rattle.std.proofs.lemmas.Bool.{false≢true, le-ltb, ltb-false, ltb-true}
use Rattle.bz_base.specs.Answer.{Answer}
use Rattle.bz_base.specs.InputKind.{InFile}
use Rattle.bz_base.specs.declared.error.Error.{Error}
use Rattle.bz_files.specs.World.{World, entry_at}
use Rattle.bz_requests.proofs.LineGrammarLemmas.{items_again}
use Rattle.bz_requests.specs.declared.requests.Config.{Config}
use Rattle.bz_stacks.specs.Spelling.{IsStack, stack_in, stacks_in}
use Rattle.bz_stacks.specs.Stack.{CountedStack}
use Rattle.bz_stacks.proofs.SpellingLemmas.{stack_agrees}
use Rattle.bz_symq.specs.Command.{Asking, Breakpad, of_file}
use Rattle.bz_requests.specs.InputText.{AsksFor, IsBadInput, greatest_input}
use Rattle.bz_symq.specs.Outcome.{Outcome}
use Rattle.bz_symq.specs.Run.{Ends}
use Rattle.bz_symq.specs.Targets.{IsCause, IsFileCause, IsRefusalOf}
use Rattle.bz_symq.specs.declared.status.Status.TheVariants as statuses
use Rattle.bz_requests.proofs.InputTextLemmas.{asks_from_read, bad_from_read}
use Rattle.bz_symq.proofs.TargetLemmas.{answers_found, answers_given, cause_found, refusal_given}
use Rattle.bz_stacks.specs.Fold.{addrs_of}
use Rattle.bz_run.specs.StackOutcome.{answers_in, by_text, folded_by, stacks_outcome}
use Rattle.bz_run.specs.StackRun.{IsFoldable, IsFolded, IsRefusable, IsRefused}

-- the Breakpad file at a path is asked for offsets in it
abbrev asking_of : List ℕ → Config → Asking
asking_of path config = of_file (Breakpad path) InFile config

-- an answer by which a run is done is Ok, and one by which it is refused is a refusal
ok_from_done : (stacks : List CountedStack) (answer : Result (List Answer) Error) → (by_text (folded_by stacks answer)).status ≡ statuses.Done → (answers : List Answer) × (answer ≡ Ok answers)
ok_from_done stacks (Ok answers) done = (answers, refl)
ok_from_done stacks (Err e) done = cc

err_from_refused : (stacks : List CountedStack) (answer : Result (List Answer) Error) → (by_text (folded_by stacks answer)).status ≡ statuses.Refused → (e : Error) × (answer ≡ Err e)
err_from_refused stacks (Ok answers) refused = cc
err_from_refused stacks (Err e) refused = (e, refl)

module _ (path : List ℕ) (config : Config) (input : List ℕ) (world : World) where
  -- what a run that asks its file knows
  record IsAsking : Type 0 where
    stacks : List CountedStack
    asks : AsksFor IsStack input stacks
    ends : stacks_outcome path config input world ≡ by_text (folded_by stacks (answers_in path config world stacks))

  -- a run asks its file, or its input is bad and is named
  abbrev IsSorted : Type 0
  IsSorted = IsAsking ⊎ (IsBadInput IsStack input × ((stacks_outcome path config input world).status ≡ statuses.Input))

  sorted_read : length input ≤ greatest_input → ltb greatest_input (length input) ≡ false → (read : Result (List CountedStack) ℕ) → stacks_in input ≡ read → IsSorted
  sorted_read short fits (Ok stacks) is = inl (record { stacks = stacks; asks = asks_from_read stack_in IsStack stack_agrees input short stacks is; ends = rw (fits, is) refl })
  sorted_read short fits (Err n) is = inr (bad_from_read stack_in IsStack stack_agrees input (Err n) is refl, rw (fits, is) refl)

  sorted_long : (long : Bool) → ltb greatest_input (length input) ≡ long → IsSorted
  sorted_long true is = inr (inl (ltb-true _ _ is), rw is refl)
  sorted_long false is = sorted_read (ltb-false _ _ is) is (stacks_in input) refl

  sorted : IsSorted
  sorted = sorted_long (ltb greatest_input (length input)) refl

  -- stacks are folded by the answer of the file
  asked_outcome : (stacks : List CountedStack) → AsksFor IsStack input stacks → stacks_outcome path config input world ≡ by_text (folded_by stacks (answers_in path config world stacks))
  asked_outcome stacks asks = rw (le-ltb _ _ asks.short, items_again stack_in IsStack stack_agrees input stacks asks.items_are) refl

  -- the answers of a run that is done
  done_known : (known : IsAsking) → (stacks_outcome path config input world).status ≡ statuses.Done → (answers : List Answer) × (answers_in path config world known.stacks ≡ Ok answers)
  done_known known done = ok_from_done known.stacks (answers_in path config world known.stacks) (ap (λ (o : Outcome). o.status) (sym known.ends) ∙ done)

  -- why a file that takes offsets has no answers
  cause_of : (e : Error) → IsCause (asking_of path config) world e → IsFileCause (IsRefusalOf (Breakpad path) InFile) (entry_at world path) e
  cause_of e (inl (untaken, is)) = absurd (false≢true (sym untaken))
  cause_of e (inr (taken, cause)) = cause

  -- and of one that is refused
  refusable_known : (known : IsAsking) → (stacks_outcome path config input world).status ≡ statuses.Refused → (refusal : Error) × (answers_in path config world known.stacks ≡ Err refusal)
  refusable_known known refused = err_from_refused known.stacks (answers_in path config world known.stacks) (ap (λ (o : Outcome). o.status) (sym known.ends) ∙ refused)

  module _ (old : List ℕ) (new : Option (List ℕ)) where
    -- a run that ends as done has written its stacks, folded
    pub done_from_ends : Ends (stacks_outcome path config input world) old statuses.Done new → IsFolded path config input world old new
    done_from_ends ends = by_sort sorted
      where
        by_sort : IsSorted → IsFolded path config input world old new
        by_sort (inr (bad, is)) = let never : statuses.Input ≡ statuses.Done = sym is ∙ ends.0 in cc
        by_sort (inl known) =
            let given = done_known known ends.0 in
            record {
              stacks = known.stacks;
              answers = given.0;
              asks = known.asks;
              answers_are = (answers_found world 0 (addrs_of known.stacks) (asking_of path config) given.0 given.1).are;
              written = ends.1 ∙ ap (λ (o : Outcome). Some (old ++ o.text)) (known.ends ∙ ap (λ answer. by_text (folded_by known.stacks answer)) given.1);
            }

    -- a run that ends as refused has written why
    pub refused_from_ends : Ends (stacks_outcome path config input world) old statuses.Refused new → IsRefused path input world old new
    refused_from_ends ends = by_sort sorted
      where
        by_sort : IsSorted → IsRefused path input world old new
        by_sort (inr (bad, is)) = let never : statuses.Input ≡ statuses.Refused = sym is ∙ ends.0 in cc
        by_sort (inl known) =
            let given = refusable_known known ends.0 in
            record {
              refusable = record {
                stacks = known.stacks;
                refusal = given.0;
                asks = known.asks;
                cause = cause_of given.0 (cause_found world 0 (addrs_of known.stacks) (asking_of path config) given.0 given.1);
              };
              written = ends.1 ∙ ap (λ (o : Outcome). Some (old ++ o.text)) (known.ends ∙ ap (λ answer. by_text (folded_by known.stacks answer)) given.1);
            }

  -- stacks are to be folded where a Breakpad file lies at the path
  pub foldable_is_done : IsFoldable path input world → (stacks_outcome path config input world).status ≡ statuses.Done
  foldable_is_done is =
      let given = answers_given world 0 (addrs_of is.stacks) (asking_of path config) (record { served = refl; there = is.there }) in
      ap (λ (o : Outcome). o.status) (asked_outcome is.stacks is.asks ∙ ap (λ answer. by_text (folded_by is.stacks answer)) given.1)

  -- and refused where none does
  pub refusable_is_refused : IsRefusable path input world → (stacks_outcome path config input world).status ≡ statuses.Refused
  refusable_is_refused is =
      let given : answers_in path config world is.stacks ≡ Err is.refusal = refusal_given world 0 (addrs_of is.stacks) (asking_of path config) is.refusal (inr (refl, is.cause)) in
      ap (λ (o : Outcome). o.status) (asked_outcome is.stacks is.asks ∙ ap (λ answer. by_text (folded_by is.stacks answer)) given)
