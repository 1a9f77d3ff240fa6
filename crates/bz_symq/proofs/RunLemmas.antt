-- What the outcome of a run says of its command, its input and its source.
use Rattle.std.proofs.Common.{◌≡◌, ◌≢◌, ◌⊎◌, ℕ, ◌≤◌, Bool, true, false, List, ◌++◌, length, Option, Some, Ok, Err, Result, IsErr, cond, refl, sym, ap, ◌∙◌, inl, inr, ltb}
use Rattle.std.proofs.lemmas.Bool.{false≢true, le-ltb, lt-ltb, ltb-false, ltb-true}
use Rattle.bz_base.specs.Answer.{Answer}
use Rattle.bz_base.specs.declared.error.Error.{Error}
use Rattle.bz_files.specs.World.{World}
use Rattle.bz_requests.proofs.AddressLemmas.{address_agrees}
use Rattle.bz_requests.proofs.LineGrammarLemmas.{first_bad_again}
use Rattle.bz_requests.specs.Addresses.{IsAddress, address_in, addresses_in}
use Rattle.bz_requests.specs.Lines.{HasBadLine}
use Rattle.bz_symq.specs.Command.{Asking, Command, Batch, Make, Product}
use Rattle.bz_requests.specs.InputText.{greatest_input}
use Rattle.bz_symq.specs.Outcome.{Outcome, run_outcome, by_addresses, by_answer, by_product, too_long}
use Rattle.bz_symq.specs.Products.{made_in}
use Rattle.bz_symq.specs.Run.{Asks, Ends, IsAnswerable, IsBadInput, IsDone, IsMade, IsMakeable, IsRefusable, IsRefused, IsUnmade, IsUnmakeable}
use Rattle.bz_symq.specs.Targets.{answer_to}
use Rattle.bz_symq.specs.declared.status.Status.{Status}
use Rattle.bz_symq.specs.declared.status.Status.TheVariants as statuses
use Rattle.bz_requests.proofs.InputTextLemmas as inputs
use Rattle.bz_requests.proofs.InputTextLemmas.{addresses_found, addresses_again}
use Rattle.bz_symq.proofs.ProductLemmas.{made_found, made_given, unmade_found, unmade_given}
use Rattle.bz_symq.proofs.TargetLemmas.{answers_found, answers_given, cause_found, has_answers, refusal_given}

module _ (command : Command) (asking : Asking) (input : List ℕ) (command_is : command ≡ Batch asking) (short : length input ≤ greatest_input) where
  -- an input that isn't read as addresses is a bad one
  pub bad_from_read : (read : Result (List ℕ) ℕ) → addresses_in input ≡ read → IsErr read → IsBadInput command input
  bad_from_read read is bad = (asking, command_is, inputs.bad_from_read address_in IsAddress address_agrees input read is bad)

  -- and only such an input
  pub err_from_bad : IsBadInput command input → IsErr (addresses_in input)
  err_from_bad (named, same, bad) = inputs.err_from_bad address_in IsAddress address_agrees input short bad

-- a run that asks its source ends by its answer
abbrev is_asking : Status → Bool
is_asking statuses.Done = true
is_asking statuses.Refused = true
is_asking _ = false

-- what a run that asks its target knows
record IsAsking (command : Command) (input : List ℕ) (world : World) (own : ℕ) : Type 0 where
  asking : Asking
  addrs : List ℕ
  asks : Asks command input asking addrs
  ends : run_outcome command input world own ≡ by_answer addrs (answer_to asking addrs world own)

-- and one that makes its product
record IsMaking (command : Command) (input : List ℕ) (world : World) (own : ℕ) : Type 0 where
  product : Product
  asks : command ≡ Make product
  ends : run_outcome command input world own ≡ by_product (made_in product world)

-- what one that does either knows
abbrev IsServing : Command → List ℕ → World → ℕ → Type 0
IsServing command input world own = IsAsking command input world own ⊎ IsMaking command input world own

module _ (command : Command) (input : List ℕ) (world : World) (own : ℕ) where
  asking_read : (asking : Asking) → command ≡ Batch asking → ltb greatest_input (length input) ≡ false →
      (read : Result (List ℕ) ℕ) → addresses_in input ≡ read → is_asking (by_addresses asking world own read).status ≡ true → IsAsking command input world own
  asking_read asking command_is fits (Err n) is asks = cc
  asking_read asking command_is fits (Ok addrs) is asks = record {
    asking = asking;
    addrs = addrs;
    asks = record { command_is = command_is; short = ltb-false _ _ fits; input_is = addresses_found input addrs is };
    ends = rw (command_is, fits, is) refl;
  }

  asking_long : (asking : Asking) → command ≡ Batch asking → (long : Bool) → ltb greatest_input (length input) ≡ long →
      is_asking (cond long too_long (by_addresses asking world own (addresses_in input))).status ≡ true → IsAsking command input world own
  asking_long asking command_is true is asks = cc
  asking_long asking command_is false is asks = asking_read asking command_is is (addresses_in input) refl asks

  serving_command : (given : Command) → command ≡ given → is_asking (run_outcome given input world own).status ≡ true → IsServing command input world own
  serving_command (Batch asking) is asks = inl (asking_long asking is (ltb greatest_input (length input)) refl asks)
  serving_command (Make product) is asks = inr (record { product = product; asks = is; ends = rw is refl })

  -- a run that ends by an answer has a target and an input for it, or a product
  serving : is_asking (run_outcome command input world own).status ≡ true → IsServing command input world own
  serving is = serving_command command refl is

-- an answer by which a run is done is Ok, and one by which it is refused is a refusal
ok_from_done : (addrs : List ℕ) (answer : Result (List Answer) Error) → (by_answer addrs answer).status ≡ statuses.Done → (answers : List Answer) × (answer ≡ Ok answers)
ok_from_done addrs (Ok answers) done = (answers, refl)
ok_from_done addrs (Err e) done = cc

err_from_refused : (addrs : List ℕ) (answer : Result (List Answer) Error) → (by_answer addrs answer).status ≡ statuses.Refused → (e : Error) × (answer ≡ Err e)
err_from_refused addrs (Ok answers) refused = cc
err_from_refused addrs (Err e) refused = (e, refl)

-- and the same of what is made
made_from_done : (result : Result (List ℕ) (List ℕ)) → (by_product result).status ≡ statuses.Done → (made : List ℕ) × (result ≡ Ok made)
made_from_done (Ok made) done = (made, refl)
made_from_done (Err name) done = cc

name_from_refused : (result : Result (List ℕ) (List ℕ)) → (by_product result).status ≡ statuses.Refused → (name : List ℕ) × (result ≡ Err name)
name_from_refused (Ok made) refused = cc
name_from_refused (Err name) refused = (name, refl)

module _ (command : Command) (input : List ℕ) (world : World) (own : ℕ) (known : IsAsking command input world own) where
  abbrev answer_known : Result (List Answer) Error
  answer_known = answer_to known.asking known.addrs world own

  -- the answers of a run that is done, and the refusal of one that is refused
  answers_known : (run_outcome command input world own).status ≡ statuses.Done → (answers : List Answer) × (answer_known ≡ Ok answers)
  answers_known done = ok_from_done known.addrs answer_known (ap (λ (o : Outcome). o.status) (sym known.ends) ∙ done)

  refusal_known : (run_outcome command input world own).status ≡ statuses.Refused → (e : Error) × (answer_known ≡ Err e)
  refusal_known refused = err_from_refused known.addrs answer_known (ap (λ (o : Outcome). o.status) (sym known.ends) ∙ refused)

  answerable_known : (run_outcome command input world own).status ≡ statuses.Done → IsAnswerable command input world
  answerable_known done =
      let given = answers_known done in
      record {
        asking = known.asking;
        addrs = known.addrs;
        asks = known.asks;
        answerable = has_answers world own known.addrs known.asking given.0 (answers_found world own known.addrs known.asking given.0 given.1);
      }

  refusable_known : (run_outcome command input world own).status ≡ statuses.Refused → IsRefusable command input world
  refusable_known refused =
      let given = refusal_known refused in
      record { asking = known.asking; addrs = known.addrs; refusal = given.0; asks = known.asks; cause = cause_found world own known.addrs known.asking given.0 given.1 }

module _ (command : Command) (input : List ℕ) (world : World) (own : ℕ) (known : IsMaking command input world own) where
  -- the product of a run that is done, and why one that is refused has none
  makeable_known : (run_outcome command input world own).status ≡ statuses.Done → IsMakeable command world
  makeable_known done =
      let given = made_from_done (made_in known.product world) (ap (λ (o : Outcome). o.status) (sym known.ends) ∙ done) in
      record { product = known.product; made = given.0; asks = known.asks; made_is = made_found known.product world given.0 given.1 }

  unmakeable_known : (run_outcome command input world own).status ≡ statuses.Refused → IsUnmakeable command world
  unmakeable_known refused =
      let given = name_from_refused (made_in known.product world) (ap (λ (o : Outcome). o.status) (sym known.ends) ∙ refused) in
      record { product = known.product; name = given.0; asks = known.asks; cause = unmade_found known.product world given.0 given.1 }

module _ (command : Command) (input : List ℕ) (world : World) (own : ℕ) where
  -- a run that is asked for addresses ends by the answer of its target
  asked_outcome : (asking : Asking) (addrs : List ℕ) → Asks command input asking addrs → run_outcome command input world own ≡ by_answer addrs (answer_to asking addrs world own)
  asked_outcome asking addrs asks = rw (asks.command_is, le-ltb _ _ asks.short, addresses_again input addrs asks.input_is) refl

  -- and one that is asked for a product by that
  making_outcome : (product : Product) → command ≡ Make product → run_outcome command input world own ≡ by_product (made_in product world)
  making_outcome product asks = rw asks refl

module _ (command : Command) (input : List ℕ) (world : World) (own : ℕ) (old : List ℕ) (new : Option (List ℕ)) where
  -- a run that ends as done has answered all the addresses, or has written the product
  pub done_from_ends : Ends (run_outcome command input world own) old statuses.Done new → IsDone command input world own old new ⊎ IsMade command world old new
  done_from_ends ends = by_serving (serving command input world own (ap is_asking ends.0))
    where
      by_serving : IsServing command input world own → IsDone command input world own old new ⊎ IsMade command world old new
      by_serving (inl known) =
          let given = answers_known command input world own known ends.0 in
          inl (record {
            asking = known.asking;
            addrs = known.addrs;
            answers = given.0;
            asks = known.asks;
            answers_are = answers_found world own known.addrs known.asking given.0 given.1;
            written = ends.1 ∙ ap (λ (o : Outcome). Some (old ++ o.text)) (known.ends ∙ ap (by_answer known.addrs) given.1);
          })
      by_serving (inr known) =
          let given = makeable_known command input world own known ends.0 in
          inr (record {
            makeable = given;
            written = ends.1 ∙ ap (λ (o : Outcome). Some (old ++ o.text)) (making_outcome command input world own given.product given.asks ∙ ap by_product (made_given given.product world given.made given.made_is));
          })

  -- a run that ends as refused has written why
  pub refused_from_ends : Ends (run_outcome command input world own) old statuses.Refused new → IsRefused command input world old new ⊎ IsUnmade command world old new
  refused_from_ends ends = by_serving (serving command input world own (ap is_asking ends.0))
    where
      by_serving : IsServing command input world own → IsRefused command input world old new ⊎ IsUnmade command world old new
      by_serving (inl known) =
          let given = refusal_known command input world own known ends.0 in
          inl (record {
            refusable = record { asking = known.asking; addrs = known.addrs; refusal = given.0; asks = known.asks; cause = cause_found world own known.addrs known.asking given.0 given.1 };
            written = ends.1 ∙ ap (λ (o : Outcome). Some (old ++ o.text)) (known.ends ∙ ap (by_answer known.addrs) given.1);
          })
      by_serving (inr known) =
          let given = unmakeable_known command input world own known ends.0 in
          inr (record {
            unmakeable = given;
            written = ends.1 ∙ ap (λ (o : Outcome). Some (old ++ o.text)) (making_outcome command input world own given.product given.asks ∙ ap by_product (unmade_given given.product world given.name given.cause));
          })

module _ (command : Command) (input : List ℕ) (world : World) (own : ℕ) where
  -- a source that has answers is to be answered, and a product that can be made is to be made
  pub answerable_is_done : IsAnswerable command input world ⊎ IsMakeable command world → (run_outcome command input world own).status ≡ statuses.Done
  answerable_is_done (inl is) =
      let given = answers_given world own is.addrs is.asking is.answerable in
      ap (λ (o : Outcome). o.status) (asked_outcome command input world own is.asking is.addrs is.asks ∙ ap (by_answer is.addrs) given.1)
  answerable_is_done (inr is) =
      ap (λ (o : Outcome). o.status) (making_outcome command input world own is.product is.asks ∙ ap by_product (made_given is.product world is.made is.made_is))

  -- one that has none, and one that can't be made, are to be refused
  pub refusable_is_refused : IsRefusable command input world ⊎ IsUnmakeable command world → (run_outcome command input world own).status ≡ statuses.Refused
  refusable_is_refused (inl is) =
      ap (λ (o : Outcome). o.status) (asked_outcome command input world own is.asking is.addrs is.asks ∙ ap (by_answer is.addrs) (refusal_given world own is.addrs is.asking is.refusal is.cause))
  refusable_is_refused (inr is) =
      ap (λ (o : Outcome). o.status) (making_outcome command input world own is.product is.asks ∙ ap by_product (unmade_given is.product world is.name is.cause))

  -- and only such ones are
  pub done_is_answerable : (run_outcome command input world own).status ≡ statuses.Done → IsAnswerable command input world ⊎ IsMakeable command world
  done_is_answerable done = by_serving (serving command input world own (ap is_asking done))
    where
      by_serving : IsServing command input world own → IsAnswerable command input world ⊎ IsMakeable command world
      by_serving (inl known) = inl (answerable_known command input world own known done)
      by_serving (inr known) = inr (makeable_known command input world own known done)

  pub refused_is_refusable : (run_outcome command input world own).status ≡ statuses.Refused → IsRefusable command input world ⊎ IsUnmakeable command world
  refused_is_refusable refused = by_serving (serving command input world own (ap is_asking refused))
    where
      by_serving : IsServing command input world own → IsRefusable command input world ⊎ IsUnmakeable command world
      by_serving (inl known) = inl (refusable_known command input world own known refused)
      by_serving (inr known) = inr (unmakeable_known command input world own known refused)

module _ (command : Command) (input : List ℕ) (world : World) (own : ℕ) where
  -- no run ends as one of words that give no command
  answer_never : (addrs : List ℕ) (answer : Result (List Answer) Error) → is_asking (by_answer addrs answer).status ≡ true
  answer_never addrs (Ok answers) = refl
  answer_never addrs (Err e) = refl

  product_never : (result : Result (List ℕ) (List ℕ)) → is_asking (by_product result).status ≡ true
  product_never (Ok made) = refl
  product_never (Err name) = refl

  usage_never_read : (asking : Asking) (read : Result (List ℕ) ℕ) → (by_addresses asking world own read).status ≡ statuses.Usage → ⊥
  usage_never_read asking (Err n) usage = cc
  usage_never_read asking (Ok addrs) usage = let asks = answer_never addrs (answer_to asking addrs world own) in absurd (false≢true (sym (ap is_asking usage) ∙ asks))

  usage_never : (asking : Asking) (long : Bool) → (cond long too_long (by_addresses asking world own (addresses_in input))).status ≡ statuses.Usage → ⊥
  usage_never asking true usage = cc
  usage_never asking false usage = usage_never_read asking (addresses_in input) usage

  usage_by_command : (given : Command) → (run_outcome given input world own).status ≡ statuses.Usage → ⊥
  usage_by_command (Batch asking) usage = usage_never asking (ltb greatest_input (length input)) usage
  usage_by_command (Make product) usage = let serves = product_never (made_in product world) in absurd (false≢true (sym (ap is_asking usage) ∙ serves))

  pub never_usage : (run_outcome command input world own).status ≢ statuses.Usage
  never_usage usage = usage_by_command command usage

  -- a bad input is named, and no other
  input_by_read : (asking : Asking) → command ≡ Batch asking → length input ≤ greatest_input → (read : Result (List ℕ) ℕ) → addresses_in input ≡ read →
      (by_addresses asking world own read).status ≡ statuses.Input → IsBadInput command input
  input_by_read asking command_is short (Err n) is bad = bad_from_read command asking input command_is short (Err n) is refl
  input_by_read asking command_is short (Ok addrs) is bad =
      let asks = answer_never addrs (answer_to asking addrs world own) in absurd (false≢true (sym (ap is_asking bad) ∙ asks))

  input_by_length : (asking : Asking) → command ≡ Batch asking → (long : Bool) → ltb greatest_input (length input) ≡ long →
      (cond long too_long (by_addresses asking world own (addresses_in input))).status ≡ statuses.Input → IsBadInput command input
  input_by_length asking command_is true is bad = (asking, command_is, inl (ltb-true _ _ is))
  input_by_length asking command_is false is bad = input_by_read asking command_is (ltb-false _ _ is) (addresses_in input) refl bad

  input_by_command : (given : Command) → command ≡ given → (run_outcome given input world own).status ≡ statuses.Input → IsBadInput command input
  input_by_command (Batch asking) is bad = input_by_length asking is (ltb greatest_input (length input)) refl bad
  input_by_command (Make product) is bad = let serves = product_never (made_in product world) in absurd (false≢true (sym (ap is_asking bad) ∙ serves))

  pub input_is_bad : (run_outcome command input world own).status ≡ statuses.Input → IsBadInput command input
  input_is_bad bad = input_by_command command refl bad

  bad_by_length : (asking : Asking) → HasBadLine IsAddress input → (long : Bool) → (cond long too_long (by_addresses asking world own (addresses_in input))).status ≡ statuses.Input
  bad_by_length asking (n, bad) true = refl
  bad_by_length asking (n, bad) false = rw (first_bad_again address_in IsAddress address_agrees input n bad) refl

  pub bad_is_input : IsBadInput command input → (run_outcome command input world own).status ≡ statuses.Input
  bad_is_input (asking, command_is, inl long) = rw (command_is, lt-ltb _ _ long) refl
  bad_is_input (asking, command_is, inr bad) = rw command_is (bad_by_length asking bad (ltb greatest_input (length input)))
