-- How a generated job ends.
use Rattle.std.proofs.Common.{◌≡◌, ℕ, List, [], Some, refl, sym, ap, inr, ◌∙◌, append-nil}
use Rattle.bz_files.specs.declared.text.TextOut as output_trait
use Rattle.bz_requests.specs.declared.requests.Config.{Config}
use Rattle.bz_symq.proofs.FaultLemmas.{counts_still}
use Rattle.bz_symq.specs.Outcome.{done_with}
use Rattle.bz_symq.specs.Writing.{Finishes}
use Rattle.bz_symq.specs.declared.status.Status.{Status}
use Rattle.bz_symq.specs.declared.status.Status.TheVariants as statuses
use Rattle.bz_run.specs.Generating.{Generates, generated_summary}

module _ {W : Type 0} (writes : output_trait.Ghosts W) (config : Config) (seed functions addresses : ℕ) (before after : W) where
  -- the summary was to be written
  pub generates_text : (text : List ℕ) (ended : Status) → text ≡ generated_summary config seed functions addresses →
      Finishes writes (done_with text) ended before after → Generates writes config seed functions addresses ended before after
  generates_text text ended text_is finished =
      let whole : Finishes writes (done_with (generated_summary config seed functions addresses)) ended before after = rw text_is at finished in
      record { ends = whole.ends; status = whole.status; fails = whole.counts }

  -- nothing was written
  pub generates_nothing : after ≡ before → Generates writes config seed functions addresses statuses.Memory before after
  generates_nothing same = record {
    ends = λ was told. ([], generated_summary config seed functions addresses, refl, ap writes.written same ∙ told ∙ ap (λ text. Some text) (sym (append-nil was)));
    status = inr (inr refl);
    fails = counts_still _ _ _ (λ is. cc) (ap writes.faults same);
  }
