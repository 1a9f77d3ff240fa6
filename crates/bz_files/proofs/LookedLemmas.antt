-- Calls that look at files, one after the other.
use Rattle.std.proofs.Common.{◌≡◌, ℕ, inl, inr, ◌∙◌, ap, le_trans, ⊎_elim}
use Rattle.bz_files.specs.Count.{CountsFaults, counted}
use Rattle.bz_files.specs.Looked.{Looked}
use Rattle.bz_files.specs.declared.files.Files.{Ghosts}

-- where a call didn't fail, the count stands
pub stood : (before after : ℕ) → CountsFaults before after ⊥ → after ≡ before
stood before after counts = ⊎_elim (λ never. absurd never) (λ same. same) counts.steady

-- after a call that didn't fail, faults are counted over both
pub counts_then : (a b c : ℕ) (failed : Type 0) → CountsFaults a b ⊥ → CountsFaults b c failed → CountsFaults a c failed
counts_then a b c failed one two = record {
  grows = le_trans one.grows two.grows;
  fault = λ fails. two.fault fails ∙ ap counted (stood a b one);
  steady = ⊎_elim (λ fails. inl fails) (λ same. inr (same ∙ stood a b one)) two.steady;
}

-- a call that didn't fail counts as one that fails where nothing does
pub counts_unfailed : (a b : ℕ) (failed : Type 0) → (failed → ⊥) → CountsFaults a b ⊥ → CountsFaults a b failed
counts_unfailed a b failed never one = record { grows = one.grows; fault = λ fails. absurd (never fails); steady = inr (stood a b one) }

module _ {X : Type 0} (files : Ghosts X) (a b : X) (failed : Type 0) where
  -- a call that didn't fail looked as one that fails where nothing does
  pub looked_unfailed : (failed → ⊥) → Looked files a b ⊥ → Looked files a b failed
  looked_unfailed never one = record { worlds = one.worlds; pid = one.pid; faults = counts_unfailed _ _ failed never one.faults }

  -- after a call that didn't fail, a call leaves what both leave
  pub looked_then : (c : X) → Looked files a b ⊥ → Looked files b c failed → Looked files a c failed
  looked_then c one two = record {
    worlds = two.worlds ∙ one.worlds;
    pid = two.pid ∙ one.pid;
    faults = counts_then _ _ _ failed one.faults two.faults;
  }
