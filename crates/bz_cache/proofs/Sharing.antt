-- What sharing the version of a look leaves.
use Rattle.std.proofs.Common.{◌≡◌, ℕ, List, [], Option, option_and_then, IsSome, Result, Ok, Err, IfOk, IsOkUnless, inr, ap, ◌∙◌, subst}
use Rattle.std.specs.FinMap as map
use Rattle.bz_base.specs.declared.error.Error.{Error}
use Rattle.bz_base.specs.declared.error.Error.TheVariants as errors
use Rattle.bz_files.specs.declared.stamp.Stamp.{Stamp}
use Rattle.bz_files.specs.World.{World}
use Rattle.bz_cache.specs.Cache.{Cache}
use Rattle.bz_cache.specs.Look.{Lends, Shares, look}
use Rattle.bz_cache.specs.Steps.{LeavesCache}
use Rattle.bz_cache.specs.View.{bytes_at, fixed}
use Rattle.bz_cache.proofs.Looking.{current_kept}
use Rattle.bz_cache.proofs.Naming.{some_at}

module _ (test : List ℕ → Option Error) (old new : Cache) (path : List ℕ) (in_view : Option World) where
  -- an answered look lends the version of its stamp
  pub lent_by_look : (s : Stamp) → LeavesCache test (look test old path) path (Ok s) old new in_view → (IsSome (fixed old path) → new ≡ old) →
      Lends test old new path (bytes_at new s) in_view
  lent_by_look s left unchanged =
      let there = some_at (map.get new.kept s) [] (current_kept test new path s [] left.consistent left.current) in
      record {
        kept = (ap (λ (o : Option Stamp). option_and_then (map.get new.kept) o) left.current ∙ there, left.consistent.formed s (bytes_at new s) there);
        state = left.told;
        untold = left.untold;
        unchanged = unchanged;
        consistent = left.consistent;
      }

module _ {A : Type 0} (bytes_of : A → List ℕ) (test : List ℕ → Option Error) (old new : Cache) (path : List ℕ) (in_view : Option World) where
  -- what a look lends is shared, unless memory runs out
  pub shares_lent : (bytes : List ℕ) (result : Result A Error) → Lends test old new path bytes in_view → IfOk result (λ v. bytes ≡ bytes_of v) →
      IsOkUnless result errors.OutOfMemory → Shares bytes_of test result old new path in_view
  shares_lent bytes (Ok v) lent same memory = subst (λ (b : List ℕ). Lends test old new path b in_view) same lent
  shares_lent bytes (Err errors.OutOfMemory) lent same memory = inr (bytes, lent)
  shares_lent bytes (Err _) lent same memory = cc memory
