-- What a call on one file does, from what a look gives and what a version answers, whatever the format
-- and the question.
use Rattle.std.proofs.Common.{◌≡◌, ℕ, true, false, List, Option, Some, None, unwrap_or, Result, Err, IsSome, inl, inr, refl, sym, ap, subst, ◌∙◌}
use Rattle.std.specs.FinMap as map
use Rattle.std.proofs.lemmas.Bool.{false≢true}
use Rattle.bz_base.specs.declared.error.Error.{Error}
use Rattle.bz_base.specs.declared.error.Error.TheVariants as errors
use Rattle.bz_files.specs.declared.stamp.Stamp.{Stamp}
use Rattle.bz_files.specs.declared.files.Files.{Ghosts}
use Rattle.bz_files.specs.Looked.{Faulted, Looked, ReadsOne}
use Rattle.bz_files.specs.World.{World, Entry, Denied, Present, Told, in_view, entry_at}
use Rattle.bz_cache.specs.Cache.{Cache, Consistent}
use Rattle.bz_cache.specs.Coherence.{Coherent}
use Rattle.bz_cache.specs.Format.{GivesOrFaults, FailsAs, MayFail}
use Rattle.bz_cache.specs.Look.{look, will_open, by_test, by_entry, by_fixed, Lends, Shares, Unanswered}
use Rattle.bz_cache.specs.View.{fixed, by_fixed_view, shown, view}
use Rattle.bz_cache.specs.FileCall.{Question, by_version, by_look, by_view, Leaves, CallsFile, FileTold, ByVersion, MayBeRefused}
use Rattle.bz_base.specs.Answer.{Gives}

-- the answer of a call that a look refuses
comes_refused : {A B : Type 0} (reading : A → B) (asked : Question B) (looked : Result (List ℕ) Error) (e : Error) →
    FailsAs looked e → GivesOrFaults reading (by_look asked looked) (Err e)
comes_refused reading asked looked errors.ReadFault fails = tt
comes_refused reading asked looked errors.OutOfMemory fails = tt
comes_refused reading asked looked _ fails = rw fails refl

module _ (test : List ℕ → Option Error) (c : Cache) (p : List ℕ) where
  refused_test : (s : Stamp) (v : List ℕ) (t : Option Error) (e : Error) → (by_test c p s v t).0 ≡ Err e → (by_test c p s v t).1 ≡ c
  refused_test s v None e is = cc
  refused_test s v (Some _) e is = refl

  refused_entry : (there : Option Entry) (e : Error) → (by_entry test c p there).0 ≡ Err e → (by_entry test c p there).1 ≡ c
  refused_entry None e is = refl
  refused_entry (Some Denied) e is = refl
  refused_entry (Some (Present s b)) e is = refused_test s _ _ e is

  -- a look that is refused leaves the cache
  refused_look : (there : Option Entry) (e : Error) → (look test c p there).0 ≡ Err e → (look test c p there).1 ≡ c
  refused_look there e = by_fix (fixed c p)
    where
      by_fix : (o : Option Stamp) → (by_fixed test c p there o).0 ≡ Err e → (by_fixed test c p there o).1 ≡ c
      by_fix (Some s) is = refl
      by_fix None is = refused_entry there e is

  -- and so a call that it refuses leaves what is expected
  leaves_refused : (A : Type 0) (there : Option Entry) (e : Error) (now : Cache) → now ≡ c → FailsAs (look test c p there).0 e →
      Leaves {A = A} (Err e) c (look test c p there).1 now
  leaves_refused A there errors.ReadFault now is fails = is
  leaves_refused A there errors.OutOfMemory now is fails = inl is
  leaves_refused A there _ now is fails = is ∙ sym (refused_look there _ fails)

-- what is kept, or else what lies there, is what lies there where both are the same
same_version : (kept : Option (List ℕ)) (bytes : List ℕ) → ((k : List ℕ) → kept ≡ Some k → bytes ≡ k) → unwrap_or kept bytes ≡ bytes
same_version None bytes same = refl
same_version (Some k) bytes same = sym (same k refl)

module _ {B : Type 0} (asked : Question B) (c : Cache) (w : World) (p : List ℕ) (coherent : Coherent c.kept w) where
  -- bytes that are tested and taken in answer as a version
  by_read : (s : Stamp) (bytes : List ℕ) (t : Option Error) → asked.test bytes ≡ t → by_look asked (by_test c p s bytes t).0 ≡ by_version asked bytes
  by_read s bytes None is = refl
  by_read s bytes (Some e) is = rw is refl

  by_there : (there : Option Entry) → entry_at w p ≡ there → by_look asked (by_entry asked.test c p there).0 ≡ by_view asked (shown there)
  by_there None is = refl
  by_there (Some Denied) is = refl
  by_there (Some (Present s b)) is = rw (same_version (map.get c.kept s) b (λ k kept. coherent p s b k is kept)) (by_read s b (asked.test b) refl)

  -- where kept versions cohere with the world, a look answers by the version in view
  pub look_by_view : by_look asked (look asked.test c p (entry_at w p)).0 ≡ by_view asked (view c w p)
  look_by_view = by_fix (fixed c p)
    where
      by_fix : (o : Option Stamp) → by_look asked (by_fixed asked.test c p (entry_at w p) o).0 ≡ by_view asked (by_fixed_view c (entry_at w p) o)
      by_fix (Some s) = refl
      by_fix None = by_there (entry_at w p) refl

-- a call that a look refuses, where it is told what lies at the path
pub told_refused : {A B : Type 0} (reading : A → B) (asked : Question B) (path : List ℕ) (e : Error) (old now : Cache) (there : Option Entry) (before after : ℕ) →
    asked.taken ≡ true → now ≡ old → FailsAs (look asked.test old path there).0 e → (will_open old path there ≡ false → after ≡ before) →
    FileTold reading asked path (Err e) old now there before after
told_refused {A} reading asked path e old now there before after taken same fails spared = record {
  answer = rw taken (comes_refused reading asked _ e fails);
  state = rw taken (leaves_refused asked.test old path A there e now same fails);
  opened = tt;
  spared = λ closed. spared (rw taken at closed);
}

-- the version that a look lent answers
pub by_lent : {A B : Type 0} (reading : A → B) (asked : Question B) (path bytes : List ℕ) (in_view : Option World) (old now : Cache) (result : Result A Error) →
    Lends asked.test old now path bytes in_view → Gives reading (asked.given bytes) result → ByVersion reading asked path result old now
by_lent reading asked path bytes in_view old now result lent given = record { bytes = bytes; kept = lent.kept; looked = lent.untold; given = given }

-- a look leaves whether the cache reloads
module _ (test : List ℕ → Option Error) (c : Cache) (p : List ℕ) where
  reload_test : (s : Stamp) (v : List ℕ) (t : Option Error) → (by_test c p s v t).1.reload ≡ c.reload
  reload_test s v None = refl
  reload_test s v (Some _) = refl

  reload_entry : (there : Option Entry) → (by_entry test c p there).1.reload ≡ c.reload
  reload_entry None = refl
  reload_entry (Some Denied) = refl
  reload_entry (Some (Present s b)) = reload_test s _ _

  pub reload_look : (there : Option Entry) → (look test c p there).1.reload ≡ c.reload
  reload_look there = by_fix (fixed c p)
    where
      by_fix : (o : Option Stamp) → (by_fixed test c p there o).1.reload ≡ c.reload
      by_fix (Some s) = refl
      by_fix None = reload_entry there

-- a refusal of a look is one that a call may have
may_be_refused : (untaken : Type 0) (test : List ℕ → Option Error) (e : Error) → MayFail test e → MayBeRefused untaken test e
may_be_refused untaken test errors.Unsupported may = inr may
may_be_refused untaken test _ may = may

-- a call to which no version was shared
module _ {A B V X : Type 0} (files : Ghosts X) (reading : A → B) (bytes_of : V → List ℕ) (asked : Question B) (path : List ℕ) (old new : Cache) (before after : X) where
  abbrev Fails : Error → Type 0
  Fails e = Told (in_view (files.worlds before)) (λ w. FailsAs (look asked.test old path (entry_at w path)).0 e)

  abbrev Spares : Type 0
  Spares = Told (in_view (files.worlds before)) (λ w. will_open old path (entry_at w path) ≡ false → files.opens after ≡ files.opens before)

  -- since the look wasn't answered
  unanswered : (e : Error) → asked.taken ≡ true → Unanswered old new path → Fails e → Spares → ReadsOne files before after →
      Looked files before after (Faulted {A = A} (Err e)) → MayFail asked.test e → CallsFile files reading asked path (Err e) old new before after
  unanswered e taken none fails spared most looked may = record {
    told = λ world seen. told_refused reading asked path e old new (entry_at world path) _ _ taken none.unchanged (fails world seen) (spared world seen);
    untold = inr (record { refused = refl; refusal = may_be_refused (asked.taken ≡ false) asked.test e may; unchanged = none.unchanged });
    untaken = λ other. absurd (false≢true (sym other ∙ taken));
    stays = λ held. absurd (none.not_fixed held);
    ready = λ held t. absurd (none.not_fixed held);
    consistent = λ all. subst (Consistent asked.test) (sym none.unchanged) all;
    reload = ap (λ (c : Cache). c.reload) none.unchanged;
    looked = looked;
    most = most;
  }

  -- since memory ran out for the share
  lent_alone : (bytes : List ℕ) → asked.taken ≡ true → Lends asked.test old new path bytes (in_view (files.worlds before)) →
      (IsSome (fixed old path) → after ≡ before) → Spares → ReadsOne files before after → Looked files before after (Faulted {A = A} (Err errors.OutOfMemory)) →
      CallsFile files reading asked path (Err errors.OutOfMemory) old new before after
  lent_alone bytes taken lent unseen spared most looked =
      let by = by_lent {A = A} reading asked path bytes (in_view (files.worlds before)) old new (Err errors.OutOfMemory) lent tt in
      record {
        told = λ world seen. record {
          answer = tt;
          state = rw taken (inr (lent.state world seen));
          opened = tt;
          spared = λ closed. spared world seen (rw taken at closed);
        };
        untold = inl by;
        untaken = λ other. absurd (false≢true (sym other ∙ taken));
        stays = λ held. (lent.unchanged held, unseen held);
        ready = λ held t. by;
        consistent = λ all. lent.consistent;
        reload = ap (λ (x : Result (List ℕ) Error × Cache). x.1.reload) (sym lent.untold.1) ∙ reload_look asked.test old path lent.untold.0;
        looked = looked;
        most = most;
      }

  -- memory ran out for the look or for the share
  out_of_memory : asked.taken ≡ true → Shares bytes_of asked.test (Err errors.OutOfMemory) old new path (in_view (files.worlds before)) →
      (IsSome (fixed old path) → after ≡ before) → Spares → ReadsOne files before after → Looked files before after (Faulted {A = A} (Err errors.OutOfMemory)) →
      CallsFile files reading asked path (Err errors.OutOfMemory) old new before after
  out_of_memory taken (inl none) unseen spared most looked = unanswered errors.OutOfMemory taken none (λ world seen. tt) spared most looked tt
  out_of_memory taken (inr lent) unseen spared most looked = lent_alone lent.0 taken lent.1 unseen spared most looked

  pub calls_unshared : (e : Error) → asked.taken ≡ true → Shares bytes_of asked.test (Err e) old new path (in_view (files.worlds before)) → Fails e →
      (IsSome (fixed old path) → after ≡ before) → Spares → ReadsOne files before after → Looked files before after (Faulted {A = A} (Err e)) → MayFail asked.test e →
      CallsFile files reading asked path (Err e) old new before after
  calls_unshared errors.OutOfMemory taken left fails unseen spared most looked may = out_of_memory taken left unseen spared most looked
  calls_unshared _ taken none fails unseen spared most looked may = unanswered _ taken none fails spared most looked may
