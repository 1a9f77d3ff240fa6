-- What a call leaves of the state, from what it does on the source's file, whatever the source and the
-- query.
use Rattle.std.proofs.Common.{◌≡◌, ◌⊎◌, ℕ, false, List, Some, is_some, IsSome, Result, Ok, Err, IsErrOf, inl, inr, sym, ap, ◌∙◌}
use Rattle.bz_base.specs.declared.error.Error.{Error}
use Rattle.bz_base.specs.declared.error.Error.TheVariants as errors
use Rattle.bz_base.specs.declared.types.FindSymOpts.{FindSymOpts}
use Rattle.bz_files.specs.World.{World, entry_at}
use Rattle.bz_cache.specs.Cache.{Cache, kept_at}
use Rattle.bz_symbolize.proofs.PromiseLemmas.{IsFormatOf, kept_by, own_refusal}
use Rattle.bz_symbolize.specs.FileCall.{Query, Leaves, FileTold, FileSome}
use Rattle.bz_symbolize.specs.Sources.{FileSource, OneFile, asked_of}
use Rattle.bz_symbolize.specs.Promise.{IsAnswerOf, AnswersKept, CallTold, LeavesOld, IsAfterSomeLook, FileLeaves}
use Rattle.bz_symbolize.specs.State.{State}
use Rattle.bz_symbolize.specs.declared.source.Source.{Source}

-- what is left is the state as it was, or the one that is expected
pub step_from_told : {A : Type 0} (result : Result A Error) (old now expected : State) → Leaves result old expected now → (now ≡ old) ⊎ (now ≡ expected)
step_from_told (Ok given) old now expected is = inr is
step_from_told (Err errors.ReadFault) old now expected is = inl is
step_from_told (Err errors.OutOfMemory) old now expected is = is
step_from_told (Err _) old now expected is = inr is

module _ {A B : Type 0} (opts : FindSymOpts) (source : Source) (file : FileSource) (query : Query B) (laws : IsFormatOf query source file) (old : State)
    (reading : A → B) (now : State) (rest : now ≡ file.with_cache old (file.cache now)) where
  -- where the cache is as before, the state is
  pub unchanged : file.cache now ≡ file.cache old → now ≡ old
  unchanged is = rest ∙ ap (file.with_cache old) is ∙ laws.same old

  leaves_state : (result : Result A Error) (expected : Cache) → Leaves result (file.cache old) expected (file.cache now) → Leaves result old (file.with_cache old expected) now
  leaves_state (Ok given) expected is = rest ∙ ap (file.with_cache old) is
  leaves_state (Err errors.ReadFault) expected is = unchanged is
  leaves_state (Err errors.OutOfMemory) expected (inl is) = inl (unchanged is)
  leaves_state (Err errors.OutOfMemory) expected (inr is) = inr (rest ∙ ap (file.with_cache old) is)
  leaves_state (Err _) expected is = rest ∙ ap (file.with_cache old) is

  pub told_from_file : (world : World) (before after : ℕ) (result : Result A Error) →
      FileTold reading (asked_of file opts query) file.path result (file.cache old) (file.cache now) (entry_at world file.path) before after →
      CallTold reading opts (OneFile file) query result old now world before after
  told_from_file world before after result told =
      record { answer = told.answer; state = leaves_state result _ told.state; opened = told.opened; spared = told.spared }

  old_or_own : (bytes : List ℕ) (e : Error) → kept_at (file.cache now) file.path ≡ Some bytes → (file.answering.takes query.kind ≡ false → now ≡ old) →
      file.answering.takes query.kind ≡ file.answering.serves query.kind →
      ((file.answering.serves query.kind ≡ false) × (e ≡ errors.Unsupported)) ⊎ IsAnswerOf source opts bytes query (Err e) →
      (now ≡ old) ⊎ AnswersKept opts source file now query (Err e)
  old_or_own bytes e kept untaken alike (inl kind) = inl (untaken (alike ∙ kind.0))
  old_or_own bytes e kept untaken alike (inr own) = inr (kept_by opts source file query laws old reading now bytes (Err e) kept own)

  refused_from_some : (result : Result A Error) → (file.answering.takes query.kind ≡ false → now ≡ old) →
      FileSome reading (asked_of file opts query) file.path result (file.cache old) (file.cache now) →
      file.answering.takes query.kind ≡ file.answering.serves query.kind → LeavesOld opts source file query result old now
  refused_from_some (Ok given) untaken some alike = tt
  refused_from_some (Err errors.OutOfMemory) untaken some alike = tt
  refused_from_some (Err e) untaken (inl by) alike = old_or_own by.bytes e by.kept.0 untaken alike (own_refusal opts source file query laws old by.bytes e by.kept.1 by.given)
  refused_from_some (Err e) untaken (inr first) alike = inl (unchanged first.unchanged)

  step_from_some : (result : Result A Error) → FileSome reading (asked_of file opts query) file.path result (file.cache old) (file.cache now) →
      (now ≡ old) ⊎ IsAfterSomeLook file old now
  step_from_some result (inl by) = inr (by.looked.0, rest ∙ ap (file.with_cache old) (sym (ap (λ (x : Result (List ℕ) Error × Cache). x.1) by.looked.1)))
  step_from_some result (inr first) = inl (unchanged first.unchanged)

  memory_from_some : (result : Result A Error) → FileSome reading (asked_of file opts query) file.path result (file.cache old) (file.cache now) →
      (now ≡ old) ⊎ IsSome (kept_at (file.cache now) file.path)
  memory_from_some result (inl by) = inr (ap is_some by.kept.0)
  memory_from_some result (inr first) = inl (unchanged first.unchanged)

  -- what a call leaves, whatever is told
  pub leaves_from_some : (result : Result A Error) → (file.answering.takes query.kind ≡ false → now ≡ old) → (IsErrOf result errors.ReadFault → now ≡ old) →
      FileSome reading (asked_of file opts query) file.path result (file.cache old) (file.cache now) → FileLeaves opts source file query result old now
  leaves_from_some result untaken fault some = record {
    one_look = step_from_some result some;
    on_refusal = refused_from_some result untaken some;
    on_fault = fault;
    out_of_memory = λ _. memory_from_some result some;
  }
