-- What addresses of a process are answered where files tell nothing.
use Rattle.std.proofs.Common.{◌≡◌, ℕ, List, [], ◌∷◌, ◌++◌, Option, Some, None, Result, Ok, Err, IfErr, IfOk, IsErr, IsOkUnless, inl, inr, refl, ap, subst}
use Rattle.bz_base.specs.Answer.{Answer, Gives, in_batch, reading}
use Rattle.bz_base.specs.declared.error.Error.{Error}
use Rattle.bz_base.specs.declared.error.Error.TheVariants as errors
use Rattle.bz_base.specs.declared.pid.Pid.{Pid}
use Rattle.bz_base.specs.declared.types.Symbolized.{Symbolized}
use Rattle.bz_cache.specs.Cache.{Cache}
use Rattle.bz_cache.specs.InsertMap.{value_at, with_absent}
use Rattle.bz_cache.specs.FileCall.{FileSome, Question}
use Rattle.bz_proc.specs.Maps.{Mapping}
use Rattle.bz_proc.specs.PerfId.{IsOfStatus}
use Rattle.bz_proc.specs.SystemText.{IsReadRefusal}
use Rattle.bz_process.specs.Asked.{Asked}
use Rattle.bz_process.specs.Caches.{ProcessCaches}
use Rattle.bz_process.specs.Process.{Said, asks_perf_map, or_unknown, pid_cmp}
use Rattle.bz_process.specs.ProcessCall.{softened}
use Rattle.bz_process.specs.Remembered.{Remembered}
use Rattle.bz_process.specs.Untold.{IsKnown, LooksAtPerfMap, MayLackId, SomeAtAddress, SomeAtAddresses, Unfailing, as_read}

module _ {A B : Type 0} (read : A → B) where
  -- a result gives what it is as plain data
  pub gives_self : (result : Result A Error) → Gives read (as_read read result) result
  gives_self (Ok x) = refl
  gives_self (Err errors.OutOfMemory) = tt
  gives_self (Err _) = refl

  gives_read : (expected : Result B Error) (result : Result A Error) → Gives read expected result → Gives (λ (b : B). b) expected (as_read read result)
  gives_read expected (Ok x) is = is
  gives_read expected (Err errors.OutOfMemory) is = tt
  gives_read expected (Err _) is = is

  err_read : (result : Result A Error) → IsErr result → IsErr (as_read read result)
  err_read (Ok x) is = is
  err_read (Err e) is = is

  refusal_read : (P : Error → Type 0) (result : Result A Error) → IfErr result P → IfErr (as_read read result) P
  refusal_read P (Ok x) is = tt
  refusal_read P (Err e) is = is

  -- so a call on a file is one whose result is plain data
  pub some_read : (question : Question B) (path : List ℕ) (result : Result A Error) (old now : Cache) → FileSome read question path result old now → FileSome (λ (b : B). b) question path (as_read read result) old now
  some_read question path result old now (inl by) = inl (record { bytes = by.bytes; kept = by.kept; looked = by.looked; given = gives_read _ result by.given })
  some_read question path result old now (inr first) = inr (record { refused = err_read result first.refused; refusal = refusal_read _ result first.refusal; unchanged = first.unchanged })

-- an absent file makes the address unknown
pub softened_read : (result : Result Symbolized Error) → as_read reading (softened result) ≡ or_unknown (as_read reading result)
softened_read (Ok x) = refl
softened_read (Err errors.NotFound) = refl
softened_read (Err _) = refl

module _ (pid : Pid) (own : ℕ) where
  -- what is remembered is given as it is
  pub recalled : (kept : Option Remembered) (known : Remembered) (result : Result Remembered Error) → kept ≡ Some known → IfOk result (λ k. k ≡ known) → IfOk result (IsKnown pid own kept)
  recalled kept known (Ok k) found is = rw found is
  recalled kept known (Err e) found is = tt

  -- what is remembered has the id that a status told
  pub has_id : (known : Remembered) (result : Result Remembered Error) → IfOk result (λ k. k ≡ known) → IsOfStatus pid own known.id → IfOk result (λ k. IsOfStatus pid own k.id)
  has_id known (Ok k) is told = rw is told
  has_id known (Err e) is told = tt

  -- the perf map is looked at by what is remembered
  pub by_known : (addr : ℕ) (result : Result Symbolized Error) (known : Remembered) (old mid : ProcessCaches) (now : Cache) → IsKnown pid own (value_at pid_cmp old.ids pid) known →
      mid ≡ record old { ids = with_absent pid_cmp old.ids pid known } → FileSome reading (asks_perf_map addr) known.perf_map result mid.perf_maps now →
      LooksAtPerfMap (as_read reading result) old (record mid { perf_maps = now }) pid own addr
  by_known addr result known old mid now is_known mid_is some = inl (record {
    known = known;
    is_known = is_known;
    untold = subst (λ (k : ProcessCaches). FileSome (λ (answer : Answer). answer) (asks_perf_map addr) known.perf_map (as_read reading result) k.perf_maps now) mid_is
        (some_read reading (asks_perf_map addr) known.perf_map result mid.perf_maps now some);
    rest = ap (λ (k : ProcessCaches). record k { perf_maps = now }) mid_is;
  })

-- memory ran out for what is remembered
pub recall_lacks : (kept : Option Remembered) (result : Result Remembered Error) → IsOkUnless result errors.OutOfMemory → IfErr result (MayLackId kept)
recall_lacks kept (Ok k) memory = tt
recall_lacks kept (Err e) memory = rw memory tt

-- the status was refused
pub status_lacks : (result : Result Remembered Error) → IfErr result IsReadRefusal → IfErr result (MayLackId None)
status_lacks (Ok k) refusal = tt
status_lacks (Err e) refusal = lacks e refusal
  where
    lacks : (e : Error) → IsReadRefusal e → MayLackId None e
    lacks errors.OutOfMemory is = tt
    lacks _ is = is

-- one more address
pub some_last : (asked : Asked) (mappings : List Mapping) (front : List (ℕ × Said)) (item : ℕ × Said) (answers : List Answer) (given : Result Answer Error) (old mid now : ProcessCaches) →
    SomeAtAddresses asked mappings front answers old mid → SomeAtAddress asked given mid now mappings item → Unfailing given → SomeAtAddresses asked mappings (front ++ item ∷ []) (answers ++ in_batch given ∷ []) old now
some_last asked mappings [] item answers given old mid now is one unfailing =
    (given, now, [], ap (λ (xs : List Answer). xs ++ in_batch given ∷ []) is.0, (subst (λ (k : ProcessCaches). SomeAtAddress asked given k now mappings item) is.1 one, unfailing), (refl, refl))
some_last asked mappings (first ∷ front) item answers given old mid now is one unfailing =
    (is.0, is.1, is.2 ++ in_batch given ∷ [], ap (λ (xs : List Answer). xs ++ in_batch given ∷ []) is.3, is.4, some_last asked mappings front item is.2 given is.1 mid now is.5 one unfailing)
