-- Pinning a path at the version that a look gives, where a refusal changes nothing.
use Rattle.std.specs.Prelude.{◌≡◌, ℕ, true, false, List, Option, IsSome, Result, Ok, Err, IsOk, OnOk, OnErr, IfErr, IsOkUnless}
use Rattle.bz_base.specs.declared.error.Error.{Error}
use Rattle.bz_base.specs.declared.error.Error.TheVariants as errors
use Rattle.bz_files.specs.Looked.{Faulted, Looked}
use Rattle.bz_files.specs.World.{World, Entry, Told, entry_at, in_view}
use Rattle.bz_files.specs.declared.files.Files.{Ghosts}
use Rattle.bz_cache.specs.Cache.{Cache, Consistent, with_pin}
use Rattle.bz_cache.specs.Format.{GivesOrFaults, FailsAs, MayFail}
use Rattle.bz_cache.specs.Look.{look, will_open, IsUnmoved, Lends}
use Rattle.bz_cache.specs.Steps.{ReadsAt}
use Rattle.bz_cache.specs.View.{fixed}

-- a path at which a look gave a version is pinned there; a look that is refused changes nothing
abbrev pub pinned_by : Cache → List ℕ → Result (List ℕ) Error × Cache → Result (Unit {0}) Error × Cache
pinned_by cache path (Ok version, looked) = (Ok tt, with_pin true looked path)
pinned_by cache path (Err e, looked) = (Err e, cache)

-- the path is looked at as if it weren't pinned, and is pinned then
abbrev pub pinning : (List ℕ → Option Error) → Cache → List ℕ → Option Entry → Result (Unit {0}) Error × Cache
pinning test cache path there = pinned_by cache path (look test (with_pin false cache path) path there)

-- something that may lie at the path is answered, and this cache is left; where it is told what lies
-- there, it is that
pub record IsLeft (expected : Option Entry → Result (Unit {0}) Error × Cache) (path : List ℕ) (in_view : Option World) (now : Cache) : Type 0 where
  pub there : Option Entry
  pub told : Told in_view (λ world. there ≡ entry_at world path)
  pub leaves : expected there ≡ (Ok tt, now)

-- all that pinning a path does
pub record PinsFile {X : Type 0} (files : Ghosts X) (test : List ℕ → Option Error) (path : List ℕ) (result : Result (Unit {0}) Error) (old now : Cache) (before after : X) : Type 0 where
  -- where it is told what lies at the path, it is answered or refused by that
  pub answer : Told (in_view (files.worlds before)) (λ world. GivesOrFaults (λ (done : Unit {0}). done) (pinning test old path (entry_at world path)).0 result)
  -- an answer leaves the path pinned at the version of a look; a refusal, whichever it is, changes
  -- nothing
  pub left : OnOk result (IsLeft (pinning test old path) path (in_view (files.worlds before)) now)
  pub err : OnErr result (now ≡ old)
  -- a held path of a cache that doesn't look anew is pinned as it is
  pub sure : IsSome (fixed (with_pin false old path) path) → IsOk result × (after ≡ before)
  -- no memory is taken where the present stamp is the path's current one
  pub unmoved : Told (in_view (files.worlds before)) (λ world. IsUnmoved old path (entry_at world path) → IsOkUnless result errors.ReadFault)
  -- the cache stays well kept
  pub consistent : Consistent test old → Consistent test now
  pub reload : now.reload ≡ old.reload
  -- of the files: they are only looked at, and one at most is read
  pub reads : ReadsAt files (will_open (with_pin false old path) path) path result before after
  pub looked : Looked files before after (Faulted result)
  pub refusal : IfErr result (MayFail test)

-- a look gave some version, or was refused so
abbrev pub Sees : Result (List ℕ) Error → Result (Unit {0}) Error → Type 0
Sees looked (Ok done) = (version : List ℕ) × (looked ≡ Ok version)
Sees looked (Err e) = FailsAs looked e

-- all that a look at a path does, of whose version nothing is asked
pub record LooksAt {X : Type 0} (files : Ghosts X) (test : List ℕ → Option Error) (path : List ℕ) (result : Result (Unit {0}) Error) (old now : Cache) (before after : X) : Type 0 where
  pub answer : Told (in_view (files.worlds before)) (λ world. Sees (look test old path (entry_at world path)).0 result)
  pub lent : OnOk result ((version : List ℕ) × Lends test old now path version (in_view (files.worlds before)))
  pub err : OnErr result (now ≡ old)
  pub sure : IsSome (fixed old path) → IsOk result × (after ≡ before)
  pub unmoved : Told (in_view (files.worlds before)) (λ world. IsUnmoved old path (entry_at world path) → IsOkUnless result errors.ReadFault)
  pub reads : ReadsAt files (will_open old path) path result before after
  pub looked : Looked files before after (Faulted result)
  pub refusal : IfErr result (MayFail test)
