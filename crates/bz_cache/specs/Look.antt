-- A look at a path: its answer, and the cache after it.
use Rattle.std.specs.Prelude.{◌≡◌, ◌⊎◌, ℕ, Bool, false, not, ◌&&◌, cond, List, [], ◌∷◌, ◌++◌, Option, Some, None, unwrap_or, is_some, IsSome, Result, Ok, Err}
use Rattle.std.specs.FinMap as map
use Rattle.bz_base.specs.declared.error.Error.{Error}
use Rattle.bz_base.specs.declared.error.Error.TheVariants as errors
use Rattle.bz_files.specs.declared.stamp.Stamp.{Stamp}
use Rattle.bz_files.specs.World.{World, Entry, Denied, Present, Told, entry_at}
use Rattle.bz_files.specs.Count.{counted}
use Rattle.bz_cache.specs.Cache.{Cache, PathState, Consistent, stamp_eq, is_among, kept_at}
use Rattle.bz_cache.specs.View.{fixed, bytes_at}

-- the earlier stamps with one more, if it isn't there
abbrev pub with_earlier : List Stamp → Stamp → List Stamp
with_earlier earlier stamp = cond (is_among earlier stamp) earlier (earlier ++ stamp ∷ [])

-- the path seen with the stamp: unpinned, the stamp current, and a former current stamp other than it
-- among the earlier ones
abbrev pub moved : Stamp → Option PathState → PathState
moved stamp None = record { current = stamp; pinned = false; earlier = [] }
moved stamp (Some state) = cond (stamp_eq state.current stamp) (record state { pinned = false }) (record { current = stamp; pinned = false; earlier = with_earlier state.earlier state.current })

-- the cache once the path is seen with the stamp of the version
abbrev pub named : Cache → List ℕ → Stamp → List ℕ → Cache
named cache path stamp version = record { reload = cache.reload; kept = map.insert cache.kept stamp version; paths = map.insert cache.paths path (moved stamp (map.get cache.paths path)) }

-- a version in the format is answered and taken in, another is refused
abbrev pub by_test : Cache → List ℕ → Stamp → List ℕ → Option Error → Result (List ℕ) Error × Cache
by_test cache path stamp version None = (Ok version, named cache path stamp version)
by_test cache path stamp version (Some refusal) = (Err refusal, cache)

-- a path that isn't fixed answers by what lies there; where its stamp is kept, by the kept version
abbrev pub by_entry : (List ℕ → Option Error) → Cache → List ℕ → Option Entry → Result (List ℕ) Error × Cache
by_entry test cache path None = (Err errors.NotFound, cache)
by_entry test cache path (Some Denied) = (Err errors.PermissionDenied, cache)
by_entry test cache path (Some (Present stamp bytes)) = by_test cache path stamp (unwrap_or (map.get cache.kept stamp) bytes) (test (unwrap_or (map.get cache.kept stamp) bytes))

-- a fixed path answers by the kept version of its current stamp
abbrev pub by_fixed : (List ℕ → Option Error) → Cache → List ℕ → Option Entry → Option Stamp → Result (List ℕ) Error × Cache
by_fixed test cache path there (Some stamp) = (Ok (bytes_at cache stamp), cache)
by_fixed test cache path there None = by_entry test cache path there

-- the answer and the new cache of a look at the path, where the world has `there`
abbrev pub look : (List ℕ → Option Error) → Cache → List ℕ → Option Entry → Result (List ℕ) Error × Cache
look test cache path there = by_fixed test cache path there (fixed cache path)

-- whether what lies there is a version whose stamp isn't kept
abbrev pub is_new : Cache → Option Entry → Bool
is_new cache None = false
is_new cache (Some Denied) = false
is_new cache (Some (Present stamp bytes)) = not (is_some (map.get cache.kept stamp))

-- whether a look reads the file: the path isn't fixed, and what lies there isn't kept
abbrev pub will_open : Cache → List ℕ → Option Entry → Bool
will_open cache path there = not (is_some (fixed cache path)) && is_new cache there

-- the path is held, and what lies there has its current stamp
pub record IsUnmoved (cache : Cache) (path : List ℕ) (there : Option Entry) : Type 0 where
  pub state : PathState
  pub bytes : List ℕ
  pub held : map.get cache.paths path ≡ Some state
  pub present : there ≡ Some (Present state.current bytes)

-- the bytes are those kept for the path's current stamp, and they are in the format
abbrev pub IsKeptAt : (List ℕ → Option Error) → Cache → List ℕ → List ℕ → Type 0
IsKeptAt test cache path bytes = (kept_at cache path ≡ Some bytes) × (test bytes ≡ None)

-- something that may lie there gives a path that isn't fixed this answer, and leaves this cache
abbrev pub IsSomeEntry : (List ℕ → Option Error) → Cache → Cache → List ℕ → List ℕ → Type 0
IsSomeEntry test old new path bytes = (there : Option Entry) × (by_entry test old path there ≡ (Ok bytes, new))

-- some look at the path has this answer and leaves this cache
abbrev pub IsSomeLook : (List ℕ → Option Error) → Cache → Cache → List ℕ → List ℕ → Type 0
IsSomeLook test old new path bytes = (there : Option Entry) × (look test old path there ≡ (Ok bytes, new))

-- what an answered look lends and leaves
pub record Lends (test : List ℕ → Option Error) (old new : Cache) (path bytes : List ℕ) (in_view : Option World) : Type 0 where
  -- it lends the kept bytes of the path's current stamp
  pub kept : IsKeptAt test new path bytes
  -- where it is told what lies at the path, it leaves the cache after a look at that
  pub state : Told in_view (λ world. new ≡ (look test old path (entry_at world path)).1)
  -- whatever is told, it leaves the cache after some look
  pub untold : IsSomeLook test old new path bytes
  -- for a fixed path the cache stays as it was
  pub unchanged : IsSome (fixed old path) → new ≡ old
  -- each stamp is kept exactly while some path names it, and each kept version is in the format
  pub consistent : Consistent test new

-- a look that isn't answered changes nothing, and never comes at a fixed path
pub record Unanswered (old new : Cache) (path : List ℕ) : Type 0 where
  pub unchanged : new ≡ old
  pub not_fixed : IsSome (fixed old path) → ⊥

-- what a call that shares the version of a look leaves. An answer leaves what an answered look does.
-- Where memory ran out, the look was answered or not. Any other refusal is that of the look
abbrev pub Shares : {A : Type 0} → (A → List ℕ) → (List ℕ → Option Error) → Result A Error → Cache → Cache → List ℕ → Option World → Type 0
Shares bytes_of test (Ok version) old new path in_view = Lends test old new path (bytes_of version) in_view
Shares bytes_of test (Err errors.OutOfMemory) old new path in_view = Unanswered old new path ⊎ ((bytes : List ℕ) × Lends test old new path bytes in_view)
Shares bytes_of test (Err e) old new path in_view = Unanswered old new path

-- the count of opens once a file was opened or not
abbrev pub opens_after : Bool → ℕ → ℕ
opens_after opened n = cond opened (counted n) n
