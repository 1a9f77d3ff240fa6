-- What a file cache keeps: versions by their stamps, and for each held path the stamps that it names.
use Rattle.std.specs.Prelude.{◌≡◌, ℕ, Bool, true, false, ◌||◌, List, Option, Some, None, option_map, option_and_then, is_some, IsSome, refl}
use Rattle.std.specs.List.{list_any}
use Rattle.std.specs.Option.{option_map_or}
use Rattle.std.specs.Ordering.{nat_cmp}
use Rattle.std.specs.Cmp.Lexicographic.{slice_cmp}
use Rattle.std.specs.declared.cmp.Ordering.{Ordering}
use Rattle.std.specs.FinMap.{FinMap}
use Rattle.std.specs.FinMap as map
use Rattle.std.specs.Coded.{Coded, code_by, coded×, coded_ℕ, coded_bool, coded_list}
use Rattle.bz_base.specs.declared.error.Error.{Error}
use Rattle.bz_files.specs.declared.stamp.Stamp.{Stamp}
use Rattle.bz_files.specs.contracts.stamp.StampOrd.TheImpl as stamp_ord
use Rattle.bz_files.specs.contracts.stamp.StampPartialEq.TheImpl as stamp_partial_eq
use Rattle.bz_files.specs.World.{coded_stamp}

-- the order of stamps
abbrev pub stamp_cmp : Stamp → Stamp → Ordering
stamp_cmp = (stamp_ord.ghosts).cmp

-- whether two stamps are equal
abbrev pub stamp_eq : Stamp → Stamp → Bool
stamp_eq = (stamp_partial_eq.ghosts).eq

-- a held path: the stamp that it was last seen with, whether it stays there, and the stamps that it was
-- seen with before
pub record PathState : Type 0 where
  pub current : Stamp
  pub pinned : Bool
  pub earlier : List Stamp

-- the bytes of the kept versions, by their stamps
abbrev pub Kept : Type 0
Kept = FinMap stamp_cmp (List ℕ)

-- the held paths, by their bytes
abbrev pub Paths : Type 0
Paths = FinMap (slice_cmp nat_cmp) PathState

-- a cache: whether paths are looked at anew, the kept versions and the held paths
pub record Cache : Type 0 where
  pub reload : Bool
  pub kept : Kept
  pub paths : Paths

-- whether the stamp is among these
abbrev pub is_among : List Stamp → Stamp → Bool
is_among stamps stamp = list_any (λ other. stamp_eq other stamp) stamps

-- a path names its current stamp and its earlier ones
abbrev pub names : PathState → Stamp → Bool
names state stamp = stamp_eq state.current stamp || is_among state.earlier stamp

-- the current stamp of the path, if it is held
abbrev pub current_of : Cache → List ℕ → Option Stamp
current_of cache path = option_map (λ state. state.current) (map.get cache.paths path)

-- the kept bytes of the path's current stamp
abbrev pub kept_at : Cache → List ℕ → Option (List ℕ)
kept_at cache path = option_and_then (λ stamp. map.get cache.kept stamp) (current_of cache path)

-- the path is held
abbrev pub is_held : Cache → List ℕ → Bool
is_held cache path = is_some (map.get cache.paths path)

-- the path is held and pinned
abbrev pub is_pinned : Cache → List ℕ → Bool
is_pinned cache path = option_map_or (λ state. state.pinned) (map.get cache.paths path) false

-- the stamp is kept exactly while some path names it, and every kept version is in the format
pub record Consistent (test : List ℕ → Option Error) (cache : Cache) : Type 0 where
  pub needed : (stamp : Stamp) → IsSome (map.get cache.kept stamp) → (path : List ℕ) × (state : PathState) × (map.get cache.paths path ≡ Some state) × (names state stamp ≡ true)
  pub held : (path : List ℕ) (state : PathState) (stamp : Stamp) → map.get cache.paths path ≡ Some state → names state stamp ≡ true → IsSome (map.get cache.kept stamp)
  pub formed : (stamp : Stamp) (bytes : List ℕ) → map.get cache.kept stamp ≡ Some bytes → test bytes ≡ None

-- a cache that keeps nothing
abbrev pub new_cache : Bool → Cache
new_cache reload = record { reload = reload; kept = map.empty; paths = map.empty }

-- the paths, with this one pinned or unpinned, by the flag, if it is held
abbrev pub with_pinned : Bool → Paths → List ℕ → Paths
with_pinned pinned paths path = option_map_or (λ state. map.insert paths path (record state { pinned = pinned })) (map.get paths path) paths

-- the cache, with the path pinned or unpinned, by the flag, if it is held
abbrev pub with_pin : Bool → Cache → List ℕ → Cache
with_pin pinned cache path = record cache { paths = with_pinned pinned cache.paths path }

-- caches can be kept in the model of a value
abbrev pub coded_state : Coded PathState
coded_state =
    code_by (Stamp × (Bool × List Stamp)) (coded× coded_stamp (coded× coded_bool (coded_list coded_stamp)))
    (λ state. (state.current, (state.pinned, state.earlier)))
    (λ parts. record { current = parts.0; pinned = parts.1.0; earlier = parts.1.1 })
    (λ _. refl)

abbrev pub coded_cache : Coded Cache
coded_cache =
    code_by (Bool × (Kept × Paths)) (coded× coded_bool (coded× (map.code coded_stamp (coded_list coded_ℕ)) (map.code (coded_list coded_ℕ) coded_state)))
    (λ cache. (cache.reload, (cache.kept, cache.paths)))
    (λ parts. record { reload = parts.0; kept = parts.1.0; paths = parts.1.1 })
    (λ _. refl)
