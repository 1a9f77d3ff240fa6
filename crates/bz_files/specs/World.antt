-- Worlds of files: what lies at each path, and what a look there may answer.
use Rattle.std.specs.Prelude.{◌≡◌, ◌⊎◌, ℕ, ℤ, Bool, true, false, List, [], ◌∷◌, Option, Some, None, Result, Ok, Err, refl}
use Rattle.std.specs.Ordering.{nat_cmp}
use Rattle.std.specs.Cmp.Lexicographic.{slice_cmp}
use Rattle.std.specs.FinMap.{FinMap}
use Rattle.std.specs.FinMap as map
use Rattle.std.specs.Coded.{Coded, code_by, coded×, coded⊎, coded_ℕ, coded_ℤ, coded_list}
use base.Stored.{coded_unit}
use Rattle.std.proofs.Common.{inl, inr}
use Rattle.bz_files.specs.declared.stamp.Stamp.{Stamp}
use Rattle.bz_files.specs.declared.files.FileError.{FileError}
use Rattle.bz_files.specs.declared.files.FileError.TheVariants as errors

-- what lies at a path: a file that may not be read, or a version of a file
pub data Entry : Type 0 where
  Denied : Entry
  Present : Stamp → List ℕ → Entry

-- the entries by the bytes of their paths; any other path is absent
abbrev pub World : Type 0
World = FinMap (slice_cmp nat_cmp) Entry

-- what the world has at the path
abbrev pub entry_at : World → List ℕ → Option Entry
entry_at world path = map.get world path

-- whether there is a file that may be read
abbrev pub has_file : Option Entry → Bool
has_file None = false
has_file (Some Denied) = false
has_file (Some (Present stamp bytes)) = true

-- the world with the entry at the path
abbrev pub with_entry : List ℕ → Entry → World → World
with_entry path entry world = map.insert world path entry

-- the world with nothing at the path
abbrev pub without_entry : List ℕ → World → World
without_entry path world = map.remove world path

-- the world in view is the first of those that are told
abbrev pub in_view : Option (List World) → Option World
in_view None = None
in_view (Some []) = None
in_view (Some (world ∷ later)) = Some world

-- the worlds from the next one on, if there is a next one
abbrev pub next_worlds : List World → List World
next_worlds [] = []
next_worlds (world ∷ []) = world ∷ []
next_worlds (world ∷ next ∷ later) = next ∷ later

-- where something is told, this holds of it
abbrev pub Told : {A : Type 0} → Option A → (A → Type 0) → Type 0
Told {A} told P = (x : A) → told ≡ Some x → P x

-- a look answers what lies at the path: Ok by the version there, NotFound and Denied exactly where they
-- hold. A fault and want of memory may come anywhere. It compares with a file, where `Gives` and
-- `MayGive` compare with expected results.
abbrev pub IsAnswer : {A : Type 0} → (A → Stamp → List ℕ → Type 0) → Option Entry → Result A FileError → Type 0
IsAnswer Shows there (Ok given) = (stamp : Stamp) × (bytes : List ℕ) × (there ≡ Some (Present stamp bytes)) × Shows given stamp bytes
IsAnswer Shows there (Err errors.NotFound) = there ≡ None
IsAnswer Shows there (Err errors.Denied) = there ≡ Some Denied
IsAnswer Shows there (Err errors.Fault) = Unit {0}
IsAnswer Shows there (Err errors.OutOfMemory) = Unit {0}

-- stamps, entries and worlds can be kept in the model of a value
abbrev pub coded_stamp : Coded Stamp
coded_stamp =
    code_by (ℕ × (ℕ × (ℕ × (ℤ × ℤ)))) (coded× coded_ℕ (coded× coded_ℕ (coded× coded_ℕ (coded× coded_ℤ coded_ℤ))))
    (λ s. (s.dev, (s.inode, (s.size, (s.mtime_sec, s.mtime_nsec)))))
    (λ p. record { dev = p.0; inode = p.1.0; size = p.1.1.0; mtime_sec = p.1.1.1.0; mtime_nsec = p.1.1.1.1 })
    (λ _. refl)

abbrev entry_parts : Entry → Unit {0} ⊎ (Stamp × List ℕ)
entry_parts Denied = inl tt
entry_parts (Present stamp bytes) = inr (stamp, bytes)

abbrev entry_from : Unit {0} ⊎ (Stamp × List ℕ) → Entry
entry_from (inl _) = Denied
entry_from (inr version) = Present version.0 version.1

abbrev entry_again : (entry : Entry) → entry_from (entry_parts entry) ≡ entry
entry_again Denied = refl
entry_again (Present stamp bytes) = refl

abbrev pub coded_entry : Coded Entry
coded_entry =
    code_by (Unit {0} ⊎ (Stamp × List ℕ)) (coded⊎ coded_unit (coded× coded_stamp (coded_list coded_ℕ))) entry_parts entry_from entry_again

abbrev pub coded_world : Coded World
coded_world = map.code (coded_list coded_ℕ) coded_entry
