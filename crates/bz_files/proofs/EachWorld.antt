-- What lies in a world after an edit, and what holds of each world of a list.
use Rattle.std.proofs.Common.{◌≡◌, ℕ, ◌⊎◌, Bool, true, false, cond, List, [], ◌∷◌, ◌++◌, Some, None, sym, ◌∙◌, inl, inr}
use Rattle.std.specs.Prelude.{Contains}
use Rattle.std.specs.List.{AllByRecursion}
use Rattle.std.specs.FinMap as map
use Rattle.std.specs.FinMap.{get-empty, get-insert, get-remove}
use Rattle.std.specs.Ordering.{nat_cmp, eq_by_cmp}
use Rattle.std.specs.Cmp.Lexicographic.{slice_cmp, nat_list_cmp_total}
use Rattle.std.proofs.lemmas.List.Elements.{All-contains, All-contains_itself, All-from_recursion, All-weaker, recursion_from_All}
use Rattle.bz_files.specs.World.{World, Entry, entry_at, with_entry, without_entry}
use Rattle.bz_files.specs.MemWorlds.{on_last, last_world}

-- what lies at a path after an edit was put there, or lay there before
pub entry_cases : (w : World) (path : List ℕ) (entry : Entry) (p : List ℕ) (x : Entry) → entry_at (with_entry path entry w) p ≡ Some x → (entry ≡ x) ⊎ (entry_at w p ≡ Some x)
entry_cases w path entry p x there = by_test (eq_by_cmp (slice_cmp nat_cmp) p path) (sym (get-insert nat_list_cmp_total w path entry p) ∙ there)
  where
    by_test : (b : Bool) → cond b (Some entry) (entry_at w p) ≡ Some x → (entry ≡ x) ⊎ (entry_at w p ≡ Some x)
    by_test true is = inl (cc is)
    by_test false is = inr is

-- what lies at a path after one was cleared lay there before
pub entry_still : (w : World) (path p : List ℕ) (x : Entry) → entry_at (without_entry path w) p ≡ Some x → entry_at w p ≡ Some x
entry_still w path p x there = by_test (eq_by_cmp (slice_cmp nat_cmp) p path) (sym (get-remove nat_list_cmp_total w path p) ∙ there)
  where
    by_test : (b : Bool) → cond b None (entry_at w p) ≡ Some x → entry_at w p ≡ Some x
    by_test true is = cc is
    by_test false is = is

-- in the empty world there is no version
pub none_in_empty : (p : List ℕ) (x : Entry) → entry_at map.empty p ≡ Some x → ⊥
none_in_empty p x there =
    let absent : entry_at map.empty p ≡ None = get-empty (slice_cmp nat_cmp) p in
    cc (absent, there)

-- what holds of each world of a list
module _ (P : World → Type 0) where
  -- it holds of each that is contained
  pub each_contained : (worlds : List World) → ((w : World) → Contains worlds w → P w) → AllByRecursion P worlds
  each_contained worlds holds = recursion_from_All P worlds (All-weaker (Contains worlds) P holds worlds (All-contains_itself worlds))

  -- and of one of them
  pub each_among : (worlds : List World) (w : World) → AllByRecursion P worlds → Contains worlds w → P w
  each_among worlds w each has = All-contains P worlds w (All-from_recursion P worlds each) has

  -- an edit of the last world that keeps it
  pub each_after : (edit : World → World) → ((w : World) → P w → P (edit w)) → (worlds : List World) → AllByRecursion P worlds → AllByRecursion P (on_last edit worlds)
  each_after edit keeps [] each = tt
  each_after edit keeps (w ∷ []) (first, others) = (keeps w first, tt)
  each_after edit keeps (w ∷ next ∷ later) (first, others) = (first, each_after edit keeps (next ∷ later) others)

  -- the last world is one of them, or empty where there is none
  pub each_last : P map.empty → (worlds : List World) → AllByRecursion P worlds → P (last_world worlds)
  each_last none [] each = none
  each_last none (w ∷ []) (first, others) = first
  each_last none (w ∷ next ∷ later) (first, others) = each_last none (next ∷ later) others

  -- two lists one after the other
  pub each_joined : (front back : List World) → AllByRecursion P front → AllByRecursion P back → AllByRecursion P (front ++ back)
  each_joined [] back each more = more
  each_joined (w ∷ front) back (first, others) more = (first, each_joined front back others more)
