-- What is remembered of a process after looks and remembered ids: what it was, or what its status
-- tells.
use Rattle.std.proofs.Common.{◌≡◌, ℕ, Bool, true, false, cond, List, [], ◌∷◌, Option, Some, None, Ok, inl, inr, refl, sym, ap, subst, ◌∙◌}
use Rattle.std.specs.BTreeMap.{insert_entry, is_at}
use Rattle.std.specs.Cmp.{IsTotalOrder, unsigned_tied}
use Rattle.std.specs.Int.NonZero.{non_zero_u32_get}
use Rattle.std.specs.List.{AllByRecursion}
use Rattle.std.specs.Option.{option_map_or}
use Rattle.std.proofs.lemmas.Bool.{eqb-true}
use Rattle.bz_base.specs.contracts.pid.PidOrd.TheImpl.Laws.{total-law}
use Rattle.bz_base.specs.declared.pid.Pid.{Pid}
use Rattle.bz_base.specs.declared.pid.Pid.TheVariants as pids
use Rattle.bz_base.proofs.PidLemmas.{ids_same}
use Rattle.bz_files.specs.World.{World, entry_at}
use Rattle.bz_cache.specs.InsertMap.{value_at, with_absent}
use Rattle.bz_proc.specs.PerfId.{ns_tgid_of, status_path}
use Rattle.bz_process.specs.Caches.{ProcessCaches}
use Rattle.bz_process.specs.Process.{pid_cmp, remembered}
use Rattle.bz_process.specs.ProcessCall.{Change, LookElf, LookPerfMap, Remember, IsTold, after_changes, changed}
use Rattle.bz_process.specs.Reached.{IsAsTold, IsToldAnew}
use Rattle.bz_process.specs.Remembered.{Remembered}
use Rattle.bz_process.proofs.DispatchLemmas.{value_added}

-- processes are in a total order, and equal where it doesn't tell them apart
pub pid_total : IsTotalOrder pid_cmp
pid_total = total-law

pid_is : (a b : Pid) → is_at (pid_cmp a) b ≡ true → a ≡ b
pid_is pids.Slf pids.Slf is = refl
pid_is pids.Slf (pids.Pid n) is = cc is
pid_is (pids.Pid n) pids.Slf is = cc is
pid_is (pids.Pid n) (pids.Pid m) is = ap pids.Pid (ids_same n m (eqb-true _ _ (sym (unsigned_tied (non_zero_u32_get n) (non_zero_u32_get m)) ∙ is)))

module _ (own : ℕ) (world : World) (pid : Pid) where
  told_both : (old mid now : Option Remembered) → IsAsTold own world pid old mid → IsAsTold own world pid mid now → IsAsTold own world pid old now
  told_both old mid now (inl one) (inl two) = inl (two ∙ one)
  told_both old mid now (inl one) (inr two) = inr (record { id = two.id; unknown = sym one ∙ two.unknown; told = two.told; known = two.known })
  told_both old mid now (inr one) (inl two) = inr (record { id = one.id; unknown = one.unknown; told = one.told; known = two ∙ one.known })
  told_both old mid now (inr one) (inr two) = cc (sym one.known ∙ two.unknown)

  module _ (other : Pid) (known : Remembered) (ids : List (Pid × Remembered)) (told : (id : ℕ) × (ns_tgid_of other own (entry_at world (status_path other)) ≡ Ok id) × (known ≡ remembered other own id)) where
    told_here : pid ≡ other → value_at pid_cmp ids other ≡ None → IsToldAnew own world pid (value_at pid_cmp ids pid) (Some known)
    told_here same absent = record {
      id = told.0;
      unknown = ap (value_at pid_cmp ids) same ∙ absent;
      told = ap (λ (p : Pid). ns_tgid_of p own (entry_at world (status_path p))) same ∙ told.1;
      known = ap Some (told.2 ∙ ap (λ (p : Pid). remembered p own told.0) (sym same));
    }

    by_tie : (b : Bool) → is_at (pid_cmp pid) other ≡ b → value_at pid_cmp ids other ≡ None → IsAsTold own world pid (value_at pid_cmp ids pid) (cond b (Some known) (value_at pid_cmp ids pid))
    by_tie false tied absent = inl refl
    by_tie true tied absent = inr (told_here (pid_is pid other tied) absent)

    by_found : (found : Option Remembered) → value_at pid_cmp ids other ≡ found → IsAsTold own world pid (value_at pid_cmp ids pid) (value_at pid_cmp (with_absent pid_cmp ids other known) pid)
    by_found None absent = subst (IsAsTold own world pid (value_at pid_cmp ids pid)) (sym (value_added pid_total other known pid ids absent)) (by_tie (is_at (pid_cmp pid) other) refl absent)
    by_found (Some x) there = inl (ap (λ (o : Option Remembered). value_at pid_cmp (option_map_or (λ _. ids) o (insert_entry pid_cmp ids other known)) pid) there)

  change_told : (change : Change) (kept : ProcessCaches) → IsTold own world change → IsAsTold own world pid (value_at pid_cmp kept.ids pid) (value_at pid_cmp (changed change kept).ids pid)
  change_told (LookElf path there) kept told = inl refl
  change_told (LookPerfMap path there) kept told = inl refl
  change_told (Remember other known) kept told = by_found other known kept.ids told (value_at pid_cmp kept.ids other) refl

  -- over any list of changes that the world tells
  pub changes_told : (changes : List Change) (kept : ProcessCaches) → AllByRecursion (IsTold own world) changes → IsAsTold own world pid (value_at pid_cmp kept.ids pid) (value_at pid_cmp (after_changes changes kept).ids pid)
  changes_told [] kept told = inl refl
  changes_told (change ∷ later) kept told = told_both _ _ _ (change_told change kept told.0) (changes_told later (changed change kept) told.1)
