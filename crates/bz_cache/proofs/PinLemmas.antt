-- Pins that are taken away and given back, and what pinning a file does by what a look at it does.
use Rattle.std.proofs.Common.{◌≡◌, ℕ, Bool, true, false, cond, List, Option, Some, None, Result, Ok, Err, refl, sym, ap, ◌∙◌}
use Rattle.std.specs.Cmp.{Equal-is}
use Rattle.std.specs.Cmp.Lexicographic.{nat_list_cmp_total, slice_cmp}
use Rattle.std.specs.Option.{option_map_or}
use Rattle.std.specs.Ordering.{eq_by_cmp, nat_cmp}
use Rattle.std.specs.FinMap.{get, insert, get-insert, same_map}
use Rattle.bz_base.specs.declared.error.Error.{Error}
use Rattle.bz_base.specs.declared.error.Error.TheVariants as errors
use Rattle.bz_files.specs.World.{World, Entry, entry_at, in_view}
use Rattle.bz_files.specs.declared.files.Files.{Ghosts}
use Rattle.bz_cache.specs.Cache.{Cache, Paths, PathState, is_pinned, with_pin, with_pinned}
use Rattle.bz_cache.specs.Format.{GivesOrFaults, FailsAs}
use Rattle.bz_cache.specs.Look.{look, IsUnmoved, Lends}
use Rattle.bz_cache.proofs.FiniteMaps.{get_inserted, insert_same}
use Rattle.bz_cache.proofs.Naming.{paths_apart}
use Rattle.bz_cache.proofs.Pinning.{consistent_pinned}
use Rattle.bz_cache.specs.Pinning.{IsLeft, LooksAt, PinsFile, Sees, pinned_by, pinning}
use Rattle.bz_cache.proofs.FileLemmas.{reload_look}

again : {A : Type 0} (b : Bool) (v w n : A) → (b ≡ true → n ≡ w) → cond b n (cond b v w) ≡ w
again true v w n same = same refl
again false v w n same = refl

at_equal : (m : Paths) (k q : List ℕ) → eq_by_cmp (slice_cmp nat_cmp) q k ≡ true → get m k ≡ get m q
at_equal m k q e = ap (get m) (sym (paths_apart q k ((Equal-is (slice_cmp nat_cmp q k)).0 e)))

-- a value that is put back
insert_back : (m : Paths) (k : List ℕ) (w v : PathState) → get m k ≡ Some v → insert (insert m k w) k v ≡ m
insert_back m k w v there =
    same_map nat_list_cmp_total paths_apart _ _
    (λ q. get-insert nat_list_cmp_total (insert m k w) k v q ∙ ap (cond (eq_by_cmp (slice_cmp nat_cmp) q k) (Some v)) (get-insert nat_list_cmp_total m k w q)
    ∙ again (eq_by_cmp (slice_cmp nat_cmp) q k) (Some w) (get m q) (Some v) (λ e. sym there ∙ at_equal m k q e))

module _ (c : Cache) (p : List ℕ) where
  -- a path that isn't pinned stays as it is
  unpinned_by : (o : Option PathState) → get c.paths p ≡ o → option_map_or (λ (e : PathState). e.pinned) o false ≡ false →
      option_map_or (λ (e : PathState). insert c.paths p (record e { pinned = false })) o c.paths ≡ c.paths
  unpinned_by None held not = refl
  unpinned_by (Some e) held not = insert_same nat_list_cmp_total paths_apart c.paths p (record e { pinned = false }) (held ∙ ap (λ (b : Bool). Some (record e { pinned = b })) not)

  pub unpinned : is_pinned c p ≡ false → with_pin false c p ≡ c
  unpinned not = ap (λ (paths : Paths). record c { paths = paths }) (unpinned_by (get c.paths p) refl not)

  -- a pin that is taken away and given back
  repinned_by : (o : Option PathState) → get c.paths p ≡ o → option_map_or (λ (e : PathState). e.pinned) o false ≡ true →
      with_pinned true (option_map_or (λ (e : PathState). insert c.paths p (record e { pinned = false })) o c.paths) p ≡ c.paths
  repinned_by None held pinned = cc pinned
  repinned_by (Some e) held pinned =
      let there = get_inserted nat_list_cmp_total paths_apart c.paths p (record e { pinned = false }) in
      ap (λ (o : Option PathState). option_map_or (λ (s : PathState). insert (insert c.paths p (record e { pinned = false })) p (record s { pinned = true })) o (insert c.paths p (record e { pinned = false }))) there
      ∙ insert_back c.paths p (record e { pinned = false }) (record e { pinned = true }) (held ∙ ap (λ (b : Bool). Some (record e { pinned = b })) pinned)

  pub repinned : is_pinned c p ≡ true → with_pin true (with_pin false c p) p ≡ c
  repinned pinned = ap (λ (paths : Paths). record c { paths = paths }) (repinned_by (get c.paths p) refl pinned)

  -- a path at its present stamp is at it without its pin too
  pub unmoved_unpinned : (there : Option Entry) → IsUnmoved c p there → IsUnmoved (with_pin false c p) p there
  unmoved_unpinned there same = record {
    state = record same.state { pinned = false };
    bytes = same.bytes;
    held =
        ap (λ (o : Option PathState). get (option_map_or (λ (e : PathState). insert c.paths p (record e { pinned = false })) o c.paths) p) same.held
        ∙ get_inserted nat_list_cmp_total paths_apart c.paths p (record same.state { pinned = false });
    present = same.present;
  }

  -- a look that is refused refuses the pin
  fails_pinned : (looked : Result (List ℕ) Error × Cache) (e : Error) → FailsAs looked.0 e → FailsAs (pinned_by c p looked).0 e
  fails_pinned looked errors.ReadFault fails = tt
  fails_pinned looked errors.OutOfMemory fails = tt
  fails_pinned (Ok v, now) _ fails = cc fails
  fails_pinned (Err x, now) _ fails = ap Err (cc fails)

  pins_answer : (looked : Result (List ℕ) Error × Cache) (result : Result (Unit {0}) Error) → Sees looked.0 result → GivesOrFaults (λ (done : Unit {0}). done) (pinned_by c p looked).0 result
  pins_answer (Ok v, now) (Ok tt) is = refl
  pins_answer (Err e, now) (Ok tt) is = cc is.1
  pins_answer looked (Err e) is = fails_pinned looked e is

  -- a look that gives a version is pinned
  pins_version : (looked : Result (List ℕ) Error × Cache) (now : Cache) → Sees looked.0 (Ok tt) → now ≡ looked.1 → pinned_by c p looked ≡ (Ok tt, with_pin true now p)
  pins_version (Ok v, left) now is same = ap (λ (x : Cache). (Ok tt, with_pin true x p)) (sym same)
  pins_version (Err e, left) now is same = cc is.1

module _ {X : Type 0} (files : Ghosts X) (test : List ℕ → Option Error) (c : Cache) (p : List ℕ) (before after : X) where
  abbrev Looks : Result (Unit {0}) Error → Cache → Type 0
  Looks result now = LooksAt files test p result (with_pin false c p) now before after

  -- what is left, where it is told what lies at the path or where it isn't
  left_by : (view : Option World) (now : Cache) (version : List ℕ) → ((world : World) → view ≡ Some world → Sees (look test (with_pin false c p) p (entry_at world p)).0 (Ok tt)) →
      Lends test (with_pin false c p) now p version view → IsLeft (pinning test c p) p view (with_pin true now p)
  left_by None now version looked lent = record { there = lent.untold.0; told = λ world seen. cc seen; leaves = ap (pinned_by c p) lent.untold.1 }
  left_by (Some world) now version looked lent = record {
    there = entry_at world p;
    told = λ w seen. let same : world ≡ w = cc seen in ap (λ (x : World). entry_at x p) same;
    leaves = pins_version c p (look test (with_pin false c p) p (entry_at world p)) now (looked world refl) (lent.state world refl);
  }

  -- a look that is answered, and a pin
  pub pins_ok : (now : Cache) → Looks (Ok tt) now → PinsFile files test p (Ok tt) c (with_pin true now p) before after
  pins_ok now did = record {
    answer = λ world seen. pins_answer c p (look test (with_pin false c p) p (entry_at world p)) (Ok tt) (did.answer world seen);
    left = left_by (in_view (files.worlds before)) now did.lent.0 did.answer did.lent.1;
    err = tt;
    sure = did.sure;
    unmoved = λ world seen same. tt;
    consistent = λ well. consistent_pinned test now p true did.lent.1.consistent;
    reload = ap (λ (x : Result (List ℕ) Error × Cache). x.1.reload) (sym did.lent.1.untold.1) ∙ reload_look test (with_pin false c p) p did.lent.1.untold.0;
    reads = did.reads;
    looked = did.looked;
    refusal = tt;
  }

  -- a look that is refused, where everything is as before
  pub pins_err : (e : Error) (now : Cache) → Looks (Err e) now → PinsFile files test p (Err e) c c before after
  pins_err e now did = record {
    answer = λ world seen. pins_answer c p (look test (with_pin false c p) p (entry_at world p)) (Err e) (did.answer world seen);
    left = tt;
    err = refl;
    sure = did.sure;
    unmoved = λ world seen same. did.unmoved world seen (unmoved_unpinned c p (entry_at world p) same);
    consistent = λ well. well;
    reload = refl;
    reads = did.reads;
    looked = did.looked;
    refusal = did.refusal;
  }
