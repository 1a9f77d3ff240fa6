-- What comes of a registration.
use Rattle.std.proofs.Common.{◌≡◌, ℕ, Bool, true, false, not, ◌||◌, cond, List, [], ◌∷◌, Option, Some, None, option_and_then, unwrap_or, is_some, IsSome, Ok, inl, inr, refl, sym, ap, subst, ◌∙◌}
use Rattle.std.specs.FinMap as map
use Rattle.std.specs.Cmp.Lexicographic.{nat_list_cmp_total}
use Rattle.bz_base.specs.declared.error.Error.{Error}
use Rattle.bz_files.specs.World.{World, Entry, Denied, Present, entry_at}
use Rattle.bz_files.specs.declared.stamp.Stamp.{Stamp}
use Rattle.bz_cache.specs.Cache.{Cache, PathState, stamp_eq}
use Rattle.bz_cache.specs.Eviction.{evicted, is_named}
use Rattle.bz_cache.specs.Insertion.{insertion, insertion_by_entry, insertion_by_fixed, insertion_by_kept}
use Rattle.bz_cache.specs.Look.{by_entry, by_fixed, by_test, look, moved, named, with_earlier}
use Rattle.bz_cache.specs.View.{fixed}
use Rattle.bz_cache.proofs.Evicting.{found_retained, retained}
use Rattle.bz_cache.proofs.FiniteMaps.{get_inserted, insert_cases}
use Rattle.bz_cache.proofs.Naming.{paths_apart}
use Rattle.bz_cache.proofs.Stamps.{same_stamp, stamp_total, stamps_apart}
use Rattle.bz_elf.proofs.ProfileLaws as profiles
use Rattle.bz_elf.specs.Format as elf
use Rattle.bz_elf.specs.Profile.{IsElf}
use Rattle.bz_lookups.specs.Formats.{elf_answering}
use Rattle.bz_symbolize.proofs.NewLemmas.{by_profile}
use Rattle.bz_symbolize.specs.FileCall.{batch_of, by_look, query_asked, single_of}
use Rattle.bz_symbolize.specs.History.{Call, Symbolize, Register, LookAtElf, PinElf, ForgetElf, LookAtPerfMap, PinPerfMap, ForgetPerfMap, MayLeave, state_after}
use Rattle.bz_symbolize.specs.Registration.{AnswersElf, IsAtStamp, MayReachKeeping, StaysRegistered}
use Rattle.bz_symbolize.specs.State.{State}
use Rattle.bz_symbolize.specs.declared.source.Source.TheVariants as sources
use Rattle.bz_symbolize.specs.declared.source.Gsym.TheVariants as gsyms

module _ (c : Cache) (s : Stamp) (b : List ℕ) (kept : map.get c.kept s ≡ Some b) where
  -- a version stays kept where a stamp is named with its version
  named_keeps : (t : Stamp) (d : List ℕ) → map.get (map.insert c.kept t (unwrap_or (map.get c.kept t) d)) s ≡ Some b
  named_keeps t d = elim (insert_cases stamp_total stamps_apart c.kept t (unwrap_or (map.get c.kept t) d) s) [
    | inl at_t ↦
        let same : map.get c.kept t ≡ Some b = ap (map.get c.kept) (sym at_t.0) ∙ kept in
        at_t.1 ∙ ap (λ (o : Option (List ℕ)). Some (unwrap_or o d)) same
    | inr stays ↦ stays ∙ kept
  ]

  -- and where a look is taken
  look_keeps : (test : List ℕ → Option Error) (p : List ℕ) (there : Option Entry) → map.get (look test c p there).1.kept s ≡ Some b
  look_keeps test p there = by_fix (fixed c p)
    where
      by_there : (x : Option Entry) → map.get (by_entry test c p x).1.kept s ≡ Some b
      by_there None = kept
      by_there (Some Denied) = kept
      by_there (Some (Present t d)) = by_tests (test (unwrap_or (map.get c.kept t) d))
        where
          by_tests : (o : Option Error) → map.get (by_test c p t (unwrap_or (map.get c.kept t) d) o).1.kept s ≡ Some b
          by_tests None = named_keeps t d
          by_tests (Some e) = kept

      by_fix : (o : Option Stamp) → map.get (by_fixed test c p there o).1.kept s ≡ Some b
      by_fix None = by_there there
      by_fix (Some t) = kept

  -- and where another version is registered
  insertion_keeps : (p v : List ℕ) (there : Option Entry) → map.get (insertion c p v there).1.kept s ≡ Some b
  insertion_keeps p v there = by_fix (fixed c p)
    where
      by_there : (x : Option Entry) → map.get (insertion_by_entry c p v x).1.kept s ≡ Some b
      by_there None = kept
      by_there (Some Denied) = kept
      by_there (Some (Present t d)) = by_stamp (map.get c.kept t) refl
        where
          by_stamp : (o : Option (List ℕ)) → map.get c.kept t ≡ o → map.get (insertion_by_kept c p v t o).1.kept s ≡ Some b
          by_stamp None absent =
              subst (λ (x : List ℕ). map.get (map.insert c.kept t x) s ≡ Some b) (ap (λ (o : Option (List ℕ)). unwrap_or o v) absent) (named_keeps t v)
          by_stamp (Some k) is = kept

      by_fix : (o : Option Stamp) → map.get (insertion_by_fixed c p v there o).1.kept s ≡ Some b
      by_fix None = by_there there
      by_fix (Some t) = kept

-- and where a path is forgotten, if the stamp is kept then
evicted_keeps : (c : Cache) (s : Stamp) (b : List ℕ) (p : List ℕ) → map.get c.kept s ≡ Some b → IsSome (map.get (evicted c p).kept s) → map.get (evicted c p).kept s ≡ Some b
evicted_keeps c s b p kept still =
    let is = retained c.kept (is_named (map.remove c.paths p)) s in
    let named_s = (found_retained (is_named (map.remove c.paths p) s) (map.get c.kept s) (ap is_some (sym is) ∙ still)).0 in
    is ∙ ap (λ (x : Bool). cond x (map.get c.kept s) None) named_s ∙ kept

module _ (stamp : Stamp) (b : List ℕ) where
  abbrev Keeps : State → Type 0
  Keeps s = map.get s.elf.kept stamp ≡ Some b

  abbrev StillKeeps : State → Type 0
  StillKeeps s = IsSome (map.get s.elf.kept stamp)

  after_call : (call : Call) (s : State) (w : World) → Keeps s → StillKeeps (state_after s w call) → Keeps (state_after s w call)
  after_call (Symbolize (sources.Elf source) kind) s w kept still = look_keeps s.elf stamp b kept elf.format_test _ _
  after_call (Symbolize (sources.Breakpad source) kind) s w kept still = kept
  after_call (Symbolize (sources.Gsym (gsyms.File source)) kind) s w kept still = kept
  after_call (Symbolize (sources.Gsym (gsyms.Data source)) kind) s w kept still = kept
  after_call (Symbolize (sources.Process source) kind) s w kept still = kept
  after_call (Register path bytes) s w kept still = insertion_keeps s.elf stamp b kept path bytes (entry_at w path)
  after_call (LookAtElf path) s w kept still = look_keeps s.elf stamp b kept elf.format_test path (entry_at w path)
  after_call (PinElf pinned path) s w kept still = kept
  after_call (ForgetElf path) s w kept still = evicted_keeps s.elf stamp b path kept still
  after_call (LookAtPerfMap path) s w kept still = kept
  after_call (PinPerfMap pinned path) s w kept still = kept
  after_call (ForgetPerfMap path) s w kept still = kept

  after_step : (call : Call) (s now : State) (w : World) → Keeps s → StillKeeps now → MayLeave s w call now → Keeps now
  after_step call s now w kept still (inl same) = subst Keeps (sym same) kept
  after_step call s now w kept still (inr is) = subst Keeps (sym is) (after_call call s w kept (subst StillKeeps is still))

  -- a stamp that stays kept keeps its version
  reached : (calls : List (World × Call)) (s end : State) → Keeps s → MayReachKeeping stamp s calls end → Keeps end
  reached [] s end kept same = subst Keeps (sym same) kept
  reached (step ∷ later) s end kept (next, leaves, still, rest) = reached later next end (after_step step.1 s next step.0 kept still leaves) rest

module _ (c : Cache) (w : World) (p : List ℕ) (s : Stamp) (b : List ℕ) (kept : map.get c.kept s ≡ Some b) where
  -- a look at a path that is at the stamp gives its version
  looked_at : (test : List ℕ → Option Error) → test b ≡ None → IsAtStamp c w p s → (look test c p (entry_at w p)).0 ≡ Ok b
  looked_at test formed (inl held) =
      ap (λ (o : Option Stamp). (by_fixed test c p (entry_at w p) o).0) held ∙ ap (λ (o : Option (List ℕ)). Ok (unwrap_or o [])) kept
  looked_at test formed (inr (loose, (d, there))) =
      ap (λ (o : Option Stamp). (by_fixed test c p (entry_at w p) o).0) loose
      ∙ ap (λ (x : Option Entry). (by_entry test c p x).0) there
      ∙ ap (λ (o : Option (List ℕ)). (by_test c p s (unwrap_or o d) (test (unwrap_or o d))).0) kept
      ∙ ap (λ (o : Option Error). (by_test c p s b o).0) formed

module _ (c : Cache) (w : World) (p v : List ℕ) (s : Stamp) (d : List ℕ) (there : entry_at w p ≡ Some (Present s d)) where
  -- what fixes a path that was seen with the stamp
  fixed_moved : (reload : Bool) (o : Option PathState) → cond ((moved s o).pinned || not reload) (Some (moved s o).current) None ≡ cond (not reload) (Some s) None
  fixed_moved reload None = refl
  fixed_moved reload (Some e) = by_same (stamp_eq e.current s) refl
    where
      by_same : (x : Bool) → stamp_eq e.current s ≡ x →
          (let state = cond x (record e { pinned = false }) (record { current = s; pinned = false; earlier = with_earlier e.earlier e.current }) in
          cond (state.pinned || not reload) (Some state.current) None) ≡ cond (not reload) (Some s) None
      by_same true same = ap (λ (t : Stamp). cond (not reload) (Some t) None) (same_stamp e.current s same)
      by_same false differs = refl

  fixed_named : fixed (named c p s v) p ≡ cond (not c.reload) (Some s) None
  fixed_named =
      ap (option_and_then (λ (e : PathState). cond (e.pinned || not c.reload) (Some e.current) None)) (get_inserted nat_list_cmp_total paths_apart c.paths p (moved s (map.get c.paths p)))
      ∙ fixed_moved c.reload (map.get c.paths p)

  -- such a path is at the stamp
  placed_named : IsAtStamp (named c p s v) w p s
  placed_named = by_reload c.reload fixed_named
    where
      by_reload : (reload : Bool) → fixed (named c p s v) p ≡ cond (not reload) (Some s) None → IsAtStamp (named c p s v) w p s
      by_reload true is = inr (is, (d, there))
      by_reload false is = inl is

-- where a version was taken in, it was under the stamp of what lies there
inserted : (c : Cache) (p v : List ℕ) (there : Option Entry) → (insertion c p v there).0 ≡ Ok tt →
    (s : Stamp) × (d : List ℕ) × (there ≡ Some (Present s d)) × ((insertion c p v there).1 ≡ named c p s v)
inserted c p v there = by_fix (fixed c p)
  where
    by_there : (x : Option Entry) → (insertion_by_entry c p v x).0 ≡ Ok tt → (s : Stamp) × (d : List ℕ) × (x ≡ Some (Present s d)) × ((insertion_by_entry c p v x).1 ≡ named c p s v)
    by_there None is = cc is
    by_there (Some Denied) is = cc is
    by_there (Some (Present s d)) is = (s, d, refl, by_stamp (map.get c.kept s) is)
      where
        by_stamp : (o : Option (List ℕ)) → (insertion_by_kept c p v s o).0 ≡ Ok tt → (insertion_by_kept c p v s o).1 ≡ named c p s v
        by_stamp None is = refl
        by_stamp (Some k) is = cc is

    by_fix : (o : Option Stamp) → (insertion_by_fixed c p v there o).0 ≡ Ok tt →
        (s : Stamp) × (d : List ℕ) × (there ≡ Some (Present s d)) × ((insertion_by_fixed c p v there o).1 ≡ named c p s v)
    by_fix None is = by_there there is
    by_fix (Some s) is = cc is

-- an ELF source answers by the version that a look gives
answers_looked : (state : State) (w : World) (p b : List ℕ) → elf.format_test b ≡ None → (look elf.format_test state.elf p (entry_at w p)).0 ≡ Ok b → AnswersElf state w p b
answers_looked state w p b formed looked = record {
  looked = looked;
  batch = λ opts kind addrs. ap (by_look (query_asked elf.format_test elf_answering opts p (batch_of kind addrs))) looked ∙ by_profile opts true p addrs kind b None formed;
  single = λ opts kind addr. ap (by_look (query_asked elf.format_test elf_answering opts p (single_of kind addr))) looked ∙ rw formed refl;
}

-- what comes of a registration that was answered
pub stays_registered : (state : State) (w : World) (p b : List ℕ) → IsElf b → (insertion state.elf p b (entry_at w p)).0 ≡ Ok tt → StaysRegistered state w p b
stays_registered state w p b is_elf answered =
    let is = inserted state.elf p b (entry_at w p) answered in
    let formed = profiles.taken b is_elf in
    let kept = ap (λ (c : Cache). map.get c.kept is.0) is.3 ∙ get_inserted stamp_total stamps_apart state.elf.kept is.0 b in
    record {
      stamp = is.0;
      there = is.1;
      present = is.2;
      kept = kept;
      placed = subst (λ (c : Cache). IsAtStamp c w p is.0) (sym is.3) (placed_named state.elf w p b is.0 is.1 is.2);
      answers = λ calls now later other reach at_stamp.
          answers_looked now later other b formed (looked_at now.elf later other is.0 b (reached is.0 b calls (state_after state w (Register p b)) now kept reach) elf.format_test formed at_stamp);
    }
