-- What a look answers where equal stamps mean equal bytes, and that they go on to mean that.
use Rattle.std.proofs.Common.{◌≡◌, ℕ, Bool, cond, List, [], Option, Some, None, unwrap_or, is_some, Ok, inl, inr, sym, ap, subst, ◌∙◌, refl}
use Rattle.std.specs.FinMap as map
use Rattle.std.proofs.lemmas.Bool.{false≢true}
use Rattle.std.specs.FinMap.{get-empty}
use Rattle.bz_base.specs.declared.error.Error.{Error}
use Rattle.bz_files.specs.declared.stamp.Stamp.{Stamp}
use Rattle.bz_files.specs.World.{World, Entry, Denied, Present, entry_at}
use Rattle.bz_cache.specs.Cache.{Cache, Consistent, stamp_cmp, new_cache}
use Rattle.bz_files.specs.Agreement.{AgreeOn}
use Rattle.bz_cache.specs.Coherence.{Coherent, HasBytes}
use Rattle.bz_cache.specs.Eviction.{is_named, evicted}
use Rattle.bz_cache.specs.Insertion.{insertion, insertion_by_entry, insertion_by_fixed, insertion_by_kept}
use Rattle.bz_cache.specs.Look.{by_test, by_entry, by_fixed, look}
use Rattle.bz_cache.specs.View.{View, Shown, shown, fixed, bytes_at, by_fixed_view, by_format, bytes_of_view, view}
use Rattle.bz_cache.proofs.FiniteMaps.{insert_cases}
use Rattle.bz_cache.proofs.Looking.{fixed_current, current_kept}
use Rattle.bz_cache.proofs.Naming.{some_at}
use Rattle.bz_cache.proofs.Evicting.{retained, found_retained}
use Rattle.bz_cache.proofs.Stamps.{stamp_total, stamps_apart}

-- the answer by a version and what the test says of it
by_test-answer : (c : Cache) (p : List ℕ) (s : Stamp) (v : List ℕ) (t : Option Error) → (by_test c p s v t).0 ≡ by_format v t
by_test-answer c p s v None = refl
by_test-answer c p s v (Some e) = refl

-- bytes that are those kept, or else those that lie there
version_of : (o : Option (List ℕ)) (d b : List ℕ) → ((k : List ℕ) → o ≡ Some k → d ≡ k) → d ≡ b → d ≡ unwrap_or o b
version_of None d b kept lies = lies
version_of (Some k) d b kept lies = kept k refl

-- the version that answers is the one that lies there
same_version : (o : Option (List ℕ)) (b : List ℕ) → ((k : List ℕ) → o ≡ Some k → b ≡ k) → unwrap_or o b ≡ b
same_version None b same = refl
same_version (Some k) b same = sym (same k refl)

module _ (test : List ℕ → Option Error) (c : Cache) (w : World) (p : List ℕ) (coherent : Coherent c.kept w) where
  -- what lies there answers by its bytes
  by_there : (there : Option Entry) → entry_at w p ≡ there → (by_entry test c p there).0 ≡ bytes_of_view test (shown there)
  by_there None is = refl
  by_there (Some Denied) is = refl
  by_there (Some (Present s b)) is =
      by_test-answer c p s (unwrap_or (map.get c.kept s) b) (test (unwrap_or (map.get c.kept s) b))
      ∙ ap (λ v. by_format v (test v)) (same_version (map.get c.kept s) b (λ k kept. coherent p s b k is kept))

  -- a look answers by the version in view
  pub answer_by_view : Consistent test c → (look test c p (entry_at w p)).0 ≡ bytes_of_view test (view c w p)
  answer_by_view consistent = by_fix (fixed c p) refl
    where
      by_fix : (o : Option Stamp) → fixed c p ≡ o → (by_fixed test c p (entry_at w p) o).0 ≡ bytes_of_view test (by_fixed_view c (entry_at w p) o)
      by_fix None is = by_there (entry_at w p) refl
      by_fix (Some s) is =
          let kept = current_kept test c p s [] consistent (fixed_current test c p s [] is) in
          sym (ap (by_format (bytes_at c s)) (consistent.formed s (bytes_at c s) (some_at (map.get c.kept s) [] kept)))

  -- where it is Ok, its bytes are those in view
  pub shown_by_view : (v : List ℕ) → (look test c p (entry_at w p)).0 ≡ Ok v → view c w p ≡ Shown v
  shown_by_view v = by_fix (fixed c p)
    where
      of_answer : (x : View) → bytes_of_view test x ≡ Ok v → x ≡ Shown v
      of_answer View.Absent is = cc is
      of_answer View.Hidden is = cc is
      of_answer (Shown b) is = by_format_ok (test b) is
        where
          by_format_ok : (t : Option Error) → by_format b t ≡ Ok v → Shown b ≡ Shown v
          by_format_ok None is = ap Shown (cc is)
          by_format_ok (Some e) is = cc is

      by_fix : (o : Option Stamp) → (by_fixed test c p (entry_at w p) o).0 ≡ Ok v → by_fixed_view c (entry_at w p) o ≡ Shown v
      by_fix None is = of_answer (shown (entry_at w p)) (sym (by_there (entry_at w p) refl) ∙ is)
      by_fix (Some s) is = ap Shown (cc is)

module _ (test : List ℕ → Option Error) (c : Cache) (w v : World) (p : List ℕ) (agree : AgreeOn w v) (coherent : Coherent c.kept v) where
  -- a version that is named coheres, where its bytes lie there or were kept
  named_coherent : (s : Stamp) (b : List ℕ) → entry_at w p ≡ Some (Present s b) → Coherent (map.insert c.kept s (unwrap_or (map.get c.kept s) b)) v
  named_coherent s b is q t d k there kept = elim (insert_cases stamp_total stamps_apart c.kept s (unwrap_or (map.get c.kept s) b) t) [
    | inl at_s ↦
        let at_stamp = there ∙ ap (λ (u : Stamp). Some (Present u d)) at_s.0 in
        let is_k : unwrap_or (map.get c.kept s) b ≡ k = cc (at_s.1, kept) in
        version_of (map.get c.kept s) d b (λ x kept_x. coherent q s d x at_stamp kept_x) (sym (agree p q s b d is at_stamp)) ∙ is_k
    | inr stays ↦ coherent q t d k there (sym stays ∙ kept)
  ]

  pub look_coherent : Coherent (look test c p (entry_at w p)).1.kept v
  look_coherent = by_fix (fixed c p)
    where
      by_entries : (there : Option Entry) → entry_at w p ≡ there → Coherent (by_entry test c p there).1.kept v
      by_entries None is = coherent
      by_entries (Some Denied) is = coherent
      by_entries (Some (Present s b)) is = by_tests (test (unwrap_or (map.get c.kept s) b))
        where
          by_tests : (t : Option Error) → Coherent (by_test c p s (unwrap_or (map.get c.kept s) b) t).1.kept v
          by_tests None = named_coherent s b is
          by_tests (Some e) = coherent

      by_fix : (o : Option Stamp) → Coherent (by_fixed test c p (entry_at w p) o).1.kept v
      by_fix None = by_entries (entry_at w p) refl
      by_fix (Some s) = coherent

  -- a version that is taken in coheres, where it has the bytes that lie there
  pub insertion_coherent : (version : List ℕ) → HasBytes (entry_at w p) version → Coherent (insertion c p version (entry_at w p)).1.kept v
  insertion_coherent version true_version = by_fix (fixed c p)
    where
      by_entries : (there : Option Entry) → entry_at w p ≡ there → Coherent (insertion_by_entry c p version there).1.kept v
      by_entries None is = coherent
      by_entries (Some Denied) is = coherent
      by_entries (Some (Present s b)) is = by_stamp (map.get c.kept s) refl
        where
          by_stamp : (o : Option (List ℕ)) → map.get c.kept s ≡ o → Coherent (insertion_by_kept c p version s o).1.kept v
          by_stamp None absent =
              let same : unwrap_or (map.get c.kept s) b ≡ version = ap (λ (o : Option (List ℕ)). unwrap_or o b) absent ∙ true_version s b is in
              subst (λ (x : List ℕ). Coherent (map.insert c.kept s x) v) same (named_coherent s b is)
          by_stamp (Some k) kept = coherent

      by_fix : (o : Option Stamp) → Coherent (insertion_by_fixed c p version (entry_at w p) o).1.kept v
      by_fix None = by_entries (entry_at w p) refl
      by_fix (Some s) = coherent

-- fewer versions cohere as well
pub evicted_coherent : (c : Cache) (v : World) (p : List ℕ) → Coherent c.kept v → Coherent (evicted c p).kept v
evicted_coherent c v p coherent q t d k there kept =
    let is = retained c.kept (is_named (map.remove c.paths p)) t in
    let named_t = (found_retained (is_named (map.remove c.paths p) t) (map.get c.kept t) (ap is_some (sym is ∙ kept))).0 in
    coherent q t d k there (sym (is ∙ ap (λ b. cond b (map.get c.kept t) None) named_t) ∙ kept)

-- nothing is kept that could differ
pub new_coherent : (reload : Bool) (w : World) → Coherent (new_cache reload).kept w
new_coherent reload w p s b k there kept = absurd (false≢true (sym (ap is_some (get-empty stamp_cmp s)) ∙ ap is_some kept))
