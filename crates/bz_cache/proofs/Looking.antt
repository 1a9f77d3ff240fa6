-- What a look answers, by what lies at the path.
use Rattle.std.proofs.Common.{◌≡◌, ℕ, Bool, true, false, cond, List, [], Option, Some, None, option_map, unwrap_or, option_and_then, not, ◌||◌, is_some, IsSome, IfOk, OnOk, Result, Ok, Err, sym, ap, subst, ◌∙◌, refl}
use Rattle.std.specs.FinMap as map
use Rattle.std.specs.Cmp.Lexicographic.{nat_list_cmp_total}
use Rattle.std.proofs.lemmas.Bool.{false≢true}
use Rattle.bz_base.specs.declared.error.Error.{Error}
use Rattle.bz_files.specs.declared.stamp.Stamp.{Stamp}
use Rattle.bz_files.specs.World.{Entry, Present}
use Rattle.bz_cache.specs.Cache.{Cache, PathState, Consistent, is_among, stamp_eq, current_of}
use Rattle.bz_cache.specs.Format.{GivesOrFaults}
use Rattle.bz_cache.specs.Look.{moved, named, with_earlier, by_test, by_entry, IsUnmoved, IsSomeEntry}
use Rattle.bz_cache.specs.View.{fixed, bytes_at}
use Rattle.bz_cache.proofs.FiniteMaps.{get_inserted}
use Rattle.bz_cache.proofs.Naming.{some_at, or_left, paths_apart}
use Rattle.bz_cache.proofs.Stamps.{stamp_total, stamps_apart, same_stamp, stamp_eq_self}

-- the bytes kept under a stamp that was named with them
pub bytes_named : (c : Cache) (p : List ℕ) (s : Stamp) (v : List ℕ) → bytes_at (named c p s v) s ≡ v
bytes_named c p s v = ap (λ (o : Option (List ℕ)). unwrap_or o []) (get_inserted stamp_total stamps_apart c.kept s v)

-- a path that is seen with a stamp has it as its current one
moved-current : (s : Stamp) (o : Option PathState) → (moved s o).current ≡ s
moved-current s None = refl
moved-current s (Some e) = by_test (stamp_eq e.current s) refl
  where
    by_test : (b : Bool) → stamp_eq e.current s ≡ b → (cond b (record e { pinned = false }) (record { current = s; pinned = false; earlier = with_earlier e.earlier e.current })).current ≡ s
    by_test true same = same_stamp e.current s same
    by_test false differs = refl

pub current_named : (c : Cache) (p : List ℕ) (s : Stamp) (v : List ℕ) → current_of (named c p s v) p ≡ Some s
current_named c p s v =
    ap (option_map (λ (e : PathState). e.current)) (get_inserted nat_list_cmp_total paths_apart c.paths p (moved s (map.get c.paths p))) ∙ ap Some (moved-current s (map.get c.paths p))

module _ (test : List ℕ → Option Error) (c : Cache) (p : List ℕ) (s : Stamp) (b : List ℕ) where
  -- where the test takes a version, it is the answer and is named
  taken : (v : List ℕ) → test v ≡ None → by_test c p s v (test v) ≡ (Ok v, named c p s v)
  taken v formed = ap (by_test c p s v) formed

  -- a kept version answers
  pub by_kept : Consistent test c → IsSome (map.get c.kept s) → by_entry test c p (Some (Present s b)) ≡ (Ok (bytes_at c s), named c p s (bytes_at c s))
  by_kept consistent there =
      let is = some_at (map.get c.kept s) [] there in
      ap (λ (o : Option (List ℕ)). by_test c p s (unwrap_or o b) (test (unwrap_or o b))) is ∙ taken (bytes_at c s) (consistent.formed s (bytes_at c s) is)

  -- a new version in the format answers
  pub by_new : map.get c.kept s ≡ None → test b ≡ None → by_entry test c p (Some (Present s b)) ≡ (Ok b, named c p s b)
  by_new absent formed =
      ap (λ (o : Option (List ℕ)). by_test c p s (unwrap_or o b) (test (unwrap_or o b))) absent ∙ taken b formed

  -- a path's current stamp is kept
  pub current_kept : Consistent test c → current_of c p ≡ Some s → IsSome (map.get c.kept s)
  current_kept consistent current = by_state (map.get c.paths p) refl current
    where
      by_state : (o : Option PathState) → map.get c.paths p ≡ o → option_map (λ (e : PathState). e.current) o ≡ Some s → IsSome (map.get c.kept s)
      by_state None held is = absurd (false≢true (ap is_some is))
      by_state (Some e) held is =
          let same : e.current ≡ s = cc is in
          consistent.held p e s held (or_left (stamp_eq e.current s) (is_among e.earlier s) (subst (λ (t : Stamp). stamp_eq e.current t ≡ true) same (stamp_eq_self e.current)))

  -- where the path is held and its current stamp lies there, that stamp is kept
  pub unmoved_kept : (there : Option Entry) → Consistent test c → IsUnmoved c p there → there ≡ Some (Present s b) → IsSome (map.get c.kept s)
  unmoved_kept there consistent unmoved is =
      let same : unmoved.state.current ≡ s = cc (unmoved.present, is) in
      current_kept consistent (ap (option_map (λ (e : PathState). e.current)) unmoved.held ∙ ap Some same)

  -- a fixed path's stamp is its current one
  pub fixed_current : fixed c p ≡ Some s → current_of c p ≡ Some s
  fixed_current is = by_state (map.get c.paths p) is
    where
      by_state : (o : Option PathState) → option_and_then (λ (e : PathState). cond (e.pinned || not c.reload) (Some e.current) None) o ≡ Some s → option_map (λ (e : PathState). e.current) o ≡ Some s
      by_state None is = is
      by_state (Some e) is = by_pin (e.pinned || not c.reload) is
        where
          by_pin : (pin : Bool) → cond pin (Some e.current) None ≡ Some s → Some e.current ≡ Some s
          by_pin true is = is
          by_pin false is = absurd (false≢true (ap is_some is))

-- a file that lies there with the stamp
abbrev pub IsStampAt : Option Entry → Stamp → Type 0
IsStampAt there given = (s : Stamp) × (b : List ℕ) × (there ≡ Some (Present s b)) × (given ≡ s)

-- a file that lies there with the bytes
abbrev pub IsBytesAt : Option Entry → List ℕ → Type 0
IsBytesAt there given = (s : Stamp) × (b : List ℕ) × (there ≡ Some (Present s b)) × (given ≡ b)

-- a file that lies there with the stamp and the bytes
abbrev pub IsReadAt : Option Entry → Stamp → List ℕ → Type 0
IsReadAt there given items = (s : Stamp) × (b : List ℕ) × (there ≡ Some (Present s b)) × ((given ≡ s) × (items ≡ b))

-- what was read is what lies there
pub read_lies : (there : Option Entry) (given : Stamp) (items : List ℕ) → IsReadAt there given items → there ≡ Some (Present given items)
read_lies there given items found = cc (found.2, found.3.0, found.3.1)

-- what isn't there
pub none_of : {A : Type 0} (o : Option A) → is_some o ≡ false → o ≡ None
none_of None absent = refl
none_of (Some x) absent = absurd (false≢true (sym absent))

module _ (test : List ℕ → Option Error) (c new : Cache) (p : List ℕ) (s : Stamp) (there : Option Entry) (found : IsStampAt there s) where
  -- the entry, with the stamp that was given
  present : there ≡ Some (Present s found.1)
  present = found.2 ∙ ap (λ (t : Stamp). Some (Present t found.1)) (sym found.3)

  -- the answer where the stamp is kept
  pub answer_kept : Consistent test c → IsSome (map.get c.kept s) → new ≡ named c p s (bytes_at c s) → (by_entry test c p there).0 ≡ Ok (bytes_at new s)
  answer_kept consistent kept is =
      rw (present, is) (ap (λ (x : Result (List ℕ) Error × Cache). x.0) (by_kept test c p s found.1 consistent kept) ∙ ap Ok (sym (bytes_named c p s (bytes_at c s))))

  -- the answer where a new version was read
  pub answer_new : (items v : List ℕ) → map.get c.kept s ≡ None → IsBytesAt there items → test items ≡ None → v ≡ items → new ≡ named c p s v → (by_entry test c p there).0 ≡ Ok (bytes_at new s)
  answer_new items v absent read formed version is =
      let same : items ≡ found.1 = cc (present, read.2, read.3) in
      rw (present, is, bytes_named c p s v, version, same) (ap (λ (x : Result (List ℕ) Error × Cache). x.0) (by_new test c p s found.1 absent (subst (λ (b : List ℕ). test b ≡ None) same formed)))

  -- where the path is unmoved, its stamp is kept
  pub not_unmoved : Consistent test c → is_some (map.get c.kept s) ≡ false → IsUnmoved c p there → ⊥
  not_unmoved consistent absent unmoved = false≢true (sym absent ∙ unmoved_kept test c p s found.1 there consistent unmoved present)

-- a file that was read, by its stamp and its bytes
module _ (test : List ℕ → Option Error) (c new : Cache) (p : List ℕ) (s : Stamp) (b : List ℕ) where
  -- what a look at it leaves where the stamp is kept
  pub left_kept : Consistent test c → IsSome (map.get c.kept s) → new ≡ named c p s (bytes_at c s) → new ≡ (by_entry test c p (Some (Present s b))).1
  left_kept consistent kept is = is ∙ sym (ap (λ (x : Result (List ℕ) Error × Cache). x.1) (by_kept test c p s b consistent kept))

  -- and where its version is new
  pub left_new : (v : List ℕ) → map.get c.kept s ≡ None → test b ≡ None → v ≡ b → new ≡ named c p s v → new ≡ (by_entry test c p (Some (Present s b))).1
  left_new v absent formed version is = is ∙ ap (named c p s) version ∙ sym (ap (λ (x : Result (List ℕ) Error × Cache). x.1) (by_new test c p s b absent formed))

-- an answer and what it leaves, together
both_of : {A B : Type 0} (x : A × B) (a : A) (b : B) → x.0 ≡ a → b ≡ x.1 → x ≡ (a, b)
both_of (y, z) a b first second = cc (first, second)

module _ (test : List ℕ → Option Error) (c new : Cache) (p : List ℕ) (there : Option Entry) where
  -- a look at what lies there is some look
  pub some_taken : (r : Result Stamp Error) → GivesOrFaults (bytes_at new) (by_entry test c p there).0 r → OnOk r (new ≡ (by_entry test c p there).1) → IfOk r (λ s. IsSomeEntry test c new p (bytes_at new s))
  some_taken (Ok s) answer left = (there, both_of _ _ _ answer left)
  some_taken (Err e) answer left = tt

module _ (test : List ℕ → Option Error) (c new : Cache) (p : List ℕ) (s : Stamp) where
  -- what is left where a stamp is named with its version, as some look leaves it
  as_named : (there : Option Entry) (v : List ℕ) → by_entry test c p there ≡ (Ok v, named c p s v) → new ≡ named c p s v → IsSomeEntry test c new p (bytes_at new s)
  as_named there v look_is is =
      let P : Cache → Type 0 = λ n. IsSomeEntry test c n p (bytes_at n s) in
      subst P (sym is) (there, look_is ∙ ap (λ (b : List ℕ). (Ok b, named c p s v)) (sym (bytes_named c p s v)))

  -- some look leaves what is left where the stamp is kept
  pub some_kept : Consistent test c → IsSome (map.get c.kept s) → new ≡ named c p s (bytes_at c s) → IsSomeEntry test c new p (bytes_at new s)
  some_kept consistent kept is = as_named (Some (Present s [])) (bytes_at c s) (by_kept test c p s [] consistent kept) is
