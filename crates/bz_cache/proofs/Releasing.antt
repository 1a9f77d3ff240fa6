-- How the counts change where a path no longer names a stamp.
use Rattle.std.proofs.Common.{◌≡◌, Bool, true, false, ◌||◌, cond, leb, List, [], ◌∷◌, ◌++◌, Option, Some, None, option_map, is_some, IsSome, sym, ap, ◌∙◌, refl}
use Rattle.std.specs.Option.{option_map_or}
use Rattle.std.proofs.lemmas.Bool.{false≢true}
use Rattle.std.specs.Cmp.{eq_by_cmp_equiv}
use Rattle.std.specs.FinMap as map
use Rattle.std.specs.FinMap.{get-remove}
use Rattle.bz_files.specs.declared.stamp.Stamp.{Stamp}
use Rattle.bz_cache.specs.Cache.{stamp_eq, is_among}
use Rattle.bz_cache.specs.Counts.{Counted, CountedVersions, one_fewer, released}
use Rattle.bz_cache.proofs.Naming.{among_push}
use Rattle.bz_cache.proofs.Stamps.{stamp_total, stamp_eq_is, stamp_eq_self, same_stamp}

-- no other path names the version
abbrev is_last : Option Counted → Bool
is_last version = option_map_or (λ v. leb v.paths 1) version false

-- a version that the last path leaves, and one that another path names
at_last : (b : Bool) (o : Option Counted) → (b ≡ true → is_last o ≡ true) → cond b None (cond b (option_map one_fewer o) o) ≡ released b o
at_last false o last = refl
at_last true None last = refl
at_last true (Some v) last = sym (ap (λ l. cond l None (Some (one_fewer v))) (last refl))

not_last : (b : Bool) (o : Option Counted) → (b ≡ true → is_last o ≡ false) → cond b (option_map one_fewer o) o ≡ released b o
not_last false o others = refl
not_last true None others = refl
not_last true (Some v) others = sym (ap (λ l. cond l None (Some (one_fewer v))) (others refl))

module _ (old lowered : CountedVersions) (s : Stamp) (last : Bool) (is : last ≡ is_last (map.get old s))
    (fewer : (t : Stamp) → map.get lowered t ≡ cond (stamp_eq s t) (option_map one_fewer (map.get old t)) (map.get old t)) where
  -- what is known of the version at an equal stamp
  at_equal : (t : Stamp) → stamp_eq s t ≡ true → is_last (map.get old t) ≡ last
  at_equal t same = ap (λ (u : Stamp). is_last (map.get old u)) (sym (same_stamp s t same)) ∙ sym is

  -- the last path takes the version with it
  pub released_last : last ≡ true → (t : Stamp) → map.get (map.remove lowered s) t ≡ released (stamp_eq s t) (map.get old t)
  released_last gone t =
      get-remove stamp_total lowered s t
      ∙ ap (λ (b : Bool). cond b None (map.get lowered t)) (sym ((eq_by_cmp_equiv stamp_total).symm s t) ∙ sym (stamp_eq_is s t))
      ∙ ap (cond (stamp_eq s t) None) (fewer t)
      ∙ at_last (stamp_eq s t) (map.get old t) (λ same. at_equal t same ∙ gone)

  -- another leaves it
  pub released_other : last ≡ false → (t : Stamp) → map.get lowered t ≡ released (stamp_eq s t) (map.get old t)
  released_other stays t = fewer t ∙ not_last (stamp_eq s t) (map.get old t) (λ same. at_equal t same ∙ stays)

-- a stamp that is named besides is released with the others
named_again : (a r e : Bool) → (e ≡ true → (a || r) ≡ true) → (a || (r || e)) ≡ (a || r)
named_again true r e others = refl
named_again false true e others = refl
named_again false false false others = refl
named_again false false true others = sym (others refl)

-- any other before them
named_once : (a r e : Bool) (o : Option Counted) → (e ≡ true → (a || r) ≡ false) → released (a || (r || e)) o ≡ released (a || r) (released e o)
named_once false false e o alone = refl
named_once true r false o alone = refl
named_once false true false o alone = refl
named_once true r true o alone = cc (alone refl)
named_once false true true o alone = cc (alone refl)

-- what is named by fewer is named by more
named_more : (a r e : Bool) → (a || r) ≡ true → (a || (r || e)) ≡ true
named_more true r e named = refl
named_more false true e named = refl
named_more false false e named = absurd (false≢true named)

-- what is named still was kept, and isn't released
kept_still : (a r e : Bool) (o : Option Counted) → (e ≡ true → (a || r) ≡ false) → ((a || (r || e)) ≡ true → IsSome o) → (a || r) ≡ true → IsSome (released e o)
kept_still a r true o alone kept named = absurd (false≢true (sym (alone refl) ∙ named))
kept_still a r false o alone kept named = kept (named_more a r false named)

-- the last is named
named_by_last : (a r e : Bool) → e ≡ true → (a || (r || e)) ≡ true
named_by_last true r e last = refl
named_by_last false true e last = refl
named_by_last false false e last = last

module _ (current stamp : Stamp) (all rest : List Stamp) (is : all ≡ rest ++ stamp ∷ []) where
  -- what the path names
  parts : (t : Stamp) → (stamp_eq current t || is_among all t) ≡ (stamp_eq current t || (is_among rest t || stamp_eq stamp t))
  parts t = ap (λ (stamps : List Stamp). stamp_eq current t || is_among stamps t) is ∙ ap (λ b. stamp_eq current t || b) (among_push rest stamp t)

  -- what is left to release, where the stamp is named besides
  pub left_again : (stamp_eq current stamp || is_among rest stamp) ≡ true → (t : Stamp) (o : Option Counted) →
      released (stamp_eq current t || is_among all t) o ≡ released (stamp_eq current t || is_among rest t) o
  left_again besides t o = ap (λ b. released b o) (parts t ∙ named_again (stamp_eq current t) (is_among rest t) (stamp_eq stamp t) (λ same. ap (λ (u : Stamp). stamp_eq current u || is_among rest u) (sym (same_stamp stamp t same)) ∙ besides))

  -- and where it isn't
  pub left_once : (stamp_eq current stamp || is_among rest stamp) ≡ false → (t : Stamp) (o n : Option Counted) → n ≡ released (stamp_eq stamp t) o →
      released (stamp_eq current t || is_among all t) o ≡ released (stamp_eq current t || is_among rest t) n
  left_once alone t o n new =
      ap (λ b. released b o) (parts t)
      ∙ named_once (stamp_eq current t) (is_among rest t) (stamp_eq stamp t) o (λ same. ap (λ (u : Stamp). stamp_eq current u || is_among rest u) (sym (same_stamp stamp t same)) ∙ alone)
      ∙ ap (released (stamp_eq current t || is_among rest t)) (sym new)

  -- the stamp is named
  pub named_last : (stamp_eq current stamp || is_among all stamp) ≡ true
  named_last = parts stamp ∙ named_by_last (stamp_eq current stamp) (is_among rest stamp) (stamp_eq stamp stamp) (stamp_eq_self stamp)

  -- and so is what is named without it
  pub kept_again : (t : Stamp) → (stamp_eq current t || is_among rest t) ≡ true → (stamp_eq current t || is_among all t) ≡ true
  kept_again t named = parts t ∙ named_more (stamp_eq current t) (is_among rest t) (stamp_eq stamp t) named

  -- once it is released, what is named still is kept
  pub kept_once : (stamp_eq current stamp || is_among rest stamp) ≡ false → (t : Stamp) (o n : Option Counted) → n ≡ released (stamp_eq stamp t) o →
      ((stamp_eq current t || is_among all t) ≡ true → IsSome o) → (stamp_eq current t || is_among rest t) ≡ true → IsSome n
  kept_once alone t o n new kept named =
      ap is_some new
      ∙ kept_still (stamp_eq current t) (is_among rest t) (stamp_eq stamp t) o (λ same. ap (λ (u : Stamp). stamp_eq current u || is_among rest u) (sym (same_stamp stamp t same)) ∙ alone)
      (λ is. kept (parts t ∙ is)) named
