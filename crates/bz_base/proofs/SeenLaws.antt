-- What is seen from outside calls, in whole lists.
use Rattle.std.proofs.Common.{◌≡◌, ◌↔◌, ℕ, List, [], ◌∷◌, ◌++◌, map, Option, Some, None, option_map, option_and_then, refl, ap, subst}
use Rattle.std.proofs.lemmas.Option.{option_and_then_some}
use Rattle.bz_base.specs.Answer.{Call, Site}
use Rattle.bz_base.specs.SeenFrom.{IsSeen, seen_from, seen_outside}

module _ {C : Type 0} (site : C → Option Site) (name : C → Option (List ℕ)) where
  -- where the line's own site is known, the code lies there, inside no call
  line_is : (line : Option Site) (seen : Site × List Call) → seen_from site name line [] ≡ Some seen → IsSeen site name line [] seen
  line_is None seen is = cc
  line_is (Some at) seen is =
      let same : (at, []) ≡ seen = cc in
      subst (IsSeen site name (Some at) []) same (record { inner = []; sites_are = refl; names_are = refl; inner_are = refl })

  module _ (line : Option Site) where
    -- what is seen from outside one call more has one site and one name more
    call_is : (call : C) (calls : List C) (inside seen : Site × List Call) → IsSeen site name line calls inside →
        seen_outside site name call inside ≡ Some seen → IsSeen site name line (call ∷ calls) seen
    call_is call calls inside seen is outside = by (name call) (site call) refl refl outside where
      by : (n : Option (List ℕ)) (o : Option Site) → name call ≡ n → site call ≡ o →
          option_and_then (λ text. option_map (λ at. (at, record { name = text; site = Some inside.0 } ∷ inside.1)) o) n ≡ Some seen → IsSeen site name line (call ∷ calls) seen
      by None o named placed from = cc
      by (Some text) None named placed from = cc
      by (Some text) (Some at) named placed from =
          let same : (at, record { name = text; site = Some inside.0 } ∷ inside.1) ≡ seen = cc in
          let sites = is.sites_are in
          let names = is.names_are in
          let inners = is.inner_are in
          subst (IsSeen site name line (call ∷ calls)) same (record { inner = inside.0 ∷ is.inner; sites_are = cc; names_are = cc; inner_are = cc })

    -- what is seen has the sites and names of the calls and the line
    seen_is : (calls : List C) (seen : Site × List Call) → seen_from site name line calls ≡ Some seen → IsSeen site name line calls seen
    seen_is [] seen is = line_is line seen is
    seen_is (call ∷ calls) seen is = option_and_then_some (seen_outside site name call) (seen_from site name line calls) seen is
        (λ inside known outside. call_is call calls inside seen (seen_is calls inside known) outside)

    -- a site and calls that have these sites and names are what is seen
    again : (calls : List C) (at : Site) (told : List Call) (inner : List Site) → map (λ at. Some at) (at ∷ inner) ≡ map site calls ++ line ∷ [] →
        map (λ call. Some call.name) told ≡ map name calls → map (λ call. call.site) told ≡ map (λ at. Some at) inner → seen_from site name line calls ≡ Some (at, told)
    again [] at [] inner sites names inners = let known : line ≡ Some at = cc in ap (option_map _) known
    again [] at (c ∷ told) inner sites names inners = cc
    again (call ∷ calls) at [] inner sites names inners = cc
    again (call ∷ calls) at (c ∷ told) [] sites names inners = cc
    again (call ∷ calls) at (c ∷ told) (next ∷ inner) sites names inners =
        let inside : seen_from site name line calls ≡ Some (next, told) = again calls next told inner (cc) (cc) (cc) in
        let named : name call ≡ Some c.name = cc in
        let placed : site call ≡ Some at = cc in
        let lies : Some next ≡ c.site = cc in
        rw (inside, named, placed) (ap (λ o. Some (at, record { name = c.name; site = o } ∷ told)) lies)

    -- what is seen is what has the sites and names of the calls and the line
    pub calls_rotated : (calls : List C) (seen : Site × List Call) → (seen_from site name line calls ≡ Some seen) ↔ IsSeen site name line calls seen
    calls_rotated calls seen = (seen_is calls seen, λ is. again calls seen.0 seen.1 is.inner is.sites_are is.names_are is.inner_are)
