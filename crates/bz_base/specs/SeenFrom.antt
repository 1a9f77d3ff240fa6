-- How code is seen from outside the calls around it. The calls may be of any kind: each stands at a
-- site and has a name, if they are known.
use Rattle.std.specs.Prelude.{◌≡◌, ℕ, List, [], ◌∷◌, ◌++◌, map, Option, Some, option_map, option_and_then}
use Rattle.bz_base.specs.Answer.{Call, Site}

module _ {C : Type 0} (site : C → Option Site) (name : C → Option (List ℕ)) where
  -- code that lies at a site, inside calls, seen from outside a further call: it lies at that call, and
  -- inside the call at the site
  abbrev pub seen_outside : C → Site × List Call → Option (Site × List Call)
  seen_outside call inner = option_and_then (λ text. option_map (λ at. (at, record { name = text; site = Some inner.0 } ∷ inner.1)) (site call)) (name call)

  module _ (line : Option Site) where
    -- where the code of a line lies, seen from outside the calls around it; none if something isn't
    -- known
    abbrev pub seen_from : List C → Option (Site × List Call)
    seen_from [] = option_map (λ at. (at, [])) line
    seen_from (call ∷ calls) = option_and_then (seen_outside call) (seen_from calls)

    -- the same in whole lists: the sites are those of the calls, and then the line's; the code lies at
    -- the first of them, and each call has its name and the site after its own
    pub record IsSeen (calls : List C) (seen : Site × List Call) : Type 0 where
      pub inner : List Site
      pub sites_are : map (λ at. Some at) (seen.0 ∷ inner) ≡ map site calls ++ line ∷ []
      pub names_are : map (λ call. Some call.name) seen.1 ≡ map name calls
      pub inner_are : map (λ call. call.site) seen.1 ≡ map (λ at. Some at) inner
