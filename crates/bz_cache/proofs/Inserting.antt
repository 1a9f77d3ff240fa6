-- What taking in a version that the caller has leaves.
use Rattle.std.proofs.Common.{◌≡◌, ℕ, List, Option, Some, None, Result, Ok, Err, OnOk, sym, ap, ◌∙◌, refl}
use Rattle.std.specs.FinMap as map
use Rattle.bz_base.specs.declared.error.Error.{Error}
use Rattle.bz_files.specs.declared.stamp.Stamp.{Stamp}
use Rattle.bz_files.specs.World.{World, Entry, Present, Told, entry_at}
use Rattle.bz_cache.specs.Cache.{Cache, Consistent}
use Rattle.bz_cache.specs.Insertion.{insertion, insertion_by_fixed, insertion_by_kept, Inserts}
use Rattle.bz_cache.specs.Look.{named}
use Rattle.bz_cache.specs.View.{fixed}
use Rattle.bz_cache.proofs.Looking.{IsStampAt}

module _ (c : Cache) (p v : List ℕ) (s : Stamp) (loose : fixed c p ≡ None) (absent : map.get c.kept s ≡ None) where
  -- a version is taken in under the stamp that lies there
  pub inserted_at : (there : Option Entry) → IsStampAt there s → insertion c p v there ≡ (Ok tt, named c p s v)
  inserted_at there found =
      let at_stamp : there ≡ Some (Present s found.1) = found.2 ∙ ap (λ (t : Stamp). Some (Present t found.1)) (sym found.3) in
      ap (λ (o : Option Stamp). insertion_by_fixed c p v there o) loose
      ∙ ap (λ (x : Option Entry). insertion_by_fixed c p v x None) at_stamp
      ∙ ap (insertion_by_kept c p v s) absent

  -- what is left, as the insertion leaves it
  pub inserts_named : (test : List ℕ → Option Error) (new : Cache) (in_view : Option World) → Told in_view (λ w. IsStampAt (entry_at w p) s) →
      (result : Result (Unit {0}) Error) → OnOk result (new ≡ named c p s v) → OnOk result (Consistent test new) → OnOk result (Inserts test c new p v in_view)
  inserts_named test new in_view found (Ok _) is consistent = record {
    state = λ w told. is ∙ sym (ap (λ (x : Result (Unit {0}) Error × Cache). x.1) (inserted_at (entry_at w p) (found w told)));
    untold = (Some (Present s v), inserted_at (Some (Present s v)) (s, v, refl, refl) ∙ ap (λ (n : Cache). (Ok tt, n)) (sym is));
    consistent = consistent;
  }
  inserts_named test new in_view found (Err e) is consistent = tt
