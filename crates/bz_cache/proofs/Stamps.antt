-- The order and the equality of stamps.
use Rattle.std.proofs.Common.{◌≡◌, Bool, true, false, ◌&&◌, ap, ◌∙◌, refl}
use Rattle.std.specs.Cmp.{IsTotalOrder, eq_by_cmp_equiv}
use Rattle.std.specs.Ordering.{is_eq}
use Rattle.std.proofs.lemmas.Bool.{false≢true}
use Rattle.std.proofs.lemmas.Bool.Decides.{Decides-int_eq, Decides-eqb}
use Rattle.std.specs.FinMap.{IsAntisymmetric}
use Rattle.bz_files.specs.declared.stamp.Stamp.{Stamp}
use Rattle.bz_files.specs.contracts.stamp.StampOrd.TheImpl.Laws.{total-law, matches_eq-law}
use Rattle.bz_cache.specs.Cache.{stamp_cmp, stamp_eq}

pub stamp_total : IsTotalOrder stamp_cmp
stamp_total = total-law

-- the equality of stamps is that of their order
pub stamp_eq_is : (a b : Stamp) → stamp_eq a b ≡ is_eq (stamp_cmp a b)
stamp_eq_is a b = matches_eq-law a b

-- both parts of a test that holds
both : (a b : Bool) → (a && b) ≡ true → (a ≡ true) × (b ≡ true)
both true b e = (refl, e)
both false b e = absurd (false≢true e)

-- equal stamps are the same
pub same_stamp : (a b : Stamp) → stamp_eq a b ≡ true → a ≡ b
same_stamp a b e =
    let dev = both _ _ e in
    let inode = both _ _ dev.1 in
    let size = both _ _ inode.1 in
    let time = both _ _ size.1 in
    λ i. record {
      dev = (Decides-eqb a.dev b.dev).0 dev.0 i;
      inode = (Decides-eqb a.inode b.inode).0 inode.0 i;
      size = (Decides-eqb a.size b.size).0 size.0 i;
      mtime_sec = (Decides-int_eq a.mtime_sec b.mtime_sec).0 time.0 i;
      mtime_nsec = (Decides-int_eq a.mtime_nsec b.mtime_nsec).0 time.1 i;
    }

-- only equal stamps tie
pub stamps_apart : IsAntisymmetric stamp_cmp
stamps_apart a b e = same_stamp a b (stamp_eq_is a b ∙ ap is_eq e)

pub stamp_eq_self : (a : Stamp) → stamp_eq a a ≡ true
stamp_eq_self a = stamp_eq_is a a ∙ (eq_by_cmp_equiv stamp_total).refl a
