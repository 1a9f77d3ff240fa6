use Rattle.std.proofs.Common.{arith, ℕ, nat_eq, cond, not, take, bit_and, refl}
use Rattle.std.proofs.lemmas.List.{length-take-le}
use Rattle.std.proofs.lemmas.Simd.{splat_is_map, zip2_of_maps, zip2_splat}
use Rattle.bz_base.proofs.LoadLemmas.{bits_are}
use Rattle.bz_canon.specs.CanonicalRun.{is_lower}
use Rattle.bz_canon.proofs.canonical_run.uppers.Goals as goal

pub returns : goal.returns
returns c =
    let load = take 32 c.args.text.now in
    let long = length-take-le 32 c.args.text.now c.requires in
    bits_are 32 (λ b. not (is_lower b)) c.args.text.now _ (omega arith) c.requires c.type_inv.text _
    (zip2_of_maps bit_and _ _ load
    (zip2_of_maps (λ a b. cond (nat_eq a b) 255 0) _ _ load (zip2_splat {Y = ℕ} _ load 32 32 long) (splat_is_map load 32 0 long))
    (zip2_splat {Y = ℕ} _ load 32 10 long)) refl
