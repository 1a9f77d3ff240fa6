use Rattle.std.proofs.Common.{arith, ℕ, nat_eq, ◌||◌, take, bit_or, refl}
use Rattle.std.proofs.lemmas.List.{length-take-le}
use Rattle.std.proofs.lemmas.Simd.{zip2_of_maps, zip2_splat}
use Rattle.bz_base.specs.Byte.{space}
use Rattle.bz_base.proofs.LoadLemmas.{bits_are}
use Rattle.bz_canon.specs.CanonicalRun.{zero_digit}
use Rattle.bz_canon.proofs.canonical_run.spares.Goals as goal

pub returns : goal.returns
returns c =
    let load = take 32 c.args.text.now in
    let long = length-take-le 32 c.args.text.now c.requires in
    bits_are 32 (λ b. nat_eq b space || nat_eq b zero_digit) c.args.text.now _ (omega arith) c.requires c.type_inv.text _
    (zip2_of_maps bit_or _ _ load (zip2_splat {Y = ℕ} _ load 32 32 long) (zip2_splat {Y = ℕ} _ load 32 48 long)) refl
