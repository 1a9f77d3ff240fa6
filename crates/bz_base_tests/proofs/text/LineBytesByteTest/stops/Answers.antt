use Rattle.std.proofs.Common.{ℕ, ◌==◌, not, take, refl, arith}
use Rattle.std.proofs.lemmas.List.{length-take-le}
use Rattle.std.proofs.lemmas.Simd.{zip2_splat}
use Rattle.bz_base.proofs.LoadLemmas.{bits_are}
use Rattle.bz_base_tests.proofs.text.LineBytesByteTest.stops.Goals as goal

pub returns : goal.returns
returns c =
    let load = take 32 c.args.text.now in
    let long = length-take-le 32 c.args.text.now c.requires in
    bits_are 32 (λ b. not (not (b == 10))) c.args.text.now _ (omega arith) c.requires c.type_inv.text _ (zip2_splat {Y = ℕ} _ load 32 10 long) refl
