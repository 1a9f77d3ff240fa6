use Rattle.std.proofs.Common.{arith, nat_lt, cond, not, take, refl}
use Rattle.std.proofs.lemmas.List.{length-take-le}
use Rattle.std.proofs.lemmas.Simd.{zip2_splat_left}
use Rattle.bz_base.proofs.LoadLemmas.{bits_are}
use Rattle.bz_canon.specs.CanonicalRun.{is_gap}
use Rattle.bz_canon.proofs.canonical_run.solids.Goals as goal

pub returns : goal.returns
returns c =
    let load = take 32 c.args.text.now in
    let long = length-take-le 32 c.args.text.now c.requires in
    bits_are 32 (λ b. not (is_gap b)) c.args.text.now _ (omega arith) c.requires c.type_inv.text _ (zip2_splat_left (λ a b. cond (nat_lt a b) 255 0) 32 32 load long) refl
