use Rattle.std.proofs.Common.{ℕ, arith, leb, cond, not, take, refl}
use Rattle.std.proofs.lemmas.List.{length-take-le}
use Rattle.std.proofs.lemmas.Simd.{zip2_splat, zip2_of_maps, splat_is_map}
use Rattle.bz_gsym.specs.Strings.{is_nonzero_ascii}
use Rattle.bz_base.proofs.LoadLemmas.{bits_are}
use Rattle.bz_gsym.proofs.parser.text.AsciiBytesByteTest.stops.Goals as goal

pub returns : goal.returns
returns c =
    let load = take 32 c.args.text.now in
    let long = length-take-le 32 c.args.text.now c.requires in
    bits_are 32 (λ b. not (is_nonzero_ascii b)) c.args.text.now _ (omega arith) c.requires c.type_inv.text _
    (zip2_of_maps (λ a b. cond (leb a b) 255 0) _ _ load (splat_is_map load 32 127 long) (zip2_splat {Y = ℕ} _ load 32 1 long)) refl
