use Rattle.std.proofs.Common.{arith, ℕ, leb, cond, not, take, bit_and, refl}
use Rattle.std.proofs.lemmas.List.{length-take-le}
use Rattle.std.proofs.lemmas.Simd.{zip2_splat, zip2_of_maps, splat_is_map}
use Rattle.bz_breakpad_lines.specs.Byte.{is_hex}
use Rattle.bz_base.proofs.LoadLemmas.{bits_are}
use Rattle.bz_breakpad_lines.proofs.lanes.hex_stops.Goals as goal

pub returns : goal.returns
returns c =
    let load = take 32 c.args.text.now in
    let long = length-take-le 32 c.args.text.now c.requires in
    bits_are 32 (λ b. not (is_hex b)) c.args.text.now _ (omega arith) c.requires c.type_inv.text _
    (zip2_of_maps bit_and _ _ load
    (zip2_of_maps (λ a b. cond (leb a b) 255 0) _ _ load (splat_is_map load 32 10 long) (zip2_splat {Y = ℕ} _ load 32 48 long))
    (zip2_of_maps (λ a b. cond (leb a b) 255 0) _ _ load (splat_is_map load 32 6 long)
    (zip2_of_maps _ _ _ load (zip2_splat {Y = ℕ} _ load 32 32 long) (splat_is_map load 32 97 long)))) refl
