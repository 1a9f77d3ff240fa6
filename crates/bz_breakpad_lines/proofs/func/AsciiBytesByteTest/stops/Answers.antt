use Rattle.std.proofs.Common.{ℕ, leb, cond, not, take, bit_or, refl, arith}
use Rattle.std.proofs.lemmas.List.{length-take-le}
use Rattle.std.proofs.lemmas.Simd.{zip2_of_maps, zip2_splat, zip2_splat_left}
use Rattle.bz_breakpad_lines.specs.Byte.{is_ascii_in_line}
use Rattle.bz_base.proofs.LoadLemmas.{bits_are}
use Rattle.bz_breakpad_lines.proofs.func.AsciiBytesByteTest.stops.Goals as goal

pub returns : goal.returns
returns c =
    let load = take 32 c.args.text.now in
    let long = length-take-le 32 c.args.text.now c.requires in
    bits_are 32 (λ b. not (is_ascii_in_line b)) c.args.text.now _ (omega arith) c.requires c.type_inv.text _
    (zip2_of_maps bit_or _ _ load
    (zip2_of_maps bit_or _ _ load (zip2_splat_left (λ a b. cond (leb a b) 255 0) 128 32 load long) (zip2_splat {Y = ℕ} _ load 32 10 long))
    (zip2_splat {Y = ℕ} _ load 32 13 long)) refl
