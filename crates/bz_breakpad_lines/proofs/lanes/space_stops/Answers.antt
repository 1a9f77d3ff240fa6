use Rattle.std.proofs.Common.{arith, ℕ, not, take, refl}
use Rattle.std.proofs.lemmas.Simd.{zip2_splat}
use Rattle.std.proofs.lemmas.List.{length-take-le}
use Rattle.bz_base.proofs.LoadLemmas.{bits_are}
use Rattle.bz_breakpad_lines.specs.Byte.{is_past_space}
use Rattle.bz_breakpad_lines.proofs.lanes.space_stops.Goals as goal

pub returns : goal.returns
returns c =
    let load = take 32 c.args.text.now in
    let long = length-take-le 32 c.args.text.now c.requires in
    bits_are 32 (λ b. not (is_past_space b)) c.args.text.now _ (omega arith) c.requires c.type_inv.text _ (zip2_splat {Y = ℕ} _ load 32 32 long) refl
