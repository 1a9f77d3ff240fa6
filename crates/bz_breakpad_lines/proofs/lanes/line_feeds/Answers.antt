use Rattle.std.proofs.Common.{arith, ℕ, nat_eq, take, refl}
use Rattle.std.proofs.lemmas.List.{length-take-le}
use Rattle.std.proofs.lemmas.Simd.{zip2_splat}
use Rattle.bz_base.specs.Byte.{line_feed}
use Rattle.bz_base.proofs.LoadLemmas.{bits_are}
use Rattle.bz_breakpad_lines.proofs.lanes.line_feeds.Goals as goal

pub returns : goal.returns
returns c =
    let load = take 32 c.args.text.now in
    let long = length-take-le 32 c.args.text.now c.requires in
    bits_are 32 (λ b. nat_eq b line_feed) c.args.text.now _ (omega arith) c.requires c.type_inv.text _ (zip2_splat {Y = ℕ} _ load 32 10 long) refl
