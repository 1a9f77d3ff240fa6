use Rattle.std.proofs.Common.{not, map, take, drop, arith, sym, ap, ◌∙◌}
use Rattle.std.proofs.lemmas.List.{length-drop, take_rest}
use Rattle.std.proofs.lemmas.List.Sums.{prefix_len-le-length}
use lib.Lanes.{mask_l}
use Rattle.bz_bytes.proofs.LoadLemmas.{run_by_bits, run_by_none, run_goes_on}
use Rattle.bz_bytes.proofs.scan.run_len.Goals as goal

pub returns-then-stops-ne0-clause-passes : goal.returns-then-stops-ne0-clause-passes
returns-then-stops-ne0-clause-passes g c =
    let test = g.T.ByteTest.passes in
    let text = c.args.text.now in
    let len = c.loop-len.len in
    let load = c.stops-stops.ensures ∙ ap (λ t. mask_l (map (λ b. not (test b)) (take 32 t))) (take_rest text len) in
    omega (arith, run_goes_on test len text c.loop-len.invariant.passes, run_by_bits test c.stops-stops.result (drop len text) load c.if-stops-ne0.true)

pub returns-then-stops-ne0-clause-within : goal.returns-then-stops-ne0-clause-within
returns-then-stops-ne0-clause-within g c = omega (arith, returns-then-stops-ne0-clause-passes g c, prefix_len-le-length g.T.ByteTest.passes c.args.text.now)

pub loop-len-preserved : goal.loop-len-preserved
loop-len-preserved g c =
    let test = g.T.ByteTest.passes in
    let text = c.args.text.now in
    let len = c.loop-len.len in
    let load = c.stops-stops.ensures ∙ ap (λ t. mask_l (map (λ b. not (test b)) (take 32 t))) (take_rest text len) in
    let more = run_by_none test (drop len text) (omega (arith, length-drop len text)) (sym load ∙ c.if-stops-ne0.false) in
    record {
      passes = omega (arith, run_goes_on test len text c.loop-len.invariant.passes, more);
      within = omega arith;
    }
