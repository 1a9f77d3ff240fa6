use Rattle.std.proofs.Common.{◌∙◌, arith}
use Rattle.bz_elf.specs.Names.{is_name_at}
use Rattle.bz_elf.proofs.PassLemmas.{passes_here}
use Rattle.bz_elf.proofs.parser.names.are_names.Goals as goal
use Rattle.bz_elf.proofs.parser.names.are_names.Goals.{then-place-end+in-Some, else-place-end+else-not-is_boundary}

pub loop-place-preserved : goal.loop-place-preserved
loop-place-preserved c =
    let test = is_name_at c.args.strings.now in
    let places = c.args.places.now in
    let index = c.loop-place.place-index in
    let so_far = c.loop-place.invariant in
    elim c.if-place-end.branch [
      | then-place-end+in-Some w ↦ record {
        so_far = passes_here test places index (omega arith) w.in-Some.ensures.name ∙ so_far.so_far;
        within = omega (arith, w.end-is, w.in-Some.ensures.text.within);
        ahead = λ i later less before. w.in-Some.ensures.text.names _ (c.requires index i 0 (omega (arith, later)) less) (omega (arith, before, w.end-is));
      }
      | else-place-end+else-not-is_boundary w ↦ record {
        so_far = passes_here test places index (omega arith) ((so_far.ahead index (omega arith) (omega arith) (omega (arith, w.if-place-end.false))).1 (w.is_boundary.ensures.0 w.if-not-is_boundary.false)) ∙ so_far.so_far;
        within = omega (arith, w.end-is, so_far.within);
        ahead = λ i later less before. so_far.ahead i (omega (arith, later)) less (omega (arith, before, w.end-is));
      }
    ]
