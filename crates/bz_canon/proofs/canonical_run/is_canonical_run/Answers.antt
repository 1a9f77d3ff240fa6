use Rattle.std.proofs.Common.{◌≡◌, ◌-◌, length, take, slice_index, sym, ◌∙◌, arith}
use Rattle.bz_canon.proofs.ShownLemmas.{ends_with}
use Rattle.bz_canon.proofs.canonical_run.is_canonical_run.Goals as goal

pub returns : goal.returns
returns c all =
    let text = c.args.text.now in
    let last : slice_index text (length text - 1) ≡ 10 = omega arith in
    record {
      bytes = c.are_canonical.ensures all;
      first = sym c.is_excess.ensures ∙ c.if-is_excess.false;
      front = take (length text - 1) text;
      ends = ends_with text 10 (omega arith) last;
    }
