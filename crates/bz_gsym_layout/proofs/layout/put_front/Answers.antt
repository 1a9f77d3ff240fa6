use Rattle.std.proofs.Common.{◌≡◌, ◌≤◌, ◌++◌, ◌∙◌, ap, arith, drop, length, length-drop}
use Rattle.std.proofs.lemmas.List.{length-append}
use Rattle.bz_gsym_layout.proofs.WholeLemmas.{put_whole}
use Rattle.bz_gsym_layout.proofs.layout.put_front.Goals as goal

pub returns : goal.returns
returns c =
    let front = c.args.front.now in
    let old = c.args.out.now.items in
    let new : c.overwrite.new.bytes ≡ front ++ drop (length front) old = c.overwrite.ensures ∙ ap (λ l. front ++ drop (length front) l) c.deref_mut.ensures.value in
    let same : length c.overwrite.new.bytes ≡ length old = omega (arith, ap length new, length-append front (drop (length front) old), length-drop (length front) old, c.requires) in
    let many : length old ≤ c.args.out.now.len = omega (arith, c.args.out.now.ok.0, c.args.out.now.ok.1) in
    put_whole c.args.out.now.len c.overwrite.new.bytes old same many ∙ new
