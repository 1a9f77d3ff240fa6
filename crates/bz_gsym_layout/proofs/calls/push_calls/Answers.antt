use Rattle.std.proofs.Common.{◌≡◌, ◌++◌, ◌∷◌, ◌∙◌, [], drop, length, reverse, ap, refl, sym, suc, arith}
use Rattle.std.specs.Prelude.{slice_index_or}
use Rattle.std.proofs.lemmas.List.{drop_all}
use Rattle.std.proofs.lemmas.Option.{slice_get-get_or}
use Rattle.bz_gsym_layout.specs.Layout.{zeros}
use Rattle.bz_gsym_layout.specs.InOrder.{depth_of}
use Rattle.bz_gsym_layout.specs.Pass.{left_bytes}
use Rattle.bz_gsym_layout.specs.declared.plan.Node.{Node}
use Rattle.bz_gsym_layout.proofs.PassTurns.{end_turn, first_turn, fits_next, goes_inside, low_next, none_passes, on_ok}
use Rattle.bz_gsym_layout.proofs.calls.push_calls.Goals as goal

-- what stands where no node does
abbrev no_node : Node
no_node = record { depth = 0; start = 0; size = 0; name = 0; source = 0; line = 0 }

pub loop-index-init : goal.loop-index-init
loop-index-init c =
    let outer = c.new-outer.result.items in
    let empty : outer ≡ [] = c.new-outer.ensures.items in
    record {
      deep = λ x at. omega (arith, c.requires.order.first x at);
      low = λ x at. (c.requires.order.from 0 x at, none_passes x.start outer empty);
      left = λ t view are.
          ap (λ l. c.args.out.now.items ++ left_bytes t view depth_of (c.args.start ∷ reverse l) c.args.nodes.now) empty
          ∙ ap (λ l. c.args.out.now.items ++ l) (first_turn t view c.args.start c.args.nodes.now);
    }

pub push_call-requires-clause-deep : goal.push_call-requires-clause-deep
push_call-requires-clause-deep c = c.loop-index.invariant.deep _ (slice_get-get_or c.args.nodes.now c.loop-index.index no_node c.loop-index-test.true)

pub push_call-requires-clause-low : goal.push_call-requires-clause-low
push_call-requires-clause-low c = (c.loop-index.invariant.low _ (slice_get-get_or c.args.nodes.now c.loop-index.index no_node c.loop-index-test.true)).0

pub push_call-requires-clause-lower : goal.push_call-requires-clause-lower
push_call-requires-clause-lower c = (c.loop-index.invariant.low _ (slice_get-get_or c.args.nodes.now c.loop-index.index no_node c.loop-index-test.true)).1

pub loop-index-preserved : goal.loop-index-preserved
loop-index-preserved c =
    let nodes = c.args.nodes.now in
    let i = c.loop-index.index in
    let x = slice_index_or nodes i no_node in
    let at = slice_get-get_or nodes i no_node c.loop-index-test.true in
    let inside = c.next_is_inside-inside.result in
    let facts = c.next_is_inside-inside.ensures in
    let base = c.in_ok-base.base in
    let after = c.in_ok-base.ensures in
    record {
      deep = λ y at_y. fits_next c.args.start nodes c.requires.order i x at inside facts.inside facts.outside (length c.push_call.new.outer.items) after.count y at_y;
      low = λ y at_y. low_next c.args.start nodes c.requires.order i x at inside facts.inside facts.outside base c.push_call.new.outer.items after.low.0 after.low.1 y at_y;
      left = λ t view are.
          after.left t c.args.places.now view nodes i _ are at refl (goes_inside c.args.start nodes c.requires.order i x at inside facts.inside facts.outside) (c.loop-index.invariant.left t view are);
    }

pub returns-clause-ok : goal.returns-clause-ok
returns-clause-ok c =
    on_ok c.end_all.result _ _ (λ ended t view are.
    let nodes = c.args.nodes.now in
    let s = c.loop-index in
    let done : drop s.index nodes ≡ [] = drop_all s.index nodes (omega (arith, c.loop-index-test.false)) in
    let many : c.len.result ≡ length s.outer.items = omega (arith, c.len.ensures) in
    ended
    ∙ ap (λ n. s.out.items ++ zeros (suc n)) many
    ∙ end_turn t view s.out.items _ s.outer.items s.base
    (ap (λ l. s.out.items ++ left_bytes t view depth_of (s.base ∷ reverse s.outer.items) l) (sym done) ∙ s.invariant.left t view are)) c.end_all.ensures.ok
