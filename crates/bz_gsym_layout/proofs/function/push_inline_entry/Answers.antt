use Rattle.std.proofs.Common.{◌≡◌, ◌<◌, ◌++◌, ◌∙◌, length, ap, subst, sym, arith}
use Rattle.std.proofs.lemmas.Bool.{eqb-false}
use Rattle.bz_gsym.specs.Entries.{inline_tree}
use Rattle.bz_gsym_layout.specs.InOrder.{depth_of}
use Rattle.bz_gsym_layout.specs.Layout.{calls_bytes, entry_bytes, numbers_bytes}
use Rattle.bz_gsym_layout.specs.Nesting.{map_forest, nested}
use Rattle.bz_gsym_layout.specs.Pass.{AreNodesOf, place_at}
use Rattle.bz_gsym_layout.proofs.FunctionLemmas.{tree_written}
use Rattle.bz_gsym_layout.proofs.PassTurns.{on_ok}
use Rattle.bz_gsym_layout.proofs.function.push_inline_entry.Goals as goal

pub returns-clause-ok : goal.returns-clause-ok
returns-clause-ok c =
    on_ok c.push_entry.result _ _ (λ wrote t code is.
    let f = c.args.function.now in
    let places = c.args.places.now in
    let old = c.args.out.now.items in
    let root = c.push_numbers.new.out.items in
    let same : c.deref.result.now ≡ f.calls.items = c.deref.ensures.value in
    let some : 0 < length f.calls.items = omega (arith, eqb-false _ _ (sym c.if-is_empty.ensures)) in
    tree_written t places code f is c.requires.1.order some old c.push_entry.new.out.items root c.push_calls.new.out.items
    (c.in_ok-push_numbers.ensures.ok ∙ ap (λ l. l ++ numbers_bytes 0 c.from.result (place_at places f.name) 1 0 0) c.in_ok-text.ensures.items
    ∙ ap (λ n. numbers_bytes 0 n (place_at places f.name) 1 0 0) c.from.ensures)
    (c.in_ok-push_calls.ensures.ok t is.view (subst (AreNodesOf t places is.view) (sym same) is.nodes)
    ∙ ap (λ nodes. root ++ calls_bytes t f.start (map_forest is.view (nested depth_of 0 nodes))) same)
    (wrote ∙ ap (λ l. old ++ entry_bytes inline_tree l) c.deref-2.ensures.value)) c.push_entry.ensures.ok
