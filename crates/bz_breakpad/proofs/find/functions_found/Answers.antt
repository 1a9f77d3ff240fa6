use Rattle.std.proofs.Common.{◌≡◌, ◌<◌, [], ◌∷◌, ◌++◌, None, length, map, ap, subst, sym, ◌∙◌, arith}
use Rattle.std.specs.List.{AllByRecursion, slice_index}
use Rattle.std.proofs.lemmas.List.{length-append, map-append}
use Rattle.bz_base.proofs.ListLemmas.{all_and_one}
use Rattle.bz_breakpad.specs.Found.{AreFunctionsFor, AreUncovered}
use Rattle.bz_breakpad.specs.Plain.{function_at}
use Rattle.bz_breakpad.specs.declared.found.FoundRecord.TheVariants as found
use Rattle.bz_breakpad.proofs.FoundLemmas.{function_more, left_more}
use Rattle.bz_breakpad.proofs.find.functions_found.Goals.{in-Some+in_ok-push-in-Some, in-None+in_ok-push-in-None+in_ok-push-in-None-2+in_ok-push-in-None-3}
use Rattle.bz_breakpad.proofs.find.functions_found.Goals as goal

pub loop-index-preserved : goal.loop-index-preserved
loop-index-preserved c =
    let addrs = c.args.addrs.now in
    let index = c.loop-index.index in
    let so_far = c.loop-index.invariant in
    let records = c.loop-index.records.items in
    let left = c.loop-index.left.items in
    let left_addrs = c.loop-index.left_addrs.items in
    elim c.match-function_index.branch [
      | in-Some+in_ok-push-in-Some w ↦
          let function = w.in-Some.function in
          let pushed = w.in_ok-push-in-Some.ensures.items in
          rw (w.records-is, w.left-is, w.left_addrs-is) (record {
            functions = λ bytes table stands.
                subst (λ rs. AreFunctionsFor table addrs rs left 0) (sym pushed)
                (function_more table addrs records left index function so_far.count (so_far.functions bytes table stands) (w.in-Some.ensures bytes table stands));
            count = omega (arith, so_far.count, ap length pushed, length-append records (found.Function function ∷ []));
            within = so_far.within;
            uncovered = so_far.uncovered;
            addrs_left = so_far.addrs_left;
            fewer = omega (arith, so_far.fewer);
          })
      | in-None+in_ok-push-in-None+in_ok-push-in-None-2+in_ok-push-in-None-3 w ↦
          let pushed = w.in_ok-push-in-None.ensures.items in
          let index_pushed = w.in_ok-push-in-None-2.ensures.items in
          let addr_pushed = w.in_ok-push-in-None-3.ensures.items in
          rw (w.records-is, w.left-is, w.left_addrs-is) (record {
            functions = λ bytes table stands.
                subst (λ rs. AreFunctionsFor table addrs rs w.push-in-None-2.new.self.items 0) (sym pushed)
                (subst (λ ks. AreFunctionsFor table addrs (records ++ found.Absent ∷ []) ks 0) (sym index_pushed)
                (left_more table addrs records left index so_far.count (so_far.functions bytes table stands)));
            count = omega (arith, so_far.count, ap length pushed, length-append records (found.Absent ∷ []));
            within = subst (AllByRecursion (λ k. k < length addrs)) (sym index_pushed) (all_and_one (λ k. k < length addrs) left index so_far.within (omega (arith, c.loop-index-test.true)));
            uncovered = λ bytes table stands.
                subst (AreUncovered table addrs) (sym index_pushed)
                (all_and_one (λ k. function_at (slice_index addrs k) table.functions ≡ None) left index (so_far.uncovered bytes table stands) (w.in-None.ensures bytes table stands));
            addrs_left =
                addr_pushed
                ∙ ap (λ xs. xs ++ slice_index addrs index ∷ []) so_far.addrs_left
                ∙ sym (map-append (slice_index addrs) left (index ∷ []))
                ∙ ap (map (slice_index addrs)) (sym index_pushed);
            fewer = omega (arith, so_far.fewer, ap length addr_pushed, length-append left_addrs (slice_index addrs index ∷ []));
          })
    ]
