use Rattle.std.proofs.Common.{◌≡◌, ◌+◌, ◌++◌, ◌∙◌, length, ap, subst, sym, arith}
use Rattle.std.proofs.lemmas.List.{length-append}
use Rattle.std.specs.Prelude.{slice_index_or}
use Rattle.bz_base.specs.Cursor.{padding}
use Rattle.bz_gsym_layout.specs.Indexed.{IsFunction}
use Rattle.bz_gsym_layout.specs.Layout.{code_bytes, zeros}
use Rattle.bz_gsym_layout.specs.Pass.{IsCodeOf}
use Rattle.std.proofs.lemmas.Option.{slice_get-get_or}
use Rattle.bz_gsym_layout.proofs.DataLemmas.{length_zeros}
use Rattle.bz_gsym_layout.proofs.PlaceLemmas.{data_turn, written_turn}
use Rattle.bz_gsym_layout.proofs.layout.push_data.Goals as goal

pub push_function-requires : goal.push_function-requires
push_function-requires c =
    let s = c.loop-function in
    let fs = c.args.functions.now in
    let i = s.function-index in
    let x = c.function-item.result in
    let y = slice_index_or fs i x in
    (c.requires.0, subst (IsFunction (length c.args.texts.now) c.requires.0) (sym c.function-item.is) (c.requires.1 i y (slice_get-get_or fs i x c.loop-function-test.true)))

pub loop-function-preserved : goal.loop-function-preserved
loop-function-preserved c =
    let s = c.loop-function in
    let fs = c.args.functions.now in
    let i = s.function-index in
    let x = c.function-item.result in
    let y = slice_index_or fs i x in
    let there = slice_get-get_or fs i x c.loop-function-test.true in
    let many : c.len.result ≡ length s.out.items = omega (arith, c.len.ensures) in
    let fills : c.push_zeros.new.out.items ≡ s.out.items ++ zeros (padding (length s.out.items)) =
    c.in_ok-push_zeros.ensures.ok ∙ ap (λ n. s.out.items ++ zeros n) (c.padding.ensures ∙ ap padding many) in
    record {
      written = λ t view are.
          let own = subst (IsCodeOf t c.args.texts.now (view y)) (sym c.function-item.is) (are i y there) in
          written_turn t view fs i x c.loop-function-test.true s.out.items c.push_zeros.new.out.items c.push_function.new.out.items _ fills
          (c.in_ok-push_function.ensures.ok t (view y) own) (s.invariant.written t view are);
      places = λ t view are.
          let own = subst (IsCodeOf t c.args.texts.now (view y)) (sym c.function-item.is) (are i y there) in
          let at : c.len-in-loop-function.result ≡ length s.out.items + padding (length s.out.items) =
          omega (arith, c.len-in-loop-function.ensures, ap length fills, length-append s.out.items (zeros (padding (length s.out.items))), length_zeros (padding (length s.out.items))) in
          let next : length c.push_function.new.out.items ≡ c.len-in-loop-function.result + length (code_bytes t (view y)) =
          omega (arith, c.len-in-loop-function.ensures, ap length (c.in_ok-push_function.ensures.ok t (view y) own), length-append c.push_zeros.new.out.items (code_bytes t (view y))) in
          data_turn t view fs i x c.loop-function-test.true s.places.items c.push.new.self.items _ (length s.out.items) c.len-in-loop-function.result (length c.push_function.new.out.items)
          c.in_ok-push.ensures.items at next (s.invariant.places t view are);
    }
