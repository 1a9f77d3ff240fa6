-- A function's data is written piece by piece.
use Rattle.std.proofs.Common.{◌≡◌, ℕ, ◌<◌, List, [], ◌∷◌, ◌++◌, length, refl, sym, ap, ◌∙◌, arith, append_assoc}
use Rattle.bz_gsym.specs.Entries.{entry_head_len, inline_tree, line_table}
use Rattle.bz_gsym_layout.specs.InOrder.{AreInOrder, depth_of}
use Rattle.bz_gsym_layout.specs.Layout.{Tables, calls_bytes, code_bytes, entry_bytes, inline_entry, line_entry, line_table_bytes, numbers_bytes, text_place, tree_bytes, word, zeros}
use Rattle.bz_gsym_layout.specs.Nesting.{map_forest, nested}
use Rattle.bz_gsym_layout.specs.Pass.{IsCodeOf, place_at}
use Rattle.bz_gsym_layout.specs.Plan.{Code, Line}
use Rattle.bz_gsym_layout.specs.RowPass.{AreRowsOf}
use Rattle.bz_gsym_layout.specs.declared.plan.Function.{Function}
use Rattle.bz_gsym_layout.specs.declared.plan.Node.{Node}
use Rattle.bz_gsym_layout.specs.declared.plan.Row.{Row}
use Rattle.bz_gsym_layout.proofs.PassLemmas.{some_before}

module _ (t : Tables) (start : ℕ) where
  -- without rows there is no line entry
  pub no_lines : (lines : List (ℕ × Line)) (rows : List Row) → AreRowsOf t lines rows → length rows ≡ 0 → line_entry t start lines ≡ []
  no_lines [] rows are none = refl
  no_lines (line ∷ lines) [] are none = absurd are
  no_lines (line ∷ lines) (row ∷ rows) are none = absurd (omega (arith, none))

  pub some_lines : (lines : List (ℕ × Line)) (rows : List Row) → AreRowsOf t lines rows → 0 < length rows →
      line_entry t start lines ≡ entry_bytes line_table (line_table_bytes t start lines)
  some_lines [] [] are some = absurd (omega arith)
  some_lines [] (row ∷ rows) are some = absurd are
  some_lines (line ∷ lines) rows are some = refl

module _ (t : Tables) (places : List ℕ) (c : Code) (f : Function) (is : IsCodeOf t places c f) where
  abbrev written_calls : List ℕ
  written_calls = calls_bytes t f.start (map_forest is.view (nested depth_of 0 f.calls.items))

  -- without calls there is no inline entry
  pub no_tree : length f.calls.items ≡ 0 → inline_entry t c c.calls ≡ []
  no_tree none = by f.calls.items none is.calls where
    by : (nodes : List Node) → length nodes ≡ 0 → c.calls ≡ map_forest is.view (nested depth_of 0 nodes) → inline_entry t c c.calls ≡ []
    by [] none same = ap (inline_entry t c) same
    by (x ∷ nodes) none same = absurd (omega (arith, none))

  pub some_tree : AreInOrder f.start f.calls.items → 0 < length f.calls.items → inline_entry t c c.calls ≡ entry_bytes inline_tree (tree_bytes t c)
  some_tree order some = by f.calls.items some order is.calls where
    by : (nodes : List Node) → 0 < length nodes → AreInOrder f.start nodes → c.calls ≡ map_forest is.view (nested depth_of 0 nodes) →
        inline_entry t c c.calls ≡ entry_bytes inline_tree (tree_bytes t c)
    by [] some order same = absurd (omega arith)
    by (x ∷ nodes) some order same =
        ap (inline_entry t c) (same ∙ ap (map_forest is.view) (some_before t is.view depth_of 0 x nodes (order.first x refl)))

  -- the root, and the calls
  pub tree_is : tree_bytes t c ≡ numbers_bytes 0 f.size (place_at places f.name) 1 0 0 ++ written_calls
  tree_is =
      ap (λ n. numbers_bytes 0 n (text_place t c.name) 1 0 0 ++ calls_bytes t c.start c.calls) is.size
      ∙ ap (λ n. numbers_bytes 0 f.size n 1 0 0 ++ calls_bytes t c.start c.calls) is.name
      ∙ ap (λ n. numbers_bytes 0 f.size (place_at places f.name) 1 0 0 ++ calls_bytes t n c.calls) is.start
      ∙ ap (λ calls. numbers_bytes 0 f.size (place_at places f.name) 1 0 0 ++ calls_bytes t f.start calls) is.calls

  pub tree_written : AreInOrder f.start f.calls.items → 0 < length f.calls.items → (old new root text : List ℕ) →
      root ≡ numbers_bytes 0 f.size (place_at places f.name) 1 0 0 → text ≡ root ++ written_calls → new ≡ old ++ entry_bytes inline_tree text →
      new ≡ old ++ inline_entry t c c.calls
  tree_written order some old new root text first rest wrote =
      let whole : text ≡ tree_bytes t c = rest ∙ ap (λ l. l ++ written_calls) first ∙ sym tree_is in
      wrote ∙ ap (λ l. old ++ entry_bytes inline_tree l) whole ∙ ap (λ l. old ++ l) (sym (some_tree order some))

  pieces : (old a b d e g : List ℕ) → ((((old ++ a) ++ b) ++ d) ++ e) ++ g ≡ old ++ (a ++ (b ++ (d ++ (e ++ g))))
  pieces old a b d e g = simp append_assoc

  -- the whole data
  pub code_written : (old first second third fourth new : List ℕ) → first ≡ old ++ word 4 f.size → second ≡ first ++ word 4 (place_at places f.name) →
      third ≡ second ++ line_entry t f.start c.rows → fourth ≡ third ++ inline_entry t c c.calls → new ≡ fourth ++ zeros entry_head_len → new ≡ old ++ code_bytes t c
  code_written old first second third fourth new size name lines tree ends =
      ends ∙ ap (λ l. l ++ zeros entry_head_len) tree
      ∙ ap (λ l. (l ++ inline_entry t c c.calls) ++ zeros entry_head_len) lines
      ∙ ap (λ l. ((l ++ line_entry t f.start c.rows) ++ inline_entry t c c.calls) ++ zeros entry_head_len) name
      ∙ ap (λ l. (((l ++ word 4 (place_at places f.name)) ++ line_entry t f.start c.rows) ++ inline_entry t c c.calls) ++ zeros entry_head_len) size
      ∙ pieces old (word 4 f.size) (word 4 (place_at places f.name)) (line_entry t f.start c.rows) (inline_entry t c c.calls) (zeros entry_head_len)
      ∙ ap (λ n. old ++ (word 4 n ++ (word 4 (place_at places f.name) ++ (line_entry t f.start c.rows ++ (inline_entry t c c.calls ++ zeros entry_head_len))))) (sym is.size)
      ∙ ap (λ n. old ++ (word 4 c.size ++ (word 4 n ++ (line_entry t f.start c.rows ++ (inline_entry t c c.calls ++ zeros entry_head_len))))) (sym is.name)
      ∙ ap (λ n. old ++ (word 4 c.size ++ (word 4 (text_place t c.name) ++ (line_entry t n c.rows ++ (inline_entry t c c.calls ++ zeros entry_head_len))))) (sym is.start)
