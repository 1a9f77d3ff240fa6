use Rattle.std.proofs.Common.{◌≡◌, ◌-◌, Some, ℕ, List, length, ap, sym, ◌∙◌, arith, length-append}
use Rattle.std.specs.List.{enumerate_from, slice_get}
use Rattle.std.specs.Map.{keys_of}
use Rattle.std.proofs.lemmas.List.FromFn.{length-enumerate_from}
use Rattle.bz_breakpad_table.specs.declared.types.Part.{Part}
use Rattle.bz_breakpad_table.proofs.IdLemmas.{id_early, id_late}
use Rattle.bz_breakpad_table.proofs.names.Names.id_at.Goals as goal

pub returns-then-index-count : goal.returns-then-index-count
returns-then-index-count c =
    let names = c.self.inside in
    let index = c.args.index in
    ap (λ (entries : List (ℕ × Part)). slice_get (keys_of entries) index) (sym c.self.view_is)
    ∙ id_early 0 names.dense.items names.sparse.entries index (omega (arith, c.if-index-count.true, c.len-count.ensures))
    ∙ ap (λ (n : ℕ). Some n) (omega arith)

pub nth_id-requires : goal.nth_id-requires
nth_id-requires c =
    let names = c.self.inside in
    omega (
      arith,
      c.requires,
      c.if-index-count.false,
      c.len-count.ensures,
      ap length c.self.view_is,
      length-append (enumerate_from 0 names.dense.items) names.sparse.entries,
      length-enumerate_from 0 names.dense.items,
    )

pub returns-else-index-count : goal.returns-else-index-count
returns-else-index-count c =
    let names = c.self.inside in
    let index = c.args.index in
    let long : length names.dense.items ≡ c.len-count.result = omega (arith, c.len-count.ensures) in
    ap (λ (entries : List (ℕ × Part)). slice_get (keys_of entries) index) (sym c.self.view_is)
    ∙ id_late 0 names.dense.items names.sparse.entries index (omega (arith, c.if-index-count.false, c.len-count.ensures))
    ∙ ap (λ (n : ℕ). slice_get (keys_of names.sparse.entries) (index - n)) long
    ∙ c.nth_id.ensures
