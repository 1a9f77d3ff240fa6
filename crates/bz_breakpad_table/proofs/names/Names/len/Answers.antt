use Rattle.std.proofs.Common.{length, ap, arith}
use Rattle.std.proofs.lemmas.List.{length-append}
use Rattle.std.proofs.lemmas.List.FromFn.{length-enumerate_from}
use Rattle.std.specs.List.{enumerate_from}
use Rattle.bz_breakpad_table.proofs.names.Names.len.Goals as goal

pub returns : goal.returns
returns c =
    let dense = c.self.inside.dense.items in
    let sparse = c.self.inside.sparse.entries in
    omega (
      arith,
      c.len.ensures,
      c.len-2.ensures.len,
      length-append (enumerate_from 0 dense) sparse,
      length-enumerate_from 0 dense,
      ap length c.self.view_is,
    )
