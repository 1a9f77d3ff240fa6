use Rattle.std.proofs.Common.{refl}
use Rattle.bz_breakpad_table.proofs.FunctionLemmas.{longer_so_far}
use Rattle.bz_breakpad_table.proofs.functions.FunctionsReading.list.Goals as goal

pub returns : goal.returns
returns c closed current line reads so_far =
    longer_so_far c.args.bytes.now c.args.self.now _ line refl refl refl (c.in_ok-list_with.ensures line reads) closed current so_far
