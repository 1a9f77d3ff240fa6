use Rattle.std.proofs.Common.{subst, sym}
use Rattle.std.specs.List.{slice_range}
use Rattle.std.proofs.lemmas.Result.{IfOk-weaker}
use Rattle.bz_base.specs.Nearest.{IsTable}
use Rattle.bz_breakpad_table.specs.CallRanges.{call_start}
use Rattle.bz_breakpad_table.specs.declared.types.CallRange.{CallRange}
use Rattle.bz_breakpad_function.proofs.LocationLemmas.{calls_through}
use Rattle.bz_breakpad_function.proofs.locations.calls_around.Goals as goal

pub returns : goal.returns
returns c =
    let standing = slice_range c.args.code.now.inlinees.items c.args.function.now.inlinees.from c.args.function.now.inlinees.to in
    let table = subst (λ items. IsTable (λ (r : CallRange). r.depth) call_start standing items) (sym c.inlinees_of.ensures) c.requires.inlinees.table in
    IfOk-weaker c.chain_in.result _ _ (λ calls finds. calls_through c.args.bytes.now standing c.inlinees_of.result.now table c.args.addr calls.items finds) c.chain_in.ensures
