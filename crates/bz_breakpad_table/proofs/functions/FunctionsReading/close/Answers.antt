use Rattle.std.proofs.Common.{◌≡◌, ℕ, length, None, ap, ap₂, refl, arith}
use Rattle.bz_breakpad_table.specs.declared.functions.FunctionsReading.{FunctionsReading}
use Rattle.bz_breakpad_table.specs.declared.types.KeptFunction.{KeptFunction}
use Rattle.bz_breakpad_table.specs.declared.types.Part.{Part}
use Rattle.bz_breakpad_table.proofs.FunctionLemmas.{ended_so_far}
use Rattle.bz_breakpad_table.proofs.functions.FunctionsReading.close.Goals as goal

pub returns-in_ok-push : goal.returns-in_ok-push
returns-in_ok-push c bytes closed current so_far =
    let old = c.args.self.now in
    let table = old.table in
    let function = c.in-Some.function in
    let longer = c.extend_from_slice.new.self in
    let new : FunctionsReading = record {
      table = record { functions = c.push.new.self; keys = table.keys; lines = c.ended_lines.new.places; inlinees = longer };
      current = None;
      lines = old.lines;
      listed = c.ended_lines.new.keys;
      calls = c.sort_nested.new.records;
    } in
    let part = c.in_ok-inlinees.ensures in
    let inlinees : c.in_ok-inlinees.inlinees ≡ record { from = length table.inlinees.items; to = length longer.items } =
    ap₂ (λ (from to : ℕ). record { from = from; to = to }) (omega (arith, part.from, c.len-from.ensures, table.inlinees.ok.0)) (omega (arith, part.to, c.len.ensures, longer.ok.0)) in
    let ended : Part → KeptFunction = λ p. record function { lines = c.in_ok-lines.lines; inlinees = p } in
    let lines = c.in_ok-lines.ensures in
    ended_so_far bytes old new function (ended c.in_ok-inlinees.inlinees) lines.more.0 c.sort_nested.new.records.items c.in-Some.is refl c.in_ok-push.ensures.items lines.more.1
    (rw c.deref.ensures.value at c.in_ok-extend_from_slice.ensures.items) c.in_ok-sort_nested.ensures.table (ap ended inlinees)
    (lines.fit bytes) (lines.ended bytes) closed current so_far
