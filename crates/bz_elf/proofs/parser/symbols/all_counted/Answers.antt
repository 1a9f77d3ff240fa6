use Rattle.std.proofs.Common.{◌++◌, sym, ap, ◌∙◌, arith}
use Rattle.bz_elf.specs.Symbols.{counted_at, entries, symbol_len}
use Rattle.bz_elf.proofs.PlaceLemmas.{all_picked, none_more, one_more, picked_after, picked_from}
use Rattle.bz_elf.proofs.SymbolLemmas.{all_entries}
use Rattle.bz_elf.proofs.parser.symbols.all_counted.Goals as goal

pub loop-index-init : goal.loop-index-init
loop-index-init c =
    let bytes = c.args.bytes.now in
    let table = c.args.table.now in
    ap (λ l. l ++ picked_from (counted_at bytes) table.offset symbol_len 0 table.count) c.new-found.ensures.items ∙ all_entries bytes table c.requires

pub loop-index-preserved-in_default : goal.loop-index-preserved-in_default
loop-index-preserved-in_default c =
    let bytes = c.args.bytes.now in
    let table = c.args.table.now in
    none_more (counted_at bytes) table.offset symbol_len c.loop-index.index table.count c.loop-index.found.items (entries bytes) c.loop-index.invariant (omega arith) (sym c.in_default.ensures)

pub loop-index-preserved : goal.loop-index-preserved
loop-index-preserved c =
    let bytes = c.args.bytes.now in
    let table = c.args.table.now in
    ap (λ l. l ++ picked_after (counted_at bytes) table.offset symbol_len c.loop-index.index table.count) c.in_ok-push.ensures.items
    ∙ one_more (counted_at bytes) table.offset symbol_len c.loop-index.index table.count c.loop-index.found.items (entries bytes) c.loop-index.invariant (omega arith) c.in-Some.symbol (sym c.in-Some.ensures)

pub returns-clause-ok : goal.returns-clause-ok
returns-clause-ok c =
    let bytes = c.args.bytes.now in
    let table = c.args.table.now in
    all_picked (counted_at bytes) table.offset symbol_len c.loop-index.index table.count c.loop-index.found.items (entries bytes) c.loop-index.invariant (omega arith)
