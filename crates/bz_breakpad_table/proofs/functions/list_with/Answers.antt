use Rattle.bz_breakpad_table.proofs.ListingLemmas.{listed_longer}
use Rattle.bz_breakpad_table.proofs.functions.list_with.Goals as goal

pub returns : goal.returns
returns c line reads =
    listed_longer c.args.bytes.now c.args.keys.now.items c.list_all.new.keys.items c.push.new.self.items c.args.lines c.args.place line
    c.in_ok-list_all.ensures (rw c.line_key.ensures at c.in_ok-push.ensures.items) reads
