use Rattle.std.proofs.Common.{sym, refl, ◌∙◌}
use Rattle.bz_gsym.specs.Tables.{is_address_size}
use Rattle.bz_gsym.proofs.FileLemmas.{address_there, no_address, no_start_of_size, no_start_past}
use Rattle.bz_gsym.proofs.parser.GsymContext.addr_at.Goals as goal
use Rattle.bz_gsym.proofs.parser.GsymContext.addr_at.Goals.{then-idx-self-via-then-idx-self, then-idx-self-via-else-idx-self+then-not-is_address_size}

pub returns-then-idx-self : goal.returns-then-idx-self
returns-then-idx-self c =
    let s = c.self.inside in
    let head = c.self.invariant.head in
    rw (← c.self.view_is)
    (sym (no_address s.bytes.now s.header head c.args.idx
    (elim c.then-idx-self.branch [
      | then-idx-self-via-then-idx-self w ↦ no_start_past s.bytes.now s.header head c.args.idx w.if-idx-self.true (is_address_size s.header.addr_off_size) refl
      | then-idx-self-via-else-idx-self+then-not-is_address_size w ↦ no_start_of_size s.bytes.now s.header head c.args.idx (sym w.is_address_size.ensures ∙ w.if-not-is_address_size.true)
    ])))

pub returns : goal.returns
returns c =
    let s = c.self.inside in
    rw (← c.self.view_is)
    (address_there s.bytes.now s.header c.self.invariant.head c.args.idx c.checked_add.result c.start_at-start.result
    (sym c.is_address_size.ensures ∙ c.if-not-is_address_size.false) c.if-idx-self.false c.start_at-start.ensures c.checked_add.ensures)
