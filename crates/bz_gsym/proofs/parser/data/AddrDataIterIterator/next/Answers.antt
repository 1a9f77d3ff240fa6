use Rattle.std.proofs.Common.{◌≡◌, [], ◌∷◌, sym, ap, ◌∙◌, arith, length}
use Rattle.bz_base.specs.Cursor.{word_at}
use Rattle.bz_gsym.specs.Entries.{entries_in}
use Rattle.bz_gsym.proofs.EntryLemmas.{entry_read, none_filled, none_measured, none_typed, type_ends}
use Rattle.bz_gsym.proofs.parser.data.AddrDataIterIterator.next.Goals as goal

pub returns-in_err-typ-clause-steps : goal.returns-in_err-typ-clause-steps
returns-in_err-typ-clause-steps c =
    let gone : c.args.self.now ≡ [] = sym c.self.view_is ∙ none_typed c.self.inside.rest.now (c.in_err-typ.ensures.reads ∙ ap (word_at 4) c.new-cursor.ensures.left) in
    rw c.from_residual.ensures (gone, gone)

pub returns-then-typ-eq-INFO_TYPE_END_OF_LIST-clause-steps :
    goal.returns-then-typ-eq-INFO_TYPE_END_OF_LIST-clause-steps
returns-then-typ-eq-INFO_TYPE_END_OF_LIST-clause-steps c =
    let gone : c.args.self.now ≡ [] =
    sym c.self.view_is ∙ type_ends c.self.inside.rest.now c.read_u32.new.self.left c.in_ok-typ.typ (c.in_ok-typ.ensures.reads ∙ ap (word_at 4) c.new-cursor.ensures.left) c.if-typ-eq-INFO_TYPE_END_OF_LIST.true in
    (gone, gone)

pub returns-in_err-len-clause-steps : goal.returns-in_err-len-clause-steps
returns-in_err-len-clause-steps c =
    let gone : c.args.self.now ≡ [] =
    sym c.self.view_is ∙ none_measured c.self.inside.rest.now c.read_u32.new.self.left c.in_ok-typ.typ (c.in_ok-typ.ensures.reads ∙ ap (word_at 4) c.new-cursor.ensures.left) c.in_err-len.ensures.reads in
    rw c.from_residual-in_err-len.ensures (gone, gone)

pub returns-in_err-bytes-clause-steps : goal.returns-in_err-bytes-clause-steps
returns-in_err-bytes-clause-steps c =
    let gone : c.args.self.now ≡ [] =
    sym c.self.view_is ∙ none_filled c.self.inside.rest.now c.read_u32.new.self.left c.in_ok-typ.typ (c.in_ok-typ.ensures.reads ∙ ap (word_at 4) c.new-cursor.ensures.left) c.in_ok-len.len c.read_u32-2.new.self.left c.in_ok-len.ensures.reads c.in_err-bytes.ensures.reads in
    rw c.from_residual-in_err-bytes.ensures (gone, gone)

pub returns-clause-steps : goal.returns-clause-steps
returns-clause-steps c =
    sym c.self.view_is
    ∙ entry_read c.self.inside.rest.now c.read_u32.new.self.left c.in_ok-typ.typ (c.in_ok-typ.ensures.reads ∙ ap (word_at 4) c.new-cursor.ensures.left)
    c.in_ok-len.len c.read_u32-2.new.self.left c.in_ok-len.ensures.reads
    c.in_ok-bytes.bytes.now c.read_slice.new.self.left c.in_ok-bytes.ensures.reads c.if-typ-eq-INFO_TYPE_END_OF_LIST.false
    ∙ ap (λ l. record { typ = c.in_ok-typ.typ; text = c.in_ok-bytes.bytes.now } ∷ entries_in l) (sym c.rest-self-inside.ensures)

pub returns-clause-goes : goal.returns-clause-goes
returns-clause-goes c = record {
  on = λ finite. (tt, tt, omega (arith, ap length (returns-clause-steps c)));
  keeps = tt;
  rests = λ finite. tt;
}
