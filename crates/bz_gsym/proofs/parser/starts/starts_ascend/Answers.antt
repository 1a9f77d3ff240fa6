use Rattle.std.proofs.Common.{◌≡◌, ◌-◌, ◌≤◌, ◌<◌, ap, subst, sym, arith, inl, inr, ◌∙◌}
use Rattle.std.proofs.lemmas.Bool.{cases_lt}
use Rattle.bz_base.specs.Starts.{NeverDescends}
use Rattle.bz_gsym.proofs.StartLemmas.{ascend_more, never_from, never_to, none_descends, no_starts, start_in, starts_are}
use Rattle.bz_gsym.proofs.parser.starts.starts_ascend.Goals as goal

pub returns-then-start-last-clause-descend : goal.returns-then-start-last-clause-descend
returns-then-start-last-clause-descend c isnt never =
    let bytes = c.args.bytes.now in
    let size = c.args.header.now.addr_off_size in
    let k = c.loop-index.index in
    let some : 0 < k = elim (cases_lt 0 k) [ inl above ↦ above | inr none ↦ absurd (omega (arith, c.loop-index.invariant.first (omega arith))) ] in
    let here : c.start_at-start.result ≡ start_in bytes size k = c.start_at-start.ensures in
    let before : c.loop-index.last ≡ start_in bytes size (k - 1) = c.loop-index.invariant.last some in
    let kept : start_in bytes size (k - 1) ≤ start_in bytes size k =
    never_to bytes size c.args.header.now.num_addrs (subst NeverDescends (starts_are bytes c.args.header.now c.requires.head (sym c.is_address_size.ensures ∙ c.if-not-is_address_size.false)) never) (k - 1) k (omega arith) (omega arith) in
    absurd (omega (arith, here, before, kept))

pub loop-index-preserved : goal.loop-index-preserved
loop-index-preserved c = record {
  first = λ zero. absurd (omega arith);
  last = λ some. c.start_at-start.ensures ∙ ap (start_in c.args.bytes.now c.args.header.now.addr_off_size) (omega arith);
  ascend = ascend_more c.args.bytes.now c.args.header.now.addr_off_size c.loop-index.index c.loop-index.last c.loop-index.invariant.last (omega arith) c.loop-index.invariant.ascend;
}

pub returns-then-not-is_address_size-clause-ascend : goal.returns-then-not-is_address_size-clause-ascend
returns-then-not-is_address_size-clause-ascend c is = subst NeverDescends (sym (no_starts c.args.bytes.now c.args.header.now c.requires.head (sym c.is_address_size.ensures ∙ c.if-not-is_address_size.true))) none_descends

pub returns-clause-ascend : goal.returns-clause-ascend
returns-clause-ascend c is =
    subst NeverDescends (sym (starts_are c.args.bytes.now c.args.header.now c.requires.head (sym c.is_address_size.ensures ∙ c.if-not-is_address_size.false)))
    (never_from c.args.bytes.now c.args.header.now.addr_off_size c.args.header.now.num_addrs (λ i j order within. c.loop-index.invariant.ascend i j order (omega arith)))
