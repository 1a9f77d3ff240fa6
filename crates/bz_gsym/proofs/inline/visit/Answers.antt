use Rattle.std.proofs.Common.{option_map, ap, sym, ◌∙◌}
use Rattle.bz_gsym.proofs.InlineRangeLemmas.{a_node, visit-missing, visit-end, visit-passed, visit-read}
use Rattle.bz_gsym.proofs.inline.visit.Goals as goal

pub returns-in_err-count-clause-none : goal.returns-in_err-count-clause-none
returns-in_err-count-clause-none c =
    rw c.from_residual.ensures (visit-missing c.args.addr c.args.level c.args.cursor.now.left (sym c.in_err-count.ensures.reads))

pub returns-then-count-eq-NO_RANGES-clause-some : goal.returns-then-count-eq-NO_RANGES-clause-some
returns-then-count-eq-NO_RANGES-clause-some c =
    visit-end c.args.addr c.args.cursor.now.left c.in_ok-count.count c.read_uleb.new.self.left (sym c.in_ok-count.ensures.reads) c.args.level c.if-count-eq-NO_RANGES.true

pub returns-in_err-pass_over-in-PassedOver-clause-none : goal.returns-in_err-pass_over-in-PassedOver-clause-none
returns-in_err-pass_over-in-PassedOver-clause-none c =
    let read = visit-passed c.args.addr c.args.cursor.now.left c.in_ok-count.count c.read_uleb.new.self.left (sym c.in_ok-count.ensures.reads) c.if-count-eq-NO_RANGES.false in
    rw (c.from_residual-in_err-pass_over-in-PassedOver.ensures, c.in-PassedOver.is) (read ∙ ap (option_map a_node) c.in_err-pass_over-in-PassedOver.ensures.none)

pub returns-in_err-read_node-in-Read-clause-none : goal.returns-in_err-read_node-in-Read-clause-none
returns-in_err-read_node-in-Read-clause-none c =
    let read = visit-read c.args.addr c.args.cursor.now.left c.in_ok-count.count c.read_uleb.new.self.left (sym c.in_ok-count.ensures.reads) c.if-count-eq-NO_RANGES.false c.in-Read.base in
    rw (c.from_residual-in_err-read_node-in-Read.ensures, c.in-Read.is) (read ∙ ap (option_map a_node) c.in_err-read_node-in-Read.ensures.none)

pub returns-in_ok-pass_over-in-PassedOver-clause-some : goal.returns-in_ok-pass_over-in-PassedOver-clause-some
returns-in_ok-pass_over-in-PassedOver-clause-some c =
    let read = visit-passed c.args.addr c.args.cursor.now.left c.in_ok-count.count c.read_uleb.new.self.left (sym c.in_ok-count.ensures.reads) c.if-count-eq-NO_RANGES.false in
    rw c.in-PassedOver.is (read ∙ ap (option_map a_node) c.in_ok-pass_over-in-PassedOver.ensures.some)

pub returns-in_ok-read_node-in-Read-clause-some : goal.returns-in_ok-read_node-in-Read-clause-some
returns-in_ok-read_node-in-Read-clause-some c =
    let read = visit-read c.args.addr c.args.cursor.now.left c.in_ok-count.count c.read_uleb.new.self.left (sym c.in_ok-count.ensures.reads) c.if-count-eq-NO_RANGES.false c.in-Read.base in
    rw c.in-Read.is (read ∙ ap (option_map a_node) c.in_ok-read_node-in-Read.ensures.some)
