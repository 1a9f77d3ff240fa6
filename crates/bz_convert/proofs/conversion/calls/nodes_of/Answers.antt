use Rattle.std.proofs.Common.{arith}
use Rattle.bz_breakpad.specs.Lent.{inlinee_seen}
use Rattle.bz_breakpad_function.specs.declared.types.Inlinee.{Inlinee}
use Rattle.bz_convert.specs.Laid.{IsNodeFor, sources_of_call, texts_of_call}
use Rattle.bz_convert.specs.Numbered.{listed_sources}
use Rattle.bz_gsym_layout.specs.Listing.{listed_texts}
use Rattle.bz_convert.proofs.SoFarLemmas.{all_turns, one_turn}
use Rattle.bz_convert.proofs.StayLemmas.{nodes_stay}
use Rattle.bz_convert.proofs.conversion.calls.nodes_of.Goals as goal

-- what stands where no call does
abbrev no_call : Inlinee
no_call = record { depth = 0; addr = 0; size = 0; call_file = 0; call_line = 0; origin_id = 0 }

pub loop-call-preserved : goal.loop-call-preserved
loop-call-preserved c table texts sources read is =
    let s = c.loop-call in
    one_turn table (texts_of_call table) (sources_of_call table) (λ n. IsNodeFor table (listed_texts n.texts) (listed_sources n)) inlinee_seen c.args.calls.now s.call-index texts sources s.numbering s.nodes.items (s.invariant table texts sources read is)
    (nodes_stay table) no_call (omega (arith, c.loop-call-test.true)) c.node_of.new.numbering c.in_ok-node_of.field-0 c.push.new.self.items c.in_ok-push.ensures.items
    (c.in_ok-node_of.ensures.numbering table read) (λ used used_sources old. c.in_ok-node_of.ensures.node table read (used, used_sources, old))

pub returns-clause-numbering : goal.returns-clause-numbering
returns-clause-numbering c table read texts sources is =
    let s = c.loop-call in
    (all_turns table (texts_of_call table) (sources_of_call table) (λ n. IsNodeFor table (listed_texts n.texts) (listed_sources n)) inlinee_seen c.args.calls.now s.call-index texts sources s.numbering s.nodes.items (s.invariant table texts sources read is)
    (omega (arith, c.loop-call-test.false))).numbering

pub returns-clause-nodes : goal.returns-clause-nodes
returns-clause-nodes c table read has =
    let s = c.loop-call in
    let texts = has.0 in
    let sources = has.1 in
    let is = has.2 in
    (all_turns table (texts_of_call table) (sources_of_call table) (λ n. IsNodeFor table (listed_texts n.texts) (listed_sources n)) inlinee_seen c.args.calls.now s.call-index texts sources s.numbering s.nodes.items (s.invariant table texts sources read is)
    (omega (arith, c.loop-call-test.false))).each
