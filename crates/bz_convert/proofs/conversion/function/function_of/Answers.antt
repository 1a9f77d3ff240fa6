use Rattle.std.proofs.Common.{[], ◌∷◌, ◌++◌, ap, flat_map, map, ◌∙◌}
use Rattle.bz_breakpad.specs.Lent.{inlinee_seen}
use Rattle.bz_convert.specs.Laid.{sources_of_row, texts_of_row}
use Rattle.bz_convert.specs.Points.{row_seen}
use Rattle.bz_convert.proofs.NumberingLemmas.{texts_alone}
use Rattle.bz_convert.proofs.StayLemmas.{function_numbered, function_says}
use Rattle.bz_convert.proofs.conversion.function.function_of.Goals as goal

pub returns-clause-numbering : goal.returns-clause-numbering
returns-clause-numbering c table read texts sources is =
    let named = texts ++ c.name.result.now ∷ [] in
    let rows = map row_seen c.deref.result.now in
    let one = texts_alone table (c.name.result.now ∷ []) c.args.numbering.now c.text.new.self (c.in_ok-name.ensures.numbering table) texts sources is in
    let two = c.in_ok-rows.ensures.numbering table read named sources one in
    let three = c.in_ok-calls-2.ensures.numbering table read (named ++ flat_map (texts_of_row table) rows) (sources ++ flat_map (sources_of_row table) rows) two in
    function_numbered table texts sources c.args.function.now c.name.result.now c.name.ensures c.text.new.self c.rows_of.new.numbering c.nodes_of.new.numbering
    rows (ap (map row_seen) c.deref.ensures.value ∙ c.requires.found.rows) (map inlinee_seen c.deref-2.result.now) (ap (map inlinee_seen) c.deref-2.ensures.value ∙ c.in_ok-calls.ensures c.args.function.now c.requires.apart c.requires.found) one two three

pub returns-clause-function : goal.returns-clause-function
returns-clause-function c table read has =
    let texts = has.0 in
    let sources = has.1 in
    let is = has.2 in
    let named = texts ++ c.name.result.now ∷ [] in
    let rows = map row_seen c.deref.result.now in
    let one = texts_alone table (c.name.result.now ∷ []) c.args.numbering.now c.text.new.self (c.in_ok-name.ensures.numbering table) texts sources is in
    let two = c.in_ok-rows.ensures.numbering table read named sources one in
    let before_texts = named ++ flat_map (texts_of_row table) rows in
    let before_sources = sources ++ flat_map (sources_of_row table) rows in
    let three = c.in_ok-calls-2.ensures.numbering table read before_texts before_sources two in
    function_says table texts sources c.args.function.now c.name.result.now c.name.ensures c.text.new.self c.rows_of.new.numbering c.nodes_of.new.numbering
    rows (ap (map row_seen) c.deref.ensures.value ∙ c.requires.found.rows) (map inlinee_seen c.deref-2.result.now) (ap (map inlinee_seen) c.deref-2.ensures.value ∙ c.in_ok-calls.ensures c.args.function.now c.requires.apart c.requires.found) one two three
    (record { start = c.addr.result; size = c.size.result; name = c.in_ok-name.name; rows = c.in_ok-rows.rows; calls = c.in_ok-calls-2.calls }) c.addr.ensures c.size.ensures
    (c.in_ok-name.ensures.index table has) (c.in_ok-rows.ensures.rows table read (named, sources, one)) (c.in_ok-calls-2.ensures.nodes table read (before_texts, before_sources, two))
