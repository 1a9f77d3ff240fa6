use Rattle.std.proofs.Common.{[], None, Some, ap, arith, drop, length, refl, sym, subst, take, ◌+◌, ◌≡◌, ◌≤◌, ◌∙◌}
use Rattle.std.proofs.lemmas.Result.{err_from_is_err_and}
use Rattle.bz_breakpad_function.specs.InOrder.{ordered_functions}
use Rattle.bz_breakpad_lines.specs.Reader.{table_in}
use Rattle.bz_breakpad_lines.specs.Table.{Table}
use Rattle.bz_convert.specs.Fault.{fault_of, first_fault}
use Rattle.bz_convert.specs.Laid.{IsFunctionFor, sources_used, texts_used}
use Rattle.bz_convert.specs.Numbered.{listed_sources}
use Rattle.bz_gsym_layout.specs.Listing.{listed_texts}
use Rattle.bz_convert.proofs.CollectedLemmas.{calls_apart, collected_turn, plan_codes, plan_formed, table_there}
use Rattle.bz_convert.proofs.FileTurns.{turn_on, turn_out, turns_end}
use Rattle.bz_convert.proofs.PlannedLemmas.{Collected}
use Rattle.bz_convert.proofs.RefusedLemmas.{fault_told}
use Rattle.bz_convert.proofs.SoFarLemmas.{none_yet}
use Rattle.bz_convert.proofs.conversion.plan.plan_blank.Goals as goal

pub function_of-requires : goal.function_of-requires
function_of-requires g c =
    let s = c.loop-index in
    let f = c.function-function.result in
    let none : (table : Table) → table_in c.args.file.now ≡ Some table → fault_of table s.before f ≡ None = λ table read. c.in_ok-found.ensures.clean table (ap table_in c.in_ok-ids.ensures ∙ read) in
    record {
      apart = λ checked. calls_apart c.args.file.now c.function_count-index-end.result c.function_count-index-end.ensures.table s.before f none checked;
      found = c.in_ok-found.ensures.found;
    }

pub loop-index-init : goal.loop-index-init
loop-index-init g c = record {
  clean = λ table read. refl;
  collected = λ table read.
      none_yet table (texts_used table) (sources_used table) (λ n. IsFunctionFor table (listed_texts n.texts) (listed_sources n)) [] [] c.in_ok-numbering.numbering c.in_ok-functions.functions.items c.in_ok-functions.ensures.items
      (c.in_ok-numbering.ensures table);
}

pub loop-index-preserved : goal.loop-index-preserved
loop-index-preserved g c =
    let s = c.loop-index in
    record {
      clean = λ table read.
          ap (λ a. first_fault table (Some a) (drop (s.index + 1) (ordered_functions table.functions))) c.addr.ensures
          ∙ turn_on c.args.file.now table read s.before s.index c.function-function.result c.function-function.ensures.function
          (sym (c.in_ok-found.ensures.clean table (ap table_in c.in_ok-ids.ensures ∙ read))) (s.invariant.clean table read);
      collected = λ table read.
          collected_turn c.args.file.now table read s.numbering c.function_of.new.numbering s.index c.function-function.result c.function-function.ensures.function s.functions.items c.push.new.self.items
          c.in_ok-function_of.field-0 c.in_ok-push.ensures.items (s.invariant.collected table read) c.in_ok-function_of.ensures.numbering c.in_ok-function_of.ensures.function;
    }

pub returns-in_err-found-clause-fault : goal.returns-in_err-found-clause-fault
returns-in_err-found-clause-fault g c =
    let s = c.loop-index in
    let e = c.in_err-found.field-0.0 in
    let same = err_from_is_err_and c.from_residual-in_err-found.result c.from_residual-in_err-found.ensures.1 in
    rw (same.1, same.2) (λ other table read.
    let out =
    turn_out c.args.file.now c.function_count-index-end.result c.function_count-index-end.ensures.table s.before s.index c.function-function.result c.function-function.ensures.function e
    (λ table read. sym (c.in_err-found.ensures.fault other table (ap table_in c.in_ok-ids.ensures ∙ read))) s.invariant.clean in
    fault_told (table_in c.args.file.now) (Some e) out table read)

pub returns-clause-plan : goal.returns-clause-plan
returns-clause-plan g c =
    let s = c.loop-index in
    let bytes = c.args.file.now in
    let n = c.function_count-index-end.result in
    let count = c.function_count-index-end.ensures.table in
    let past : n ≤ s.index = omega (arith, c.loop-index-test.false) in
    let there = table_there (table_in bytes) (λ (t : Table). length t.functions) n count in
    let none = fault_told (table_in bytes) None (turns_end bytes n count s.before s.index past s.invariant.clean) there.0 there.1 in
    let all = subst (λ gs. Collected there.0 s.numbering (take s.index (ordered_functions there.0.functions)) gs.items) (sym c.into_plan.ensures.functions) (s.invariant.collected there.0 there.1) in (
      there.0,
      there.1,
      record {
        clean = none;
        formed = plan_formed bytes there.0 there.1 n count none s.index past s.numbering c.into_plan.result c.into_plan.ensures.texts c.into_plan.ensures.sources all;
        codes = plan_codes bytes there.0 there.1 n count none s.index past s.numbering c.into_plan.result c.into_plan.ensures.texts c.into_plan.ensures.sources all;
      },
    )
