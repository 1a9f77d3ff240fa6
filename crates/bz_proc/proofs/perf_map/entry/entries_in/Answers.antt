use Rattle.std.proofs.Common.{◌≡◌, ◌+◌, ◌<◌, ◌++◌, ◌∷◌, [], drop, length, sym, ap, subst, ◌∙◌, arith}
use Rattle.std.proofs.lemmas.Bool.{eqb-false, eqb-true}
use Rattle.std.proofs.lemmas.List.{take_rest}
use Rattle.bz_proc.specs.PerfLine.{perf_function_in}
use Rattle.bz_proc.specs.PerfLines.{line_front, line_len}
use Rattle.bz_proc.proofs.PerfKeptLemmas.{IsSoFar, after_empty, after_line, after_other, at_last, cut_is, entry_none, entry_read}
use Rattle.bz_proc.proofs.perf_map.entry.entries_in.Goals as goal

pub loop-place-preserved-then-is_empty : goal.loop-place-preserved-then-is_empty
loop-place-preserved-then-is_empty c =
    let bytes = c.args.bytes.now in
    let place = c.loop-place.place in
    let entries = c.loop-place.entries.items in
    let len : c.line_len.result ≡ line_len (drop place bytes) = c.line_len.ensures.value ∙ ap line_len (take_rest bytes place) in
    let past = place + c.line_len.result in
    let past_is : past ≡ place + line_len (drop place bytes) = ap (λ n. place + n) len in
    let cut = cut_is bytes entries place past c.loop-place.invariant (omega arith) past_is in
    after_empty bytes entries place past c.loop-place.invariant (omega arith) past_is (ap length (sym cut) ∙ eqb-true _ _ (sym c.if-is_empty.ensures))

pub returns-in_default-clause-refusal : goal.returns-in_default-clause-refusal
returns-in_default-clause-refusal c =
    let bytes = c.args.bytes.now in
    let place = c.loop-place.place in
    let entries = c.loop-place.entries.items in
    let len : c.line_len.result ≡ line_len (drop place bytes) = c.line_len.ensures.value ∙ ap line_len (take_rest bytes place) in
    let past = place + c.line_len.result in
    let past_is : past ≡ place + line_len (drop place bytes) = ap (λ n. place + n) len in
    let cut = cut_is bytes entries place past c.loop-place.invariant (omega arith) past_is in
    let some : 0 < length (line_front (drop place bytes)) = omega (arith, ap length cut, eqb-false _ _ (sym c.if-is_empty.ensures)) in
    after_other bytes entries place past c.loop-place.invariant (omega arith) past_is some (ap perf_function_in (sym cut) ∙ entry_none past _ c.in_default.ensures)

pub loop-place-preserved : goal.loop-place-preserved
loop-place-preserved c =
    let bytes = c.args.bytes.now in
    let place = c.loop-place.place in
    let entries = c.loop-place.entries.items in
    let len : c.line_len.result ≡ line_len (drop place bytes) = c.line_len.ensures.value ∙ ap line_len (take_rest bytes place) in
    let past = place + c.line_len.result in
    let past_is : past ≡ place + line_len (drop place bytes) = ap (λ n. place + n) len in
    let cut = cut_is bytes entries place past c.loop-place.invariant (omega arith) past_is in
    let some : 0 < length (line_front (drop place bytes)) = omega (arith, ap length cut, eqb-false _ _ (sym c.if-is_empty.ensures)) in
    let read = entry_read past _ c.in-Some.entry c.in-Some.ensures in
    let pushed = c.in_ok-push.ensures.items ∙ ap (λ e. entries ++ e ∷ []) read.2 in
    subst (λ list. IsSoFar bytes list (past + 1)) (sym pushed)
    (after_line bytes entries place past c.loop-place.invariant (omega arith) past_is read.0 (ap perf_function_in (sym cut) ∙ read.1) some)

pub returns-clause-ok : goal.returns-clause-ok
returns-clause-ok c = at_last c.args.bytes.now c.loop-place.entries.items c.loop-place.place c.loop-place.invariant (omega arith)
