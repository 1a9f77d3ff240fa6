use Rattle.std.proofs.Common.{◌≡◌, ◌&&◌, ◌+◌, Some, nat_lt, is_some, refl, sym, ap, ◌∙◌}
use Rattle.bz_breakpad_lines.specs.Byte.{is_nothing}
use Rattle.bz_breakpad_lines.specs.Choice.{body_at}
use Rattle.bz_breakpad_lines.specs.Reader.{with_record}
use Rattle.bz_breakpad_lines.specs.Says.{module_of}
use Rattle.bz_breakpad_lines.specs.Told.{context_told, record_told}
use Rattle.bz_breakpad_lines.specs.Contexts.{body_record, record_at, after_white}
use Rattle.bz_breakpad_table.proofs.StepLemmas.{text_stands, record_read, step_read}
use Rattle.bz_breakpad_table.proofs.walk.Walk.line.Goals as goal

pub returns-clause-ok : goal.returns-clause-ok
returns-clause-ok c reading at walked =
    let bytes = c.args.bytes.now in
    let old = c.args.self.now in
    let line = c.args.line.now in
    let text = c.after_white-text.result.now in
    let body = c.in-Some.body.now in
    let ranges = c.record_in.new.ranges.items in
    let r = record_told c.in-Some.found ranges in
    let context = context_told old.context in
    let text_is : text ≡ after_white old.white_allowed line = c.after_white-text.ensures.text in
    let body_is : body_at text ≡ Some body = rw c.in-Some.is at c.in_ok-found.ensures.body in
    let read : body_record context body ≡ Some r = rw c.in-Some.is at c.in_ok-found.ensures.read in
    let stands = text_stands bytes c.args.start old.white_allowed line text body at text_is body_is in
    let record_is = ap (record_at context) (sym text_is) ∙ record_read context text body r body_is read in
    let some = ap (λ t. old.white_allowed && is_nothing t) (sym text_is) ∙ sym c.if-is_blank_line.ensures in
    let first = ap (λ n. is_some (module_of r) && nat_lt 0 n) (sym walked.count_is) ∙ sym (c.if-is_late_module.ensures ranges) in
    let kept = rw c.as_slice.ensures.value at (c.in_ok-record.ensures body context reading stands refl) in
    record {
      next = with_record reading r;
      walked = record { so_far = kept read walked.so_far; count_is = ap (λ n. n + 1) walked.count_is };
      same = λ lines.
          rw (c.context_after-self.ensures ranges, c.white_allowed_after-self.ensures ranges)
          (step_read context old.white_allowed reading line r lines some record_is first);
    }
