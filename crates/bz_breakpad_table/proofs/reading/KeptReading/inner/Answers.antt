use Rattle.std.proofs.Common.{[], ◌∷◌, map, refl, sym, append-nil}
use Rattle.std.proofs.lemmas.Result.{on_ok_weaker}
use Rattle.bz_breakpad_table.specs.Kept.{kept_call}
use Rattle.bz_breakpad_lines.specs.Kinds.InnerRecord.{InnerOrigin}
use Rattle.bz_breakpad_lines.specs.Told.{line_seen}
use Rattle.bz_breakpad_table.proofs.FunctionLemmas.{told_said, same_so_far}
use Rattle.bz_breakpad_table.proofs.KeptLemmas.{names_so_far, with_functions}
use Rattle.bz_breakpad_table.proofs.reading.KeptReading.inner.Goals as goal

pub returns-in-Line : goal.returns-in-Line
returns-in-Line c =
    on_ok_weaker c.list.result
    (λ kept body reading stands end inner is.
    rw c.in-Line.is (with_functions is (kept reading.closed reading.current (line_seen c.in-Line.field-0) (rw c.in-Line.is at inner) is.functions)))
    c.list.ensures

pub returns-in-Inline : goal.returns-in-Inline
returns-in-Inline c =
    on_ok_weaker c.inline.result
    (λ kept body reading stands end inner is.
    rw (c.in-Inline.is, told_said c.in-Inline.call c.args.ranges.now) (with_functions is (kept c.args.bytes.now reading.closed reading.current (rw c.in-Inline.is at inner) is.functions)))
    c.inline.ensures

pub returns-in_ok-name_part-in-InnerOrigin : goal.returns-in_ok-name_part-in-InnerOrigin
returns-in_ok-name_part-in-InnerOrigin c =
    on_ok_weaker c.insert.result
    (λ inserted body reading stands end inner is.
    let bytes = c.args.bytes.now in
    let functions = c.args.self.now.functions in
    let named = c.in_ok-name_part-in-InnerOrigin.ensures bytes body c.args.start stands end (rw c.in-InnerOrigin.is at inner) in
    let origin = InnerOrigin (record { id = c.in-InnerOrigin.id; name = c.in-InnerOrigin.name.now }) in
    rw c.in-InnerOrigin.is (record {
      module_is = is.module_is;
      functions =
          same_so_far bytes functions functions (origin ∷ []) refl refl refl refl refl
          (sym (append-nil (map (kept_call bytes) functions.calls.items))) reading.closed reading.current is.functions;
      files = is.files;
      origins =
          names_so_far bytes c.args.self.now.origins c.insert.new.self c.in-InnerOrigin.id c.in_ok-name_part-in-InnerOrigin.field-0 c.in-InnerOrigin.name.now reading.origins
          inserted named is.origins;
      publics = is.publics;
    }))
    c.insert.ensures
