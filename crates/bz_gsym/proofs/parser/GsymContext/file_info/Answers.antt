use Rattle.std.proofs.Common.{◌≡◌, ap, sym, arith, ◌∙◌}
use Rattle.bz_base.specs.Little.{number_at}
use Rattle.bz_gsym.specs.Tables.{file_count_place}
use Rattle.bz_gsym.proofs.FileLemmas.{file_there, no_file}
use Rattle.bz_gsym.proofs.parser.GsymContext.file_info.Goals as goal

pub returns-then-idx-u32_at : goal.returns-then-idx-u32_at
returns-then-idx-u32_at c =
    let s = c.self.inside in
    let count : c.u32_at.result ≡ number_at 4 s.bytes.now (file_count_place s.header) = c.u32_at.ensures ∙ ap (number_at 4 s.bytes.now) c.file_count_place-count_place.ensures.place in
    rw (← c.self.view_is) (sym (no_file s.bytes.now s.header c.self.invariant.head c.args.idx (omega (arith, count))))

pub returns : goal.returns
returns c =
    let s = c.self.inside in
    let at = c.file_count_place-count_place.ensures.place in
    let count : c.u32_at.result ≡ number_at 4 s.bytes.now (file_count_place s.header) = c.u32_at.ensures ∙ ap (number_at 4 s.bytes.now) at in
    rw (← c.self.view_is)
    (rw (c.u32_at-2.ensures, c.u32_at-3.ensures, at) (sym (file_there s.bytes.now s.header c.self.invariant.head c.args.idx (omega (arith, count)))))
