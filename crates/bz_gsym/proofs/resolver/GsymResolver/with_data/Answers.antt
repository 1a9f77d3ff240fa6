use Rattle.std.proofs.Common.{subst, sym, ap, ◌∙◌}
use Rattle.std.proofs.lemmas.Result.{err_from_is_err_and}
use Rattle.bz_cache.specs.Format.{IsRefusalBy}
use Rattle.bz_gsym.specs.Version.{format_test}
use Rattle.bz_gsym.proofs.FormatLemmas.{not_in_format}
use Rattle.bz_gsym.proofs.resolver.GsymResolver.with_data.Goals as goal

pub returns-in_err-table-clause-refusal : goal.returns-in_err-table-clause-refusal
returns-in_err-table-clause-refusal c =
    let same = err_from_is_err_and c.from_residual-in_err-table.result c.from_residual-in_err-table.ensures.1 in
    let refusal = c.in_err-table.ensures.refusal in
    rw (same.1, same.2)
    (subst (IsRefusalBy (format_test c.args.bytes.now)) (sym refusal.0) (ap format_test (sym c.in_ok-bytes.ensures.items) ∙ not_in_format c.in_ok-bytes.bytes.items refusal.1))
