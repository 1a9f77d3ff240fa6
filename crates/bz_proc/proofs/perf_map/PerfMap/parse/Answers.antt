use Rattle.std.proofs.Common.{◌≡◌, Some, map, subst}
use Rattle.std.specs.List.{AllByRecursion}
use Rattle.bz_proc.specs.PerfKept.{IsNamed, function_at}
use Rattle.bz_proc.specs.PerfLines.{perf_functions_in}
use Rattle.bz_proc.proofs.PerfKeptLemmas.{kept}
use Rattle.bz_proc.proofs.PerfMapLemmas.{map_found}
use Rattle.bz_proc.proofs.perf_map.PerfMap.parse.Goals as goal

pub invariant_of-result : goal.invariant_of-result
invariant_of-result c =
    let entries = c.in_ok-entries.entries.items in
    kept c.args.bytes.items entries c.sort_table.new.records.items
    (subst (λ bytes. perf_functions_in bytes ≡ Some (map (function_at bytes) entries)) c.as_slice.ensures.value c.in_ok-entries.ensures.ok)
    (subst (λ bytes. AllByRecursion (IsNamed bytes) entries) c.as_slice.ensures.value c.in_ok-entries.ensures.named)
    c.in_ok-sort_table.ensures.table

pub returns-clause-accepted : goal.returns-clause-accepted
returns-clause-accepted c =
    let bytes = c.args.bytes.items in
    let functions = map (function_at bytes) c.in_ok-entries.entries.items in
    let read : perf_functions_in bytes ≡ Some functions =
    subst (λ bytes. perf_functions_in bytes ≡ Some (map (function_at bytes) c.in_ok-entries.entries.items)) c.as_slice.ensures.value c.in_ok-entries.ensures.ok in
    (functions, read, map_found bytes functions read)
