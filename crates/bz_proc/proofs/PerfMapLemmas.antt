-- Whole perf maps are read exactly, and other bytes are refused.
use Rattle.std.proofs.Common.{◌≡◌, ◌↔◌, ℕ, List, Option, Some, None, refl, sym, ap}
use Rattle.std.proofs.lemmas.Option.{none-some}
use Rattle.bz_base.specs.declared.error.Error.{Error}
use Rattle.bz_base.specs.declared.error.Error.TheVariants.{InvalidData}
use Rattle.bz_proc.specs.PerfLine.{PerfFunction}
use Rattle.bz_proc.specs.PerfLines.{perf_functions_in, perf_lines}
use Rattle.bz_proc.specs.PerfMap.{IsPerfMap, format_test, unless_told}
use Rattle.bz_proc.proofs.PerfLineLemmas.{lines_again, lines_found}

pub map_found : (bytes : List ℕ) (functions : List PerfFunction) → perf_functions_in bytes ≡ Some functions → IsPerfMap bytes functions
unfolding perf_functions_in
map_found bytes functions read = lines_found (perf_lines bytes) functions read

map_again : (bytes : List ℕ) (functions : List PerfFunction) → IsPerfMap bytes functions → perf_functions_in bytes ≡ Some functions
unfolding perf_functions_in
map_again bytes functions is = lines_again (perf_lines bytes) functions is

pub map_exact : (bytes : List ℕ) (functions : List PerfFunction) → (perf_functions_in bytes ≡ Some functions) ↔ IsPerfMap bytes functions
map_exact bytes functions = (map_found bytes functions, map_again bytes functions)

told : (o : Option (List PerfFunction)) → unless_told o ≡ None → (functions : List PerfFunction) × (o ≡ Some functions)
told None none = absurd (none-some InvalidData (sym none))
told (Some functions) none = (functions, refl)

refused : (o : Option (List PerfFunction)) (e : Error) → unless_told o ≡ Some e → e ≡ InvalidData
refused None e is = cc is
refused (Some functions) e is = absurd (none-some e is)

pub map_taken : (bytes : List ℕ) → (format_test bytes ≡ None) ↔ ((functions : List PerfFunction) × IsPerfMap bytes functions)
map_taken bytes = (
  (λ none. let some = told (perf_functions_in bytes) none in (some.0, map_found bytes some.0 some.1)),
  (λ is. ap unless_told (map_again bytes is.0 is.1)),
)

pub map_refused : (bytes : List ℕ) (e : Error) → format_test bytes ≡ Some e → e ≡ InvalidData
map_refused bytes e is = refused (perf_functions_in bytes) e is
