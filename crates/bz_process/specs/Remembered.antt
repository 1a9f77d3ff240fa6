-- What is remembered of a process.
use Rattle.std.specs.Prelude.{ℕ, List, refl}
use Rattle.std.specs.Coded.{Coded, code_by, coded×, coded_ℕ, coded_list}

-- the id by which it knows itself, and the path of its perf map
pub record Remembered : Type 0 where
  pub id : ℕ
  pub perf_map : List ℕ

abbrev pub coded_remembered : Coded Remembered
coded_remembered = code_by (ℕ × List ℕ) (coded× coded_ℕ (coded_list coded_ℕ)) (λ r. (r.id, r.perf_map)) (λ p. record { id = p.0; perf_map = p.1 }) (λ _. refl)
