-- A stack of a profile.
use Rattle.std.specs.Prelude.{ℕ, List, refl}
use Rattle.std.specs.Coded.{Coded, code_by, coded×, coded_list, coded_ℕ}

-- a stack's addresses, the outermost first, and how often it was seen
pub record CountedStack : Type 0 where
  pub addrs : List ℕ
  pub count : ℕ

abbrev pub coded_counted_stack : Coded CountedStack
coded_counted_stack = code_by (List ℕ × ℕ) (coded× (coded_list coded_ℕ) coded_ℕ) (λ s. (s.addrs, s.count)) (λ p. record { addrs = p.0; count = p.1 }) (λ _. refl)
