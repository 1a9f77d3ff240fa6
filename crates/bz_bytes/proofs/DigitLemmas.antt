-- The table of digits holds the value of each byte.
use Rattle.std.proofs.Common.{◌≡◌, ℕ, zero, suc, nat_eq, inl, inr, ◌<◌, Bool, true, ◌&&◌, List, get_or, arith}
use Rattle.std.specs.Char.{digit_value}
use Rattle.std.proofs.lemmas.Bool.{and_parts, cases_eq, eqb-true}

-- two functions agree below n
unfoldable pub agree_below : (ℕ → ℕ) → (ℕ → ℕ) → ℕ → Bool
agree_below f g zero = true
agree_below f g (suc n) = nat_eq (f n) (g n) && agree_below f g n

-- where they agree below n, they agree at each place below n
agree_at : (f g : ℕ → ℕ) (n : ℕ) → agree_below f g n ≡ true → (b : ℕ) → b < n → f b ≡ g b
unfolding agree_below
agree_at f g zero agree b below = absurd (omega arith)
agree_at f g (suc n) agree b below =
    let both = and_parts (nat_eq (f n) (g n)) (agree_below f g n) agree in
    elim (cases_eq b n) [ inl same ↦ rw same (eqb-true (f n) (g n) both.0) | inr other ↦ agree_at f g n both.1 b (omega arith) ]

-- a table of each byte's value as a digit holds it at the byte
pub table_value : (table : List ℕ) (b : ℕ) → b < 256 → agree_below (λ k. get_or table k 0) digit_value 256 ≡ true → get_or table b 0 ≡ digit_value b
table_value table b below agree = agree_at (λ k. get_or table k 0) digit_value 256 agree b below
