-- The place of a variant in its enum, as it is fed to a hasher.
use Rattle.std.proofs.Common.{◌≡◌, ◌↔◌, ℕ, ◌<◌, ◌^◌, IsTrue, [], nat_eq, get_or, w64, rules, sym, ap, ◌∙◌}
use Rattle.std.specs.Hash.{usize, le_bytes}
use Rattle.std.specs.Int.{from_le_bytes}
use Rattle.std.proofs.lemmas.Nat.{from_le_bytes-to_le_bytes_8}

-- numbers of 64 bits that are fed alike are equal
same_fed : (m n : ℕ) → m < 2 ^ 64 → n < 2 ^ 64 → usize m ≡ usize n → m ≡ n
unfolding le_bytes
same_fed m n m_fits n_fits same =
    sym (from_le_bytes-to_le_bytes_8 m m_fits) ∙ ap (λ writes. from_le_bytes w64 (get_or writes 0 [])) same ∙ from_le_bytes-to_le_bytes_8 n n_fits

-- numbers of 64 bits are equal exactly where they are fed alike
pub fed_alike : (m n : ℕ) → m < 2 ^ 64 → n < 2 ^ 64 → IsTrue (nat_eq m n) ↔ (usize m ≡ usize n)
fed_alike m n m_fits n_fits = search (same_fed m n m_fits n_fits, rules)
