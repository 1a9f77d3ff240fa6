-- Numbers of 64 bits that are fed to a hasher alike are equal.
use Rattle.std.proofs.Common.{◌≡◌, ℕ, ℤ, ◌<◌, ◌^◌, w64, FitsSigned, sym, ap, ◌∙◌}
use Rattle.std.specs.Hash.{u64, i64, le_bytes}
use Rattle.std.specs.Int.{from_le_bytes, cast_unsigned, cast_signed}
use Rattle.std.proofs.Math.Facts.{Fits-of_z, Fits-lt-pow}
use Rattle.std.proofs.lemmas.Int.{to_z-of_z}
use Rattle.std.proofs.lemmas.Nat.{from_le_bytes-to_le_bytes_8}

-- the lowest bytes of two numbers tell them apart
bytes-apart : (m n : ℕ) → m < 2 ^ 64 → n < 2 ^ 64 → le_bytes 8 m ≡ le_bytes 8 n → m ≡ n
unfolding le_bytes
bytes-apart m n m_fits n_fits same = sym (from_le_bytes-to_le_bytes_8 m m_fits) ∙ ap (from_le_bytes w64) same ∙ from_le_bytes-to_le_bytes_8 n n_fits

-- what is fed of two numbers tells them apart
pub u64-apart : (m n : ℕ) → m < 2 ^ 64 → n < 2 ^ 64 → u64 m ≡ u64 n → m ≡ n
u64-apart m n m_fits n_fits same = bytes-apart m n m_fits n_fits cc

-- what is fed of two signed numbers tells them apart
pub i64-apart : (m n : ℤ) → FitsSigned w64 m → FitsSigned w64 n → i64 m ≡ i64 n → m ≡ n
i64-apart m n m_fits n_fits same =
    let bits = u64-apart (cast_unsigned w64 m) (cast_unsigned w64 n) (Fits-lt-pow (Fits-of_z m_fits)) (Fits-lt-pow (Fits-of_z n_fits)) same in
    sym (to_z-of_z w64 m m_fits) ∙ ap (cast_signed w64) bits ∙ to_z-of_z w64 n n_fits
