-- Processes that are made from the same number.
use Rattle.std.proofs.Common.{◌≡◌, ℕ, ◌<◌, ◌^◌, w32, arith, refl, sym, ap, ◌∙◌, subst}
use Rattle.std.proofs.Props.{props}
use Rattle.std.proofs.lemmas.Nat.{from_le_bytes-to_le_bytes_4}
use Rattle.std.specs.Hash.{u32, le_bytes}
use Rattle.std.specs.Int.{from_le_bytes}
use Rattle.std.specs.Int.NonZero.{non_zero_u32_get}
use Rattle.std.specs.declared.num.NonZeroU32.{NonZeroU32}
use Rattle.bz_base.specs.Pid.{number_of}
use Rattle.bz_base.specs.declared.pid.Pid.{Pid}
use Rattle.bz_base.specs.declared.pid.Pid.TheVariants as pids

abbrev made : (value : ℕ) → 0 < value → NonZeroU32
made value some = record { value = value; ok = some }

made_same : (m n : ℕ) (m_some : 0 < m) → m ≡ n → (n_some : 0 < n) → made m m_some ≡ made n n_some
made_same m n m_some same =
    let alike : IsProp (0 < m) = hlevel props in
    subst (λ k. (some : 0 < k) → made m m_some ≡ made k some) same (λ some. ap (made m) (alike m_some some))

-- ids of the same number are the same
pub ids_same : (m n : NonZeroU32) → non_zero_u32_get m ≡ non_zero_u32_get n → m ≡ n
ids_same m n same = made_same m.value n.value m.ok same n.ok

-- processes that are made from the same number are the same
pub pids_same : (a b : Pid) → number_of a ≡ number_of b → a ≡ b
pids_same pids.Slf pids.Slf same = refl
pids_same pids.Slf (pids.Pid n) same = absurd (omega (arith, same, n.ok))
pids_same (pids.Pid m) pids.Slf same = absurd (omega (arith, same, m.ok))
pids_same (pids.Pid m) (pids.Pid n) same = ap pids.Pid (ids_same m n same)

-- the lowest bytes of two numbers of 32 bits tell them apart
bytes_apart : (m n : ℕ) → m < 2 ^ 32 → n < 2 ^ 32 → le_bytes 4 m ≡ le_bytes 4 n → m ≡ n
unfolding le_bytes
bytes_apart m n m_fits n_fits same = sym (from_le_bytes-to_le_bytes_4 m m_fits) ∙ ap (from_le_bytes w32) same ∙ from_le_bytes-to_le_bytes_4 n n_fits

-- numbers of 32 bits that are fed alike are equal
pub fed_apart : (m n : ℕ) → m < 2 ^ 32 → n < 2 ^ 32 → u32 m ≡ u32 n → m ≡ n
fed_apart m n m_fits n_fits same = bytes_apart m n m_fits n_fits cc
