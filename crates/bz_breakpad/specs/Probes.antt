-- How many probes the searches of addresses take.
use Rattle.std.specs.Prelude.{◌≡◌, ◌≤◌, ◌<◌, ◌+◌, ◌*◌, ◌^◌, ℕ, List, length, map}
use Rattle.bz_base.specs.Starts.{AreFew}
use Rattle.bz_breakpad_lines.specs.Table.{PublicSymbol, Table}
use Rattle.bz_breakpad_table.specs.Publics.{AreAddresses}

-- probes for addresses among starts: no more than a pass along the starts takes,
-- nor than a search for each address
pub record AreProbes (probes addrs starts : ℕ) : Type 0 where
  pub swept : probes ≤ addrs + starts
  pub searched : (p : ℕ) → starts < 2 ^ p → probes ≤ addrs * p

-- probes among the starts of functions, and among the addresses of these PUBLIC records where there are
-- some, each few enough
pub record AreProbesOf (IsEnough : ℕ → ℕ → Type 0) (publics : List PublicSymbol) (probes functions : ℕ) : Type 0 where
  pub addresses : List ℕ
  pub are : AreAddresses (map (λ p. p.start) publics) addresses
  pub of_functions : ℕ
  pub of_publics : ℕ
  pub sum : probes ≡ of_functions + of_publics
  pub functions_few : IsEnough of_functions functions
  pub publics_few : IsEnough of_publics (length addresses)
  pub none : length addresses ≡ 0 → of_publics ≡ 0

-- so few steps for a batch of so many addresses
abbrev pub AreFewSteps : Table → ℕ → ℕ → Type 0
AreFewSteps table addrs steps = AreProbesOf (λ probes starts. AreProbes probes addrs starts) table.publics steps (length table.functions)

-- and for an address alone
abbrev pub AreFewProbes : Table → ℕ → Type 0
AreFewProbes table steps = AreProbesOf AreFew table.publics steps (length table.functions)
