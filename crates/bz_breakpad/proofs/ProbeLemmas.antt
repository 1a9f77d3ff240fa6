-- How many starts a look-up reads.
use Rattle.std.proofs.Common.{◌≡◌, ℕ, ◌+◌, ◌<◌, ◌≤◌, List, [], ◌∷◌, length, map, Some, refl, sym, ap, subst, ◌∙◌, arith}
use Rattle.std.specs.List.{slice_get}
use Rattle.std.proofs.Math.Nat.{mul-le-mul_left}
use Rattle.std.proofs.lemmas.List.{length-map}
use Rattle.std.proofs.lemmas.Option.{same_Some, slice_get_within}
use Rattle.bz_breakpad_table.specs.Kept.{kept_public}
use Rattle.bz_breakpad_table.specs.Publics.{AreAddresses, IsPublicTable, starts_kept}
use Rattle.bz_breakpad.specs.Probes.{AreProbesOf, AreProbes}
use Rattle.bz_breakpad_lines.specs.Reader.{table_in}
use Rattle.bz_breakpad_table.specs.Sorted.{IsKept, StandsFor, starts_of}
use Rattle.bz_breakpad_lines.specs.Table.{PublicSymbol, Table}
use Rattle.bz_breakpad_table.specs.declared.publics.PublicTable.{PublicTable}
use Rattle.bz_breakpad_table.specs.declared.types.FunctionKey.{FunctionKey}
use Rattle.bz_breakpad_table.specs.declared.types.KeptPublic.{KeptPublic}
use Rattle.bz_breakpad_table.specs.declared.types.KeptTable.{KeptTable}

seen_publics : (bytes : List ℕ) (publics : List KeptPublic) → map (λ (p : PublicSymbol). p.start) (map (kept_public bytes) publics) ≡ starts_kept publics
seen_publics bytes [] = refl
seen_publics bytes (p ∷ publics) = ap (λ more. p.start ∷ more) (seen_publics bytes publics)

-- no probes are few
pub none_few : (addrs starts : ℕ) → AreProbes 0 addrs starts
none_few addrs starts = record { swept = omega arith; searched = λ p enough. omega arith }

-- few probes for some of the addresses are few for all of them
pub more_addresses : (probes fewer addrs starts : ℕ) → fewer ≤ addrs → AreProbes probes fewer starts → AreProbes probes addrs starts
more_addresses probes fewer addrs starts less are = record {
  swept = omega (arith, are.swept);
  searched = λ p enough. omega (arith, are.searched p enough, mul-le-mul_left p less);
}

-- what is kept of a file stands for the table that is read of it
pub table_stands : (bytes : List ℕ) (kept : KeptTable) (starts : List ℕ) (publics : PublicTable) → IsKept bytes kept starts publics →
    (table : Table) → table_in bytes ≡ Some table → StandsFor bytes table kept
table_stands bytes kept starts publics is table read = subst (λ t. StandsFor bytes t kept) (same_Some is.table table (sym is.read ∙ read)) is.stands

module _ (bytes : List ℕ) (table : Table) (kept : KeptTable) (stands : StandsFor bytes table kept) (starts : List ℕ) (starts_are : starts ≡ starts_of kept.code)
    (publics : PublicTable) (publics_are : IsPublicTable kept.publics.items publics) where
  addresses_are : AreAddresses (map (λ p. p.start) table.publics) publics.starts
  addresses_are =
      let P : List PublicSymbol → Type 0 = λ ps. AreAddresses (map (λ (p : PublicSymbol). p.start) ps) publics.starts in
      let Q : List ℕ → Type 0 = λ ss. AreAddresses ss publics.starts in
      subst P stands.publics (subst Q (sym (seen_publics bytes kept.publics.items)) publics_are.addresses)

  count_is : length starts ≡ length table.functions
  count_is = omega (arith, ap length starts_are, length-map kept.code.keys.items (λ (k : FunctionKey). k.start), stands.keys.count, stands.count)

  module _ (IsEnough : ℕ → ℕ → Type 0) (probes : ℕ) where
    -- where functions alone are searched
    pub functions_alone : IsEnough probes (length starts) → IsEnough 0 (length publics.starts) → AreProbesOf IsEnough table.publics probes (length table.functions)
    functions_alone few none = record {
      addresses = publics.starts;
      are = addresses_are;
      of_functions = probes;
      of_publics = 0;
      sum = omega arith;
      functions_few = subst (IsEnough probes) count_is few;
      publics_few = none;
      none = λ _. refl;
    }

    -- where PUBLIC records are searched too
    pub with_publics : (first second : ℕ) → probes ≡ first + second → 0 < length kept.publics.items → IsEnough first (length starts) →
        IsEnough second (length publics.starts) → AreProbesOf IsEnough table.publics probes (length table.functions)
    with_publics first second sum some few more = record {
      addresses = publics.starts;
      are = addresses_are;
      of_functions = first;
      of_publics = second;
      sum = sum;
      functions_few = subst (IsEnough first) count_is few;
      publics_few = more;
      none = λ no_address. absurd (address kept.publics.items some publics_are.addresses.each no_address);
    } where
      address : (ps : List KeptPublic) → 0 < length ps →
          ((i s : ℕ) → slice_get (starts_kept ps) i ≡ Some s → (k : ℕ) × (slice_get publics.starts k ≡ Some s)) → length publics.starts ≡ 0 → ⊥
      address [] some each no_address = omega arith
      address (p ∷ ps) some each no_address =
          let at = each 0 p.start refl in
          omega (arith, slice_get_within publics.starts at.0 p.start at.1)
