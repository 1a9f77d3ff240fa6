-- The calls around an address, and where it lies inside them.
use Rattle.std.proofs.Common.{◌≡◌, ◌≢◌, ℕ, List, map, Option, Some, option_map, refl, sym, ap, ◌∙◌}
use Rattle.std.specs.Borrow.{Bor}
use Rattle.std.proofs.lemmas.Simd.{map-map}
use Rattle.bz_base.specs.Chain.{around, chain, inner}
use Rattle.bz_base.specs.Nearest.{IsTable}
use Rattle.bz_base.specs.declared.types.FindSymOpts.{FindSymOpts}
use Rattle.bz_base.specs.declared.types.FindSymOpts.TheVariants as asked
use Rattle.bz_base.proofs.ChainLemmas.{chain_through, step_seen}
use Rattle.bz_base.proofs.ViewLemmas.{table_itself, table_seen}
use Rattle.bz_breakpad_table.specs.CallRanges.{call_start}
use Rattle.bz_breakpad_table.specs.Kept.{kept_call}
use Rattle.bz_breakpad_function.specs.Lent.{inlinee_seen}
use Rattle.bz_breakpad_function.specs.Locations.{by_line, by_seen, calls_around, calls_asked, inlinee_at, line_at, location_at, seen_from}
use Rattle.bz_breakpad_lines.specs.Table.{Function, Inlinee, SourceLine, Table}
use Rattle.bz_breakpad_table.specs.declared.types.CallRange.{CallRange}
use Rattle.bz_breakpad_function.specs.declared.types.Inlinee.{Inlinee as GivenInlinee}

module _ (bytes : List ℕ) (standing table : List CallRange) (is : IsTable (λ c. c.depth) call_start standing table) where
  seen : IsTable (λ i. i.depth) (λ i. i.start) (map (kept_call bytes) standing) (map (kept_call bytes) table)
  seen = table_seen (λ (i : Inlinee). i.depth) (λ i. i.start) (kept_call bytes) standing table is

  whole : IsTable (λ c. c.depth) call_start table table
  whole = table_itself (λ (i : Inlinee). i.depth) (λ i. i.start) (kept_call bytes) (map (kept_call bytes) standing) table seen

  -- the calls around an address, found in order, are those of the file
  pub calls_through : (addr : ℕ) (found : List (Bor CallRange)) →
      ((records : List CallRange) → IsTable (λ c. c.depth) call_start records table → map (λ r. r.now) found ≡ chain (λ c. c.depth) call_start (λ c. c.size) records addr) →
      map (λ call. kept_call bytes call.now) found ≡ calls_around addr (map (kept_call bytes) standing)
  calls_through addr found finds =
      sym (map-map (kept_call bytes) (λ (r : Bor CallRange). r.now) found)
      ∙ ap (map (kept_call bytes)) (finds table whole)
      ∙ chain_through (λ (i : Inlinee). i.depth) (λ i. i.start) (λ i. i.size) (kept_call bytes) (map (kept_call bytes) standing) table seen addr

  -- and so is the one of a depth
  pub inlinee_through : (depth addr : ℕ) (found : Option GivenInlinee) →
      ((records : List CallRange) → IsTable (λ c. c.depth) call_start records table →
      option_map inlinee_seen found ≡ option_map (kept_call bytes) (around (λ c. c.depth) call_start (λ c. c.size) addr (inner (λ c. c.depth) call_start depth addr records))) →
      option_map inlinee_seen found ≡ inlinee_at depth addr (map (kept_call bytes) standing)
  inlinee_through depth addr found finds =
      finds table whole
      ∙ step_seen (λ (i : Inlinee). i.depth) (λ i. i.start) (λ i. i.size) (kept_call bytes) (map (kept_call bytes) standing) table seen addr depth

-- where more than the symbol is asked for, the line record that answers is seen from outside the calls
-- that are asked for
pub location_by_line : (table : Table) (opts : FindSymOpts) (f : Function) (addr : ℕ) (line : SourceLine) (calls : List Inlinee) → opts ≢ asked.Basic →
    Some line ≡ line_at addr f.lines → calls ≡ calls_asked opts addr f.inlinees → location_at table opts f addr ≡ by_seen (seen_from table calls line)
location_by_line table asked.Basic f addr line calls more is are = absurd (more refl)
location_by_line table asked.CodeInfo f addr line calls more is are =
    ap (by_line table asked.CodeInfo f addr) (sym is) ∙ ap (λ calls. by_seen (seen_from table calls line)) (sym are)
location_by_line table asked.CodeInfoAndInlined f addr line calls more is are =
    ap (by_line table asked.CodeInfoAndInlined f addr) (sym is) ∙ ap (λ calls. by_seen (seen_from table calls line)) (sym are)
