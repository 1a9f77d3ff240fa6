-- Functions whose records are in order: they answer as they do in the order of the file.
use Rattle.std.proofs.Common.{◌≡◌, ℕ, List, [], ◌∷◌, map, Option, Some, None, option_map, refl, sym, ap, subst, ◌∙◌}
use Rattle.bz_base.specs.Nearest.{IsTable}
use Rattle.bz_base.specs.declared.types.FindSymOpts.{FindSymOpts}
use Rattle.bz_base.specs.declared.types.FindSymOpts.TheVariants as asked
use Rattle.bz_base.proofs.ChainLemmas.{chain_through, step_seen}
use Rattle.bz_base.proofs.ViewLemmas.{covering_of_table}
use Rattle.bz_breakpad_table.specs.Kept.{IsNested}
use Rattle.bz_breakpad_function.specs.Locations.{by_line, calls_around, calls_asked, inlinee_at, line_at, location_at}
use Rattle.bz_breakpad_lines.specs.Table.{Function, Inlinee, SourceLine, Table}

map_same : (xs : List Inlinee) → map (λ i. i) xs ≡ xs
map_same [] = refl
map_same (x ∷ xs) = ap (λ ys. x ∷ ys) (map_same xs)

option_same : (o : Option Inlinee) → option_map (λ i. i) o ≡ o
option_same None = refl
option_same (Some x) = refl

module _ (calls kept : List Inlinee) (is : IsTable (λ i. i.depth) (λ i. i.start) calls kept) (addr : ℕ) where
  as_seen : IsTable (λ (i : Inlinee). i.depth) (λ i. i.start) calls (map (λ i. i) kept)
  as_seen = subst (IsTable (λ (i : Inlinee). i.depth) (λ i. i.start) calls) (sym (map_same kept)) is

  -- the calls around an address are the same
  pub calls_same : calls_around addr calls ≡ calls_around addr kept
  calls_same =
      sym (chain_through (λ (i : Inlinee). i.depth) (λ i. i.start) (λ i. i.size) (λ i. i) calls kept as_seen addr) ∙ map_same (calls_around addr kept)

  -- and so is the one of a depth
  pub inlinee_same : (depth : ℕ) → inlinee_at depth addr kept ≡ inlinee_at depth addr calls
  inlinee_same depth =
      sym (option_same (inlinee_at depth addr kept)) ∙ step_seen (λ (i : Inlinee). i.depth) (λ i. i.start) (λ i. i.size) (λ i. i) calls kept as_seen addr depth

-- the line record that answers is the same
pub line_same : (f k : Function) → IsNested f k → (addr : ℕ) → line_at addr k.lines ≡ line_at addr f.lines
line_same f k is addr = covering_of_table (λ (l : SourceLine). l.start) (λ l. l.size) f.lines k.lines is.lines addr

module _ (table : Table) (f k : Function) (is : IsNested f k) (addr : ℕ) where
  asked_same : (opts : FindSymOpts) → calls_asked opts addr f.inlinees ≡ calls_asked opts addr k.inlinees
  asked_same asked.Basic = refl
  asked_same asked.CodeInfo = refl
  asked_same asked.CodeInfoAndInlined = calls_same f.inlinees k.inlinees is.calls addr

  on_line : (opts : FindSymOpts) (o : Option SourceLine) → by_line table opts f addr o ≡ by_line table opts k addr o
  on_line opts None = refl
  on_line opts (Some line) = rw (asked_same opts) refl

  -- so the location is the same
  pub location_same : (opts : FindSymOpts) → location_at table opts f addr ≡ location_at table opts k addr
  location_same asked.Basic = refl
  location_same asked.CodeInfo = on_line asked.CodeInfo (line_at addr f.lines) ∙ ap (by_line table asked.CodeInfo k addr) (sym (line_same f k is addr))
  location_same asked.CodeInfoAndInlined = on_line asked.CodeInfoAndInlined (line_at addr f.lines) ∙ ap (by_line table asked.CodeInfoAndInlined k addr) (sym (line_same f k is addr))
