-- The PUBLIC records that are kept in order are those of a file in order.
-- The ids of names stand at the indices of their names.
use Rattle.std.proofs.Common.{◌≡◌, ℕ, ◌<◌, List, [], ◌∷◌, length, map, Some, refl, sym, ap, subst, ◌∙◌, arith}
use Rattle.std.specs.List.{slice_get}
use Rattle.std.specs.Map.{keys_of}
use Rattle.std.proofs.lemmas.List.{length-map}
use Rattle.bz_base.specs.Nearest.{IsTable}
use Rattle.bz_base.specs.Sorting.{sorted}
use Rattle.bz_base.proofs.ViewLemmas.{table_seen}
use Rattle.bz_search.proofs.SortingLaws.{table_sorted}
use Rattle.bz_breakpad_table.specs.Kept.{IsTextAt, PublicsFit, kept_names, kept_public, text_at}
use Rattle.bz_breakpad_table.specs.declared.types.KeptPublic.{KeptPublic}
use Rattle.bz_breakpad_table.specs.declared.types.Part.{Part}
use Rattle.bz_base.proofs.InTableLemmas.{all_in_table}
use Rattle.bz_breakpad_lines.specs.Table.{PublicSymbol}

-- PUBLIC records that are kept in order are those of the file in order
module _ (bytes : List ℕ) (publics ordered : List KeptPublic) (table : IsTable (λ p. p.start) (λ p. 0) publics ordered) where
  pub publics_kept : (listed : List PublicSymbol) → map (kept_public bytes) publics ≡ listed → map (kept_public bytes) ordered ≡ sorted (λ (p : PublicSymbol). p.start) (λ p. 0) listed
  publics_kept listed are =
      table_sorted (λ (p : PublicSymbol). p.start) (λ p. 0) listed (map (kept_public bytes) ordered)
      (subst (λ (ps : List PublicSymbol). IsTable (λ (p : PublicSymbol). p.start) (λ p. 0) ps (map (kept_public bytes) ordered)) are
      (table_seen (λ (p : PublicSymbol). p.start) (λ p. 0) (kept_public bytes) publics ordered table))

  pub publics_fit : PublicsFit bytes publics → PublicsFit bytes ordered
  publics_fit fits = all_in_table (λ (p : KeptPublic). IsTextAt bytes p.name) (λ (p : KeptPublic). p.start) (λ p. 0) publics ordered table fits

-- The names of ids that are kept.
module _ (bytes : List ℕ) (names : List (ℕ × Part)) (listed : List (ℕ × List ℕ)) (are : kept_names bytes names ≡ listed) (index : ℕ) where
  pub ids_within : index < length listed → index < length names
  ids_within within = omega (arith, within, ap length are, length-map {B = ℕ × List ℕ} names (λ (e : ℕ × Part). (e.0, text_at bytes e.1)))

  same_ids : (ns : List (ℕ × Part)) → keys_of (kept_names bytes ns) ≡ keys_of ns
  same_ids [] = refl
  same_ids (n ∷ ns) = ap (λ (ids : List ℕ). n.0 ∷ ids) (same_ids ns)

  -- the id at an index is the one that is kept there
  pub id_kept : (id : ℕ) → slice_get (keys_of names) index ≡ Some id → slice_get (keys_of listed) index ≡ Some id
  id_kept id there =
      ap (λ (ns : List (ℕ × List ℕ)). slice_get (keys_of ns) index) (sym are)
      ∙ ap (λ (ids : List ℕ). slice_get ids index) (same_ids names)
      ∙ there
