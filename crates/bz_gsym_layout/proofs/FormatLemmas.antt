-- The bytes that a plan is laid out in are a GSYM file.
use Rattle.std.proofs.Common.{◌≡◌, ℕ, suc, ◌+◌, ◌*◌, ◌^◌, ◌<◌, ◌≤◌, map, List, length, Some, sym, ap, subst, ◌∙◌, arith}
use Rattle.std.specs.List.{AllByRecursion, slice_get}
use Rattle.bz_base.specs.Starts.{NeverDescends}
use Rattle.bz_base.proofs.TableLemmas.{record_at, start_at}
use Rattle.bz_gsym.specs.Header.{header_of}
use Rattle.bz_gsym.specs.Tables.{IsGsym, file_count, file_table, files_end, strings_end}
use Rattle.bz_gsym.specs.declared.types.Header.{Header}
use Rattle.bz_gsym_layout.specs.Layable.{IsLayable, StartsAscend}
use Rattle.bz_gsym_layout.specs.Layout.{Tables, layout, tables_of}
use Rattle.bz_gsym_layout.specs.Plan.{Code}
use Rattle.bz_gsym_layout.proofs.HoldsLemmas.{starts_small}
use Rattle.bz_gsym_layout.proofs.LayoutLemmas.{count_read, files_place, head_read, length_is, starts_read, strings_at, the_head}

-- starts of records in order never descend
never : {X : Type 0} (start : X → ℕ) (xs : List X) → ((i j : ℕ) (x y : X) → i ≤ j → slice_get xs i ≡ Some x → slice_get xs j ≡ Some y → start x ≤ start y) → NeverDescends (map start xs)
never start xs up i j order within =
    let x = record_at start (λ z. 0) xs i (omega arith) in
    let y = record_at start (λ z. 0) xs j within in
    omega (arith, up i j x.0 y.0 order x.1 y.1, start_at start (λ z. 0) xs i x.0 x.1, start_at start (λ z. 0) xs j y.0 y.1)

module _ (codes : List Code) (small : length (layout codes) < 2 ^ 32) (layable : AllByRecursion IsLayable codes)
    (up : StartsAscend codes) where
  abbrev t : Tables
  t = tables_of codes

  abbrev head : header_of (layout codes) ≡ the_head codes t small (starts_small codes small layable)
  head = head_read codes t small (starts_small codes small layable)

  files_end_is : files_end (layout codes) ≡ strings_at codes t
  files_end_is =
      ap (λ (h : Header). file_table h + file_count (layout codes) * 8) head
      ∙ ap (λ n. file_table (the_head codes t small (starts_small codes small layable)) + n * 8) (count_read codes t small (starts_small codes small layable))
      ∙ ap (λ n. n + suc (length t.sources) * 8) (files_place codes t small (starts_small codes small layable)) ∙ omega arith

  pub is_file : IsGsym (layout codes)
  is_file = record {
    magic = ap (λ (h : Header). h.magic) head;
    version = ap (λ (h : Header). h.version) head;
    tables = omega (arith, files_end_is, length_is codes t);
    strings = omega (arith, ap strings_end head, length_is codes t);
    ascend = subst NeverDescends (sym (starts_read codes t small (starts_small codes small layable))) (never (λ (c : Code). c.start) codes up);
  }
