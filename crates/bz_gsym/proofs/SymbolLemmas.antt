-- The symbol that a search among the starts finds is the one that is to be tried, and what it answers.
use Rattle.std.proofs.Common.{◌≡◌, ℕ, zero, suc, ◌+◌, ◌-◌, ◌*◌, ◌<◌, ◌≤◌, nat_lt, Bool, true, false, List, [], ◌∷◌, length, map, Option, Some, None, option_map, Ok, Err, refl, sym, ap, subst, ◌∙◌, arith}
use Rattle.std.specs.List.{slice_get, slice_index, zip}
use Rattle.std.specs.Option.{option_and_then}
use Rattle.std.proofs.lemmas.Bool.{le-ltb, ltb-false}
use Rattle.std.proofs.lemmas.List.{length-map}
use Rattle.std.proofs.lemmas.Option.{slice_get_within, none-some, same_Some}
use Rattle.bz_base.specs.Nearest.{IsTable}
use Rattle.bz_base.specs.Resolution.{MayGive, found_of}
use Rattle.bz_base.specs.Starts.{IsFound, NeverDescends}
use Rattle.bz_base.specs.declared.error.Error.{Error}
use Rattle.bz_base.specs.declared.error.Error.TheVariants as errors
use Rattle.bz_base.specs.declared.types.FindSymOpts.{FindSymOpts}
use Rattle.bz_base.specs.declared.types.Reason.TheVariants as reasons
use Rattle.bz_base.specs.Little.{number_at}
use Rattle.bz_base.proofs.TableLemmas.{record_at, start_at, table_candidate}
use Rattle.bz_gsym.specs.Joining.{Location}
use Rattle.bz_gsym.specs.Plain.{plain, answer_of, based, location_of, symbol_at, nearest_start, nearest_symbol, reaches, symbols, tried}
use Rattle.bz_gsym.specs.Entries.{Info, info_at}
use Rattle.bz_gsym.specs.Header.{header_of}
use Rattle.bz_gsym.specs.Refusal.{Refuses}
use Rattle.bz_gsym.specs.Tables.{IsGsym, IsNearest, IsTried, data_places, data_table, header_len, is_address_size, starts}
use Rattle.bz_gsym.proofs.TableLemmas.{length_table}

-- of lists side by side the first, where the second is as long
firsts : (xs ys : List ℕ) → length xs ≤ length ys → map (λ (x : ℕ × ℕ). x.0) (zip xs ys) ≡ xs
firsts [] ys longer = refl
firsts (x ∷ xs) [] longer = absurd (omega arith)
firsts (x ∷ xs) (y ∷ ys) longer = ap (λ l. x ∷ l) (firsts xs ys (omega arith))

-- and the second, entry by entry
second : (xs ys : List ℕ) (i : ℕ) (x : ℕ × ℕ) → slice_get (zip xs ys) i ≡ Some x → slice_get ys i ≡ Some x.1
second [] ys i x at = absurd (none-some x at)
second (a ∷ xs) [] i x at = absurd (none-some x at)
second (a ∷ xs) (b ∷ ys) zero x at = ap (λ (p : ℕ × ℕ). Some p.1) (same_Some (a, b) x at)
second (a ∷ xs) (b ∷ ys) (suc i) x at = second xs ys i x at

-- there are as many data places as starts at least
no_more_starts : (bytes : List ℕ) (allowed : Bool) → is_address_size (header_of bytes).addr_off_size ≡ allowed → length (starts bytes) ≤ length (data_places bytes)
no_more_starts bytes true is =
    let h = header_of bytes in
    rw is (omega (arith, length_table (λ i. number_at h.addr_off_size bytes (header_len + i * h.addr_off_size)) 0 h.num_addrs, length_table (λ i. number_at 4 bytes (data_table h + i * 4)) 0 h.num_addrs))
no_more_starts bytes false is = rw is (omega arith)

-- the starts of the symbols
starts_of : (bytes : List ℕ) → map (λ (symbol : ℕ × ℕ). symbol.0) (symbols bytes) ≡ starts bytes
starts_of bytes = firsts (starts bytes) (data_places bytes) (no_more_starts bytes (is_address_size (header_of bytes).addr_off_size) refl)

-- records whose starts never descend are a table of themselves, as if all were of one size
module _ {X : Type 0} (start : X → ℕ) where
  own_table : (list : List X) → NeverDescends (map start list) → IsTable start (λ x. 0) list list
  own_table list never = record {
    starts_ascend = λ i j x y order at_x at_y.
        let within : j < length (map start list) = omega (arith, slice_get_within list j y at_y, length-map list start) in
        omega (arith, never i j order within, start_at start (λ z. 0) list i x at_x, start_at start (λ z. 0) list j y at_y);
    sizes_ascend = λ i j x y order at_x at_y same. omega arith;
    alike = λ at size. refl;
  }

-- what a search finds among the starts, as the symbol that is to be tried
tried_among : (bytes : List ℕ) → NeverDescends (starts bytes) → (distance : ℕ) (found : Option (ℕ × ℕ)) → IsFound (starts bytes) distance found →
    option_and_then (λ p. slice_get (symbols bytes) p.0) found ≡ nearest_start bytes distance
tried_among bytes never distance found is =
    let same = starts_of bytes in
    table_candidate (λ (symbol : ℕ × ℕ). symbol.0) (λ symbol. 0) (symbols bytes) (symbols bytes)
    (own_table (λ (symbol : ℕ × ℕ). symbol.0) (symbols bytes) (subst NeverDescends (sym same) never))
    distance found (subst (λ l. IsFound l distance found) (sym same) is)

module _ (bytes : List ℕ) (addr : ℕ) (formed : IsGsym bytes) where
  abbrev base : ℕ
  base = (header_of bytes).base_address

  none_from : (below : Bool) → nat_lt addr base ≡ below → IsNearest bytes addr None → nearest_symbol bytes addr ≡ None
  none_from true is none = rw is refl
  none_from false is none =
      let from : base ≤ addr = ltb-false addr base is in
      rw is (ap (option_map (based base)) (sym (tried_among bytes formed.ascend (addr - base) None (none from))))

  -- nothing is to be tried where nothing is found
  pub none_tried : (opts : FindSymOpts) → IsNearest bytes addr None → plain bytes opts addr ≡ Ok (Err reasons.UnknownAddr)
  none_tried opts none = ap (tried bytes opts addr) (none_from (nat_lt addr base) refl none)

  module _ (index at : ℕ) (found : IsTried bytes addr index at) where
    symbol : (s : ℕ × ℕ) × (slice_get (symbols bytes) index ≡ Some s)
    symbol =
        record_at (λ (s : ℕ × ℕ). s.0) (λ s. 0) (symbols bytes) index (subst (λ l. index < length l) (sym (starts_of bytes)) found.found.within)

    starts_there : symbol.0.0 ≡ found.start
    starts_there =
        sym (start_at (λ (s : ℕ × ℕ). s.0) (λ s. 0) (symbols bytes) index symbol.0 symbol.1)
        ∙ ap (λ l. slice_index l index) (starts_of bytes) ∙ found.found.start_is

    is_tried : nearest_symbol bytes addr ≡ Some (at, symbol.0.1)
    is_tried =
        rw (le-ltb addr base found.from)
        (ap (option_map (based base)) (sym (tried_among bytes formed.ascend (addr - base) (Some (index, found.start)) found.found) ∙ symbol.1)
        ∙ ap (λ (n : ℕ). Some (n, symbol.0.1)) (ap (λ n. base + n) starts_there ∙ sym found.at_is))

    -- with its data place, which its index has
    pub tried_with : (place : ℕ) → slice_get (data_places bytes) index ≡ Some place → nearest_symbol bytes addr ≡ Some (at, place)
    tried_with place there =
        is_tried ∙ ap (λ (p : ℕ). Some (at, p)) (same_Some symbol.0.1 place (sym (second (starts bytes) (data_places bytes) index symbol.0 symbol.1) ∙ there))

    -- the data of the index is that at its data place
    by_info : (opts : FindSymOpts) (o : Option Info) → o ≡ option_and_then (info_at bytes) (slice_get (data_places bytes) index) → plain bytes opts addr ≡ answer_of bytes opts addr at o
    by_info opts o given =
        ap (tried bytes opts addr) is_tried
        ∙ ap (answer_of bytes opts addr at) (sym (given ∙ ap (option_and_then (info_at bytes)) (second (starts bytes) (data_places bytes) index symbol.0 symbol.1)))

    -- without data it is refused
    pub no_data : (opts : FindSymOpts) → None ≡ option_and_then (info_at bytes) (slice_get (data_places bytes) index) → Err errors.InvalidData ≡ plain bytes opts addr
    no_data opts none = sym (by_info opts None none)

    module _ (opts : FindSymOpts) (info : Info) (given : Some info ≡ option_and_then (info_at bytes) (slice_get (data_places bytes) index)) where
      -- a symbol that doesn't reach the address leaves it unknown
      pub not_reached : reaches at info.size addr ≡ false → Ok (Err reasons.UnknownAddr) ≡ plain bytes opts addr
      not_reached short = sym (by_info opts (Some info) given ∙ rw short refl)

      -- one that does answers by what its data say
      pub reached : reaches at info.size addr ≡ true → (location : Option Location) → location_of bytes opts addr at info ≡ location →
          symbol_at at info.size location ≡ plain bytes opts addr
      reached far location is = sym (by_info opts (Some info) given ∙ rw far (ap (symbol_at at info.size) is))

      -- and is refused where they are
      pub refused : reaches at info.size addr ≡ true → (e : Error) → Refuses (location_of bytes opts addr at info) e →
          MayGive found_of (λ answer. answer ≡ plain bytes opts addr) (Err e)
      refused far errors.InvalidData none = reached far None none
      refused far errors.OutOfMemory none = tt
      refused far _ none = absurd none

    -- it starts at the address or before it
    pub starts_before : at ≤ addr
    starts_before = omega (arith, found.at_is, found.found.not_above, found.from)
