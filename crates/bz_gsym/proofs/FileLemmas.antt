-- What stands in the tables of a file, by a head that is the file's.
use Rattle.std.proofs.Common.{◌≡◌, ℕ, ◌+◌, ◌*◌, ◌<◌, ◌≤◌, Bool, true, false, List, drop, Option, Some, None, Result, Ok, Err, Bor, option_map, refl, sym, ap, subst, ◌∙◌, arith}
use Rattle.std.specs.Prelude.{MatchResult}
use Rattle.std.specs.List.{slice_get}
use Rattle.std.specs.Option.{SomeIff, option_and_then}
use Rattle.std.specs.Result.{result_ok}
use Rattle.std.specs.Str.{IsUtf8, is_utf8}
use Rattle.std.proofs.lemmas.Bool.{le-leb, lt-leb, false_from_ne_true}
use Rattle.std.proofs.lemmas.Str.{IsUtf8-from_is_utf8, is_utf8-from_IsUtf8}
use Rattle.bz_base.specs.ZeroEnded.{zero_ended}
use Rattle.bz_base.specs.Little.{number_at}
use Rattle.bz_base.specs.Span.{fitting, last_address}
use Rattle.bz_gsym.specs.Header.{header_of}
use Rattle.bz_gsym.specs.Strings.{checked, string_at}
use Rattle.bz_gsym.specs.Tables.{address_at, data_places, data_table, file_at, file_count_place, file_table, files, header_len, is_address_size, starts}
use Rattle.bz_gsym.specs.declared.types.Header.{Header}
use Rattle.bz_gsym.proofs.StartLemmas.{no_starts, start_in, starts_are}
use Rattle.bz_gsym.proofs.TableLemmas.{entry_at, no_entry_table}

module _ (bytes : List ℕ) (header : Header) (head : header ≡ header_of bytes) (index : ℕ) where
  -- the file of an index
  pub file_there : index < number_at 4 bytes (file_count_place header) → slice_get (files bytes) index ≡ Some (file_at bytes (file_table header + index * 8))
  file_there =
      subst (λ (h : Header). index < number_at 4 bytes (file_count_place h) → slice_get (files bytes) index ≡ Some (file_at bytes (file_table h + index * 8))) (sym head)
      (entry_at (λ i. file_at bytes (file_table (header_of bytes) + i * 8)) (number_at 4 bytes (file_count_place (header_of bytes))) index)

  pub no_file : number_at 4 bytes (file_count_place header) ≤ index → slice_get (files bytes) index ≡ None
  no_file =
      subst (λ (h : Header). number_at 4 bytes (file_count_place h) ≤ index → slice_get (files bytes) index ≡ None) (sym head)
      (no_entry_table (λ i. file_at bytes (file_table (header_of bytes) + i * 8)) 0 (number_at 4 bytes (file_count_place (header_of bytes))) index)

  -- the data place of an index
  pub place_there : index < header.num_addrs → slice_get (data_places bytes) index ≡ Some (number_at 4 bytes (data_table header + index * 4))
  place_there =
      subst (λ (h : Header). index < h.num_addrs → slice_get (data_places bytes) index ≡ Some (number_at 4 bytes (data_table h + index * 4))) (sym head)
      (entry_at (λ i. number_at 4 bytes (data_table (header_of bytes) + i * 4)) (header_of bytes).num_addrs index)

  pub no_place : header.num_addrs ≤ index → slice_get (data_places bytes) index ≡ None
  no_place =
      subst (λ (h : Header). h.num_addrs ≤ index → slice_get (data_places bytes) index ≡ None) (sym head)
      (no_entry_table (λ i. number_at 4 bytes (data_table (header_of bytes) + i * 4)) 0 (header_of bytes).num_addrs index)

  -- the start of an index
  pub start_there : is_address_size header.addr_off_size ≡ true → index < header.num_addrs → slice_get (starts bytes) index ≡ Some (start_in bytes header.addr_off_size index)
  start_there allowed within =
      ap (λ l. slice_get l index) (starts_are bytes header head allowed)
      ∙ entry_at (λ i. number_at header.addr_off_size bytes (header_len + i * header.addr_off_size)) header.num_addrs index within

  pub no_start : is_address_size header.addr_off_size ≡ true → header.num_addrs ≤ index → slice_get (starts bytes) index ≡ None
  no_start allowed past =
      ap (λ l. slice_get l index) (starts_are bytes header head allowed)
      ∙ no_entry_table (λ i. number_at header.addr_off_size bytes (header_len + i * header.addr_off_size)) 0 header.num_addrs index past

  -- an address of another size has none
  pub no_start_of_size : is_address_size header.addr_off_size ≡ false → slice_get (starts bytes) index ≡ None
  no_start_of_size other = ap (λ l. slice_get l index) (no_starts bytes header head other)

  -- past the table there is none, whatever its size
  pub no_start_past : header.num_addrs ≤ index → (allowed : Bool) → is_address_size header.addr_off_size ≡ allowed → slice_get (starts bytes) index ≡ None
  no_start_past past true is = no_start is past
  no_start_past past false is = no_start_of_size is

  pub no_address : slice_get (starts bytes) index ≡ None → address_at bytes index ≡ None
  no_address none = ap (option_and_then (λ start. fitting ((header_of bytes).base_address + start))) none

  sum_fits : (o : Option ℕ) (sum : ℕ) → SomeIff o (sum < 18446744073709551616) sum → o ≡ fitting sum
  sum_fits None sum over = let above : last_address < sum = omega arith in rw (lt-leb sum last_address above) refl
  sum_fits (Some n) sum fits =
      let within : sum ≤ last_address = omega (arith, fits.0) in rw (le-leb sum last_address within) (ap (λ (k : ℕ). Some k) fits.1)

  -- the address of an index is base and start, where they fit
  pub address_there : (o : Option ℕ) (start : ℕ) → is_address_size header.addr_off_size ≡ true → index < header.num_addrs →
      start ≡ start_in bytes header.addr_off_size index →
      SomeIff o (header.base_address + start < 18446744073709551616) (header.base_address + start) → o ≡ address_at bytes index
  address_there o start allowed within is sum =
      sum_fits o (header.base_address + start) sum
      ∙ ap (λ (h : Header). fitting (h.base_address + start)) head
      ∙ sym (ap (option_and_then (λ s. fitting ((header_of bytes).base_address + s))) (start_there allowed within ∙ ap (λ (s : ℕ). Some s) (sym is)))

-- a text before a zero byte is a string where it is UTF-8
module _ (table : List ℕ) (place : ℕ) (text : List ℕ) (before : Some text ≡ zero_ended (drop place table)) where
  string_there : IsUtf8 text → Some text ≡ string_at table place
  string_there good = sym (ap (option_and_then checked) (sym before) ∙ rw (is_utf8-from_IsUtf8 text good) refl)

  no_text : ¬ (IsUtf8 text) → None ≡ string_at table place
  no_text bad = sym (ap (option_and_then checked) (sym before) ∙ rw (false_from_ne_true (is_utf8 text) (λ good. bad (IsUtf8-from_is_utf8 text good))) refl)

  -- and one is read of it just there
  pub text_read : {E : Type 0} (Q : E → Type 0) (r : Result (Bor (List ℕ)) E) →
      MatchResult r (λ s. (s.now ≡ text) × IsUtf8 text) (λ e. ¬ (IsUtf8 text) × Q e) → option_map (λ text. text.now) (result_ok r) ≡ string_at table place
  text_read Q (Ok s) is = ap Some is.0 ∙ string_there is.1
  text_read Q (Err e) is = no_text is.0
