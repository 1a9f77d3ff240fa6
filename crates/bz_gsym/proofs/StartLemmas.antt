-- The starts of an address table.
use Rattle.std.proofs.Common.{◌≡◌, ℕ, ◌+◌, ◌-◌, ◌*◌, ◌<◌, ◌≤◌, true, false, List, [], length, refl, sym, subst, arith, inl, inr}
use Rattle.std.proofs.lemmas.Bool.{cases_lt}
use Rattle.bz_base.specs.Little.{number_at, numbers_at}
use Rattle.bz_base.specs.Starts.{NeverDescends}
use Rattle.bz_gsym.specs.Header.{header_of}
use Rattle.bz_gsym.specs.Tables.{header_len, is_address_size, starts}
use Rattle.bz_gsym.specs.declared.types.Header.{Header}
use Rattle.bz_gsym.proofs.TableLemmas.{length_table, number_in}

-- the start at an index
abbrev pub start_in : List ℕ → ℕ → ℕ → ℕ
start_in bytes size i = number_at size bytes (header_len + i * size)

-- the starts of a file, by its own head
own_starts : (bytes : List ℕ) → is_address_size (header_of bytes).addr_off_size ≡ true →
    starts bytes ≡ numbers_at (header_of bytes).addr_off_size (header_of bytes).num_addrs bytes header_len
own_starts bytes allowed = rw allowed refl

no_own_starts : (bytes : List ℕ) → is_address_size (header_of bytes).addr_off_size ≡ false → starts bytes ≡ []
no_own_starts bytes other = rw other refl

-- and by a head that is the same
module _ (bytes : List ℕ) (header : Header) (head : header ≡ header_of bytes) where
  pub starts_are : is_address_size header.addr_off_size ≡ true → starts bytes ≡ numbers_at header.addr_off_size header.num_addrs bytes header_len
  starts_are =
      subst (λ (h : Header). is_address_size h.addr_off_size ≡ true → starts bytes ≡ numbers_at h.addr_off_size h.num_addrs bytes header_len) (sym head) (own_starts bytes)

  pub no_starts : is_address_size header.addr_off_size ≡ false → starts bytes ≡ []
  no_starts = subst (λ (h : Header). is_address_size h.addr_off_size ≡ false → starts bytes ≡ []) (sym head) (no_own_starts bytes)

module _ (bytes : List ℕ) (size count : ℕ) where
  pub length_starts : length (numbers_at size count bytes header_len) ≡ count
  length_starts = length_table (λ i. number_at size bytes (header_len + i * size)) 0 count

  -- starts never descend where none is below one before it
  pub never_from : ((i j : ℕ) → i ≤ j → j < count → start_in bytes size i ≤ start_in bytes size j) → NeverDescends (numbers_at size count bytes header_len)
  never_from ascend i j order within =
      let last : j < count = omega (arith, length_starts) in
      rw (number_in size count bytes header_len i (omega arith), number_in size count bytes header_len j last) (ascend i j order last)

  pub never_to : NeverDescends (numbers_at size count bytes header_len) → (i j : ℕ) → i ≤ j → j < count → start_in bytes size i ≤ start_in bytes size j
  never_to never i j order within =
      rw (number_in size count bytes header_len i (omega arith), number_in size count bytes header_len j within) at (never i j order (omega (arith, length_starts)))

-- one more start that isn't below the last keeps that none descends
pub ascend_more : (bytes : List ℕ) (size k last : ℕ) → (0 < k → last ≡ start_in bytes size (k - 1)) → last ≤ start_in bytes size k →
    ((i j : ℕ) → i ≤ j → j < k → start_in bytes size i ≤ start_in bytes size j) →
    (i j : ℕ) → i ≤ j → j < k + 1 → start_in bytes size i ≤ start_in bytes size j
ascend_more bytes size k last is above before i j order within =
    elim (cases_lt j k) [
      | inl earlier ↦ before i j order earlier
      | inr at ↦
          let same : j ≡ k = omega arith in
          elim (cases_lt i k) [
            | inl below ↦
                let m : start_in bytes size i ≤ start_in bytes size (k - 1) = before i (k - 1) (omega arith) (omega arith) in
                let e : last ≡ start_in bytes size (k - 1) = is (omega arith) in
                rw same (omega (arith, m, e, above))
            | inr here ↦ let e : i ≡ j = omega arith in rw e (omega arith)
          ]
    ]

-- where no start is, none descends, and none is found
pub none_descends : NeverDescends []
none_descends i j order within = absurd (omega arith)
