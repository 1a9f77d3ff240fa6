-- The address that is read of a text is the one that it spells.
use Rattle.std.proofs.Common.{◌≡◌, ◌⊎◌, ℕ, ◌<◌, nat_eq, true, List, [], ◌∷◌, ◌++◌, drop, codes, Some, option_map, refl, sym, ap, subst, ◌∙◌, inl, inr, arith}
use Rattle.std.specs.List.{AllZip, starts_with}
use Rattle.std.specs.Str.Parse.{AllDigits}
use Rattle.std.proofs.lemmas.Bool.{cond_both}
use Rattle.std.proofs.lemmas.Bool.Decides.{Decides-eqb}
use Rattle.std.proofs.lemmas.Slice.Eq.{starts_is}
use Rattle.bz_base.specs.Number.{IsHex, hex_at, whole}
use Rattle.bz_base.proofs.NumberLemmas.{number_whole_found, number_whole_again}
use Rattle.bz_requests.specs.Addresses.{IsAddress, address_in, digits_in, each_address_in}
use Rattle.bz_requests.specs.Lines.{ReadsAsSpelled}
use Rattle.bz_requests.proofs.OptionLemmas.{map_some, then_some}

module _ (text : List ℕ) where
  -- a text that begins with the prefix is the prefix and what stands after it
  prefix_found : starts_with nat_eq text (codes "0x") ≡ true → text ≡ codes "0x" ++ drop 2 text
  prefix_found starts = (starts_is Decides-eqb text (codes "0x") (starts_with nat_eq text (codes "0x")) refl).0 starts

  -- digits don't begin with the prefix
  no_prefix : AllDigits 16 text → starts_with nat_eq text (codes "0x") ≡ true → ⊥
  no_prefix digits starts =
      let P : List ℕ → Type 0 = AllDigits 16 in
      let second : 33 < 16 = (subst P (prefix_found starts) digits).1.0 in
      omega arith

  -- the address that is read is spelled
  pub address_found : (addr : ℕ) → address_in text ≡ Some addr → IsAddress text addr
  address_found addr read = record {
    digits = digits_in text;
    spelled = cond_both (starts_with nat_eq text (codes "0x")) (drop 2 text) text (λ digits. (text ≡ digits) ⊎ (text ≡ codes "0x" ++ digits)) (λ starts. inr (prefix_found starts)) (λ other. inl refl);
    number = number_whole_found 16 16 (digits_in text) addr read;
  }

  -- the digits of a spelling are read
  digits_again : (digits : List ℕ) (addr : ℕ) → (text ≡ digits) ⊎ (text ≡ codes "0x" ++ digits) → IsHex 16 digits addr → digits_in text ≡ digits
  digits_again digits addr (inl same) number =
      let P : List ℕ → Type 0 = AllDigits 16 in
      cond_both (starts_with nat_eq text (codes "0x")) (drop 2 text) text (λ read. read ≡ digits)
      (λ starts. absurd (no_prefix (subst P (sym same) number.digits) starts))
      (λ other. same)
  digits_again digits addr (inr after) number = ap digits_in after

  -- the address that is spelled is read
  pub address_again : (addr : ℕ) → IsAddress text addr → address_in text ≡ Some addr
  address_again addr is =
      ap (λ digits. whole (hex_at 16 digits)) (digits_again is.digits addr is.spelled is.number) ∙ number_whole_again 16 16 is.digits addr is.number

-- the addresses that are read of texts are those that they spell
pub addresses_found : (texts : List (List ℕ)) (addrs : List ℕ) → each_address_in texts ≡ Some addrs → AllZip IsAddress texts addrs
addresses_found [] [] read = tt
addresses_found [] (addr ∷ addrs) read = cc
addresses_found (text ∷ texts) addrs read = by_parts (addresses_found texts) addrs read
  where
    by_parts : ((rest : List ℕ) → each_address_in texts ≡ Some rest → AllZip IsAddress texts rest) → (all : List ℕ) → each_address_in (text ∷ texts) ≡ Some all → AllZip IsAddress (text ∷ texts) all
    by_parts more all from =
        let first = then_some (λ addr. option_map (λ addrs. addr ∷ addrs) (each_address_in texts)) (address_in text) all from in
        let others = map_some (λ addrs. first.0 ∷ addrs) (each_address_in texts) all first.2 in
        subst (AllZip IsAddress (text ∷ texts)) others.2 (address_found text first.0 first.1, more others.0 others.1)

-- and those that they spell are read
pub addresses_again : (texts : List (List ℕ)) (addrs : List ℕ) → AllZip IsAddress texts addrs → each_address_in texts ≡ Some addrs
addresses_again [] [] each = refl
addresses_again [] (addr ∷ addrs) each = absurd each
addresses_again (text ∷ texts) [] each = absurd each
addresses_again (text ∷ texts) (addr ∷ addrs) each = rw (address_again text addr each.0, addresses_again texts addrs each.1) refl

-- so reader and relation agree
pub address_agrees : ReadsAsSpelled address_in IsAddress
address_agrees b content addr = (address_found (b ∷ content) addr, address_again (b ∷ content) addr)
