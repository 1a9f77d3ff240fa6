-- A head is written piece by piece.
use Rattle.std.proofs.Common.{◌≡◌, ℕ, List, [], ◌∷◌, ◌++◌, ap, ◌∙◌, append_assoc}
use Rattle.bz_gsym.specs.Header.{gsym_magic, gsym_version, gsym_max_uuid_size}
use Rattle.bz_gsym_layout.specs.Format.{addr_off_size, base_address, uuid_size}
use Rattle.bz_gsym_layout.specs.Layout.{head_bytes, word, zeros}

module _ (old a b c d e f g h i : List ℕ) where
  pieces : ((((((((old ++ a) ++ b) ++ c) ++ d) ++ e) ++ f) ++ g) ++ h) ++ i ≡ old ++ (a ++ (b ++ (c ++ (d ++ (e ++ (f ++ (g ++ (h ++ i))))))))
  pieces = simp append_assoc

  side_by_side : (o1 o2 o3 o4 o5 o6 o7 o8 o9 : List ℕ) → o1 ≡ old ++ a → o2 ≡ o1 ++ b → o3 ≡ o2 ++ c → o4 ≡ o3 ++ d → o5 ≡ o4 ++ e → o6 ≡ o5 ++ f → o7 ≡ o6 ++ g →
      o8 ≡ o7 ++ h → o9 ≡ o8 ++ i → o9 ≡ old ++ (a ++ (b ++ (c ++ (d ++ (e ++ (f ++ (g ++ (h ++ i))))))))
  side_by_side o1 o2 o3 o4 o5 o6 o7 o8 o9 e1 e2 e3 e4 e5 e6 e7 e8 e9 =
      let s2 = e2 ∙ ap (λ l. l ++ b) e1 in
      let s3 = e3 ∙ ap (λ l. l ++ c) s2 in
      let s4 = e4 ∙ ap (λ l. l ++ d) s3 in
      let s5 = e5 ∙ ap (λ l. l ++ e) s4 in
      let s6 = e6 ∙ ap (λ l. l ++ f) s5 in
      let s7 = e7 ∙ ap (λ l. l ++ g) s6 in
      let s8 = e8 ∙ ap (λ l. l ++ h) s7 in
      e9 ∙ ap (λ l. l ++ i) s8 ∙ pieces

-- a head
pub head_written : (count at len : ℕ) (old o1 o2 o3 o4 o5 o6 o7 o8 o9 : List ℕ) → o1 ≡ old ++ word 4 gsym_magic → o2 ≡ o1 ++ word 2 gsym_version → o3 ≡ o2 ++ addr_off_size ∷ [] →
    o4 ≡ o3 ++ uuid_size ∷ [] → o5 ≡ o4 ++ word 8 base_address → o6 ≡ o5 ++ word 4 count → o7 ≡ o6 ++ word 4 at → o8 ≡ o7 ++ word 4 len → o9 ≡ o8 ++ zeros gsym_max_uuid_size → o9 ≡ old ++ head_bytes count at len
head_written count at len old o1 o2 o3 o4 o5 o6 o7 o8 o9 e1 e2 e3 e4 e5 e6 e7 e8 e9 =
    side_by_side old (word 4 gsym_magic) (word 2 gsym_version) (addr_off_size ∷ []) (uuid_size ∷ []) (word 8 base_address) (word 4 count) (word 4 at) (word 4 len) (zeros gsym_max_uuid_size) o1 o2 o3 o4 o5 o6 o7 o8 o9 e1 e2 e3 e4 e5
    e6 e7 e8 e9
