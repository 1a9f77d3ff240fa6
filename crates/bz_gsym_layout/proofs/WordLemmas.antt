-- Numbers that are written in so many bytes are read again.
use Rattle.std.proofs.Common.{◌≡◌, ℕ, zero, suc, ◌/◌, ◌%◌, ◌^◌, ◌<◌, List, [], ◌∷◌, ◌++◌, length, take, drop, refl, sym, ap, subst, ◌∙◌, arith, append-nil}
use Rattle.std.proofs.lemmas.List.{take_at}
use Rattle.std.proofs.Math.Nat.{pow-suc}
use Rattle.std.proofs.Math.Seq.{drop-append_seam}
use Rattle.std.specs.Int.{to_le_bytes, w16, w32, w64}
use Rattle.bz_base.specs.Cursor.{IsWord, little}
use Rattle.bz_base.specs.Leb128.{IsUleb}
use Rattle.bz_base.proofs.LebSpellingLemmas.{uleb_found}
use Rattle.bz_base.proofs.PieceOfBytesLemmas.{sum_is}
use Rattle.bz_base.specs.Little.{number_at}
use Rattle.bz_gsym_layout.specs.Layout.{word}
use Rattle.bz_gsym_layout.specs.Leb.{uleb}
use Rattle.bz_gsym_layout.proofs.LebLemmas.{uleb_again}

pub length_word : (width number : ℕ) → length (word width number) ≡ width
length_word zero number = refl
length_word (suc width) number = ap suc (length_word width (number / 256))

pub little_word : (width number : ℕ) → number < 256 ^ width → little (word width number) ≡ number
little_word zero number small = omega (arith, small)
little_word (suc width) number small =
    let next = little_word width (number / 256) (omega (arith, pow-suc 256 width)) in omega (arith, next)

pub is_word : (width number : ℕ) → number < 256 ^ width → IsWord width number (word width number)
is_word width number small = record { many = length_word width number; valued = sym (little_word width number small) ∙ sym (sum_is (word width number)) }

-- a number that lies in the bytes is read at its place
pub number_there : (width number : ℕ) (before after : List ℕ) (place : ℕ) → number < 256 ^ width → length before ≡ place →
    number_at width (before ++ (word width number ++ after)) place ≡ number
unfolding number_at
number_there width number before after place small from =
    ap (λ (p : ℕ). little (take width (drop p (before ++ (word width number ++ after))))) (sym from)
    ∙ ap (λ l. little (take width l)) (drop-append_seam before (word width number ++ after))
    ∙ ap little (take_at (word width number) after width (length_word width number))
    ∙ little_word width number small

pub is_uleb : (number : ℕ) → number < 2 ^ 64 → IsUleb number (uleb number)
is_uleb number small =
    let front = uleb_found (uleb number ++ []) number [] (uleb_again number [] small) in
    let same : front.text ≡ uleb number = sym (append-nil front.text) ∙ sym front.whole ∙ append-nil (uleb number) in
    subst (IsUleb number) same front.is

-- the bytes of a number of so many bits, the lowest first
pub short_word : (number : ℕ) → to_le_bytes w16 number ≡ word 2 number
short_word number = refl

pub whole_word : (number : ℕ) → to_le_bytes w32 number ≡ word 4 number
whole_word number =
    let third : number / 65536 ≡ number / 256 / 256 = omega arith in
    let fourth : number / 16777216 ≡ number / 256 / 256 / 256 = omega arith in
    λ i. number % 256 ∷ number / 256 % 256 ∷ third i % 256 ∷ fourth i % 256 ∷ []

pub long_word : (number : ℕ) → to_le_bytes w64 number ≡ word 8 number
long_word number =
    let third : number / 65536 ≡ number / 256 / 256 = omega arith in
    let fourth : number / 16777216 ≡ number / 65536 / 256 = omega arith in
    let fifth : number / 4294967296 ≡ number / 16777216 / 256 = omega arith in
    let sixth : number / 1099511627776 ≡ number / 4294967296 / 256 = omega arith in
    let seventh : number / 281474976710656 ≡ number / 1099511627776 / 256 = omega arith in
    let eighth : number / 72057594037927936 ≡ number / 281474976710656 / 256 = omega arith in
    rw (eighth, seventh, sixth, fifth, fourth, third) refl

-- the low 32 bits of a number have its lowest four bytes
pub low_word : (number : ℕ) → word 4 (number % 4294967296) ≡ word 4 number
low_word number =
    let first : number % 4294967296 % 256 ≡ number % 256 = omega arith in
    let second : number % 4294967296 / 256 % 256 ≡ number / 256 % 256 = omega arith in
    let third : number % 4294967296 / 256 / 256 % 256 ≡ number / 256 / 256 % 256 = omega arith in
    let fourth : number % 4294967296 / 256 / 256 / 256 % 256 ≡ number / 256 / 256 / 256 % 256 = omega arith in
    λ i. first i ∷ second i ∷ third i ∷ fourth i ∷ []
