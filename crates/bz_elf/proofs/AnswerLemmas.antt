-- What is kept of a file answers as its symbols do.
use Rattle.std.proofs.Common.{◌≡◌, ℕ, zero, suc, ◌<◌, Bool, true, List, [], ◌∷◌, length, map, Option, Some, None, option_map, Ok, Err, refl, sym, ap, ◌∙◌, arith}
use Rattle.std.specs.List.{list_all, slice_get}
use Rattle.std.proofs.lemmas.Bool.{and_parts}
use Rattle.std.proofs.lemmas.List.{length-map}
use Rattle.std.proofs.lemmas.Option.{none-some, same_Some}
use Rattle.bz_base.specs.Nearest.{nearest_covering}
use Rattle.bz_base.specs.Starts.{NeverDescends}
use Rattle.bz_base.specs.declared.types.Reason.TheVariants as reasons
use Rattle.bz_base.proofs.NearestLemmas.{nearest_covering_is}
use Rattle.bz_base.proofs.InTableLemmas.{starts_ascend}
use Rattle.bz_base.proofs.ViewLemmas.{covering_seen}
use Rattle.bz_elf.specs.Kept.{IsKept}
use Rattle.bz_elf.specs.Plain.{answer_in, found, plain, resolved}
use Rattle.bz_elf.specs.Sections.{strings}
use Rattle.bz_elf.specs.Symbols.{Symbol, entries, is_named, symbol_of, symbols}
use Rattle.bz_elf.specs.declared.types.KeptFile.{KeptFile}
use Rattle.bz_elf.specs.declared.types.SymbolEntry.{SymbolEntry}
use Rattle.bz_elf.proofs.FormatLemmas.{passes_names}

-- what all of a list pass, each of it passes
pub passes_at : {X : Type 0} (test : X → Bool) (list : List X) (i : ℕ) (x : X) → list_all test list ≡ true → slice_get list i ≡ Some x → test x ≡ true
passes_at test [] i x all there = absurd (none-some x there)
passes_at {X} test (y ∷ list) zero x all there = ap test (sym (same_Some y x there)) ∙ (and_parts (test y) (list_all test list) all).0
passes_at test (y ∷ list) (suc i) x all there = passes_at test list i x (and_parts (test y) (list_all test list) all).1 there

-- where there are symbols, the nearest answers
some_answer : (name : Option (List ℕ)) (list : List Symbol) (addr : ℕ) → 0 < length list →
    answer_in name list addr ≡ found name (nearest_covering (λ s. s.start) (λ s. s.size) addr list)
some_answer name [] addr some = absurd (omega arith)
some_answer name (s ∷ list) addr some = refl

no_answer : (name : Option (List ℕ)) (list : List Symbol) (addr : ℕ) → length list ≡ 0 → answer_in name list addr ≡ Err reasons.MissingSyms
no_answer name [] addr none = refl
no_answer name (s ∷ list) addr none = absurd (omega arith)

module _ (bytes : List ℕ) (kept : KeptFile) (is : IsKept bytes kept) (name : Option (List ℕ)) (addr : ℕ) where
  abbrev nearest : Option SymbolEntry
  nearest = nearest_covering (λ s. s.start) (λ s. s.size) addr (entries bytes)

  pub never_descends : NeverDescends (map (λ (s : SymbolEntry). s.start) kept.symbols.items)
  never_descends = starts_ascend (λ (s : SymbolEntry). s.start) (λ s. s.size) (entries bytes) kept.symbols.items is.symbols_are

  count : length (symbols bytes) ≡ length kept.symbols.items
  count = length-map (entries bytes) (symbol_of (strings bytes)) ∙ sym is.count

  pub missing : length kept.symbols.items ≡ 0 → plain name bytes addr ≡ Err reasons.MissingSyms
  missing none = no_answer name (symbols bytes) addr (count ∙ none)

  answered : 0 < length kept.symbols.items → plain name bytes addr ≡ found name (option_map (symbol_of (strings bytes)) nearest)
  answered some =
      some_answer name (symbols bytes) addr (omega (arith, count))
      ∙ ap (found name) (sym (covering_seen (λ (s : Symbol). s.start) (λ s. s.size) (symbol_of (strings bytes)) addr (entries bytes)))

  pub unknown : 0 < length kept.symbols.items → None ≡ nearest → plain name bytes addr ≡ Err reasons.UnknownAddr
  unknown some none = answered some ∙ ap (λ o. found name (option_map (symbol_of (strings bytes)) o)) (sym none)

  pub known : 0 < length kept.symbols.items → (entry : SymbolEntry) → Some entry ≡ nearest → plain name bytes addr ≡ Ok (resolved name (symbol_of (strings bytes) entry))
  known some entry one = answered some ∙ ap (λ o. found name (option_map (symbol_of (strings bytes)) o)) (sym one)

  pub named : (entry : SymbolEntry) → Some entry ≡ nearest → is_named (strings bytes) entry ≡ true
  named entry one =
      let near = rw (← one) at (nearest_covering_is (λ (s : SymbolEntry). s.start) (λ s. s.size) addr (entries bytes)) in
      passes_at (is_named (strings bytes)) (entries bytes) near.0 entry (passes_names bytes is.formed) near.1.there
