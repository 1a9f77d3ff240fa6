use Rattle.std.proofs.Common.{◌≡◌, ℕ, ◌≤◌, Bool, true, false, List, [], ◌∷◌, Option, Some, None, option_and_then, Ok, refl, sym, subst}
use Rattle.bz_base.specs.Answer.{Resolved}
use Rattle.bz_base.specs.Nearest.{candidate, if_covers, nearest_covering}
use Rattle.bz_base.specs.Span.{covers}
use Rattle.bz_base.proofs.NearestLemmas.{candidate_is}
use Rattle.bz_elf.specs.Plain.{answer_in, found}
use Rattle.bz_elf.specs.Symbols.{Symbol, symbols}
use Rattle.bz_elf.proofs.laws.answers_start_before.Goals as goal

module _ («module» : Option (List ℕ)) (addr : ℕ) where
  found_start : (symbol : Symbol) (r : Resolved) → found «module» (Some symbol) ≡ Ok r → r.addr ≡ symbol.start
  found_start symbol r is = cc

  by_cover : (symbol found_symbol : Symbol) (b : Bool) → covers symbol.start symbol.size addr ≡ b →
      if_covers (λ (s : Symbol). s.start) (λ s. s.size) addr symbol ≡ Some found_symbol → symbol ≡ found_symbol
  by_cover symbol found_symbol true is same = let some = rw is at same in cc
  by_cover symbol found_symbol false is same = let none = rw is at same in cc

  by_candidate : (records : List Symbol) (near : Option Symbol) → candidate (λ (s : Symbol). s.start) (λ s. s.size) addr records ≡ near → (symbol : Symbol) →
      option_and_then (if_covers (λ (s : Symbol). s.start) (λ s. s.size) addr) near ≡ Some symbol → symbol.start ≤ addr
  by_candidate records None is symbol same = cc
  by_candidate records (Some near) is symbol same =
      let tried = candidate_is (λ (s : Symbol). s.start) (λ s. s.size) addr records near is in
      subst (λ (s : Symbol). s.start ≤ addr) (by_cover near symbol (covers near.start near.size addr) refl same) tried.1.not_above

  by_found : (records : List Symbol) (answer : Option Symbol) → nearest_covering (λ (s : Symbol). s.start) (λ s. s.size) addr records ≡ answer → (r : Resolved) →
      found «module» answer ≡ Ok r → r.addr ≤ addr
  by_found records None is r given = cc
  by_found records (Some symbol) is r given =
      subst (λ (n : ℕ). n ≤ addr) (sym (found_start symbol r given)) (by_candidate records (candidate (λ (s : Symbol). s.start) (λ s. s.size) addr records) refl symbol is)

  by_symbols : (list : List Symbol) (r : Resolved) → answer_in «module» list addr ≡ Ok r → r.addr ≤ addr
  by_symbols [] r given = cc
  by_symbols (symbol ∷ later) r given = by_found (symbol ∷ later) (nearest_covering (λ (s : Symbol). s.start) (λ s. s.size) addr (symbol ∷ later)) refl r given

pub returns : goal.returns
returns c = λ module_name bytes addr r is. by_symbols module_name addr (symbols bytes) r is
