-- Values that are equal exactly where their readings are the same, in options, lists and records of
-- them.
use Rattle.std.proofs.Common.{◌≡◌, ◌↔◌, ℕ, true, false, ◌&&◌, Bool, IsTrue, List, [], ◌∷◌, Option, Some, None, map, option_map, nat_eq, rules, refl, sym, ap, ◌∙◌}
use Rattle.std.specs.Cow.{cow_str_bytes}
use Rattle.std.specs.Option.{option_eq}
use Rattle.std.proofs.Common.{Global}
use Rattle.std.specs.declared.borrow.CowStr.{CowStr}
use lib.Pointwise.{pointwise}
use Rattle.bz_base.specs.Answer.{Site, Call, Symbol, Resolved}
use Rattle.bz_base.specs.declared.types.SrcLang.{SrcLang}

-- two tests both hold exactly where two pairs are the same, if each test tells that of one part
pub pairs_agree : {A B : Type 0} {x y : A} {z w : B} (a b : Bool) → (IsTrue a ↔ (x ≡ y)) → (IsTrue b ↔ (z ≡ w)) → IsTrue (a && b) ↔ ◌≡◌ {A = A × B} (x, z) (y, w)
pairs_agree true b first second = search (first, second, rules)
pairs_agree false b first second = search (first, rules)

module _ {A B : Type 0} (E : A → A → Bool) (f : A → B) (agrees : (x y : A) → IsTrue (E x y) ↔ (f x ≡ f y)) where
  -- options are equal exactly where their readings are
  pub options_agree : (a b : Option A) → IsTrue (option_eq E a b) ↔ (option_map f a ≡ option_map f b)
  options_agree None None = search rules
  options_agree None (Some y) = search rules
  options_agree (Some x) None = search rules
  options_agree (Some x) (Some y) = search (agrees x y, rules)

  -- lists are equal exactly where their readings are
  pub lists_agree : (xs ys : List A) → IsTrue (pointwise E xs ys) ↔ (map f xs ≡ map f ys)
  lists_agree [] [] = search rules
  lists_agree [] (y ∷ ys) = search rules
  lists_agree (x ∷ xs) [] = search rules
  lists_agree (x ∷ xs) (y ∷ ys) = search (agrees x y, lists_agree xs ys, rules)

-- borrowed or owned texts are equal exactly where their bytes are
pub texts_agree : (x y : CowStr Global) → IsTrue (pointwise nat_eq (cow_str_bytes x) (cow_str_bytes y)) ↔ (cow_str_bytes x ≡ cow_str_bytes y)
texts_agree x y = search rules

-- sizes are equal exactly where they are the same
pub sizes_agree : (a b : Option ℕ) → IsTrue (option_eq nat_eq a b) ↔ (a ≡ b)
sizes_agree a b = search rules

-- a value is the same exactly where its parts are, if it can be made of them again
parts_agree : {A P : Type 0} (parts : A → P) (whole : P → A) → ((x : A) → whole (parts x) ≡ x) → (test : Bool) (a b : A) → (IsTrue test ↔ (parts a ≡ parts b)) → IsTrue test ↔ (a ≡ b)
parts_agree parts whole again test a b agrees = (λ holds. sym (again a) ∙ ap whole (agrees.0 holds) ∙ again b, λ same. agrees.1 (ap parts same))

-- the parts of a symbol, as one pair
abbrev SymbolParts : Type 0
SymbolParts = List ℕ × (Option (List ℕ) × (ℕ × (ℕ × (Option ℕ × (Option Site × (List Call × Bool))))))

abbrev pub symbol_parts : Symbol → SymbolParts
symbol_parts s = (s.name, (s.«module», (s.addr, (s.offset, (s.size, (s.site, (s.calls, s.public)))))))

abbrev symbol_whole : SymbolParts → Symbol
symbol_whole (name, (within, (addr, (offset, (size, (site, (calls, public))))))) = record { name = name; «module» = within; addr = addr; offset = offset; size = size; site = site; calls = calls; public = public }

-- a test of the parts of two symbols is one of the symbols
pub symbols_agree : (test : Bool) (a b : Symbol) → (IsTrue test ↔ (symbol_parts a ≡ symbol_parts b)) → IsTrue test ↔ (a ≡ b)
symbols_agree = parts_agree symbol_parts symbol_whole (λ s. refl)

-- the parts of a table's symbol, as one pair
abbrev ResolvedParts : Type 0
ResolvedParts = List ℕ × (Option (List ℕ) × (ℕ × (Option ℕ × (SrcLang × (Option Site × List Call)))))

abbrev pub resolved_parts : Resolved → ResolvedParts
resolved_parts r = (r.name, (r.«module», (r.addr, (r.size, (r.lang, (r.site, r.calls))))))

abbrev resolved_whole : ResolvedParts → Resolved
resolved_whole (name, (within, (addr, (size, (lang, (site, calls)))))) = record { name = name; «module» = within; addr = addr; size = size; lang = lang; site = site; calls = calls }

-- a test of the parts of two table's symbols is one of the symbols
pub resolved_agree : (test : Bool) (a b : Resolved) → (IsTrue test ↔ (resolved_parts a ≡ resolved_parts b)) → IsTrue test ↔ (a ≡ b)
resolved_agree = parts_agree resolved_parts resolved_whole (λ r. refl)
