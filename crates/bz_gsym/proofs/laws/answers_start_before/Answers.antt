use Rattle.std.proofs.Common.{◌≡◌, ℕ, ◌+◌, ◌-◌, ◌≤◌, Bool, true, false, nat_lt, List, Option, Some, None, option_map, Ok, refl, sym, subst, arith}
use Rattle.std.proofs.lemmas.Bool.Decides.{nat_tests}
use Rattle.bz_base.specs.Answer.{Resolved}
use Rattle.bz_base.specs.declared.types.FindSymOpts.{FindSymOpts}
use Rattle.bz_base.proofs.NearestLemmas.{candidate_is}
use Rattle.bz_gsym.specs.Entries.{Info, info_at}
use Rattle.bz_gsym.specs.Header.{header_of}
use Rattle.bz_gsym.specs.Joining.{Location}
use Rattle.bz_gsym.specs.Plain.{answer_of, based, nearest_start, nearest_symbol, location_of, reaches, symbol_at, symbols, tried}
use Rattle.bz_gsym.proofs.laws.answers_start_before.Goals as goal

-- a symbol with its location starts where it was said to
location_start : (start size : ℕ) (location : Option Location) (r : Resolved) → symbol_at start size location ≡ Ok (Ok r) → r.addr ≡ start
location_start start size None r is = cc
location_start start size (Some location) r is = cc

reached_start : (bytes : List ℕ) (opts : FindSymOpts) (addr start : ℕ) (info : Info) (b : Bool) → reaches start info.size addr ≡ b → (r : Resolved) →
    answer_of bytes opts addr start (Some info) ≡ Ok (Ok r) → r.addr ≡ start
reached_start bytes opts addr start info true is r given = location_start start info.size (location_of bytes opts addr start info) r (rw is at given)
reached_start bytes opts addr start info false is r given = let none = rw is at given in cc

told_start : (bytes : List ℕ) (opts : FindSymOpts) (addr start : ℕ) (info : Option Info) (r : Resolved) → answer_of bytes opts addr start info ≡ Ok (Ok r) → r.addr ≡ start
told_start bytes opts addr start None r is = cc
told_start bytes opts addr start (Some info) r is = reached_start bytes opts addr start info (reaches start info.size addr) refl r is

-- the symbol that is to be tried doesn't start above the address
nearest_below : (bytes : List ℕ) (base addr : ℕ) → base ≤ addr → (found : Option (ℕ × ℕ)) → nearest_start bytes (addr - base) ≡ found → (symbol : ℕ × ℕ) →
    option_map (based base) found ≡ Some symbol → symbol.0 ≤ addr
nearest_below bytes base addr from None is symbol same = cc
nearest_below bytes base addr from (Some near) is symbol same =
    let tried = candidate_is (λ (s : ℕ × ℕ). s.0) (λ s. 0) (addr - base) (symbols bytes) near is in
    let below : near.0 ≤ addr - base = tried.1.not_above in
    let start : base + near.0 ≡ symbol.0 = cc in
    omega (arith, below, start, from)

by_base : (bytes : List ℕ) (addr : ℕ) (b : Bool) → nat_lt addr (header_of bytes).base_address ≡ b → (symbol : ℕ × ℕ) → nearest_symbol bytes addr ≡ Some symbol → symbol.0 ≤ addr
by_base bytes addr true is symbol same = let none = rw is at same in cc
by_base bytes addr false is symbol same =
    let from : (header_of bytes).base_address ≤ addr = grind (arith, nat_tests) in
    nearest_below bytes (header_of bytes).base_address addr from (nearest_start bytes (addr - (header_of bytes).base_address)) refl symbol (rw is at same)

by_nearest : (bytes : List ℕ) (opts : FindSymOpts) (addr : ℕ) (found : Option (ℕ × ℕ)) → nearest_symbol bytes addr ≡ found → (r : Resolved) → tried bytes opts addr found ≡ Ok (Ok r) → r.addr ≤ addr
by_nearest bytes opts addr None is r given = cc
by_nearest bytes opts addr (Some symbol) is r given =
    let start = told_start bytes opts addr symbol.0 (info_at bytes symbol.1) r given in
    subst (λ (n : ℕ). n ≤ addr) (sym start) (by_base bytes addr (nat_lt addr (header_of bytes).base_address) refl symbol is)

pub returns : goal.returns
returns c = λ bytes opts addr r is. by_nearest bytes opts addr (nearest_symbol bytes addr) refl r is
