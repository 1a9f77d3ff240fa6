-- What answers where a file has records.
use Rattle.std.proofs.Common.{◌≡◌, ℕ, ◌+◌, ◌<◌, List, [], ◌∷◌, length, take, Option, sym, ap, ◌∙◌, arith}
use Rattle.std.proofs.Math.Seq.{take-length}
use Rattle.bz_base.specs.declared.types.FindSymOpts.{FindSymOpts}
use Rattle.bz_breakpad.specs.Plain.{function_at, by_function, by_records, plain}
use Rattle.bz_breakpad_lines.specs.Table.{Function, PublicSymbol, Table}

-- a table with records, of which a function answers or none does
pub plain-some : (table : Table) (opts : FindSymOpts) (addr : ℕ) (o : Option Function) → 0 < length table.functions + length table.publics →
    o ≡ function_at addr table.functions → plain table opts addr ≡ by_function table opts addr o
plain-some table opts addr o some is = by_list table.functions table.publics some is where
  by_list : (fs : List Function) (ps : List PublicSymbol) → 0 < length fs + length ps → o ≡ function_at addr fs → by_records table opts addr fs ps ≡ by_function table opts addr o
  by_list [] [] some is = absurd (omega arith)
  by_list [] (p ∷ ps) some is = sym (ap (by_function table opts addr) is)
  by_list (f ∷ fs) ps some is = sym (ap (by_function table opts addr) is)

-- a list is what is taken of it where all is
pub all_taken : (n : ℕ) (xs : List ℕ) → n ≡ length xs → take n xs ≡ xs
all_taken n xs whole = ap (λ k. take k xs) whole ∙ take-length xs
