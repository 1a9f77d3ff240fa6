-- What the checks say together.
use Rattle.std.proofs.Common.{◌≡◌, ℕ, Bool, true, false, List, Option, Some, None, cond, refl, sym, subst}
use Rattle.std.specs.Prelude.{◌&&◌, if◌then◌else◌}
use Rattle.bz_base.specs.declared.error.Error.{Error}
use Rattle.bz_base.specs.declared.error.Error.TheVariants.{InvalidData}
use Rattle.bz_cache.specs.Format.{IsRefusalBy}
use Rattle.bz_elf.specs.Checks.{PassesHead, has_names, has_strings, has_symbols}
use Rattle.bz_elf.specs.Format.{format_test}

by_both : (a b : Bool) (later : Option Error) → (a && b) ≡ false → cond a (cond b later (Some InvalidData)) (Some InvalidData) ≡ Some InvalidData
by_both true true later is = absurd (cc is)
by_both true false later is = refl
by_both false b later is = refl

module _ (bytes : List ℕ) (head : PassesHead bytes) where
  -- a file whose symbol table or strings fail is refused by that
  pub refused_tables : (has_symbols bytes && has_strings bytes) ≡ false → format_test bytes ≡ Some InvalidData
  refused_tables fails =
      rw (head.elf, head.supported, head.head, head.program_headers, head.sections) (by_both (has_symbols bytes) (has_strings bytes) (if has_names bytes then None else Some InvalidData) fails)

  module _ (tables : (has_symbols bytes ≡ true) × (has_strings bytes ≡ true)) where
    -- where only the names are left to be checked, they decide
    by_names : format_test bytes ≡ (if has_names bytes then None else Some InvalidData)
    by_names = rw (head.elf, head.supported, head.head, head.program_headers, head.sections, tables.0, tables.1) refl

    pub formed : has_names bytes ≡ true → format_test bytes ≡ None
    formed names = rw (by_names, names) refl

    pub refused_names : (e : Error) → IsRefusalBy (if has_names bytes then None else Some InvalidData) e → IsRefusalBy (format_test bytes) e
    refused_names e is = subst (λ (o : Option Error). IsRefusalBy o e) (sym by_names) is
