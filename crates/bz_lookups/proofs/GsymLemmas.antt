-- What bytes that are handed in answer.
use Rattle.std.proofs.Common.{◌≡◌, ℕ, true, List, Err, refl, sym, subst}
use Rattle.bz_base.specs.Answer.{Gives}
use Rattle.bz_base.specs.declared.error.Error.{Error}
use Rattle.bz_base.specs.declared.error.Error.TheVariants as errors
use Rattle.bz_base.specs.declared.types.FindSymOpts.{FindSymOpts}
use Rattle.bz_cache.specs.FileCall.{Query}
use Rattle.bz_gsym.specs.Tables.{IsGsym}
use Rattle.bz_gsym.proofs.FormatLemmas.{in_format, not_in_format}
use Rattle.bz_lookups.specs.Formats.{gsym_handed, gsym_single, handed_answer, is_in_table}

module _ {B : Type 0} (bytes : List ℕ) (opts : FindSymOpts) (query : Query B) (taken : is_in_table query.kind ≡ true) where
  -- bytes in the format answer at each address
  pub handed_given : IsGsym bytes → handed_answer (gsym_handed bytes) opts query ≡ query.given (gsym_single opts bytes)
  handed_given formed = rw (taken, in_format bytes formed, taken) refl

  -- others are refused
  pub handed_refused : (IsGsym bytes → ⊥) → handed_answer (gsym_handed bytes) opts query ≡ Err errors.InvalidData
  handed_refused isnt = rw (taken, not_in_format bytes isnt) refl

  -- a call on bytes that aren't in the format
  pub gives_refused : {A : Type 0} (reading : A → B) (e : Error) → e ≡ errors.InvalidData → (IsGsym bytes → ⊥) →
      Gives reading (handed_answer (gsym_handed bytes) opts query) (Err e)
  gives_refused reading e is isnt = subst (λ (x : Error). Gives reading (handed_answer (gsym_handed bytes) opts query) (Err x)) (sym is) (handed_refused isnt)
