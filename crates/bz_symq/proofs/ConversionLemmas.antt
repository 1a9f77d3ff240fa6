-- What is replied where a file is converted, and where it is refused.
use Rattle.std.proofs.Common.{◌≡◌, ◌≢◌, ℕ, List, Result, Ok, Err, IfOk, sym, ap, ◌∙◌}
use Rattle.bz_base.specs.declared.error.Error.{Error}
use Rattle.bz_breakpad.specs.Table.{Table}
use Rattle.bz_convert.specs.Converted.{IsConversion, conversion}
use Rattle.bz_convert.specs.declared.error.ConvertError.{ConvertError}
use Rattle.bz_convert.specs.declared.error.ConvertError.TheVariants.{OutOfMemory}
use Rattle.bz_convert.proofs.ConvertedLemmas.{converted}
use Rattle.bz_symq.specs.Outcome.{Outcome, by_product}
use Rattle.bz_symq.specs.Products.{by_conversion}
use Rattle.bz_symq.specs.Reply.{outcome_of}
use Rattle.bz_symq.specs.declared.reply.Reply.{Reply}

-- the outcome of a conversion
abbrev by_converted : Result (List ℕ) ConvertError → Outcome
by_converted result = by_product (by_conversion result)

module _ (table : Table) where
  pub converted_reply : (bytes : List ℕ) (reply : Reply) → IsConversion table bytes → outcome_of reply ≡ by_product (Ok bytes) → outcome_of reply ≡ by_product (by_conversion (conversion table))
  converted_reply bytes reply is replied = replied ∙ ap by_converted (sym (converted table bytes is))

  pub unconverted_reply : (e : ConvertError) (result : Result Reply Error) → (e ≢ OutOfMemory → conversion table ≡ Err e) →
      IfOk result (λ given. (e ≢ OutOfMemory) × (outcome_of given ≡ by_product (by_conversion (Err e)))) →
      IfOk result (λ given. outcome_of given ≡ by_product (by_conversion (conversion table)))
  unconverted_reply e (Ok reply) refuses replied = replied.1 ∙ ap by_converted (sym (refuses replied.0))
  unconverted_reply e (Err error) refuses replied = tt
