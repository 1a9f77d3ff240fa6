use Rattle.bz_symq.proofs.product.reply_of.Goals as goal

-- a conversion is what its table makes
pub returns-in-Converted-clause-reply : goal.returns-in-Converted-clause-reply
returns-in-Converted-clause-reply c = rw c.in-Converted.is c.reply_of_conversion.ensures.reply
