use Rattle.bz_convert.proofs.ConvertedLemmas.{refused}
use Rattle.bz_symq.proofs.ConversionLemmas.{converted_reply, unconverted_reply}
use Rattle.bz_symq.proofs.product.reply_of_conversion.Goals as goal

-- the file was converted
pub returns-in-Ok-clause-reply : goal.returns-in-Ok-clause-reply
returns-in-Ok-clause-reply c table read = converted_reply table _ c.made_reply.result (c.in-Ok.ensures.ok table read) c.made_reply.ensures

-- it was refused
pub returns-in-Err-clause-reply : goal.returns-in-Err-clause-reply
returns-in-Err-clause-reply c table read =
    unconverted_reply table c.in-Err.error c.unconverted.result (λ other. refused table c.in-Err.error other (c.in-Err.ensures.refusal table read)) c.unconverted.ensures.reply
