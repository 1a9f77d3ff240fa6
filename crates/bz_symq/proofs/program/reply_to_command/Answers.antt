use Rattle.std.proofs.Common.{refl}
use Rattle.bz_symq.specs.Command.{Make, product_of}
use Rattle.bz_symq.proofs.ReplyLemmas.{reply_from_product, turns_from_product}
use Rattle.bz_symq.proofs.program.reply_to_command.Goals as goal

-- a product is asked for
pub returns-in-Make-clause-reply : goal.returns-in-Make-clause-reply
returns-in-Make-clause-reply g c =
    let product = product_of c.in-Make.product in
    let made = c.reply_with_product.ensures in
    rw c.in-Make.is (reply_from_product (Make product) product refl _ _ _ c.reply_with_product.result made.reply made.answered made.refusal made.status)

pub returns-in-Make-clause-turns : goal.returns-in-Make-clause-turns
returns-in-Make-clause-turns g c =
    let product = product_of c.in-Make.product in
    rw c.in-Make.is (turns_from_product (Make product) product refl g.R.TextIn g.F.Files c.reply_with_product.result _ _ _)
