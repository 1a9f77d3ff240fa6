use Rattle.bz_symq.specs.Command.{product_of}
use Rattle.bz_symq.proofs.CauseLemmas.{product_unmade, unopened_unmade}
use Rattle.bz_symq.proofs.ProductLemmas.{looked_on, product_answered, replies_opened, replies_unopened}
use Rattle.bz_symq.proofs.product.reply_with_product.Goals as goal

-- the file was opened, and the reply is what its table makes
pub returns-in-Ok-clause-reply : goal.returns-in-Ok-clause-reply
returns-in-Ok-clause-reply g c world told =
    let file = c.in-Ok.ensures.accepted in
    let opened = rw c.path_of.ensures at (c.in-Ok.ensures.answer world told) in
    replies_opened (product_of c.args.product.now) _ c.in-Ok.file file.0 c.reply_of.result opened file.1 (c.reply_of.ensures.reply file.0 file.1) c.reply_of.ensures.memory

pub returns-in-Ok-clause-answered : goal.returns-in-Ok-clause-answered
returns-in-Ok-clause-answered g c =
    let file = c.in-Ok.ensures.accepted in
    product_answered (product_of c.args.product.now) c.in-Ok.file file.0 c.reply_of.result file.2 (c.reply_of.ensures.reply file.0 file.1)

pub returns-in-Ok-clause-refusal : goal.returns-in-Ok-clause-refusal
returns-in-Ok-clause-refusal g c =
    let file = c.in-Ok.ensures.accepted in
    product_unmade (product_of c.args.product.now) c.in-Ok.file file.0 c.reply_of.result file.2 (c.reply_of.ensures.reply file.0 file.1)

pub returns-in-Ok-clause-files : goal.returns-in-Ok-clause-files
returns-in-Ok-clause-files g c = looked_on g.F.Files _ _ c.in-Ok.file c.reply_of.result c.in-Ok.ensures.files c.reply_of.ensures.memory

-- it wasn't, and the reply is its refusal
pub returns-in-Err-clause-reply : goal.returns-in-Err-clause-reply
returns-in-Err-clause-reply g c world told =
    let opened = rw c.path_of.ensures at (c.in-Err.ensures.answer world told) in
    replies_unopened (product_of c.args.product.now) _ c.in-Err.error c.refusal.result opened c.refusal.ensures.reply

pub returns-in-Err-clause-refusal : goal.returns-in-Err-clause-refusal
returns-in-Err-clause-refusal g c =
    let cause = rw c.path_of.ensures at c.in-Err.ensures.refusal in
    unopened_unmade (product_of c.args.product.now) c.in-Err.error c.refusal.result cause c.refusal.ensures.reply
