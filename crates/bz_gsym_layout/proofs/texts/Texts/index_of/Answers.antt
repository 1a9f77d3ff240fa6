use Rattle.std.proofs.Common.{[], ◌∷◌, ◌++◌, ap, arith, sym, ◌∙◌}
use Rattle.std.specs.Str.{bytes_eq}
use Rattle.bz_gsym_layout.specs.Listing.{listed_texts}
use Rattle.bz_gsym_layout.proofs.ListedLemmas.{index_at}
use Rattle.bz_gsym_layout.proofs.ListingLemmas.{text_inserted_at, texts_again, texts_inserted}
use Rattle.bz_gsym_layout.proofs.NumberingLemmas.{text_same}
use Rattle.bz_gsym_layout.proofs.texts.Texts.index_of.Goals as goal

pub returns-in-Some-clause-texts : goal.returns-in-Some-clause-texts
returns-in-Some-clause-texts c used are =
    texts_again used c.args.self.now are c.args.text.now c.in-Some.index.now (sym (are.indexes c.args.text) ∙ sym c.in-Some.ensures.value)

pub returns-in-Some-clause-index : goal.returns-in-Some-clause-index
returns-in-Some-clause-index c used are =
    index_at bytes_eq text_same c.args.text.now (listed_texts c.args.self.now) c.in-Some.index.now (sym (are.indexes c.args.text) ∙ sym c.in-Some.ensures.value)

pub returns-clause-texts : goal.returns-clause-texts
returns-clause-texts c used are =
    texts_inserted used c.args.self.now are c.args.text (record { listed = c.push.new.self; indexes = c.insert.new.self }) c.len-index.result (omega (arith, c.len-index.ensures)) (c.in_ok-push.ensures.items ∙ ap (λ l. l ++ c.args.text ∷ []) c.reserve.ensures.items)
    (sym c.in_default.ensures.value) c.in_ok-insert.ensures.updates.0

pub returns-clause-index : goal.returns-clause-index
returns-clause-index c used are =
    text_inserted_at used c.args.self.now are c.args.text (record { listed = c.push.new.self; indexes = c.insert.new.self }) c.len-index.result (omega (arith, c.len-index.ensures)) (c.in_ok-push.ensures.items ∙ ap (λ l. l ++ c.args.text ∷ []) c.reserve.ensures.items)
