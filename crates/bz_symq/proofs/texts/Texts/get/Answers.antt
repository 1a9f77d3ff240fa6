use Rattle.std.proofs.Common.{◌≡◌, ◌+◌, ◌<◌, ◌∙◌, length, slice_index_or, string_bytes, None, subst, sym, rules}
use Rattle.std.proofs.lemmas.Option.{get_or_from_slice_get, slice_get-get_or}
use Rattle.bz_symq.specs.Texts.{IsTextIn}
use Rattle.bz_symq.proofs.TextsLemmas.{text_got}
use Rattle.bz_symq.proofs.texts.Texts.get.Goals as goal

-- the part at the place tells the text of the answer at the index
pub returns-in-Some : goal.returns-in-Some
returns-in-Some c batch are =
    let parts = c.args.self.now.parts.items in
    let place = c.in_ok-place.place in
    let within : place < length parts = search rules in
    let read : slice_index_or parts place None ≡ c.index.result.now =
    get_or_from_slice_get parts place _ None (slice_get-get_or parts place c.index.result.now within) ∙ sym c.index.ensures in
    let told = are place c.in-Some.part (read ∙ c.in-Some.is) in
    let at : c.args.self.now.first + place ≡ c.args.index = search rules in
    text_got batch c.args.index (string_bytes c.args.self.now.text) c.in-Some.part c.get.result (subst (λ i. IsTextIn batch i (string_bytes c.args.self.now.text) c.in-Some.part) at told) (rw c.as_str.ensures.value at c.get.ensures.cases)
