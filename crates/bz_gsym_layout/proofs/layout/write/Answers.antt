use Rattle.std.proofs.Common.{◌≡◌, ◌+◌, ◌++◌, ◌∙◌, drop, flat_map, length, map, ap, sym, arith}
use Rattle.std.proofs.lemmas.List.{length-append}
use Rattle.bz_gsym_layout.specs.Indexed.{codes_of, tables_listed, texts_listed}
use Rattle.bz_gsym_layout.specs.Layout.{data_bytes, data_places, layout}
use Rattle.bz_gsym_layout.specs.Numbering.{stored}
use Rattle.bz_gsym_layout.specs.Places.{text_places}
use Rattle.bz_gsym_layout.proofs.WholeLemmas.{data_at, data_at_is, data_is, end_is, filled_is, places_are, strings_at, strings_at_is, within}
use Rattle.bz_gsym_layout.proofs.layout.write.Goals as goal

pub push_data-requires : goal.push_data-requires
push_data-requires c =
    let plan = c.args.plan.now in
    let found : c.in_ok-texts.texts.places.items ≡ text_places 1 (texts_listed plan) = c.in_ok-texts.ensures.places ∙ ap (λ l. text_places 1 (map (λ text. text.now) l)) c.deref.ensures.value in
    (length plan.sources.items, within plan c.requires c.deref-3.result.now c.deref-4.result.now c.deref-3.ensures.value (c.deref-4.ensures.value ∙ found))

pub returns-then-len-clause-refusal : goal.returns-then-len-clause-refusal
returns-then-len-clause-refusal c =
    let plan = c.args.plan.now in
    let found : c.in_ok-texts.texts.places.items ≡ text_places 1 (texts_listed plan) = c.in_ok-texts.ensures.places ∙ ap (λ l. text_places 1 (map (λ text. text.now) l)) c.deref.ensures.value in
    let text_end : c.in_ok-texts.texts.end ≡ 1 + length (flat_map stored (texts_listed plan)) =
    c.in_ok-texts.ensures.end ∙ ap (λ l. 1 + length (flat_map stored (map (λ text. text.now) l))) c.deref.ensures.value in
    let strings_is : c.in_ok-strings_at.strings_at ≡ strings_at plan c.requires =
    strings_at_is plan c.requires _ (omega (arith, c.in_ok-strings_at.ensures.place, c.len.ensures, c.len-2.ensures)) in
    let at_is : c.in_ok-data_at.data_at ≡ data_at plan c.requires = data_at_is plan c.requires _ _ _ strings_is text_end c.in_ok-data_at.ensures.sum in
    let many : length c.resize.new.self.items ≡ data_at plan c.requires = omega (arith, c.in_ok-resize.ensures.len, c.resize.new.self.ok.0, c.resize.new.self.ok.1, at_is) in
    let same_places : c.deref-4.result.now ≡ text_places 1 (texts_listed plan) = c.deref-4.ensures.value ∙ found in
    let all : length (layout (codes_of plan)) ≡ length c.push_data.new.out.items =
    end_is plan c.requires c.deref-3.result.now c.deref-4.result.now c.deref-3.ensures.value same_places c.resize.new.self.items c.push_data.new.out.items many c.in_ok-places.ensures.ok in
    (omega (arith, all, c.len-then-len.ensures), omega (arith, all, c.if-len.true, c.len-3.ensures))

pub front_of-requires-clause-places : goal.front_of-requires-clause-places
front_of-requires-clause-places c =
    let plan = c.args.plan.now in
    let found : c.in_ok-texts.texts.places.items ≡ text_places 1 (texts_listed plan) = c.in_ok-texts.ensures.places ∙ ap (λ l. text_places 1 (map (λ text. text.now) l)) c.deref.ensures.value in
    let text_end : c.in_ok-texts.texts.end ≡ 1 + length (flat_map stored (texts_listed plan)) =
    c.in_ok-texts.ensures.end ∙ ap (λ l. 1 + length (flat_map stored (map (λ text. text.now) l))) c.deref.ensures.value in
    let strings_is : c.in_ok-strings_at.strings_at ≡ strings_at plan c.requires =
    strings_at_is plan c.requires _ (omega (arith, c.in_ok-strings_at.ensures.place, c.len.ensures, c.len-2.ensures)) in
    let at_is : c.in_ok-data_at.data_at ≡ data_at plan c.requires = data_at_is plan c.requires _ _ _ strings_is text_end c.in_ok-data_at.ensures.sum in
    let many : length c.resize.new.self.items ≡ data_at plan c.requires = omega (arith, c.in_ok-resize.ensures.len, c.resize.new.self.ok.0, c.resize.new.self.ok.1, at_is) in
    let same_places : c.deref-4.result.now ≡ text_places 1 (texts_listed plan) = c.deref-4.ensures.value ∙ found in
    let starts : c.in_ok-places.places.items ≡ data_places (tables_listed plan) (data_at plan c.requires) (codes_of plan) =
    places_are plan c.requires c.deref-3.result.now c.deref-4.result.now c.deref-3.ensures.value same_places (length c.resize.new.self.items) _ many c.in_ok-places.ensures.places in
    c.deref-5.ensures.value ∙ starts ∙ ap (λ n. data_places (tables_listed plan) n (codes_of plan)) (sym at_is ∙ c.in_ok-data_at.ensures.sum)

pub put_front-requires : goal.put_front-requires
put_front-requires c =
    let plan = c.args.plan.now in
    let found : c.in_ok-texts.texts.places.items ≡ text_places 1 (texts_listed plan) = c.in_ok-texts.ensures.places ∙ ap (λ l. text_places 1 (map (λ text. text.now) l)) c.deref.ensures.value in
    let text_end : c.in_ok-texts.texts.end ≡ 1 + length (flat_map stored (texts_listed plan)) =
    c.in_ok-texts.ensures.end ∙ ap (λ l. 1 + length (flat_map stored (map (λ text. text.now) l))) c.deref.ensures.value in
    let strings_is : c.in_ok-strings_at.strings_at ≡ strings_at plan c.requires =
    strings_at_is plan c.requires _ (omega (arith, c.in_ok-strings_at.ensures.place, c.len.ensures, c.len-2.ensures)) in
    let at_is : c.in_ok-data_at.data_at ≡ data_at plan c.requires = data_at_is plan c.requires _ _ _ strings_is text_end c.in_ok-data_at.ensures.sum in
    let many : length c.resize.new.self.items ≡ data_at plan c.requires = omega (arith, c.in_ok-resize.ensures.len, c.resize.new.self.ok.0, c.resize.new.self.ok.1, at_is) in
    let same_places : c.deref-4.result.now ≡ text_places 1 (texts_listed plan) = c.deref-4.ensures.value ∙ found in
    let wrote = data_is plan c.requires c.deref-3.result.now c.deref-4.result.now c.deref-3.ensures.value same_places c.resize.new.self.items c.push_data.new.out.items c.in_ok-places.ensures.ok in
    let front : length c.in_ok-front.front.items ≡ data_at plan c.requires = omega (arith, c.in_ok-front.ensures.len, c.in_ok-data_at.ensures.sum, at_is) in
    omega (arith, front, ap length c.deref-6.ensures.value, ap length wrote, many, length-append c.resize.new.self.items (data_bytes (tables_listed plan) (length c.resize.new.self.items) (codes_of plan)))

pub returns-clause-ok : goal.returns-clause-ok
returns-clause-ok c =
    let plan = c.args.plan.now in
    let found : c.in_ok-texts.texts.places.items ≡ text_places 1 (texts_listed plan) = c.in_ok-texts.ensures.places ∙ ap (λ l. text_places 1 (map (λ text. text.now) l)) c.deref.ensures.value in
    let text_end : c.in_ok-texts.texts.end ≡ 1 + length (flat_map stored (texts_listed plan)) =
    c.in_ok-texts.ensures.end ∙ ap (λ l. 1 + length (flat_map stored (map (λ text. text.now) l))) c.deref.ensures.value in
    let strings_is : c.in_ok-strings_at.strings_at ≡ strings_at plan c.requires =
    strings_at_is plan c.requires _ (omega (arith, c.in_ok-strings_at.ensures.place, c.len.ensures, c.len-2.ensures)) in
    let at_is : c.in_ok-data_at.data_at ≡ data_at plan c.requires = data_at_is plan c.requires _ _ _ strings_is text_end c.in_ok-data_at.ensures.sum in
    let many : length c.resize.new.self.items ≡ data_at plan c.requires = omega (arith, c.in_ok-resize.ensures.len, c.resize.new.self.ok.0, c.resize.new.self.ok.1, at_is) in
    let same_places : c.deref-4.result.now ≡ text_places 1 (texts_listed plan) = c.deref-4.ensures.value ∙ found in
    let wrote = data_is plan c.requires c.deref-3.result.now c.deref-4.result.now c.deref-3.ensures.value same_places c.resize.new.self.items c.push_data.new.out.items c.in_ok-places.ensures.ok in
    let front : length c.in_ok-front.front.items ≡ length c.resize.new.self.items = omega (arith, c.in_ok-front.ensures.len, c.in_ok-data_at.ensures.sum, at_is, many) in
    let all : c.put_front.new.out.items ≡ layout (codes_of plan) =
    filled_is plan c.requires c.resize.new.self.items c.in_ok-front.front.items c.push_data.new.out.items c.put_front.new.out.items many front wrote c.in_ok-front.ensures.whole
    (c.put_front.ensures ∙ ap (λ l. l ++ drop (length l) c.push_data.new.out.items) c.deref-6.ensures.value) in
    let whole : length (layout (codes_of plan)) ≡ length c.push_data.new.out.items =
    end_is plan c.requires c.deref-3.result.now c.deref-4.result.now c.deref-3.ensures.value same_places c.resize.new.self.items c.push_data.new.out.items many c.in_ok-places.ensures.ok in
    (all, omega (arith, ap length all, whole, c.if-len.false, c.len-3.ensures))
