use Rattle.std.proofs.Common.{◌≡◌, ◌+◌, ◌++◌, ◌∙◌, flat_map, length, map, ap, refl, sym, arith, rules}
use Rattle.bz_gsym_layout.specs.Indexed.{codes_of}
use Rattle.bz_gsym_layout.specs.Layout.{data_places, head_bytes, word}
use Rattle.bz_gsym_layout.specs.Numbering.{stored}
use Rattle.bz_gsym_layout.specs.Pass.{source_bytes}
use Rattle.bz_gsym_layout.specs.declared.plan.Function.{Function}
use Rattle.bz_gsym_layout.proofs.WholeLemmas.{all_is, data_at, data_at_is, files_within, front, front_is, front_len, listed}
use Rattle.bz_gsym_layout.proofs.layout.front_of.Goals as goal

pub push_files-requires : goal.push_files-requires
push_files-requires c =
    files_within c.args.plan.now c.requires.formed c.args.plan.now.functions.items c.deref-3.result.now refl (c.deref-3.ensures.value ∙ c.requires.texts) c.deref-2.result.now c.deref-2.ensures.value

pub returns : goal.returns
returns c =
    let plan = c.args.plan.now in
    let is = c.requires.formed in
    let at_is : c.args.strings_at + c.args.texts.now.end ≡ data_at plan is = data_at_is plan is _ _ _ c.requires.strings c.requires.end refl in
    let count : c.len.result ≡ length plan.functions.items = omega (arith, c.len.ensures) in
    let sources : c.len-2.result + 1 ≡ length plan.sources.items + 1 = omega (arith, c.len-2.ensures) in
    let starts : c.args.places.now ≡ data_places (listed plan is) (data_at plan is) (codes_of plan) = c.requires.places ∙ ap (λ n. data_places (listed plan is) n (codes_of plan)) at_is in
    let first = c.push_head.new.out.items in
    let second = c.push_starts.new.out.items in
    let third = c.push_places.new.out.items in
    let fourth = c.push_low_word.new.out.items in
    let fifth = c.push_zeros.new.out.items in
    let sixth = c.push_files.new.out.items in
    let seventh = c.push.new.self.items in
    let eighth = c.push_texts.new.out.items in
    let written : eighth ≡ front plan is =
    front_is plan is c.len.result c.args.strings_at c.args.texts.now.end (c.len-2.result + 1) c.args.places.now
    first second third fourth fifth sixth seventh eighth count c.requires.strings c.requires.end sources starts
    (c.in_ok-push_head.ensures.ok ∙ ap (λ l. l ++ head_bytes c.len.result c.args.strings_at c.args.texts.now.end) c.in_ok-front.ensures.items)
    (c.in_ok-push_starts.ensures.ok ∙ ap (λ l. first ++ flat_map (λ (f : Function). word 8 f.start) l) c.deref.ensures.value)
    c.in_ok-push_places.ensures.ok
    c.in_ok-push_low_word.ensures.ok c.in_ok-push_zeros.ensures.ok
    (c.in_ok-push_files.ensures.ok ∙ ap (λ l. fifth ++ flat_map (source_bytes c.deref-3.result.now) l) c.deref-2.ensures.value
    ∙ ap (λ l. fifth ++ flat_map (source_bytes l) plan.sources.items) (c.deref-3.ensures.value ∙ c.requires.texts))
    c.in_ok-push.ensures.items
    (c.in_ok-push_texts.ensures.ok ∙ ap (λ l. seventh ++ flat_map stored (map (λ text. text.now) l)) c.deref-4.ensures.value) in
    record {
      len = front_len plan is eighth written ∙ sym at_is;
      whole = all_is plan is eighth written;
      memory = search rules;
    }
