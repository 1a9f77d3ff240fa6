use Rattle.std.proofs.Common.{ℕ, List, Some, [], ◌∷◌, ◌++◌, ap, refl, subst, sym, ◌∙◌}
use Rattle.std.specs.List.{slice_get}
use Rattle.std.specs.Vec.{with_items}
use Rattle.bz_convert.specs.Numbered.{IsNumbering, IsRemembered}
use Rattle.bz_gsym_layout.specs.Listing.{listed_texts}
use Rattle.bz_convert.specs.Plan.{origin_named}
use Rattle.bz_convert.specs.declared.conversion.numbering.Numbering.{Numbering}
use Rattle.bz_convert.proofs.NumberingLemmas.{no_source_more, origin_again, origin_known, remembers_all}
use Rattle.bz_convert.proofs.conversion.numbering.Numbering.origin_text.Goals as goal

pub returns-in-Some-clause-numbering : goal.returns-in-Some-clause-numbering
returns-in-Some-clause-numbering c table read texts sources is =
    no_source_more table (texts ++ origin_named table c.args.id ∷ []) sources c.args.self.now
    (origin_again table texts sources c.args.self.now is c.args.id c.in-Some.index (ap (λ l. slice_get l c.args.id) (sym c.deref.ensures.value) ∙ c.in-Some.ensures))

pub returns-clause-numbering : goal.returns-clause-numbering
returns-clause-numbering c table read texts sources is =
    let id = c.args.id in
    let index = c.in_ok-index.index in
    let n = c.text.new.self in
    let new : Numbering = record { texts = n.texts; sources = n.sources; files = n.files; origins = with_items n.origins c.remember.new.known } in
    let named = c.name_of.ensures table read in
    origin_known table (texts ++ origin_named table id ∷ []) (sources ++ []) n new
    (subst (λ (t : List ℕ). IsNumbering table (texts ++ t ∷ []) (sources ++ []) n) named (c.in_ok-listed.ensures.numbering table texts sources is)) id index refl refl refl
    (remembers_all n.origins.items c.remember.new.known n.origins.len id index (subst (λ l. IsRemembered l c.remember.new.known id index) c.deref_mut.ensures.value c.remember.ensures))
    (ap (slice_get (listed_texts n.texts)) c.in_ok-index.ensures ∙ c.in_ok-listed.ensures.index table (texts, sources, is) ∙ ap Some named)

pub returns-clause-index : goal.returns-clause-index
returns-clause-index c table read has =
    ap (slice_get (listed_texts c.text.new.self.texts)) c.in_ok-index.ensures ∙ c.in_ok-listed.ensures.index table has ∙ ap Some (c.name_of.ensures table read)
