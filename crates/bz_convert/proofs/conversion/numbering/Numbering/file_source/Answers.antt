use Rattle.std.proofs.Common.{Some, [], ◌∷◌, ◌++◌, ap, refl, subst, sym, ◌∙◌}
use Rattle.std.specs.List.{slice_get}
use Rattle.std.specs.Vec.{with_items}
use Rattle.bz_convert.specs.Numbered.{IsNumbering, IsRemembered, listed_sources}
use Rattle.bz_convert.specs.Plan.{source_named}
use Rattle.bz_convert.specs.declared.conversion.numbering.Numbering.{Numbering}
use Rattle.bz_convert.proofs.NumberingLemmas.{file_again, file_known, remembers_all}
use Rattle.bz_gsym_layout.specs.Plan.{Source}
use Rattle.bz_convert.proofs.conversion.numbering.Numbering.file_source.Goals as goal

pub returns-in-Some-clause-numbering : goal.returns-in-Some-clause-numbering
returns-in-Some-clause-numbering c table read texts sources is =
    file_again table texts sources c.args.self.now is c.args.id c.in-Some.index (ap (λ l. slice_get l c.args.id) (sym c.deref.ensures.value) ∙ c.in-Some.ensures)

pub returns-clause-numbering : goal.returns-clause-numbering
returns-clause-numbering c table read texts sources is =
    let id = c.args.id in
    let index = c.in_ok-index.index in
    let n = c.source.new.self in
    let s = source_named table id in
    let new : Numbering = record { texts = n.texts; sources = n.sources; files = with_items n.files c.remember.new.known; origins = n.origins } in
    let named = c.source_of.ensures table read in
    file_known table (texts ++ s.dir ∷ s.file ∷ []) (sources ++ s ∷ []) n new
    (subst (λ (r : Source). IsNumbering table (texts ++ r.dir ∷ r.file ∷ []) (sources ++ r ∷ []) n) named (c.in_ok-listed.ensures.numbering table texts sources is)) id index refl refl refl
    (remembers_all n.files.items c.remember.new.known n.files.len id index (subst (λ l. IsRemembered l c.remember.new.known id index) c.deref_mut.ensures.value c.remember.ensures))
    (ap (slice_get (listed_sources n)) c.in_ok-index.ensures ∙ c.in_ok-listed.ensures.index table (texts, sources, is) ∙ ap Some named)

pub returns-clause-index : goal.returns-clause-index
returns-clause-index c table read has =
    ap (slice_get (listed_sources c.source.new.self)) c.in_ok-index.ensures ∙ c.in_ok-listed.ensures.index table has ∙ ap Some (c.source_of.ensures table read)
