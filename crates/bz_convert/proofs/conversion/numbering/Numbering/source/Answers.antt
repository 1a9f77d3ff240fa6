use Rattle.std.proofs.Common.{[], ◌∷◌, ◌++◌, refl}
use Rattle.bz_convert.specs.Ids.{lent_source}
use Rattle.bz_convert.proofs.NumberingLemmas.{both_numbered, numbered_on, source_at}
use Rattle.bz_gsym_layout.proofs.ListingLemmas.{if_ok}
use Rattle.bz_gsym_layout.proofs.PassTurns.{on_ok}
use Rattle.bz_convert.proofs.conversion.numbering.Numbering.source.Goals as goal

pub returns-clause-numbering : goal.returns-clause-numbering
returns-clause-numbering c =
    let n = c.args.self.now in
    let s = lent_source c.args.source in
    on_ok c.index_of-3.result _ _
    (λ listed table texts sources is.
    let one = c.in_ok-dir.ensures.texts texts is.numbered.texts in
    numbered_on table texts sources n is (s.dir ∷ s.file ∷ []) (s ∷ []) (record { texts = c.index_of-2.new.self; sources = c.index_of-3.new.self; files = n.files; origins = n.origins }) refl refl
    (both_numbered texts sources n is.numbered s c.dir_text.result.now c.dir_text.ensures c.index_of.new.self c.index_of-2.new.self one
    (c.in_ok-name.ensures.texts (texts ++ c.dir_text.result.now ∷ []) one) (record { dir = c.in_ok-dir.dir; name = c.in_ok-name.name }) (c.in_ok-dir.ensures.index texts is.numbered.texts)
    (c.in_ok-name.ensures.index (texts ++ c.dir_text.result.now ∷ []) one) c.index_of-3.new.self (listed is.numbered.files) (c.index_of-3.ensures.files is.numbered.files)))
    c.index_of-3.ensures.listed

pub returns-clause-index : goal.returns-clause-index
returns-clause-index c =
    if_ok c.index_of-3.result _ _
    (λ index found table has.
    let texts = has.0 in
    let sources = has.1 in
    let is = has.2 in
    let one = c.in_ok-dir.ensures.texts texts is.numbered.texts in
    source_at texts sources c.args.self.now is.numbered (lent_source c.args.source) c.dir_text.result.now c.dir_text.ensures c.index_of.new.self c.index_of-2.new.self one
    (c.in_ok-name.ensures.texts (texts ++ c.dir_text.result.now ∷ []) one) (record { dir = c.in_ok-dir.dir; name = c.in_ok-name.name }) (c.in_ok-dir.ensures.index texts is.numbered.texts)
    (c.in_ok-name.ensures.index (texts ++ c.dir_text.result.now ∷ []) one) c.index_of-3.new.self index (found is.numbered.files))
    c.index_of-3.ensures.index
