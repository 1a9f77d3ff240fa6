use Rattle.std.proofs.Common.{[], ◌∷◌, ◌++◌, refl}
use Rattle.bz_convert.specs.declared.conversion.numbering.Numbering.{Numbering}
use Rattle.bz_convert.proofs.NumberingLemmas.{no_source_more, text_on}
use Rattle.bz_gsym_layout.proofs.ListingLemmas.{if_ok}
use Rattle.bz_gsym_layout.proofs.PassTurns.{on_ok}
use Rattle.bz_convert.proofs.conversion.numbering.Numbering.text.Goals as goal

pub returns-clause-numbering : goal.returns-clause-numbering
returns-clause-numbering c =
    let n = c.args.self.now in
    on_ok c.index_of.result _ _
    (λ are table texts sources is.
    let new : Numbering = record { texts = c.index_of.new.self; sources = n.sources; files = n.files; origins = n.origins } in
    no_source_more table (texts ++ c.args.text.now ∷ []) sources new (text_on table texts sources n is c.args.text.now new refl refl refl (are texts is.numbered.texts)))
    c.index_of.ensures.texts

pub returns-clause-index : goal.returns-clause-index
returns-clause-index c = if_ok c.index_of.result _ _ (λ index found table has. found has.0 has.2.numbered.texts) c.index_of.ensures.index
