use Rattle.std.proofs.Common.{[], ◌∷◌, ◌++◌, refl}
use Rattle.bz_breakpad.specs.Lent.{inlinee_seen}
use Rattle.bz_gsym_layout.specs.Listing.{listed_texts}
use Rattle.bz_convert.specs.Plan.{origin_named, source_named}
use Rattle.bz_gsym_layout.specs.Numbering.{source_texts}
use Rattle.bz_gsym_layout.proofs.ListedLemmas.{grown_at}
use Rattle.bz_convert.proofs.NumberingLemmas.{call_numbered, listed_grow, texts_alone}
use Rattle.bz_convert.proofs.conversion.calls.node_of.Goals as goal

pub returns-clause-numbering : goal.returns-clause-numbering
returns-clause-numbering c table read texts sources is =
    let i = inlinee_seen c.args.call.now in
    let name = origin_named table i.origin in
    let named = texts_alone table (name ∷ []) c.args.numbering.now c.origin_text.new.self (c.in_ok-name.ensures.numbering table read) texts sources is in
    call_numbered table texts sources c.file_source.new.self name (source_named table i.call_file) (c.in_ok-source.ensures.numbering table read (texts ++ name ∷ []) sources named)

pub returns-clause-node : goal.returns-clause-node
returns-clause-node c table read has =
    let texts = has.0 in
    let sources = has.1 in
    let i = inlinee_seen c.args.call.now in
    let name = origin_named table i.origin in
    let s = source_named table i.call_file in
    let before = texts ++ name ∷ [] in
    let named = texts_alone table (name ∷ []) c.args.numbering.now c.origin_text.new.self (c.in_ok-name.ensures.numbering table read) texts sources has.2 in
    let both = c.in_ok-source.ensures.numbering table read before sources named in
    let grows = listed_grow before sources c.origin_text.new.self named.numbered (source_texts s) (s ∷ []) c.file_source.new.self both.numbered in
    record {
      depth = refl;
      start = refl;
      size = refl;
      name = grown_at (listed_texts c.origin_text.new.self.texts) (listed_texts c.file_source.new.self.texts) grows c.in_ok-name.name name (c.in_ok-name.ensures.index table read has);
      source = c.in_ok-source.ensures.index table read (before, sources, named);
      line = refl;
    }
