use Rattle.std.proofs.Common.{◌≡◌, ◌<◌, Option, Some, length, ap, subst, sym, ◌∙◌}
use Rattle.std.specs.List.{slice_get}
use Rattle.std.specs.Map.{keys_of}
use Rattle.bz_breakpad_lines.specs.Reader.{table_in}
use Rattle.bz_breakpad_lines.specs.Table.{Table}
use Rattle.bz_breakpad.specs.Listed.{origins_of}
use Rattle.bz_breakpad.proofs.FileOrderLemmas.{id_kept, ids_within}
use Rattle.bz_breakpad.proofs.file.SymbolFile.origin_id.Goals as goal

pub id_at-requires : goal.id_at-requires
id_at-requires c =
    let kept = c.self.invariant in
    let read : table_in c.args.self.now ≡ Some kept.table = ap table_in (sym c.self.view_is) ∙ kept.read in
    ids_within c.self.inside.bytes.items c.self.inside.table.origins kept.table.origins kept.stands.origins c.args.index
    (subst (λ (o : Option Table). c.args.index < length (origins_of o)) read c.requires)

pub returns : goal.returns
returns c =
    let kept = c.self.invariant in
    let read : table_in c.args.self.now ≡ Some kept.table = ap table_in (sym c.self.view_is) ∙ kept.read in
    ap (λ (o : Option Table). slice_get (keys_of (origins_of o)) c.args.index) read
    ∙ id_kept c.self.inside.bytes.items c.self.inside.table.origins kept.table.origins kept.stands.origins c.args.index c.id_at.result c.id_at.ensures
