use Rattle.std.proofs.Common.{[], ◌∷◌, ◌++◌, ap, arith, sym, ◌∙◌}
use Rattle.bz_gsym_layout.specs.Listing.{same_file}
use Rattle.bz_gsym_layout.proofs.ListedLemmas.{index_at, one_known}
use Rattle.bz_gsym_layout.proofs.ListingLemmas.{file_inserted_at, file_listed, files_inserted, files_same}
use Rattle.bz_gsym_layout.proofs.sources.Sources.index_of.Goals as goal

pub returns-in-Some-clause-listed : goal.returns-in-Some-clause-listed
returns-in-Some-clause-listed c has =
    sym (one_known same_file c.args.self.now.listed.items c.args.file c.in-Some.index.now (sym (has (c.args.file.dir, c.args.file.name)) ∙ sym c.in-Some.ensures.value))

pub returns-in-Some-clause-index : goal.returns-in-Some-clause-index
returns-in-Some-clause-index c has =
    index_at same_file files_same c.args.file c.args.self.now.listed.items c.in-Some.index.now (sym (has (c.args.file.dir, c.args.file.name)) ∙ sym c.in-Some.ensures.value)

pub returns-clause-listed : goal.returns-clause-listed
returns-clause-listed c has =
    file_listed c.args.self.now has c.args.file (record { listed = c.push.new.self; indexes = c.insert.new.self }) c.len-index.result (omega (arith, c.len-index.ensures)) (c.in_ok-push.ensures.items ∙ ap (λ l. l ++ c.args.file ∷ []) c.reserve.ensures.items)
    (sym c.in_default.ensures.value)

pub returns-clause-files : goal.returns-clause-files
returns-clause-files c has =
    files_inserted c.args.self.now has c.args.file (record { listed = c.push.new.self; indexes = c.insert.new.self }) c.len-index.result (omega (arith, c.len-index.ensures)) (c.in_ok-push.ensures.items ∙ ap (λ l. l ++ c.args.file ∷ []) c.reserve.ensures.items)
    (sym c.in_default.ensures.value) c.in_ok-insert.ensures.updates.0

pub returns-clause-index : goal.returns-clause-index
returns-clause-index c has =
    file_inserted_at c.args.self.now has c.args.file (record { listed = c.push.new.self; indexes = c.insert.new.self }) c.len-index.result (omega (arith, c.len-index.ensures)) (c.in_ok-push.ensures.items ∙ ap (λ l. l ++ c.args.file ∷ []) c.reserve.ensures.items)
