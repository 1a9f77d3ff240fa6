use Rattle.std.proofs.Common.{List, Ok, Err, sym, ap, ◌∙◌}
use Rattle.std.proofs.lemmas.Result.{err_from_is_err_and}
use Rattle.bz_base.specs.declared.error.Error.TheVariants as errors
use Rattle.bz_proc.specs.Maps.{Mapping}
use Rattle.bz_proc.specs.MapsFile.{maps_path, maps_told}
use Rattle.bz_process.proofs.MappedLemmas.{text_told}
use Rattle.bz_process.proofs.ProcessLemmas.{unfailed, unfaulted}
use Rattle.bz_process.proofs.mapped.read_mapped.Goals as goal

-- the text is refused
pub returns-in_err-mappings-clause-step : goal.returns-in_err-mappings-clause-step
returns-in_err-mappings-clause-step g c own kept =
    let same = err_from_is_err_and c.from_residual.result c.from_residual.ensures.1 in
    let read = c.in_err-mappings.ensures in
    rw (same.1, same.2) (text_told g.F.Files own (λ (k : List Mapping). k) (maps_told c.args.pid) (maps_path c.args.pid) (Err c.in_err-mappings.field-0.0) kept c.args.files.now c.read_mappings.new.files read.answer read.spared read.most read.files)

-- memory ran out for the share
pub returns-in_err-mappings-2-clause-step : goal.returns-in_err-mappings-2-clause-step
returns-in_err-mappings-2-clause-step g c own kept =
    let same = err_from_is_err_and c.from_residual-in_err-mappings-2.result c.from_residual-in_err-mappings-2.ensures.1 in
    let read = c.in_ok-mappings.ensures in
    rw (same.1, same.2) (text_told g.F.Files own (λ (k : List Mapping). k) (maps_told c.args.pid) (maps_path c.args.pid) (Err errors.OutOfMemory) kept c.args.files.now c.read_mappings.new.files (λ world seen. tt) read.spared read.most
    (unfailed g.F.Files c.args.pid own _ _ read.files (unfaulted (List Mapping))))

-- the text's mappings
pub returns-clause-step : goal.returns-clause-step
returns-clause-step g c own kept =
    let read = c.in_ok-mappings.ensures in
    text_told g.F.Files own (λ (k : List Mapping). k) (maps_told c.args.pid) (maps_path c.args.pid) (Ok c.in_ok-mappings-2.mappings.value) kept c.args.files.now c.read_mappings.new.files
    (λ world seen. read.answer world seen ∙ ap Ok (sym c.in_ok-mappings-2.ensures.ok)) read.spared read.most read.files

pub returns-clause-untold : goal.returns-clause-untold
returns-clause-untold g c = rw c.in_ok-mappings-2.ensures.ok c.in_ok-mappings.ensures.untold
