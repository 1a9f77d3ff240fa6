use Rattle.std.proofs.Common.{◌≡◌, inl, refl, rules}
use Rattle.std.proofs.lemmas.Result.{err_from_is_err_and}
use Rattle.bz_base.specs.Answer.{reading}
use Rattle.bz_files.specs.World.{entry_at, in_view}
use Rattle.bz_cache.specs.Look.{Lends}
use Rattle.bz_elf.specs.Format as elf
use Rattle.bz_process.specs.Process.{asks_elf}
use Rattle.bz_cache.proofs.FileLemmas.{by_lent, told_refused}
use Rattle.bz_process.proofs.ProcessLemmas.{gives_known}
use Rattle.bz_process.proofs.mapped_file.elf_answer.Goals as goal

-- the look was refused
pub returns-in_err-file : goal.returns-in_err-file
returns-in_err-file g c =
    let same = err_from_is_err_and c.from_residual.result c.from_residual.ensures.1 in
    let kept : c.entry.follows.lender-at-none ≡ c.args.cache.now = search rules in
    let asked = asks_elf c.args.module_path.now c.args.offset in
    record {
      told = λ world told. rw (same.1, same.2) (told_refused reading asked c.args.path.now c.in_err-file.field-0.0
          c.args.cache.now _ (entry_at world c.args.path.now) _ _ refl kept (c.in_err-file.ensures.answer world told) (c.in_err-file.ensures.reads.spared world told));
      untold = search rules;
      untaken = search rules;
      stays = search rules;
      ready = search rules;
      consistent = search rules;
      reload = search rules;
      looked = search rules;
      most = search rules;
    }

-- the file answered
pub returns : goal.returns
returns g c =
    let asked = asks_elf c.args.module_path.now c.args.offset in
    let bytes = c.in_ok-file.file.now in
    let view = in_view (g.F.Files.worlds c.args.files.now) in
    let lent : Lends elf.format_test c.args.cache.now c.entry.follows.lender-at-none c.args.path.now bytes view = search rules in
    let given = gives_known c.at_offset.result _ c.at_offset.ensures.answer c.at_offset.ensures.memory in
    let by = by_lent reading asked c.args.path.now bytes view c.args.cache.now c.entry.follows.lender-at-none c.at_offset.result lent given in
    record {
      told = search rules;
      untold = inl by;
      untaken = search rules;
      stays = search rules;
      ready = λ fixed taken. by;
      consistent = search rules;
      reload = search rules;
      looked = search rules;
      most = search rules;
    }
