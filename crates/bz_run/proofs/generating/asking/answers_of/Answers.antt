use Rattle.std.proofs.Common.{Some, ap}
use Rattle.bz_files.specs.MemWorlds.{MemWorlds}
use Rattle.bz_files.specs.World.{in_view}
use Rattle.bz_breakpad.specs.Plain.{batch}
use Rattle.bz_symq.proofs.ReplyLemmas.{answers_read}
use Rattle.bz_symq.specs.Kept.{KeptState, settings_of}
use Rattle.bz_symbolize.specs.State.{opts_of}
use Rattle.bz_run.proofs.GeneratedAskingLemmas.{answered, comes_by_file, never_faults, unrefused}
use Rattle.bz_run.proofs.generating.asking.answers_of.Goals as goal

-- the text's table answers
pub returns-clause-answers : goal.returns-clause-answers
returns-clause-answers g c table is_file =
    answered answers_read _ c.look_up.result
    (comes_by_file _ answers_read c.in_ok-src.src c.look_up.result _ _ _ _ (settings_of c.args.config) _ c.args.text.items c.args.addrs.items table is_file c.in_ok-src.ensures.form
    (ap (λ (kept : KeptState). kept.files) c.new_symbolizer-symbolizer.ensures) (ap (λ (files : MemWorlds). in_view (Some files.worlds)) c.in_ok-files.ensures.ok) c.look_up.ensures.call)

-- and no look fails
pub returns-clause-memory : goal.returns-clause-memory
returns-clause-memory g c table is_file =
    unrefused answers_read (batch table (opts_of (settings_of c.args.config)) c.args.addrs.items) c.look_up.result
    (comes_by_file _ answers_read c.in_ok-src.src c.look_up.result _ _ _ _ (settings_of c.args.config) _ c.args.text.items c.args.addrs.items table is_file c.in_ok-src.ensures.form
    (ap (λ (kept : KeptState). kept.files) c.new_symbolizer-symbolizer.ensures) (ap (λ (files : MemWorlds). in_view (Some files.worlds)) c.in_ok-files.ensures.ok) c.look_up.ensures.call)
    (never_faults _ c.look_up.ensures.call.looked.faults)
