use Rattle.std.proofs.Common.{is_some, sym, ap, refl, ◌∙◌}
use Rattle.std.specs.Option.{option_copied_mut}
use Rattle.bz_cache.specs.declared.file_cache.paths.HeldPath.{HeldPath}
use Rattle.bz_cache.proofs.Stored.{path_found, path_absent, paths_changed}
use Rattle.bz_cache.proofs.file_cache.paths.set_pinned.Goals as goal

pub returns-in_err-held-clause-some : goal.returns-in_err-held-clause-some
returns-in_err-held-clause-some c =
    let absent = path_absent c.args.paths.now c.args.path.now (sym c.get_mut.ensures.value ∙ ap option_copied_mut c.in_err-held.was) in
    rw (absent, c.from_residual.ensures)

pub returns-in_err-held-clause-paths : goal.returns-in_err-held-clause-paths
returns-in_err-held-clause-paths c =
    let absent = path_absent c.args.paths.now c.args.path.now (sym c.get_mut.ensures.value ∙ ap option_copied_mut c.in_err-held.was) in
    rw (absent, c.get_mut.follows.holds-at-none)

pub returns-clause-some : goal.returns-clause-some
returns-clause-some c =
    rw (path_found c.args.paths.now c.args.path.now _ (sym c.get_mut.ensures.value ∙ ap option_copied_mut c.in_ok-held.was))

pub returns-clause-paths : goal.returns-clause-paths
returns-clause-paths c =
    let found = sym c.get_mut.ensures.value ∙ ap option_copied_mut c.in_ok-held.was in
    let pinned : HeldPath = record c.in_ok-held.held.now { pinned = c.args.pinned } in
    let updates = (c.get_mut.follows.holds pinned).3 (ap is_some found) in
    rw (path_found c.args.paths.now c.args.path.now _ found) (paths_changed c.args.paths.now (c.get_mut.follows.lender pinned) c.args.path.now _ pinned found updates _ refl)
