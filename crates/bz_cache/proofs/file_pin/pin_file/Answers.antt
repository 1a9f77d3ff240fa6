use Rattle.std.proofs.Common.{◌≡◌, true, sym, ap, ◌∙◌}
use Rattle.bz_cache.specs.Cache.{Cache, with_pin}
use Rattle.bz_cache.proofs.PinLemmas.{pins_err, pins_ok, repinned, unpinned}
use Rattle.bz_cache.proofs.file_pin.pin_file.Goals as goal

-- the version is pinned
pub returns-in-Ok : goal.returns-in-Ok
returns-in-Ok g c =
    let did = rw c.unpin-unpinned.ensures.state at c.in-Ok.ensures in
    rw c.pin-pinned.ensures.state (pins_ok g.F.Files g.T.Version.test c.args.cache.now c.args.path.now c.args.files.now c.look_at.new.files c.look_at.new.cache did)

-- a pin is given back
pub returns-then-pinned : goal.returns-then-pinned
returns-then-pinned g c =
    let did = rw c.unpin-unpinned.ensures.state at c.in-Err.ensures in
    let same : c.pin-again.new.self ≡ c.args.cache.now =
    c.pin-again.ensures.state
    ∙ ap (λ (x : Cache). with_pin true x c.args.path.now) (c.in-Err.ensures.err ∙ c.unpin-unpinned.ensures.state)
    ∙ repinned c.args.cache.now c.args.path.now (sym c.is_pinned-pinned.ensures ∙ c.if-pinned.true) in
    rw same (pins_err g.F.Files g.T.Version.test c.args.cache.now c.args.path.now c.args.files.now c.look_at.new.files c.in-Err.error c.look_at.new.cache did)

-- there was none
pub returns-else-pinned : goal.returns-else-pinned
returns-else-pinned g c =
    let did = rw c.unpin-unpinned.ensures.state at c.in-Err.ensures in
    let same : c.look_at.new.cache ≡ c.args.cache.now =
    c.in-Err.ensures.err ∙ c.unpin-unpinned.ensures.state ∙ unpinned c.args.cache.now c.args.path.now (sym c.is_pinned-pinned.ensures ∙ c.if-pinned.false) in
    rw same (pins_err g.F.Files g.T.Version.test c.args.cache.now c.args.path.now c.args.files.now c.look_at.new.files c.in-Err.error c.look_at.new.cache did)
