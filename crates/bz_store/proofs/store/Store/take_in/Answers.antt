use Rattle.std.proofs.Common.{◌≡◌}
use Rattle.std.specs.Prelude.{string_bytes}
use Rattle.bz_store.proofs.Keeping.{put_view, same_shelf}
use Rattle.bz_store.specs.Frames.{key_of}
use Rattle.bz_store.proofs.store.Store.take_in.Goals as goal

pub returns-in_ok-put-in-Ok-clause-state : goal.returns-in_ok-put-in-Ok-clause-state
returns-in_ok-put-in-Ok-clause-state c =
    let clone = c.in_ok-key-in-Ok.ensures.cases in
    let same : key_of c.in_ok-key-in-Ok.key ≡ key_of c.args.key.now = λ i. (clone.0 i, clone.1 i) in
    rw (← c.self.view_is, c.in_ok-put-in-Ok.ensures.entries, c.in-Ok.ensures.accepted.1, c.in-Ok.ensures.ok, ← same)
    (same_shelf (string_bytes c.self.inside.root) c.self.inside.files.cap _ _ (put_view c.in_ok-key-in-Ok.key c.self.inside.files.cap c.args.bytes.items c.self.inside.files.entries c.len-count.ensures.valid.2 (rw same (rw (← c.self.view_is) at c.requires))))
