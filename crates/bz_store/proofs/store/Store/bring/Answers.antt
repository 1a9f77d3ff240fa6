use Rattle.std.proofs.Common.{sym, ap, ◌∙◌, is_some}
use Rattle.std.specs.Prelude.{string_bytes}
use Rattle.bz_store.proofs.Keeping.{lookup_view, promoted_view, same_shelf}
use Rattle.bz_store.proofs.store.Store.bring.Goals as goal

pub returns-clause-kept : goal.returns-clause-kept
returns-clause-kept c = rw (← c.self.view_is) (c.promote.ensures.value ∙ ap is_some (sym (lookup_view c.args.key.now c.self.inside.files.entries)))

pub returns-clause-state : goal.returns-clause-state
returns-clause-state c =
    rw (← c.self.view_is, c.promote.ensures.entries)
    (same_shelf (string_bytes c.self.inside.root) c.self.inside.files.cap _ _ (promoted_view c.args.key.now c.self.inside.files.cap c.self.inside.files.entries c.len-count.ensures.valid.1))
