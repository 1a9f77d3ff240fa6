use Rattle.std.proofs.Common.{sym, ap, ◌∙◌}
use Rattle.std.specs.Prelude.{option_map}
use Rattle.std.specs.Map.Iter.{deref_pair}
use Rattle.bz_store.proofs.Keeping.{front_view}
use Rattle.bz_store.proofs.store.Store.front.Goals as goal

pub returns-clause-first : goal.returns-clause-first
returns-clause-first c = rw (← c.self.view_is) (front_view c.self.inside.files.entries c.unwrap.result.0.now c.unwrap.result.1.now (sym (ap (option_map deref_pair) c.unwrap.ensures) ∙ c.peek_mru.ensures))
