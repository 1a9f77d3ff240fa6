use Rattle.bz_symbolize.proofs.symbolizer.Symbolizer.look_up.Goals as goal

-- at any addresses, the files answer so
pub returns-clause-every : goal.returns-clause-every
returns-clause-every g c others = rw (← c.self.view_is) (c.look_up.ensures.every others)
