use Rattle.bz_proc.proofs.MapsLemmas.{maps_utf8, maps_other}
use Rattle.bz_proc.proofs.maps.parse_maps.Goals as goal

pub returns-in-Ok-clause-ok : goal.returns-in-Ok-clause-ok
returns-in-Ok-clause-ok c = rw (maps_utf8 c.args.pid c.args.text.now c.in-Ok.ensures.cases.1, ← c.in-Ok.ensures.cases.0) c.entries.ensures.ok

pub returns-in-Err-clause-refusal : goal.returns-in-Err-clause-refusal
returns-in-Err-clause-refusal c = maps_other c.args.pid c.args.text.now c.in-Err.ensures.cases.0
