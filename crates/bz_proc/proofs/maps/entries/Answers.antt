use Rattle.bz_base.specs.Line.{all_lines}
use Rattle.bz_proc.specs.Maps.{mappings_of}
use Rattle.bz_proc.proofs.MapsLemmas.{front_none}
use Rattle.bz_proc.proofs.Utf8Lemmas.{lines_utf8}
use Rattle.bz_proc.proofs.maps.entries.Goals as goal

-- no line is read yet
pub loop-line-init : goal.loop-line-init
loop-line-init c = record {
  so_far = rw (c.new-entries.ensures.items, c.as_bytes-rest.ensures.value) (front_none (mappings_of c.args.pid (all_lines c.args.text.now)));
  utf8 = lines_utf8 c.as_bytes-rest.result.now c.as_bytes-rest.ensures.utf8;
}
