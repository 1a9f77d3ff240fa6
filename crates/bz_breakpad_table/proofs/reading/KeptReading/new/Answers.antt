use Rattle.std.proofs.Common.{refl}
use Rattle.bz_breakpad_table.proofs.reading.KeptReading.new.Goals as goal

pub returns : goal.returns
returns c bytes = record {
  module_is = record { is = refl; fits = tt };
  functions = c.new.ensures bytes;
  files = record { are = rw c.new-2.ensures refl; fit = rw c.new-2.ensures tt };
  origins = record { are = rw c.new-3.ensures refl; fit = rw c.new-3.ensures tt };
  publics = record { are = rw c.new-4.ensures.items refl; fit = rw c.new-4.ensures.items tt };
}
