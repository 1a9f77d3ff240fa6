use Rattle.std.proofs.Common.{◌≡◌, ◌++◌, drop, length, map}
use Rattle.bz_gsym_layout.specs.Layout.{Tables, data_bytes, data_places}
use Rattle.bz_gsym_layout.specs.Pass.{AreCodesOf}
use Rattle.bz_gsym_layout.specs.Plan.{Code}
use Rattle.bz_gsym_layout.specs.declared.plan.Function.{Function}
use Rattle.bz_gsym_layout.proofs.layout.push_data.Given as goal

-- what is written, with the functions that are left, is the whole; and so are the places
abbrev pub invariant-loop-function : goal.invariant-loop-function
invariant-loop-function l = record {
  written : (t : Tables) (view : Function → Code) → AreCodesOf t l.texts view l.functions →
      l.out.items ++ data_bytes t (length l.out.items) (map view (drop l.function-index l.functions))
      ≡ l.fn.out.items ++ data_bytes t (length l.fn.out.items) (map view l.functions);
  places : (t : Tables) (view : Function → Code) → AreCodesOf t l.texts view l.functions →
      l.places.items ++ data_places t (length l.out.items) (map view (drop l.function-index l.functions)) ≡ data_places t (length l.fn.out.items) (map view l.functions);
}
