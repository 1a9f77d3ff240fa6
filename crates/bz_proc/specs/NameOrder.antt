-- The order of what mappings are of: files come first, and texts go by their bytes.
use Rattle.std.specs.Prelude.{ℕ, List}
use Rattle.std.specs.Cmp.Lexicographic.{slice_cmp}
use Rattle.std.specs.Ordering.{nat_cmp, ordering_then}
use Rattle.std.specs.declared.cmp.Ordering.{Ordering}
use Rattle.std.specs.declared.cmp.Ordering.TheVariants.{Less, Greater}
use Rattle.bz_proc.specs.Maps.{Name, File, Component}
use Rattle.bz_proc.specs.contracts.maps.PathNameOrd.TheImpl as path_name_ord
use Rattle.bz_proc.specs.declared.maps.PathName.{PathName}

abbrev pub name_order : PathName → PathName → Ordering
name_order = (path_name_ord.ghosts).cmp

-- files go by the path that stands for the mapping, and then by their own
abbrev pub path_order : List ℕ → List ℕ → List ℕ → List ℕ → Ordering
path_order a_file a_path b_file b_path = ordering_then (slice_cmp nat_cmp a_file b_file) (slice_cmp nat_cmp a_path b_path)

-- files come before parts of the system, which go by their texts
abbrev pub order_of_names : Name → Name → Ordering
order_of_names (File a_file a_path) (File b_file b_path) = path_order a_file a_path b_file b_path
order_of_names (File a_file a_path) (Component b) = Less
order_of_names (Component a) (File b_file b_path) = Greater
order_of_names (Component a) (Component b) = slice_cmp nat_cmp a b
