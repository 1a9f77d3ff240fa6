-- The order of names reads their texts alone, and what is fed of them to a hasher tells the texts.
use Rattle.std.proofs.Common.{◌≡◌, ◌↔◌, ℕ, Bool, IsTrue, List, [], ◌++◌, get_or, refl, sym, ap, ap₂, ◌∙◌}
use Rattle.std.specs.Cmp.{Equal-is}
use Rattle.std.specs.Cmp.Lexicographic.{slice_cmp}
use Rattle.std.specs.Hash.{str, usize}
use Rattle.std.specs.Ordering.{nat_cmp, ordering_then, is_eq}
use Rattle.std.specs.declared.cmp.Ordering.{Ordering}
use Rattle.std.specs.declared.cmp.Ordering.TheVariants.{Equal}
use Rattle.std.specs.String.{string_bytes}
use Rattle.bz_proc.specs.Maps.{Name, name_of}
use Rattle.bz_proc.specs.Maps.Name.{File, Component}
use Rattle.bz_proc.specs.NameOrder.{name_order}
use Rattle.bz_proc.specs.declared.maps.PathName.{PathName}
use Rattle.bz_proc.specs.declared.maps.PathName.TheVariants as names

first_text : Name → List ℕ
first_text (File maps_file symbolic_path) = maps_file
first_text (Component text) = text

second_text : Name → List ℕ
second_text (File maps_file symbolic_path) = symbolic_path
second_text (Component text) = text

-- names of the same texts stand at the same place beside any other
pub alike_left : (a b other : PathName) → name_of a ≡ name_of b → name_order a other ≡ name_order b other
unfolding first_text second_text
alike_left (names.Path a) (names.Path b) (names.Path other) is =
    ap₂ (λ (file path : List ℕ). ordering_then (slice_cmp nat_cmp file (string_bytes other.maps_file)) (slice_cmp nat_cmp path (string_bytes other.symbolic_path)))
    (ap first_text is) (ap second_text is)
alike_left (names.Path a) (names.Path b) (names.Component other) is = refl
alike_left (names.Component a) (names.Component b) (names.Component other) is = ap (λ (text : List ℕ). slice_cmp nat_cmp text (string_bytes other)) (ap first_text is)
alike_left (names.Component a) (names.Component b) (names.Path other) is = refl
alike_left (names.Component a) (names.Path b) other is = cc is
alike_left (names.Path a) (names.Component b) other is = cc is

-- an order that tells whether two are equal ties exactly there
pub ties_at_equal : (order : Ordering) (equal : Bool) → equal ≡ is_eq order → (order ≡ Equal) ↔ IsTrue equal
ties_at_equal order equal told = (λ tie. told ∙ ap is_eq tie, λ same. (Equal-is order).0 (sym told ∙ same))

-- Hashes.

-- what is fed of two texts tells them
pub texts_fed : (a b x y : List ℕ) → (str a ++ str b) ≡ (str x ++ str y) → (a ≡ x) × (b ≡ y)
texts_fed a b x y same = (ap (λ writes. get_or writes 0 []) same, ap (λ writes. get_or writes 2 []) same)

-- also behind the place of a variant
pub file_fed : (a b x y : List ℕ) → (usize 0 ++ (str a ++ str b)) ≡ (usize 0 ++ (str x ++ str y)) → (a ≡ x) × (b ≡ y)
file_fed a b x y same = (ap (λ writes. get_or writes 1 []) same, ap (λ writes. get_or writes 3 []) same)

pub component_fed : (a b : List ℕ) → (usize 1 ++ str a) ≡ (usize 1 ++ str b) → a ≡ b
component_fed a b same = ap (λ writes. get_or writes 1 []) same
