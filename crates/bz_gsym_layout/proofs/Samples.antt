-- A function with one line, and the bytes that it is laid out in, as an example of the layout.
use Rattle.std.proofs.Common.{◌≡◌, [], ◌∷◌, ◌++◌, length, refl}
use Rattle.std.specs.Prelude.{codes}
use Rattle.bz_gsym_layout.specs.Layout.{layout, zeros}
use Rattle.bz_gsym_layout.specs.Leb.{sleb, uleb}
use Rattle.bz_gsym_layout.specs.Nesting.Forest.{NoCalls}
use Rattle.bz_gsym_layout.specs.Plan.{Code}

abbrev one_line : Code
one_line = record {
  start = 4096;
  size = 48;
  name = codes "another func";
  rows = (4096, record { source = record { dir = []; file = codes "bar.c" }; line = 7 }) ∷ [];
  calls = NoCalls;
}

many : length (layout (one_line ∷ [])) ≡ 138
unfolding uleb sleb
many = refl

bytes_are : layout (one_line ∷ []) ≡
    77 ∷ 89 ∷ 83 ∷ 71 ∷ 1 ∷ 0 ∷ 8 ∷ 0 ∷ (zeros 8 ++ (1 ∷ 0 ∷ 0 ∷ 0 ∷ 80 ∷ 0 ∷ 0 ∷ 0 ∷ 21 ∷ 0 ∷ 0 ∷ 0 ∷ (zeros 20 ++ (
    0 ∷ 16 ∷ 0 ∷ 0 ∷ 0 ∷ 0 ∷ 0 ∷ 0 ∷ 104 ∷ 0 ∷ 0 ∷ 0 ∷ 2 ∷ 0 ∷ 0 ∷ 0 ∷ (zeros 8 ++ (14 ∷ 0 ∷ 0 ∷ 0 ∷ 15 ∷ 0 ∷ 0 ∷ 0 ∷ (
    0 ∷ codes "another func" ++ (0 ∷ 0 ∷ codes "bar.c" ++ (0 ∷ (zeros 3 ++ (
    48 ∷ 0 ∷ 0 ∷ 0 ∷ 1 ∷ 0 ∷ 0 ∷ 0 ∷ 1 ∷ 0 ∷ 0 ∷ 0 ∷ 10 ∷ 0 ∷ 0 ∷ 0 ∷ 0 ∷ 0 ∷ 0 ∷ 1 ∷ 1 ∷ 3 ∷ 7 ∷ 2 ∷ 0 ∷ 0 ∷ zeros 8)))))))))))
unfolding uleb sleb
bytes_are = refl
