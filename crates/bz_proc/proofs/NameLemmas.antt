-- The path of a file without its mark of deletion.
use Rattle.std.proofs.Common.{◌≡◌, ◌-◌, List, ◌++◌, length, take, nat_eq, refl}
use Rattle.std.specs.List.{ends_with}
use Rattle.std.proofs.lemmas.Bool.{false_from_ne_true}
use Rattle.std.proofs.lemmas.Bool.Decides.{Decides-eqb}
use Rattle.std.proofs.lemmas.Slice.Eq.{ends_is}
use Rattle.std.specs.Prelude.{ℕ}
use Rattle.bz_proc.specs.Maps.{deleted, symbolic_path}

-- a text that doesn't end in the mark is the path
pub path_unmarked : (text : List ℕ) → ((front : List ℕ) → text ≡ front ++ deleted → ⊥) → text ≡ symbolic_path text
path_unmarked text never =
    let other = false_from_ne_true (ends_with nat_eq text deleted)
    (λ ends. never (take (length text - length deleted) text) ((ends_is Decides-eqb text deleted (ends_with nat_eq text deleted) refl).0 ends)) in
    rw other refl
