-- Zero bytes are written one by one.
use Rattle.std.proofs.Common.{◌≡◌, ℕ, zero, suc, ◌+◌, List, [], ◌∷◌, ◌++◌, refl, sym, ap, ◌∙◌, arith, append_assoc}
use Rattle.bz_gsym_layout.specs.Layout.{zeros}

zeros_last : (count : ℕ) → zeros count ++ 0 ∷ [] ≡ zeros (suc count)
zeros_last zero = refl
zeros_last (suc count) = ap (λ l. 0 ∷ l) (zeros_last count)

-- one zero more
pub zeros_more : (new out old : List ℕ) (count : ℕ) → new ≡ out ++ 0 ∷ [] → out ≡ old ++ zeros count → new ≡ old ++ zeros (count + 1)
zeros_more new out old count wrote so_far =
    let e : count + 1 ≡ suc count = omega arith in
    wrote ∙ ap (λ l. l ++ 0 ∷ []) so_far ∙ append_assoc old (zeros count) (0 ∷ []) ∙ ap (λ l. old ++ l) (zeros_last count) ∙ ap (λ n. old ++ zeros n) (sym e)
