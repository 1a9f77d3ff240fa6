-- Texts and addresses one after the other.
use Rattle.std.proofs.Common.{◌≡◌, ◌<◌, ◌-◌, ℕ, zero, suc, List, [], ◌∷◌, ◌++◌, Result, Ok, Err, OnOk, refl, sym, ap, ◌∙◌, append_assoc, append-nil, arith}
use Rattle.bz_canon.specs.Generated.{address_by, addresses_after, function_text, functions_text, next_number}

-- one address more
address_first : (functions x left rest : ℕ) → left ≡ suc rest → addresses_after functions x left ≡ address_by functions (next_number x) ∷ addresses_after functions (next_number x) rest
unfolding addresses_after
address_first functions x left rest one_more = rw one_more refl

pub addresses_more : (functions x next left rest : ℕ) (so_far pushed all : List ℕ) (address : ℕ) → left ≡ suc rest → next ≡ next_number x → address ≡ address_by functions next →
    pushed ≡ so_far ++ address ∷ [] → so_far ++ addresses_after functions x left ≡ all → pushed ++ addresses_after functions next rest ≡ all
addresses_more functions x next left rest so_far pushed all address one_more next_is address_is pushed_is whole =
    rw (pushed_is, address_is, next_is) (append_assoc so_far (address_by functions (next_number x) ∷ []) (addresses_after functions (next_number x) rest)
    ∙ ap (λ rest. so_far ++ rest) (sym (address_first functions x left rest one_more)) ∙ whole)

pub addresses_none : (functions x left : ℕ) (so_far all : List ℕ) → left ≡ 0 → so_far ++ addresses_after functions x left ≡ all → so_far ≡ all
unfolding addresses_after
addresses_none functions x zero so_far all none whole = sym (append-nil so_far) ∙ whole
addresses_none functions x (suc n) so_far all none whole = absurd (omega (arith, none))

-- one function more
pub functions_first : (left : ℕ) → 0 < left → functions_text left ≡ function_text (left - 1) ++ functions_text (left - 1)
unfolding functions_text
functions_first zero more = absurd (omega (arith, more))
functions_first (suc n) more = let same : suc n - 1 ≡ n = omega arith in rw same refl

pub functions_more : (left : ℕ) (so_far pushed all : List ℕ) → 0 < left → pushed ≡ so_far ++ function_text (left - 1) → so_far ++ functions_text left ≡ all →
    pushed ++ functions_text (left - 1) ≡ all
functions_more left so_far pushed all more pushed_is whole =
    ap (λ front. front ++ functions_text (left - 1)) pushed_is ∙ append_assoc so_far (function_text (left - 1)) (functions_text (left - 1))
    ∙ ap (λ rest. so_far ++ rest) (sym (functions_first left more)) ∙ whole

pub functions_none : (left : ℕ) (so_far all : List ℕ) → left ≡ 0 → so_far ++ functions_text left ≡ all → so_far ≡ all
unfolding functions_text
functions_none zero so_far all none whole = sym (append-nil so_far) ∙ whole
functions_none (suc n) so_far all none whole = absurd (omega (arith, none))

-- four texts joined one after the other
pub joined : {A B : Type 0} (result : Result A B) (old a b c d one two three last : List ℕ) → one ≡ old ++ a → two ≡ one ++ b → three ≡ two ++ c →
    OnOk result (last ≡ three ++ d) → OnOk result (last ≡ old ++ (a ++ (b ++ (c ++ d))))
joined (Err e) old a b c d one two three last one_is two_is three_is last_is = tt
joined (Ok given) old a b c d one two three last one_is two_is three_is last_is =
    last_is ∙ ap (λ t. t ++ d) (three_is ∙ ap (λ t. t ++ c) (two_is ∙ ap (λ t. t ++ b) one_is))
    ∙ append_assoc ((old ++ a) ++ b) c d ∙ append_assoc (old ++ a) b (c ++ d) ∙ append_assoc old a (b ++ (c ++ d))
