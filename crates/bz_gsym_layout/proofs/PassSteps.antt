-- The steps of a pass over the calls, with the open lists as a base and a stack of those outside it.
use Rattle.std.proofs.Common.{◌≡◌, ℕ, zero, suc, ◌<◌, ◌≤◌, List, [], ◌∷◌, ◌++◌, length, get_or, reverse, take, Some, refl, sym, ap, ◌∙◌, arith, append_assoc}
use Rattle.std.specs.List.{slice_get, slice_index}
use Rattle.std.proofs.lemmas.List.{length-reverse, reverse-append}
use Rattle.std.proofs.lemmas.Option.{none-some}
use Rattle.bz_gsym_layout.specs.Layout.{Tables, zeros}
use Rattle.bz_gsym_layout.specs.InOrder.{depth_of}
use Rattle.bz_gsym_layout.specs.Pass.{AreAtMost, left_bytes}
use Rattle.bz_gsym_layout.specs.Plan.{Called}
use Rattle.bz_gsym_layout.specs.declared.plan.Node.{Node}
use Rattle.bz_gsym_layout.proofs.PassLemmas.{ends_list}

-- a list is its front and its last item
front_last : (xs : List ℕ) (n : ℕ) → length xs ≡ suc n → xs ≡ take n xs ++ slice_index xs n ∷ []
front_last [] n is = absurd (omega (arith, is))
front_last (x ∷ []) zero is = refl
front_last (x ∷ y ∷ xs) zero is = absurd (omega (arith, is))
front_last (x ∷ xs) (suc n) is = ap (λ l. x ∷ l) (front_last xs n (omega (arith, is)))

pub last_first : (xs : List ℕ) (n : ℕ) → length xs ≡ suc n → reverse xs ≡ slice_index xs n ∷ reverse (take n xs)
last_first xs n is = ap reverse (front_last xs n is) ∙ reverse-append (take n xs) (slice_index xs n ∷ [])

-- a list ends
pub list_ended : (t : Tables) (view : Node → Called) (out outer : List ℕ) (base : ℕ) (x : Node) (xs : List Node) (n : ℕ) → length outer ≡ suc n → x.depth < length outer →
    (out ++ 0 ∷ []) ++ left_bytes t view depth_of (slice_index outer n ∷ reverse (take n outer)) (x ∷ xs) ≡ out ++ left_bytes t view depth_of (base ∷ reverse outer) (x ∷ xs)
list_ended t view out outer base x xs n many deep =
    append_assoc out (0 ∷ []) _
    ∙ ap (λ l. out ++ 0 ∷ left_bytes t view depth_of l (x ∷ xs)) (sym (last_first outer n many))
    ∙ ap (λ l. out ++ l) (sym (ends_list t view depth_of base (reverse outer) x xs (omega (arith, length-reverse outer))))

-- at the end of the calls all lists end
pub all_end : (t : Tables) (view : Node → Called) (bases : List ℕ) → left_bytes t view depth_of bases [] ≡ zeros (length bases)
unfolding left_bytes
all_end t view [] = refl
all_end t view (base ∷ bases) = ap (λ l. 0 ∷ l) (all_end t view bases)

-- what an index finds doesn't hang on what stands for nothing
found_there : (xs : List ℕ) (n d : ℕ) → n < length xs → get_or xs n d ≡ slice_index xs n
found_there [] n d within = absurd (omega arith)
found_there (x ∷ xs) zero d within = refl
found_there (x ∷ xs) (suc n) d within = found_there xs n d (omega arith)

there_at : (xs : List ℕ) (n : ℕ) → n < length xs → slice_get xs n ≡ Some (slice_index xs n)
there_at [] n within = absurd (omega arith)
there_at (x ∷ xs) zero within = refl
there_at (x ∷ xs) (suc n) within = there_at xs n (omega arith)

taken : (xs : List ℕ) (n k m : ℕ) → slice_get (take n xs) k ≡ Some m → slice_get xs k ≡ Some m
taken xs zero k m is = absurd (none-some m is)
taken [] (suc n) k m is = absurd (none-some m is)
taken (x ∷ xs) (suc n) zero m is = is
taken (x ∷ xs) (suc n) (suc k) m is = taken xs n k m is

-- a turn of the loop that ends lists
module _ (out outer new_out new_outer : List ℕ) (base next last : ℕ) (many : length outer ≡ suc last) (wrote : new_out ≡ out ++ 0 ∷ []) (cut : new_outer ≡ take last outer) (found : next ≡ get_or outer last next) where
  next_is : next ≡ slice_index outer last
  next_is = found ∙ found_there outer last next (omega (arith, many))

  pub turn_left : (t : Tables) (view : Node → Called) (x : Node) (xs : List Node) → x.depth < length outer →
      new_out ++ left_bytes t view depth_of (next ∷ reverse new_outer) (x ∷ xs) ≡ out ++ left_bytes t view depth_of (base ∷ reverse outer) (x ∷ xs)
  turn_left t view x xs deep =
      ap (λ l. l ++ left_bytes t view depth_of (next ∷ reverse new_outer) (x ∷ xs)) wrote
      ∙ ap (λ l. (out ++ 0 ∷ []) ++ left_bytes t view depth_of (next ∷ reverse l) (x ∷ xs)) cut
      ∙ ap (λ n. (out ++ 0 ∷ []) ++ left_bytes t view depth_of (n ∷ reverse (take last outer)) (x ∷ xs)) next_is
      ∙ list_ended t view out outer base x xs last many deep

  pub turn_low : (limit : ℕ) → AreAtMost limit outer → (next ≤ limit) × AreAtMost limit new_outer
  turn_low limit low =
      let here = low last (slice_index outer last) (there_at outer last (omega (arith, many))) in
      (omega (arith, next_is, here), λ k n at. low k n (taken outer last k n (ap (λ l. slice_get l k) (sym cut) ∙ at)))
