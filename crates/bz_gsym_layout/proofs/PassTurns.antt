-- One turn of the pass over the calls.
use Rattle.std.proofs.Common.{◌≡◌, ℕ, zero, suc, ◌+◌, ◌-◌, ◌<◌, ◌≤◌, Bool, true, false, cond, List, [], ◌∷◌, ◌++◌, length, reverse, drop, Some, refl, sym, ap, subst, ◌∙◌, arith, append_assoc, append-nil}
use Rattle.std.specs.Prelude.{Err, Ok, OnOk, Result}
use Rattle.std.specs.List.{slice_get}
use Rattle.std.proofs.lemmas.List.{length-reverse, reverse-append}
use Rattle.std.proofs.lemmas.Option.{none-some, same_Some}
use Rattle.bz_gsym_layout.specs.Layout.{Tables, calls_bytes, numbers_bytes, zeros}
use Rattle.bz_gsym_layout.specs.Nesting.{map_forest, nested}
use Rattle.bz_gsym_layout.specs.Nesting.Forest.{NoCalls}
use Rattle.bz_gsym_layout.specs.InOrder.{AreInOrder, depth_of}
use Rattle.bz_gsym_layout.specs.Pass.{AreAtMost, AreNodesOf, GoesInside, IsNode, left_bytes, place_at}
use Rattle.bz_gsym_layout.specs.Plan.{Called}
use Rattle.bz_gsym_layout.specs.declared.plan.Node.{Node}
use Rattle.bz_gsym_layout.proofs.PassLemmas.{none_before, one_bytes, some_before, writes_leaf, writes_node}
use Rattle.bz_gsym_layout.proofs.PassSteps.{all_end}

drop_some : (nodes : List Node) (i : ℕ) (x : Node) → slice_get nodes i ≡ Some x → drop i nodes ≡ x ∷ drop (suc i) nodes
drop_some [] i x at = absurd (none-some x at)
drop_some (y ∷ nodes) zero x at = ap (λ z. z ∷ nodes) (same_Some y x at)
drop_some (y ∷ nodes) (suc i) x at = drop_some nodes i x at

some_drop : (nodes : List Node) (i : ℕ) (y : Node) (rest : List Node) → drop i nodes ≡ y ∷ rest → slice_get nodes i ≡ Some y
some_drop nodes zero y rest is = ap (λ l. slice_get l 0) is
some_drop [] (suc i) y rest is = absurd (cc)
some_drop (z ∷ nodes) (suc i) y rest is = some_drop nodes i y rest is

module _ (t : Tables) (view : Node → Called) where
  node_same : (places : List ℕ) (base : ℕ) (x : Node) (name flag : ℕ) → IsNode t places (view x) x → name ≡ place_at places x.name →
      one_bytes t view depth_of base x flag ≡ numbers_bytes (x.start - base) x.size name flag (x.source + 1) x.line
  node_same places base x name flag is named = rw (is.start, is.size, is.name, named, is.file, is.line) refl

  module _ (places : List ℕ) (nodes : List Node) (are : AreNodesOf t places view nodes) (index : ℕ) (x : Node) (at_x : slice_get nodes index ≡ Some x)
      (name : ℕ) (named : name ≡ place_at places x.name)
      (out whole outer : List ℕ) (base : ℕ) (many : length outer ≡ x.depth) (left : out ++ left_bytes t view depth_of (base ∷ reverse outer) (drop index nodes) ≡ whole) where
    abbrev rest : List Node
    rest = drop (suc index) nodes

    here : out ++ left_bytes t view depth_of (base ∷ reverse outer) (x ∷ rest) ≡ whole
    here = ap (λ l. out ++ left_bytes t view depth_of (base ∷ reverse outer) l) (sym (drop_some nodes index x at_x)) ∙ left

    depth_is : depth_of x ≡ length (reverse outer)
    depth_is = omega (arith, many, length-reverse outer)

    abbrev written : ℕ → List ℕ
    written flag = numbers_bytes (x.start - base) x.size name flag (x.source + 1) x.line

    none_inside : ((y : Node) → slice_get nodes (suc index) ≡ Some y → y.depth ≤ x.depth) → nested depth_of (length (reverse outer) + 1) rest ≡ NoCalls
    none_inside not_deeper = by rest refl where
      by : (l : List Node) → rest ≡ l → nested depth_of (length (reverse outer) + 1) l ≡ NoCalls
      by [] is = refl
      by (y ∷ l) is = none_before t view depth_of (length (reverse outer) + 1) y l (let h = not_deeper y (some_drop nodes (suc index) y l is) in let d = depth_is in omega arith)

    pub leaf_turn : ((y : Node) → slice_get nodes (suc index) ≡ Some y → y.depth ≤ x.depth) → (out ++ written 0) ++ left_bytes t view depth_of (base ∷ reverse outer) rest ≡ whole
    leaf_turn not_deeper =
        append_assoc out (written 0) _
        ∙ ap (λ w. out ++ (w ++ left_bytes t view depth_of (base ∷ reverse outer) rest)) (sym (node_same places base x name 0 (are index x at_x) named))
        ∙ ap (λ l. out ++ l) (sym (writes_leaf t view depth_of base (reverse outer) x rest depth_is (none_inside not_deeper))) ∙ here

    pub node_turn : (y : Node) → slice_get nodes (suc index) ≡ Some y → y.depth ≡ x.depth + 1 →
        (out ++ written 1) ++ left_bytes t view depth_of (x.start ∷ reverse (outer ++ base ∷ [])) rest ≡ whole
    node_turn y at_y deeper =
        let next = drop_some nodes (suc index) y at_y in
        let some = ap (nested depth_of (length (reverse outer) + 1)) next ∙ some_before t view depth_of (length (reverse outer) + 1) y (drop (suc (suc index)) nodes) (let d = depth_is in omega arith) in
        append_assoc out (written 1) _
        ∙ ap (λ l. out ++ (written 1 ++ left_bytes t view depth_of (x.start ∷ l) rest)) (reverse-append outer (base ∷ []))
        ∙ ap (λ n. out ++ (written 1 ++ left_bytes t view depth_of (n ∷ base ∷ reverse outer) rest)) (sym (are index x at_x).start)
        ∙ ap (λ w. out ++ (w ++ left_bytes t view depth_of ((view x).start ∷ base ∷ reverse outer) rest)) (sym (node_same places base x name 1 (are index x at_x) named))
        ∙ ap (λ l. out ++ l) (sym (writes_node t view depth_of base (reverse outer) x rest depth_is y _ _ some)) ∙ here

  -- at the end
  pub end_turn : (out whole outer : List ℕ) (base : ℕ) → out ++ left_bytes t view depth_of (base ∷ reverse outer) [] ≡ whole → out ++ zeros (suc (length outer)) ≡ whole
  end_turn out whole outer base left =
      ap (λ n. out ++ zeros (suc n)) (sym (length-reverse outer)) ∙ ap (λ l. out ++ l) (sym (all_end t view (base ∷ reverse outer))) ∙ left

  -- at the start
  pub first_turn : (start : ℕ) (nodes : List Node) → left_bytes t view depth_of (start ∷ []) nodes ≡ calls_bytes t start (map_forest view (nested depth_of 0 nodes))
  unfolding left_bytes
  first_turn start nodes = append-nil (calls_bytes t start (map_forest view (nested depth_of 0 nodes)))

-- a call is written after the lists that end before it
module _ (t : Tables) (places : List ℕ) (view : Node → Called) (nodes : List Node) (index : ℕ) (are : AreNodesOf t places view nodes) (x : Node)
    (at_x : slice_get nodes index ≡ Some x) (name : ℕ) (named : name ≡ place_at places x.name)
    (out ended new whole outer around : List ℕ) (innermost base : ℕ) (inside : Bool) (many : length around ≡ x.depth)
    (after : (xs : List Node) → ended ++ left_bytes t view depth_of (base ∷ reverse around) (x ∷ xs) ≡ out ++ left_bytes t view depth_of (innermost ∷ reverse outer) (x ∷ xs))
    (wrote : new ≡ ended ++ numbers_bytes (x.start - base) x.size name (cond inside 1 0) (x.source + 1) x.line)
    (goes : GoesInside inside nodes index x)
    (before : out ++ left_bytes t view depth_of (innermost ∷ reverse outer) (drop index nodes) ≡ whole) where
  left_now : ended ++ left_bytes t view depth_of (base ∷ reverse around) (drop index nodes) ≡ whole
  left_now =
      let all = drop_some nodes index x at_x in
      ap (λ l. ended ++ left_bytes t view depth_of (base ∷ reverse around) l) all ∙ after (drop (suc index) nodes)
      ∙ ap (λ l. out ++ left_bytes t view depth_of (innermost ∷ reverse outer) l) (sym all) ∙ before

  next_is : index + 1 ≡ suc index
  next_is = omega arith

  pub leaf_written : inside ≡ false → new ++ left_bytes t view depth_of (base ∷ reverse around) (drop (index + 1) nodes) ≡ whole
  leaf_written out_is =
      let outside : GoesInside false nodes index x = subst (λ b. GoesInside b nodes index x) out_is goes in
      ap (λ l. l ++ left_bytes t view depth_of (base ∷ reverse around) (drop (index + 1) nodes)) (wrote ∙ ap (λ (b : Bool). ended ++ numbers_bytes (x.start - base) x.size name (cond b 1 0) (x.source + 1) x.line) out_is)
      ∙ ap (λ n. (ended ++ numbers_bytes (x.start - base) x.size name 0 (x.source + 1) x.line) ++ left_bytes t view depth_of (base ∷ reverse around) (drop n nodes)) next_is
      ∙ leaf_turn t view places nodes are index x at_x name named ended whole around base many left_now (λ y at_y. outside y (ap (slice_get nodes) next_is ∙ at_y))

  pub node_written : inside ≡ true → (deeper : List ℕ) → deeper ≡ around ++ base ∷ [] → new ++ left_bytes t view depth_of (x.start ∷ reverse deeper) (drop (index + 1) nodes) ≡ whole
  node_written in_is deeper pushed =
      let next : GoesInside true nodes index x = subst (λ b. GoesInside b nodes index x) in_is goes in
      ap (λ l. l ++ left_bytes t view depth_of (x.start ∷ reverse deeper) (drop (index + 1) nodes)) (wrote ∙ ap (λ (b : Bool). ended ++ numbers_bytes (x.start - base) x.size name (cond b 1 0) (x.source + 1) x.line) in_is)
      ∙ ap (λ n. (ended ++ numbers_bytes (x.start - base) x.size name 1 (x.source + 1) x.line) ++ left_bytes t view depth_of (x.start ∷ reverse deeper) (drop n nodes)) next_is
      ∙ ap (λ l. (ended ++ numbers_bytes (x.start - base) x.size name 1 (x.source + 1) x.line) ++ left_bytes t view depth_of (x.start ∷ reverse l) (drop (suc index) nodes)) pushed
      ∙ node_turn t view places nodes are index x at_x name named ended whole around base many left_now next.0 (ap (slice_get nodes) (sym next_is) ∙ next.1) next.2

-- The loop over the calls.
pub none_passes : (limit : ℕ) (numbers : List ℕ) → numbers ≡ [] → AreAtMost limit numbers
none_passes limit numbers empty k n at = absurd (none-some n (ap (λ l. slice_get l k) (sym empty) ∙ at))

pub on_ok : {A E : Type 0} (r : Result A E) (P Q : Type 0) → (P → Q) → OnOk r P → OnOk r Q
on_ok (Ok a) P Q then is = then is
on_ok (Err e) P Q then is = is

module _ (start : ℕ) (nodes : List Node) (order : AreInOrder start nodes) (i : ℕ) (x : Node) (at_x : slice_get nodes i ≡ Some x) (inside : Bool)
    (some : inside ≡ true → (x : Node) → slice_get nodes i ≡ Some x → (y : Node) × (slice_get nodes (i + 1) ≡ Some y) × (x.depth < y.depth))
    (none : inside ≡ false → (x y : Node) → slice_get nodes i ≡ Some x → slice_get nodes (i + 1) ≡ Some y → y.depth ≤ x.depth) where
  down : (y : Node) → slice_get nodes (i + 1) ≡ Some y → y.depth ≤ x.depth + 1
  down y at_y = let e : suc i ≡ i + 1 = omega arith in order.down i x y at_x (ap (slice_get nodes) e ∙ at_y)

  pub goes_inside : GoesInside inside nodes i x
  goes_inside = by inside refl where
    by : (b : Bool) → inside ≡ b → GoesInside b nodes i x
    by true is = let next = some is x at_x in (next.0, next.1, omega (arith, next.2, down next.0 next.1))
    by false is = λ y at_y. none is x y at_x at_y

  pub fits_next : (many : ℕ) → many ≡ x.depth + cond inside 1 0 → (y : Node) → slice_get nodes (i + 1) ≡ Some y → y.depth ≤ many
  fits_next many is y at_y = by inside refl is where
    by : (b : Bool) → inside ≡ b → many ≡ x.depth + cond b 1 0 → y.depth ≤ many
    by true known counted = omega (arith, down y at_y)
    by false known counted = omega (arith, none known x y at_x at_y)

  pub low_next : (base : ℕ) (outer : List ℕ) → base ≤ x.start → AreAtMost x.start outer → (y : Node) → slice_get nodes (i + 1) ≡ Some y → (base ≤ y.start) × AreAtMost y.start outer
  low_next base outer low all y at_y =
      let up = order.ascend i (i + 1) x y (omega arith) at_x at_y in
      (omega arith, λ k n at. omega (arith, all k n at))
