-- What is kept of a dispatcher's answers once one more is.
use Rattle.std.proofs.Common.{◌≡◌, ◌⊎◌, Bool, true, false, cond, List, [], ◌∷◌, Option, Some, None, Ok, inl, inr, refl, sym, ap, subst, ◌∙◌}
use Rattle.std.specs.BTreeMap.{insert_entry, is_at}
use Rattle.std.specs.Cmp.{IsTotalOrder}
use Rattle.std.specs.Option.{option_map_or}
use Rattle.std.specs.Ordering.{match_ordering, is_eq}
use Rattle.std.specs.declared.cmp.Ordering.{Ordering}
use Rattle.std.specs.declared.cmp.Ordering.TheVariants.{Less, Equal, Greater}
use Rattle.std.proofs.lemmas.Bool.{false≢true}
use Rattle.std.proofs.lemmas.Cmp.{eq_by_cmp_equiv}
use Rattle.bz_cache.specs.InsertMap.{value_at, with_absent}
use Rattle.bz_proc.specs.Maps.{Mapping, name_of}
use Rattle.bz_proc.specs.NameOrder.{name_order}
use Rattle.bz_proc.proofs.NameOrderLemmas.{alike_left}
use Rattle.bz_proc.specs.contracts.maps.PathNameOrd.TheImpl.Laws.{total-law}
use Rattle.bz_proc.specs.declared.maps.PathName.{PathName}
use Rattle.bz_process.specs.Dispatch.{Asks, DispatchAnswers, Test, kept_for}
use Rattle.bz_process.specs.Member.{as_member}

module _ {K V : Type 0} {cmp : K → K → Ordering} (o : IsTotalOrder cmp) (k : K) (v : V) (n : K) where
  -- the value at a key once another one is put in
  value_inserted : (es : List (K × V)) → value_at cmp es k ≡ None → value_at cmp (insert_entry cmp es k v) n ≡ cond (is_at (cmp n) k) (Some v) (value_at cmp es n)
  value_inserted [] absent = refl
  value_inserted (e ∷ es) absent = by_order (cmp k e.0) refl (value_inserted es)
    where
      by_tests : (here there : Bool) → is_at (cmp n) e.0 ≡ here → is_at (cmp n) k ≡ there → cmp k e.0 ≡ Greater → value_at cmp (insert_entry cmp es k v) n ≡ cond (is_at (cmp n) k) (Some v) (value_at cmp es n) →
          cond here (Some e.1) (value_at cmp (insert_entry cmp es k v) n) ≡ cond there (Some v) (cond here (Some e.1) (value_at cmp es n))
      by_tests true false at_e at_k above rest = refl
      by_tests false there at_e at_k above rest = rest ∙ ap (λ (b : Bool). cond b (Some v) (value_at cmp es n)) at_k
      by_tests true true at_e at_k above rest =
          let same : is_at (cmp n) e.0 ≡ is_at (cmp k) e.0 = (eq_by_cmp_equiv o).congr n k e.0 at_k in
          absurd (false≢true (sym (ap is_eq above) ∙ sym same ∙ at_e))

      by_order : (r : Ordering) → cmp k e.0 ≡ r → (value_at cmp es k ≡ None → value_at cmp (insert_entry cmp es k v) n ≡ cond (is_at (cmp n) k) (Some v) (value_at cmp es n)) →
          value_at cmp (match_ordering r ((k, v) ∷ e ∷ es) ((e.0, v) ∷ es) (e ∷ insert_entry cmp es k v)) n ≡ cond (is_at (cmp n) k) (Some v) (value_at cmp (e ∷ es) n)
      by_order Less is rest = refl
      by_order Equal is rest = let here : cond (is_eq Equal) (Some e.1) (value_at cmp es k) ≡ None = ap (λ (x : Ordering). cond (is_eq x) (Some e.1) (value_at cmp es k)) (sym is) ∙ absent in cc here
      by_order Greater is rest =
          let later : value_at cmp es k ≡ None = ap (λ (x : Ordering). cond (is_eq x) (Some e.1) (value_at cmp es k)) (sym is) ∙ absent in
          by_tests (is_at (cmp n) e.0) (is_at (cmp n) k) refl refl is (rest later)

  -- and in a map where the key is absent
  pub value_added : (es : List (K × V)) → value_at cmp es k ≡ None → value_at cmp (with_absent cmp es k v) n ≡ cond (is_at (cmp n) k) (Some v) (value_at cmp es n)
  value_added es absent = by_found (value_at cmp es k) absent
    where
      by_found : (found : Option V) → found ≡ None → value_at cmp (option_map_or (λ _. es) found (insert_entry cmp es k v)) n ≡ cond (is_at (cmp n) k) (Some v) (value_at cmp es n)
      by_found None is = value_inserted es absent
      by_found (Some x) is = cc is

-- the names are in a total order
name_total : IsTotalOrder name_order
name_total = total-law

-- the same texts find the same value
pub found_alike : {V : Type 0} (a b : PathName) → name_of a ≡ name_of b → (es : List (PathName × V)) → value_at name_order es a ≡ value_at name_order es b
found_alike a b is [] = refl
found_alike a b is (e ∷ es) = rw (alike_left a b e.0 is, found_alike a b is es) refl

module _ {R : Type 0} (test : Test R) (mapping : Mapping) (name : PathName) (old : DispatchAnswers R) where
  -- an answer is kept already
  pub asked_before : (answer : Option R) → kept_for old name ≡ Some answer → Asks test mapping name (Ok tt) old old
  asked_before answer is = record { kept = (answer, is); keeps = λ n a kept. kept; adds = λ n a kept. inl kept; refused = tt; refusal = tt; err = tt }

  module _ (key : PathName) (given : Option R) (same : name_of key ≡ name_of name) (absent : kept_for old name ≡ None) where
    absent_key : value_at name_order old key ≡ None
    absent_key = found_alike key name same old ∙ absent

    added_at : (n : PathName) → kept_for (with_absent name_order old key given) n ≡ cond (is_at (name_order n) key) (Some given) (kept_for old n)
    added_at n = value_added name_total key given n old absent_key

    is_here : is_at (name_order key) key ≡ true
    is_here = (eq_by_cmp_equiv name_total).refl key

    keeps_by : (b : Bool) (n : PathName) (answer : Option R) → is_at (name_order n) key ≡ b → kept_for old n ≡ Some answer → cond b (Some given) (kept_for old n) ≡ Some answer
    keeps_by false n answer at kept = kept
    keeps_by true n answer at kept =
        let alike : kept_for old n ≡ None = found_equal n old at ∙ absent_key in cc (sym alike ∙ kept)
      where
        found_equal : (n : PathName) (es : DispatchAnswers R) → is_at (name_order n) key ≡ true → value_at name_order es n ≡ value_at name_order es key
        found_equal n [] at = refl
        found_equal n (e ∷ es) at = rw ((eq_by_cmp_equiv name_total).congr n key e.0 at, found_equal n es at) refl

    adds_by : (b : Bool) (n : PathName) (answer : Option R) → is_at (name_order n) key ≡ b → cond b (Some given) (kept_for old n) ≡ Some answer → test (as_member mapping (name_of name)) (Ok given) →
        (kept_for old n ≡ Some answer) ⊎ ((is_at (name_order n) name ≡ true) × test (as_member mapping (name_of name)) (Ok answer))
    adds_by false n answer at kept allowed = inl kept
    adds_by true n answer at kept allowed =
        let equiv = eq_by_cmp_equiv name_total in
        let given_is : given ≡ answer = cc kept in
        inr (equiv.symm n name ∙ ap is_eq (alike_left name key n (sym same)) ∙ equiv.symm key n ∙ at, subst (λ (a : Option R). test (as_member mapping (name_of name)) (Ok a)) given_is allowed)

    -- the dispatcher's answer is kept
    pub asked_now : test (as_member mapping (name_of name)) (Ok given) → Asks test mapping name (Ok tt) old (with_absent name_order old key given)
    asked_now allowed = record {
      kept = (given, found_alike name key (sym same) (with_absent name_order old key given) ∙ added_at key ∙ ap (λ (b : Bool). cond b (Some given) (kept_for old key)) is_here);
      keeps = λ n a kept. added_at n ∙ keeps_by (is_at (name_order n) key) n a refl kept;
      adds = λ n a kept. adds_by (is_at (name_order n) key) n a refl (sym (added_at n) ∙ kept) allowed;
      refused = tt;
      refusal = tt;
      err = tt;
    }
