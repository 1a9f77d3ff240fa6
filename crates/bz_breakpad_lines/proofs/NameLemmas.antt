-- The names of records by id are those of the last records, and there are as many as ids.
use Rattle.std.proofs.Common.{◌≡◌, ℕ, ◌+◌, ◌<◌, Bool, true, false, cond, nat_eq, Ordering, Less, Equal, Greater, List, [], ◌∷◌, length, Option, Some, None, refl, sym, ap, subst, ◌∙◌, arith}
use Rattle.std.specs.BTreeMap.{insert_entry}
use Rattle.std.specs.Ordering.{is_eq, match_ordering, nat_cmp}
use Rattle.std.proofs.lemmas.Bool.{eqb-true, eq-eqb, ne_eqb, false≢true}
use Rattle.std.proofs.lemmas.Cmp.{ranked}
use Rattle.bz_breakpad_lines.specs.Names.{with_name, with_names, names_in, name_for, or_earlier, last_name, is_named, id_count, AreLastNames}
use Rattle.bz_breakpad_lines.specs.Table.{Named}

-- ids that compare alike are one
tied : (x y : ℕ) (r : Ordering) → r ≡ nat_cmp x y → is_eq r ≡ nat_eq x y
tied x y Less is = sym (ne_eqb x y (λ same. omega (arith, ranked x y Less is, same)))
tied x y Equal is = sym (eq-eqb x y (ranked x y Equal is))
tied x y Greater is = sym (ne_eqb x y (λ same. omega (arith, ranked x y Greater is, same)))

-- two ids are one, whichever stands first
same_back : (x y : ℕ) (b : Bool) → nat_eq x y ≡ b → nat_eq y x ≡ b
same_back x y true is = eq-eqb y x (sym (eqb-true x y is))
same_back x y false is = ne_eqb y x (λ same. false≢true (sym is ∙ eq-eqb x y (sym same)))

-- of two choices by one test the first counts
cond_once : {A : Type 0} (b : Bool) (x y z : A) → cond b x z ≡ cond b x (cond b y z)
cond_once true x y z = refl
cond_once false x y z = refl

-- two choices stand in either order, where not both are made
cond_swap : {A : Type 0} (b c : Bool) (x y z : A) → (b ≡ true → c ≡ true → ⊥) → cond b x (cond c y z) ≡ cond c y (cond b x z)
cond_swap true true x y z apart = absurd (apart refl refl)
cond_swap true false x y z apart = refl
cond_swap false true x y z apart = refl
cond_swap false false x y z apart = refl

-- the names with one more have its name at its id, and the others at theirs
name_with : (id k : ℕ) (v : List ℕ) (names : List (ℕ × List ℕ)) →
    name_for id (insert_entry nat_cmp names k v) ≡ cond (is_eq (nat_cmp id k)) (Some v) (name_for id names)
name_with id k v [] = refl
name_with id k v (e ∷ names) = by (nat_cmp k e.0) refl (name_with id k v names) where
  by : (r : Ordering) → r ≡ nat_cmp k e.0 →
      name_for id (insert_entry nat_cmp names k v) ≡ cond (is_eq (nat_cmp id k)) (Some v) (name_for id names) →
      name_for id (match_ordering r ((k, v) ∷ e ∷ names) ((e.0, v) ∷ names) (e ∷ insert_entry nat_cmp names k v))
      ≡ cond (is_eq (nat_cmp id k)) (Some v) (name_for id (e ∷ names))
  by Less is later = refl
  by Equal is later =
      cond_once (is_eq (nat_cmp id e.0)) (Some v) (Some e.1) (name_for id names)
      ∙ ap (λ x. cond (is_eq (nat_cmp id x)) (Some v) (name_for id (e ∷ names))) (sym (ranked k e.0 Equal is))
  by Greater is later =
      ap (cond (is_eq (nat_cmp id e.0)) (Some e.1)) later
      ∙ cond_swap (is_eq (nat_cmp id e.0)) (is_eq (nat_cmp id k)) (Some e.1) (Some v) (name_for id names) (λ at_e at_k.
      omega (
        arith,
        ranked k e.0 Greater is,
        eqb-true id e.0 (sym (tied id e.0 (nat_cmp id e.0) refl) ∙ at_e),
        eqb-true id k (sym (tied id k (nat_cmp id k) refl) ∙ at_k),
      ))

-- a name between later ones and earlier ones counts where no later one is there
later_first : (later : Option (List ℕ)) (b : Bool) (name : List ℕ) (earlier : Option (List ℕ)) →
    or_earlier later (cond b (Some name) earlier) ≡ or_earlier (or_earlier later (cond b (Some name) None)) earlier
later_first (Some x) b name earlier = refl
later_first None true name earlier = refl
later_first None false name earlier = refl

-- the name of an id is the last record's, and else the one before
name_last : (id : ℕ) (records : List Named) (names : List (ℕ × List ℕ)) →
    name_for id (with_names names records) ≡ or_earlier (last_name id records) (name_for id names)
name_last id [] names = refl
name_last id (n ∷ records) names =
    let test : is_eq (nat_cmp id n.id) ≡ nat_eq n.id id
    = tied id n.id (nat_cmp id n.id) refl ∙ sym (same_back id n.id (nat_eq id n.id) refl) in
    name_last id records (with_name names n)
    ∙ ap (or_earlier (last_name id records)) (name_with id n.id n.name names ∙ ap (λ b. cond b (Some n.name) (name_for id names)) test)
    ∙ later_first (last_name id records) (nat_eq n.id id) n.name (name_for id names)

-- a name counts where no earlier one is there
or_none : (o : Option (List ℕ)) → or_earlier o None ≡ o
or_none None = refl
or_none (Some name) = refl

-- each id is above this one
abbrev pub AllAbove : ℕ → List (ℕ × List ℕ) → Type 0
AllAbove k [] = Unit {0}
AllAbove k (e ∷ names) = (k < e.0) × AllAbove k names

-- each id is above those before
abbrev pub Ascend : List (ℕ × List ℕ) → Type 0
Ascend [] = Unit {0}
Ascend (e ∷ names) = AllAbove e.0 names × Ascend names

-- ids above one are above a lesser one
above_less : (j k : ℕ) (names : List (ℕ × List ℕ)) → j < k → AllAbove k names → AllAbove j names
above_less j k [] less above = tt
above_less j k (e ∷ names) less above = (omega arith, above_less j k names less above.1)

-- with one more above an id, all are
above_with : (j k : ℕ) (v : List ℕ) (names : List (ℕ × List ℕ)) → j < k → AllAbove j names →
    AllAbove j (insert_entry nat_cmp names k v)
above_with j k v [] less above = (less, tt)
above_with j k v (e ∷ names) less above = by (nat_cmp k e.0) (above_with j k v names less above.1) where
  by : (r : Ordering) → AllAbove j (insert_entry nat_cmp names k v) →
      AllAbove j (match_ordering r ((k, v) ∷ e ∷ names) ((e.0, v) ∷ names) (e ∷ insert_entry nat_cmp names k v))
  by Less later = (less, above)
  by Equal later = above
  by Greater later = (above.0, later)

-- with one more, the ids ascend
pub ascend_with : (k : ℕ) (v : List ℕ) (names : List (ℕ × List ℕ)) → Ascend names → Ascend (insert_entry nat_cmp names k v)
ascend_with k v [] ascend = (tt, tt)
ascend_with k v (e ∷ names) ascend = by (nat_cmp k e.0) refl (ascend_with k v names ascend.1) where
  by : (r : Ordering) → r ≡ nat_cmp k e.0 → Ascend (insert_entry nat_cmp names k v) →
      Ascend (match_ordering r ((k, v) ∷ e ∷ names) ((e.0, v) ∷ names) (e ∷ insert_entry nat_cmp names k v))
  by Less is later = ((ranked k e.0 Less is, above_less k e.0 names (ranked k e.0 Less is) ascend.0), ascend)
  by Equal is later = ascend
  by Greater is later = (above_with e.0 k v names (ranked k e.0 Greater is) ascend.0, later)

-- one, unless the records have the id
abbrev unless_named : ℕ → List Named → ℕ
unless_named id records = cond (is_named id records) 0 1

-- how many of the names have an id that the records don't have
abbrev unnamed : List Named → List (ℕ × List ℕ) → ℕ
unnamed records [] = 0
unnamed records (e ∷ names) = unless_named e.0 records + unnamed records names

-- no records have none of the ids
unnamed_all : (names : List (ℕ × List ℕ)) → unnamed [] names ≡ length names
unnamed_all [] = refl
unnamed_all (e ∷ names) = omega (arith, unnamed_all names)

-- a record has no other id than its own
other_id : (n : Named) (records : List Named) (id : ℕ) → (n.id ≡ id → ⊥) → unless_named id (n ∷ records) ≡ unless_named id records
other_id n records id other = rw (ne_eqb n.id id other) refl

-- a record has its own id
own_id : (n : Named) (records : List Named) (id : ℕ) → n.id ≡ id → unless_named id (n ∷ records) ≡ 0
own_id n records id own = rw (eq-eqb n.id id own) refl

-- a record whose id is below all of the names has none of theirs
unnamed_above : (n : Named) (records : List Named) (names : List (ℕ × List ℕ)) → AllAbove n.id names →
    unnamed (n ∷ records) names ≡ unnamed records names
unnamed_above n records [] above = refl
unnamed_above n records (e ∷ names) above =
    omega (arith, other_id n records e.0 (λ same. omega (arith, above.0, same)), unnamed_above n records names above.1)

-- one name more counts where no record has its id, in place of an earlier one of its id
unnamed_with : (n : Named) (records : List Named) (names : List (ℕ × List ℕ)) → Ascend names →
    unnamed records (with_name names n) ≡ unless_named n.id records + unnamed (n ∷ records) names
unnamed_with n records [] ascend = refl
unnamed_with n records (e ∷ names) ascend = by (nat_cmp n.id e.0) refl (unnamed_with n records names ascend.1) where
  by : (r : Ordering) → r ≡ nat_cmp n.id e.0 → unnamed records (with_name names n) ≡ unless_named n.id records + unnamed (n ∷ records) names →
      unnamed records (match_ordering r ((n.id, n.name) ∷ e ∷ names) ((e.0, n.name) ∷ names) (e ∷ with_name names n))
      ≡ unless_named n.id records + unnamed (n ∷ records) (e ∷ names)
  by Less is later =
      let less : n.id < e.0 = ranked n.id e.0 Less is in
      ap (λ k. unless_named n.id records + k) (sym (unnamed_above n records (e ∷ names) (less, above_less n.id e.0 names less ascend.0)))
  by Equal is later =
      let same : n.id ≡ e.0 = ranked n.id e.0 Equal is in
      let P : ℕ → Type 0 = λ k. AllAbove k names in
      let above = unnamed_above n records names (subst P (sym same) ascend.0) in
      let own = own_id n records e.0 same in
      let alike : unless_named n.id records ≡ unless_named e.0 records = ap (λ k. unless_named k records) same in
      omega (arith, above, own, alike)
  by Greater is later =
      let other = other_id n records e.0 (λ same. omega (arith, ranked n.id e.0 Greater is, same)) in
      omega (arith, later, other)

-- there are as many names as the records have ids, and those of other ids
count_with : (records : List Named) (names : List (ℕ × List ℕ)) → Ascend names →
    length (with_names names records) ≡ id_count records + unnamed records names
count_with [] names ascend = omega (arith, unnamed_all names)
count_with (n ∷ records) names ascend =
    omega (arith, count_with records (with_name names n) (ascend_with n.id n.name names ascend), unnamed_with n records names ascend)

-- the names by id are those of the last records
pub last_names : (records : List Named) → AreLastNames records (names_in records)
last_names records = record {
  last = λ id. name_last id records [] ∙ or_none (last_name id records);
  count = omega (arith, count_with records [] tt);
}
