-- What is kept of a file as it is read: one record more leaves what was kept before.
use Rattle.std.proofs.Common.{◌≡◌, ℕ, zero, suc, ◌-◌, ◌<◌, ◌≤◌, Bool, true, false, cond, List, [], ◌∷◌, ◌++◌, length, drop, map, get_or, Some, refl, ap, ap₂, subst, ◌∙◌, arith, length-drop, Option}
use Rattle.std.specs.BTreeMap.{insert_entry}
use Rattle.std.specs.List.{AllByRecursion, slice_range}
use Rattle.std.specs.Map.{lookup, values_of}
use Rattle.std.proofs.Math.Seq.{drop-append_seam}
use Rattle.std.proofs.lemmas.List.{take-append-le, drop-append-le, take_rest}
use Rattle.std.specs.Ordering.{nat_cmp}
use Rattle.std.specs.declared.cmp.Ordering.{Ordering}
use Rattle.std.specs.declared.cmp.Ordering.TheVariants.{Less, Equal, Greater}
use Rattle.bz_breakpad_table.specs.Kept.{FunctionsSoFar, IsNameAt, IsPart, IsSoFar, IsTextAt, NamesSoFar, text_at}
use Rattle.bz_breakpad_lines.specs.Names.{with_name}
use Rattle.bz_breakpad_lines.specs.Reader.{Reading}
use Rattle.bz_breakpad_lines.specs.Table.{Function}
use Rattle.bz_breakpad_table.specs.declared.functions.FunctionsReading.{FunctionsReading}
use Rattle.bz_breakpad_table.specs.declared.reading.KeptReading.{KeptReading}
use Rattle.bz_breakpad_table.specs.declared.types.Part.{Part}

-- what holds of each of two lists holds of each of both side by side
pub all_beside : {A : Type 0} (P : A → Type 0) (xs ys : List A) → AllByRecursion P xs → AllByRecursion P ys → AllByRecursion P (xs ++ ys)
all_beside P [] ys all others = others
all_beside P (x ∷ xs) ys all others = (all.0, all_beside P xs ys all.1 others)

-- what holds of each still holds, where the one follows from the other
pub all_weaker : {A : Type 0} (P Q : A → Type 0) → ((x : A) → P x → Q x) → (xs : List A) → AllByRecursion P xs → AllByRecursion Q xs
all_weaker P Q then [] all = tt
all_weaker P Q then (x ∷ xs) all = (then x all.0, all_weaker P Q then xs all.1)

-- what holds of all of two lists side by side holds of each of them
pub all_parts : {A : Type 0} (P : A → Type 0) (xs ys : List A) → AllByRecursion P (xs ++ ys) → AllByRecursion P xs × AllByRecursion P ys
all_parts P [] ys all = (tt, all)
all_parts P (x ∷ xs) ys all = let rest = all_parts P xs ys all.1 in ((all.0, rest.0), rest.1)

-- what holds of all holds of the one at an index
pub all_get : {A : Type 0} (P : A → Type 0) (xs : List A) (i : ℕ) (d : A) → AllByRecursion P xs → i < length xs → P (get_or xs i d)
all_get P [] i d all within = absurd (omega (arith, within))
all_get P (x ∷ xs) zero d all within = all.0
all_get P (x ∷ xs) (suc i) d all within = all_get P xs i d all.1 (omega (arith, within))

-- a part of a table is the same where more follows
pub part_more : {A : Type 0} (xs more : List A) (part : Part) → IsPart (length xs) part →
    slice_range (xs ++ more) part.from part.to ≡ slice_range xs part.from part.to
part_more xs more part is =
    let begins : part.from ≤ length xs = omega (arith, is.ordered, is.within) in
    let few : part.to - part.from ≤ length (drop part.from xs) = omega (arith, length-drop part.from xs, is.within) in
    rw (drop-append-le part.from xs more begins) (take-append-le (part.to - part.from) (drop part.from xs) more few)

-- a part that ends where a list does, and begins where one before it does, is what was added
pub last_part : {A : Type 0} (xs ys whole : List A) (part : Part) → whole ≡ xs ++ ys → part.from ≡ length xs → part.to ≡ length whole → slice_range whole part.from part.to ≡ ys
last_part xs ys whole part is from to =
    ap₂ (λ a b. slice_range whole a b) from to ∙ take_rest whole (length xs) ∙ ap (drop (length xs)) is ∙ drop-append_seam xs ys

-- the names after one entry more are the names with one more
pub names_with : (bytes : List ℕ) (entries : List (ℕ × Part)) (id : ℕ) (part : Part) (name : List ℕ) → text_at bytes part ≡ name →
    map (λ (e : ℕ × Part). (e.0, text_at bytes e.1)) (insert_entry nat_cmp entries id part)
    ≡ with_name (map (λ (e : ℕ × Part). (e.0, text_at bytes e.1)) entries) (record { id = id; name = name })
names_with bytes [] id part name is = ap (λ n. (id, n) ∷ []) is
names_with bytes (e ∷ entries) id part name is = by (nat_cmp id e.0) refl (names_with bytes entries id part name is) where
  by : (order : Ordering) → nat_cmp id e.0 ≡ order →
      map (λ (e : ℕ × Part). (e.0, text_at bytes e.1)) (insert_entry nat_cmp entries id part)
      ≡ with_name (map (λ (e : ℕ × Part). (e.0, text_at bytes e.1)) entries) (record { id = id; name = name }) →
      map (λ (e : ℕ × Part). (e.0, text_at bytes e.1)) (insert_entry nat_cmp (e ∷ entries) id part)
      ≡ with_name (map (λ (e : ℕ × Part). (e.0, text_at bytes e.1)) (e ∷ entries)) (record { id = id; name = name })
  by Less order rest = rw (order, is) refl
  by Equal order rest = rw (order, is) refl
  by Greater order rest = rw order (ap (λ names. (e.0, text_at bytes e.1) ∷ names) rest)

-- and each value is one of before, or the one more
pub values_with : (P : Part → Type 0) (entries : List (ℕ × Part)) (id : ℕ) (part : Part) → AllByRecursion P (values_of entries) → P part →
    AllByRecursion P (values_of (insert_entry nat_cmp entries id part))
values_with P [] id part all one = (one, tt)
values_with P (e ∷ entries) id part all one = by (nat_cmp id e.0) refl (values_with P entries id part all.1 one) where
  by : (order : Ordering) → nat_cmp id e.0 ≡ order → AllByRecursion P (values_of (insert_entry nat_cmp entries id part)) →
      AllByRecursion P (values_of (insert_entry nat_cmp (e ∷ entries) id part))
  by Less order rest = rw order (one, all)
  by Equal order rest = rw order (one, all.1)
  by Greater order rest = rw order (all.0, rest)

-- what holds of each value holds of the one that is found
pub value_found : {K X : Type 0} (P : X → Type 0) (test : K → Bool) (entries : List (K × X)) (x : X) → AllByRecursion P (values_of entries) →
    Some x ≡ lookup test entries → P x
value_found P test [] x all is = cc
value_found P test (e ∷ entries) x all is = by (test e.0) is (value_found P test entries x all.1) where
  by : (b : Bool) → Some x ≡ cond b (Some e.1) (lookup test entries) → (Some x ≡ lookup test entries → P x) → P x
  by true same later = let here : e.1 ≡ x = cc in subst P here all.0
  by false same later = later same

-- what holds of each value holds of the value of each entry
pub each_value : {K X : Type 0} (P : X → Type 0) (entries : List (K × X)) → AllByRecursion P (values_of entries) → AllByRecursion (λ e. P e.1) entries
each_value P [] all = tt
each_value P (e ∷ entries) all = (all.0, each_value P entries all.1)

-- the names with one more
pub names_so_far : (bytes : List ℕ) (old new : List (ℕ × Part)) (id : ℕ) (part : Part) (name : List ℕ) (list : List (ℕ × List ℕ)) →
    new ≡ insert_entry nat_cmp old id part → IsNameAt bytes part name → NamesSoFar bytes old list →
    NamesSoFar bytes new (with_name list (record { id = id; name = name }))
names_so_far bytes old new id part name list inserted named so_far = record {
  are =
      ap (map (λ (e : ℕ × Part). (e.0, text_at bytes e.1))) inserted
      ∙ names_with bytes old id part name named.is
      ∙ ap (λ names. with_name names (record { id = id; name = name })) so_far.are;
  fit = rw inserted (values_with (IsTextAt bytes) old id part so_far.fit named.fits);
}

-- where nothing but functions was read, what else is kept is as before
pub with_functions : {bytes : List ℕ} {kept : KeptReading} {reading : Reading} {functions : FunctionsReading} {closed : List Function} {current : Option Function} {count : ℕ} →
    IsSoFar bytes kept reading → FunctionsSoFar bytes functions closed current →
    IsSoFar bytes (record kept { functions = functions }) (record reading { closed = closed; current = current; count = count })
with_functions so_far functions_are = record {
  module_is = so_far.module_is;
  functions = functions_are;
  files = so_far.files;
  origins = so_far.origins;
  publics = so_far.publics;
}
