-- The keys of PUBLIC records in order, without those that start where the key before does,
-- are those of the first record at each address.
use Rattle.std.proofs.Common.{◌≡◌, ◌⊎◌, inl, inr, ℕ, zero, suc, ◌+◌, ◌<◌, ◌≤◌, ◌==◌, Bool, true, false, cond, nat_eq, get_or, List, [], ◌∷◌, ◌++◌, drop, length, map, option_map, Option, Some, None, Result, Ok, Err, refl, sym, ap, subst, ◌∙◌, arith, append_assoc}
use Rattle.std.specs.Prelude.{IfOk, if◌then◌else◌}
use Rattle.std.specs.List.{AllByRecursion, dedup, dedup_from, slice_get, slice_index}
use Rattle.std.proofs.lemmas.Bool.{cases_lt, eqb-true, eq-eqb, true≢false}
use Rattle.std.proofs.lemmas.Option.{get_or_from_slice_get, none-some, same_Some, slice_get-get_or, slice_get-map}
use Rattle.std.proofs.lemmas.List.{append-nil, drop_all, length-map}
use Rattle.bz_base.specs.Nearest.{IsTable}
use Rattle.bz_base.specs.Starts.{NeverDescends}
use Rattle.bz_base.proofs.TableLemmas.{in_table}
use Rattle.bz_breakpad_lines.specs.LineStarts.{StrictlyAscends}
use Rattle.bz_breakpad_table.specs.Publics.{AreAddresses, ArePublicKeys, IsFirst, IsPublicTable, public_keys_from, starts_kept}
use Rattle.bz_breakpad_table.specs.declared.publics.PublicKey.{PublicKey}
use Rattle.bz_breakpad_table.specs.declared.publics.PublicTable.{PublicTable}
use Rattle.bz_breakpad_table.specs.declared.types.KeptPublic.{KeptPublic}
use Rattle.bz_base.proofs.InTableLemmas.{all_in_table}

-- the start is that of the key before
abbrev pub is_last : Option ℕ → ℕ → Bool
is_last None start = false
is_last (Some last) start = start == last

-- the keys without those that start where the key before does
abbrev pub firsts_after : Option ℕ → List PublicKey → List PublicKey
firsts_after last [] = []
firsts_after last (k ∷ keys) = if is_last last k.start then firsts_after last keys else k ∷ firsts_after (Some k.start) keys

-- Keys in order.

-- two keys in order
record IsUpTo (j k : PublicKey) : Type 0 where
  pub starts : j.start ≤ k.start
  pub indices : j.start ≡ k.start → j.index ≤ k.index

abbrev AreUp : List PublicKey → Type 0
AreUp [] = Unit {0}
AreUp (k ∷ keys) = AllByRecursion (IsUpTo k) keys × AreUp keys

up_all : (k : PublicKey) (keys : List PublicKey) → ((i : ℕ) (l : PublicKey) → slice_get keys i ≡ Some l → IsUpTo k l) → AllByRecursion (IsUpTo k) keys
up_all k [] at = tt
up_all k (l ∷ keys) at = (at 0 l refl, up_all k keys (λ i m there. at (suc i) m there))

up_from : (keys : List PublicKey) → ((i j : ℕ) (k l : PublicKey) → i ≤ j → slice_get keys i ≡ Some k → slice_get keys j ≡ Some l → IsUpTo k l) → AreUp keys
up_from [] at = tt
up_from (k ∷ keys) at = (up_all k keys (λ i l there. at 0 (suc i) k l (omega arith) refl there), up_from keys (λ i j l m less at_l at_m. at (suc i) (suc j) l m (omega arith) at_l at_m))

-- Those that stay.

-- a key doesn't stay where it starts like the one that stayed
abbrev pub starts_alike : PublicKey → PublicKey → Bool
starts_alike next kept = next.start == kept.start

firsts_from : (k : PublicKey) (keys : List PublicKey) → dedup_from starts_alike k keys ≡ k ∷ firsts_after (Some k.start) keys
firsts_from k [] = refl
firsts_from k (l ∷ keys) = by (l.start == k.start) (firsts_from k keys) (firsts_from l keys) where
  by : (b : Bool) → dedup_from starts_alike k keys ≡ k ∷ firsts_after (Some k.start) keys → dedup_from starts_alike l keys ≡ l ∷ firsts_after (Some l.start) keys →
      cond b (dedup_from starts_alike k keys) (k ∷ dedup_from starts_alike l keys) ≡ k ∷ cond b (firsts_after (Some k.start) keys) (l ∷ firsts_after (Some l.start) keys)
  by true skipped later = skipped
  by false skipped later = ap (λ more. k ∷ more) later

firsts_are : (keys : List PublicKey) → dedup starts_alike keys ≡ firsts_after None keys
firsts_are [] = refl
firsts_are (k ∷ keys) = firsts_from k keys

-- all start from the last one on
abbrev AreFrom : Option ℕ → List PublicKey → Type 0
AreFrom None keys = Unit {0}
AreFrom (Some last) keys = AllByRecursion (λ k. last ≤ k.start) keys

-- all start above the last one
abbrev IsAbove : Option ℕ → PublicKey → Type 0
IsAbove None k = Unit {0}
IsAbove (Some last) k = last < k.start

from_first : (k : PublicKey) (keys : List PublicKey) → AllByRecursion (IsUpTo k) keys → AllByRecursion (λ l. k.start ≤ l.start) keys
from_first k [] up = tt
from_first k (l ∷ keys) up = (up.0.starts, from_first k keys up.1)

from_rest : (last : Option ℕ) (k : PublicKey) (keys : List PublicKey) → AreFrom last (k ∷ keys) → AreFrom last keys
from_rest None k keys from = tt
from_rest (Some last) k keys from = from.1

-- a start that isn't the last is above it
above_last : (last : Option ℕ) (k : PublicKey) (keys : List PublicKey) → AreFrom last (k ∷ keys) → is_last last k.start ≡ false → IsAbove last k
above_last None k keys from isnt = tt
above_last (Some last) k keys from isnt = by (nat_eq k.start last) refl where
  by : (b : Bool) → nat_eq k.start last ≡ b → last < k.start
  by true is = absurd (true≢false (sym is ∙ isnt))
  by false is = other (λ (same : last ≡ k.start). true≢false (sym (eq-eqb k.start last (sym same)) ∙ is)) where
    other : (last ≡ k.start → ⊥) → last < k.start
    other apart = omega (arith, from.0)

weaker : {X : Type 0} → (P Q : X → Type 0) → ((x : X) → P x → Q x) → (xs : List X) → AllByRecursion P xs → AllByRecursion Q xs
weaker P Q step [] all = tt
weaker P Q step (x ∷ xs) all = (step x all.0, weaker P Q step xs all.1)

above_less : (last : Option ℕ) (k : PublicKey) → IsAbove last k → (l : PublicKey) → k.start < l.start → IsAbove last l
above_less None k above l less = tt
above_less (Some last) k above l less = omega arith

firsts_above : (last : Option ℕ) (keys : List PublicKey) → AreUp keys → AreFrom last keys → AllByRecursion (IsAbove last) (firsts_after last keys)
firsts_above last [] up from = tt
firsts_above last (k ∷ keys) up from = by (is_last last k.start) refl (firsts_above last keys up.1 (from_rest last k keys from)) (firsts_above (Some k.start) keys up.1 (from_first k keys up.0)) where
  by : (b : Bool) → is_last last k.start ≡ b → AllByRecursion (IsAbove last) (firsts_after last keys) → AllByRecursion (λ l. k.start < l.start) (firsts_after (Some k.start) keys) →
      AllByRecursion (IsAbove last) (cond b (firsts_after last keys) (k ∷ firsts_after (Some k.start) keys))
  by true is skipped later = skipped
  by false is skipped later =
      let above = above_last last k keys from is in
      (above, weaker (λ (l : PublicKey). k.start < l.start) (IsAbove last) (λ l less. above_less last k above l less) (firsts_after (Some k.start) keys) later)

-- each of them starts above those before
abbrev AreStrict : List PublicKey → Type 0
AreStrict [] = Unit {0}
AreStrict (k ∷ keys) = AllByRecursion (λ l. k.start < l.start) keys × AreStrict keys

firsts_strict : (last : Option ℕ) (keys : List PublicKey) → AreUp keys → AreFrom last keys → AreStrict (firsts_after last keys)
firsts_strict last [] up from = tt
firsts_strict last (k ∷ keys) up from = by (is_last last k.start) (firsts_strict last keys up.1 (from_rest last k keys from)) (firsts_strict (Some k.start) keys up.1 (from_first k keys up.0)) where
  by : (b : Bool) → AreStrict (firsts_after last keys) → AreStrict (firsts_after (Some k.start) keys) → AreStrict (cond b (firsts_after last keys) (k ∷ firsts_after (Some k.start) keys))
  by true skipped later = skipped
  by false skipped later = (firsts_above (Some k.start) keys up.1 (from_first k keys up.0), later)

-- what holds of all keys holds of them
firsts_all : (P : PublicKey → Type 0) (last : Option ℕ) (keys : List PublicKey) → AllByRecursion P keys → AllByRecursion P (firsts_after last keys)
firsts_all P last [] all = tt
firsts_all P last (k ∷ keys) all = by (is_last last k.start) (firsts_all P last keys all.1) (firsts_all P (Some k.start) keys all.1) where
  by : (b : Bool) → AllByRecursion P (firsts_after last keys) → AllByRecursion P (firsts_after (Some k.start) keys) → AllByRecursion P (cond b (firsts_after last keys) (k ∷ firsts_after (Some k.start) keys))
  by true skipped later = skipped
  by false skipped later = (all.0, later)

-- of the keys with its start it has the least index
abbrev IsLeast : List PublicKey → PublicKey → Type 0
IsLeast keys k = AllByRecursion (λ l. l.start ≡ k.start → k.index ≤ l.index) keys

least_skipped : (last : ℕ) (k : PublicKey) (keys firsts : List PublicKey) → last ≡ k.start → AllByRecursion (IsAbove (Some last)) firsts → AllByRecursion (IsLeast keys) firsts →
    AllByRecursion (IsLeast (k ∷ keys)) firsts
least_skipped last k keys [] is above all = tt
least_skipped last k keys (f ∷ firsts) is above all =
    ((λ same. absurd (omega (arith, above.0, same, is)), all.0), least_skipped last k keys firsts is above.1 all.1)

least_first : (k : PublicKey) (keys : List PublicKey) → AllByRecursion (IsUpTo k) keys → IsLeast keys k
least_first k [] up = tt
least_first k (l ∷ keys) up = ((λ same. up.0.indices (sym same)), least_first k keys up.1)

firsts_least : (last : Option ℕ) (keys : List PublicKey) → AreUp keys → AreFrom last keys → AllByRecursion (IsLeast keys) (firsts_after last keys)
firsts_least last [] up from = tt
firsts_least last (k ∷ keys) up from =
    by (is_last last k.start) refl (firsts_least last keys up.1 (from_rest last k keys from)) (firsts_least (Some k.start) keys up.1 (from_first k keys up.0)) where
      skip : (last : Option ℕ) → is_last last k.start ≡ true → AllByRecursion (IsAbove last) (firsts_after last keys) → AllByRecursion (IsLeast keys) (firsts_after last keys) →
          AllByRecursion (IsLeast (k ∷ keys)) (firsts_after last keys)
      skip None is above all = absurd (true≢false (sym is))
      skip (Some at) is above all = least_skipped at k keys (firsts_after (Some at) keys) (sym (eqb-true k.start at is)) above all

      by : (b : Bool) → is_last last k.start ≡ b → AllByRecursion (IsLeast keys) (firsts_after last keys) → AllByRecursion (IsLeast keys) (firsts_after (Some k.start) keys) →
          AllByRecursion (IsLeast (k ∷ keys)) (cond b (firsts_after last keys) (k ∷ firsts_after (Some k.start) keys))
      by true is skipped later = skip last is (firsts_above last keys up.1 (from_rest last k keys from)) skipped
      by false is skipped later = (
        ((λ same. omega arith), least_first k keys up.0),
        least_skipped k.start k keys (firsts_after (Some k.start) keys) refl (firsts_above (Some k.start) keys up.1 (from_first k keys up.0)) later,
      )

-- one of them has the start
abbrev HasStart : List PublicKey → ℕ → Type 0
HasStart firsts s = (i : ℕ) × (slice_get (map (λ k. k.start) firsts) i ≡ Some s)

firsts_have : (last : Option ℕ) (keys : List PublicKey) → AllByRecursion (λ k. (last ≡ Some k.start) ⊎ HasStart (firsts_after last keys) k.start) keys
firsts_have last [] = tt
firsts_have last (k ∷ keys) = by (is_last last k.start) refl (firsts_have last keys) (firsts_have (Some k.start) keys) where
  is_it : (last : Option ℕ) → is_last last k.start ≡ true → last ≡ Some k.start
  is_it None is = absurd (true≢false (sym is))
  is_it (Some at) is = ap Some (sym (eqb-true k.start at is))

  by : (b : Bool) → is_last last k.start ≡ b → AllByRecursion (λ l. (last ≡ Some l.start) ⊎ HasStart (firsts_after last keys) l.start) keys →
      AllByRecursion (λ l. (Some k.start ≡ Some l.start) ⊎ HasStart (firsts_after (Some k.start) keys) l.start) keys →
      AllByRecursion (λ l. (last ≡ Some l.start) ⊎ HasStart (cond b (firsts_after last keys) (k ∷ firsts_after (Some k.start) keys)) l.start) (k ∷ keys)
  by true is skipped later = (inl (is_it last is), skipped)
  by false is skipped later = (
    inr (0, refl),
    weaker (λ (l : PublicKey). (Some k.start ≡ Some l.start) ⊎ HasStart (firsts_after (Some k.start) keys) l.start) (λ l. (last ≡ Some l.start) ⊎ HasStart (k ∷ firsts_after (Some k.start) keys) l.start)
        (λ l one. elim one [ inl same ↦ inr (0, same) | inr at ↦ inr (suc at.0, at.1) ]) keys later,
  )

-- Places in lists.

pub all_at : {X : Type 0} → (P : X → Type 0) → (xs : List X) (i : ℕ) (x : X) → slice_get xs i ≡ Some x → AllByRecursion P xs → P x
all_at P [] i x there all = absurd (none-some x there)
all_at P (y ∷ xs) zero x there all = subst P (same_Some y x there) all.0
all_at P (y ∷ xs) (suc i) x there all = all_at P xs i x there all.1

some_of : {A B : Type 0} (f : A → B) (o : Option A) (y : B) → option_map f o ≡ Some y → (x : A) × (o ≡ Some x) × (f x ≡ y)
some_of f None y is = absurd (none-some y is)
some_of f (Some x) y is = (x, refl, same_Some (f x) y is)

strict_ascends : (keys : List PublicKey) → AreStrict keys → StrictlyAscends (map (λ k. k.start) keys)
strict_ascends [] strict i j less within = absurd (omega arith)
strict_ascends (k ∷ keys) strict i zero less within = absurd (omega arith)
strict_ascends (k ∷ keys) strict zero (suc j) less within = later keys strict.0 j (omega arith) where
  later : (ls : List PublicKey) → AllByRecursion (λ l. k.start < l.start) ls → (j : ℕ) → j < length (map (λ (l : PublicKey). l.start) ls) → k.start < slice_index (map (λ (l : PublicKey). l.start) ls) j
  later [] all j within = absurd (omega arith)
  later (l ∷ ls) all zero within = all.0
  later (l ∷ ls) all (suc j) within = later ls all.1 j (omega arith)
strict_ascends (k ∷ keys) strict (suc i) (suc j) less within = strict_ascends keys strict.1 i j (omega arith) (omega arith)

pub ascends_never : (starts : List ℕ) → StrictlyAscends starts → NeverDescends starts
ascends_never starts up i j less within = by (nat_eq i j) refl where
  by : (b : Bool) → nat_eq i j ≡ b → slice_index starts i ≤ slice_index starts j
  by true is = let e = ap (slice_index starts) (eqb-true i j is) in omega arith
  by false is = other (λ (same : i ≡ j). true≢false (sym (eq-eqb i j same) ∙ is)) where
    other : (i ≡ j → ⊥) → slice_index starts i ≤ slice_index starts j
    other apart = let less : slice_index starts i < slice_index starts j = up i j (omega arith) within in omega arith

-- The keys of all records.

-- each has its start at its index
keys_there : (before starts : List ℕ) → AllByRecursion (λ (k : PublicKey). slice_get (before ++ starts) k.index ≡ Some k.start) (public_keys_from (length before) starts)
keys_there before [] = tt
keys_there before (s ∷ starts) = (here before, rest (keys_there (before ++ s ∷ []) starts)) where
  here : (xs : List ℕ) → slice_get (xs ++ s ∷ starts) (length xs) ≡ Some s
  here [] = refl
  here (x ∷ xs) = here xs

  one_more : (xs : List ℕ) → length (xs ++ s ∷ []) ≡ suc (length xs)
  one_more [] = refl
  one_more (x ∷ xs) = ap suc (one_more xs)

  rest : AllByRecursion (λ (k : PublicKey). slice_get ((before ++ s ∷ []) ++ starts) k.index ≡ Some k.start) (public_keys_from (length (before ++ s ∷ [])) starts) →
      AllByRecursion (λ (k : PublicKey). slice_get (before ++ s ∷ starts) k.index ≡ Some k.start) (public_keys_from (suc (length before)) starts)
  rest all =
      let P : List ℕ → Type 0 = λ xs. AllByRecursion (λ (k : PublicKey). slice_get xs k.index ≡ Some k.start) (public_keys_from (suc (length before)) starts) in
      let Q : ℕ → Type 0 = λ n. AllByRecursion (λ (k : PublicKey). slice_get ((before ++ s ∷ []) ++ starts) k.index ≡ Some k.start) (public_keys_from n starts) in
      subst P (append_assoc before (s ∷ []) starts) (subst Q (one_more before) all)

-- and a start has its key
key_there : (first : ℕ) (starts : List ℕ) (i s : ℕ) → slice_get starts i ≡ Some s → slice_get (public_keys_from first starts) i ≡ Some (record { start = s; index = first + i })
key_there first [] i s there = absurd (none-some s there)
key_there first (t ∷ starts) zero s there =
    ap (λ u. Some (record { start = u; index = first })) (same_Some t s there) ∙ ap (λ n. Some (record { start = s; index = n })) (omega arith)
key_there first (t ∷ starts) (suc i) s there = key_there (suc first) starts i s there ∙ ap (λ n. Some (record { start = s; index = n })) (omega arith)

-- Together.

first_keys_are : (starts : List ℕ) (sorted : List PublicKey) → IsTable (λ k. k.start) (λ k. k.index) (public_keys_from 0 starts) sorted →
    ArePublicKeys starts (firsts_after None sorted)
first_keys_are starts sorted is =
    let up = up_from sorted (λ i j k l less at_k at_l. record { starts = is.starts_ascend i j k l less at_k at_l; indices = is.sizes_ascend i j k l less at_k at_l }) in
    let firsts = firsts_after None sorted in
    let there = firsts_all (λ k. slice_get starts k.index ≡ Some k.start) None sorted
    (all_in_table (λ k. slice_get starts k.index ≡ Some k.start) (λ (k : PublicKey). k.start) (λ k. k.index) (public_keys_from 0 starts) sorted is (keys_there [] starts)) in
    let like = λ (i s : ℕ) (at : slice_get starts i ≡ Some s). in_table (λ (k : PublicKey). k.start) (λ k. k.index) (public_keys_from 0 starts) sorted is i (record { start = s; index = 0 + i }) (key_there 0 starts i s at) in
    record {
      addresses = record {
        ascend = strict_ascends firsts (firsts_strict None sorted up tt);
        each = λ i s at.
            let l = like i s at in
            let have : (None ≡ Some l.like.start) ⊎ HasStart firsts l.like.start = all_at (λ (k : PublicKey). (None ≡ Some k.start) ⊎ HasStart firsts k.start) sorted l.place l.like l.there (firsts_have None sorted) in
            elim have [
              | inl never ↦ absurd (none-some l.like.start never)
              | inr one ↦ (one.0, one.1 ∙ ap Some l.start_is)
            ];
        only = λ k s at.
            let key = some_of (λ (k : PublicKey). k.start) (slice_get firsts k) s (sym (slice_get-map (λ (k : PublicKey). k.start) firsts k) ∙ at) in
            (key.0.index, all_at (λ (k : PublicKey). slice_get starts k.index ≡ Some k.start) firsts k key.0 key.1 there ∙ ap Some key.2);
      };
      firsts = λ k key at. record {
        there = all_at (λ (k : PublicKey). slice_get starts k.index ≡ Some k.start) firsts k key at there;
        first = λ i start.
            let l = like i key.start start in
            let least : IsLeast sorted key = all_at (IsLeast sorted) firsts k key at (firsts_least None sorted up tt) in
            let no_more : key.index ≤ l.like.index = all_at (λ (m : PublicKey). m.start ≡ key.start → key.index ≤ m.index) sorted l.place l.like l.there least l.start_is in
            omega (arith, l.size_is);
      };
    }

-- keys of starts that never descend are in order
key_of : (first : ℕ) (starts : List ℕ) (i : ℕ) (k : PublicKey) → slice_get (public_keys_from first starts) i ≡ Some k →
    (i < length starts) × (k.start ≡ slice_index starts i) × (k.index ≡ first + i)
key_of first [] i k there = absurd (none-some k there)
key_of first (s ∷ starts) zero k there =
    let same = same_Some (record { start = s; index = first }) k there in
    (omega arith, sym (ap (λ (k : PublicKey). k.start) same), sym (ap (λ (k : PublicKey). k.index) same) ∙ omega arith)
key_of first (s ∷ starts) (suc i) k there =
    let later = key_of (suc first) starts i k there in
    (omega (arith, later.0), later.1, later.2 ∙ omega arith)

keys_in_order : (starts : List ℕ) → NeverDescends starts → IsTable (λ k. k.start) (λ k. k.index) (public_keys_from 0 starts) (public_keys_from 0 starts)
keys_in_order starts never = record {
  starts_ascend = λ i j k l less at_k at_l.
      let one = key_of 0 starts i k at_k in
      let other = key_of 0 starts j l at_l in
      let up : slice_index starts i ≤ slice_index starts j = never i j less other.0 in
      omega (arith, one.1, other.1);
  sizes_ascend = λ i j k l less at_k at_l same. omega (arith, (key_of 0 starts i k at_k).2, (key_of 0 starts j l at_l).2);
  alike = λ at length. refl;
}

-- and are those of the first record at each address without any sort
pub keys_are_in_order : (starts : List ℕ) → NeverDescends starts → ArePublicKeys starts (firsts_after None (public_keys_from 0 starts))
keys_are_in_order starts never = first_keys_are starts (public_keys_from 0 starts) (keys_in_order starts never)

pub public_keys_are : (starts : List ℕ) (sorted : List PublicKey) → IsTable (λ k. k.start) (λ k. k.index) (public_keys_from 0 starts) sorted →
    ArePublicKeys starts (dedup starts_alike sorted)
public_keys_are starts sorted is = subst (ArePublicKeys starts) (sym (firsts_are sorted)) (first_keys_are starts sorted is)

-- The table of the keys.

pub public_table_is : (publics : List KeptPublic) (keys : List PublicKey) (table : PublicTable) → ArePublicKeys (starts_kept publics) keys →
    table.indices.items ≡ map (λ k. k.index) keys → table.starts ≡ map (λ k. k.start) keys → IsPublicTable publics table
public_table_is publics keys table are indices starts = record {
  addresses = subst (AreAddresses (starts_kept publics)) (sym starts) are.addresses;
  count = omega (arith, ap length indices, ap length starts, length-map keys (λ (k : PublicKey). k.index), length-map keys (λ (k : PublicKey). k.start));
  firsts = λ k start index at_start at_index.
      let start_of = some_of (λ (k : PublicKey). k.start) (slice_get keys k) start (sym (slice_get-map (λ (k : PublicKey). k.start) keys k) ∙ sym (ap (λ ss. slice_get ss k) starts) ∙ at_start) in
      let index_of = some_of (λ (k : PublicKey). k.index) (slice_get keys k) index (sym (slice_get-map (λ (k : PublicKey). k.index) keys k) ∙ sym (ap (λ is. slice_get is k) indices) ∙ at_index) in
      let same : start_of.0 ≡ index_of.0 = same_Some start_of.0 index_of.0 (sym start_of.1 ∙ index_of.1) in
      let first : IsFirst (starts_kept publics) start_of.0.start start_of.0.index = are.firsts k start_of.0 start_of.1 in
      subst (λ i. IsFirst (starts_kept publics) start i) (ap (λ (k : PublicKey). k.index) same ∙ index_of.2) (subst (λ s. IsFirst (starts_kept publics) s start_of.0.index) start_of.2 first);
}

pub if_table_is : {E : Type 0} (publics : List KeptPublic) (keys : List PublicKey) (result : Result PublicTable E) → ArePublicKeys (starts_kept publics) keys →
    IfOk result (λ table. table.indices.items ≡ map (λ k. k.index) keys) → IfOk result (λ table. table.starts ≡ map (λ k. k.start) keys) → IfOk result (IsPublicTable publics)
if_table_is publics keys (Ok table) are indices starts = public_table_is publics keys table are indices starts
if_table_is publics keys (Err e) are indices starts = tt

-- Starts that are seen to never descend, one by one.

-- the start of the record at an index
pub start_read : (publics : List KeptPublic) (i : ℕ) (d : KeptPublic) → i < length publics → slice_index (starts_kept publics) i ≡ (get_or publics i d).start
start_read publics i d within =
    get_or_from_slice_get (starts_kept publics) i (get_or publics i d).start 0
    (slice_get-map (λ (q : KeptPublic). q.start) publics i ∙ ap (option_map (λ (q : KeptPublic). q.start)) (slice_get-get_or publics i d within))

module _ (starts : List ℕ) (i last : ℕ) (below : (k : ℕ) → k < i → slice_index starts k ≤ last) (from : last ≤ slice_index starts i) where
  pub below_more : (k : ℕ) → k < i + 1 → slice_index starts k ≤ slice_index starts i
  below_more k less = elim (cases_lt k i) [
    | inl lower ↦ omega (arith, below k lower)
    | inr not_lower ↦ let same : k ≡ i = omega arith in omega (arith, ap (slice_index starts) same)
  ]

  pub up_more : ((j k : ℕ) → j ≤ k → k < i → slice_index starts j ≤ slice_index starts k) → (j k : ℕ) → j ≤ k → k < i + 1 → slice_index starts j ≤ slice_index starts k
  up_more up j k less within = elim (cases_lt k i) [
    | inl lower ↦ up j k less lower
    | inr not_lower ↦ let same : k ≡ i = omega arith in omega (arith, below_more j (omega arith), ap (slice_index starts) same)
  ]

-- what a table in order has of each key, once every record has been looked at
pub whole_is : (view : PublicKey → ℕ) (publics : List KeptPublic) (kept : List ℕ) (index : ℕ) (last : Option ℕ) → length publics ≤ index →
    kept ++ map view (firsts_after last (public_keys_from index (starts_kept (drop index publics)))) ≡ map view (firsts_after None (public_keys_from 0 (starts_kept publics))) →
    kept ≡ map view (firsts_after None (public_keys_from 0 (starts_kept publics)))
whole_is view publics kept index last past are =
    let none = drop_all index publics past in
    sym (append-nil kept)
    ∙ sym (ap (λ (ps : List KeptPublic). kept ++ map view (firsts_after last (public_keys_from index (starts_kept ps)))) none)
    ∙ are

-- the starts of a table in order, once every record has been looked at
pub whole_starts_never : (publics : List KeptPublic) (starts : List ℕ) (index : ℕ) (last : Option ℕ) → NeverDescends (starts_kept publics) → length publics ≤ index →
    starts ++ map (λ k. k.start) (firsts_after last (public_keys_from index (starts_kept (drop index publics)))) ≡ map (λ k. k.start) (firsts_after None (public_keys_from 0 (starts_kept publics))) →
    NeverDescends starts
whole_starts_never publics starts index last never past are =
    subst NeverDescends (sym (whole_is (λ k. k.start) publics starts index last past are))
    (ascends_never (map (λ (k : PublicKey). k.start) (firsts_after None (public_keys_from 0 (starts_kept publics)))) (keys_are_in_order (starts_kept publics) never).addresses.ascend)
