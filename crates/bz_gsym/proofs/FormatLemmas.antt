-- The test of a GSYM file says what the relation says.
use Rattle.std.proofs.Common.{◌≡◌, ℕ, zero, suc, ◌<◌, ◌≤◌, nat_le, Bool, true, List, [], ◌∷◌, length, Option, Some, None, Result, Ok, Err, refl, sym, ap, subst, ◌∙◌, arith}
use Rattle.std.specs.Prelude.{◌&&◌, ◌==◌, IfOk, IfErr}
use Rattle.std.specs.List.{list_all, slice_index}
use Rattle.std.proofs.lemmas.Bool.{and_from, and_parts, eq-eqb, eqb-true, false_from_ne_true, le-leb, leb-true}
use Rattle.bz_base.specs.Starts.{NeverDescends}
use Rattle.bz_base.specs.declared.error.Error.{Error}
use Rattle.bz_base.specs.declared.error.Error.TheVariants.{InvalidData}
use Rattle.bz_cache.specs.Format.{FailsAs, IsRefusalBy}
use Rattle.bz_files.specs.World.{Entry, Present}
use Rattle.bz_files.specs.declared.stamp.Stamp.{Stamp}
use Rattle.bz_gsym.specs.Header.{gsym_magic, gsym_version, header_of}
use Rattle.bz_gsym.specs.Resolver.{opened}
use Rattle.bz_gsym.specs.Tables.{IsGsym, files_end, is_gsym, never_descends, starts, strings_end}
use Rattle.bz_gsym.specs.Version.{format_test}

-- a number is below none of those that pass the test
above_all : (x : ℕ) (xs : List ℕ) → list_all (nat_le x) xs ≡ true → (j : ℕ) → j < length xs → x ≤ slice_index xs j
above_all x [] all j within = absurd (omega arith)
above_all x (y ∷ xs) all zero within = leb-true x y (and_parts (nat_le x y) (list_all (nat_le x) xs) all).0
above_all x (y ∷ xs) all (suc j) within = above_all x xs (and_parts (nat_le x y) (list_all (nat_le x) xs) all).1 j (omega arith)

all_above : (x : ℕ) (xs : List ℕ) → ((j : ℕ) → j < length xs → x ≤ slice_index xs j) → list_all (nat_le x) xs ≡ true
all_above x [] above = refl
all_above x (y ∷ xs) above =
    and_from (nat_le x y) (list_all (nat_le x) xs) (le-leb x y (above 0 (omega arith))) (all_above x xs (λ j within. above (suc j) (omega arith)))

never : (xs : List ℕ) → never_descends xs ≡ true → NeverDescends xs
never [] is i j order within = absurd (omega arith)
never (x ∷ xs) is zero zero order within = omega arith
never (x ∷ xs) is zero (suc j) order within = above_all x xs (and_parts (list_all (nat_le x) xs) (never_descends xs) is).0 j (omega arith)
never (x ∷ xs) is (suc i) zero order within = absurd (omega arith)
never (x ∷ xs) is (suc i) (suc j) order within = never xs (and_parts (list_all (nat_le x) xs) (never_descends xs) is).1 i j (omega arith) (omega arith)

never_test : (xs : List ℕ) → NeverDescends xs → never_descends xs ≡ true
never_test [] is = refl
never_test (x ∷ xs) is =
    and_from (list_all (nat_le x) xs) (never_descends xs) (all_above x xs (λ j within. is 0 (suc j) (omega arith) (omega arith)))
    (never_test xs (λ i j order within. is (suc i) (suc j) (omega arith) (omega arith)))

module _ (bytes : List ℕ) where
  abbrev magic : Bool
  magic = (header_of bytes).magic == gsym_magic

  abbrev version : Bool
  version = (header_of bytes).version == gsym_version

  abbrev tables : Bool
  tables = nat_le (files_end bytes) (length bytes)

  abbrev texts : Bool
  texts = nat_le (strings_end (header_of bytes)) (length bytes)

  pub passes : IsGsym bytes → is_gsym bytes ≡ true
  passes is =
      and_from (magic && version) ((tables && texts) && never_descends (starts bytes))
      (and_from magic version (eq-eqb _ _ is.magic) (eq-eqb _ _ is.version))
      (and_from (tables && texts) (never_descends (starts bytes))
      (and_from tables texts (le-leb (files_end bytes) (length bytes) is.tables) (le-leb (strings_end (header_of bytes)) (length bytes) is.strings))
      (never_test (starts bytes) is.ascend))

  pub passed : is_gsym bytes ≡ true → IsGsym bytes
  passed is =
      let both = and_parts (magic && version) ((tables && texts) && never_descends (starts bytes)) is in
      let known = and_parts magic version both.0 in
      let rest = and_parts (tables && texts) (never_descends (starts bytes)) both.1 in
      let lie = and_parts tables texts rest.0 in
      record {
        magic = eqb-true _ _ known.0;
        version = eqb-true _ _ known.1;
        tables = leb-true (files_end bytes) (length bytes) lie.0;
        strings = leb-true (strings_end (header_of bytes)) (length bytes) lie.1;
        ascend = never (starts bytes) rest.1;
      }

  -- such a file is in the format, and other bytes aren't
  pub in_format : IsGsym bytes → format_test bytes ≡ None
  in_format is = rw (passes is) refl

  pub not_in_format : ¬ (IsGsym bytes) → format_test bytes ≡ Some InvalidData
  not_in_format isnt = rw (false_from_ne_true (is_gsym bytes) (λ is. isnt (passed is))) refl

  -- what is taken by the relation passes the test, and what is refused by it doesn't
  pub taken : {A : Type 0} (r : Result A Error) → IfOk r (λ _. IsGsym bytes) → IfOk r (λ _. format_test bytes ≡ None)
  taken (Ok x) is = in_format is
  taken (Err e) is = tt

  pub refused : {A : Type 0} (r : Result A Error) → IfErr r (λ e. (e ≡ InvalidData) × ¬ (IsGsym bytes)) → IfErr r (IsRefusalBy (format_test bytes))
  refused (Ok x) is = tt
  refused (Err e) is = subst (IsRefusalBy (format_test bytes)) (sym is.0) (not_in_format is.1)

-- a file that lies there is opened where it is one, and else refused
module _ (bytes read : List ℕ) (stamp : Stamp) (there : Option Entry) (is : there ≡ Some (Present stamp bytes)) (same : read ≡ bytes) where
  pub opens : IsGsym read → opened there ≡ Ok read
  opens formed = ap opened (is ∙ ap (λ (b : List ℕ). Some (Present stamp b)) (sym same)) ∙ rw (passes read formed) refl

  pub opens_not : (e : Error) → (e ≡ InvalidData) × ¬ (IsGsym read) → FailsAs (opened there) e
  opens_not e other =
      subst (FailsAs (opened there)) (sym other.0)
      (ap opened (is ∙ ap (λ (b : List ℕ). Some (Present stamp b)) (sym same)) ∙ rw (false_from_ne_true (is_gsym read) (λ good. other.1 (passed read good))) refl)
