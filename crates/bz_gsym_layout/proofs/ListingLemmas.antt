-- Texts and source files, each listed once: one more, and what is listed already.
use Rattle.std.proofs.Common.{◌≡◌, ℕ, zero, suc, ◌<◌, Bool, true, false, cond, List, [], ◌∷◌, ◌++◌, length, map, Some, None, refl, sym, ap, subst, ◌∙◌, arith}
use Rattle.std.specs.Prelude.{◌==◌, ◌&&◌, ◌||◌, IfOk, Result, Ok, Err}
use Rattle.std.specs.BTreeMap as btree
use Rattle.std.specs.Borrow.{Bor}
use Rattle.std.specs.HashMap.{get}
use Rattle.std.specs.Cmp.{unsigned_ties}
use Rattle.std.specs.List.{list_any, slice_get}
use Rattle.std.specs.Ordering.{is_eq, nat_cmp, ordering_then}
use Rattle.std.specs.Str.{bytes_eq}
use Rattle.std.specs.declared.cmp.Ordering.{Ordering}
use Rattle.std.specs.declared.cmp.Ordering.TheVariants.{Less, Equal, Greater}
use Rattle.std.proofs.lemmas.Bool.{and_parts, eq-eqb, eqb-true, true≢false}
use Rattle.std.proofs.lemmas.List.{length-map, map-append}
use Rattle.std.proofs.lemmas.Option.{none-some, same_Some, slice_get_within, slice_get-get_or}
use Rattle.bz_gsym_layout.specs.Indexed as indexed
use Rattle.bz_gsym_layout.specs.Indexed.{source_of, text_at}
use Rattle.bz_gsym_layout.specs.Listed.{HasIndexes, index_if, with_one}
use Rattle.bz_gsym_layout.specs.Listing.{AreTexts, HasFileIndexes, file_of, listed_texts, pair_cmp, same_file, same_text, text_of}
use Rattle.bz_gsym_layout.specs.Numbering.{index_of, same_source}
use Rattle.bz_gsym_layout.specs.Plan.{Source}
use Rattle.bz_gsym_layout.specs.declared.plan.SourceFile.{SourceFile}
use Rattle.bz_gsym_layout.specs.declared.sources.Sources.{Sources}
use Rattle.bz_gsym_layout.specs.declared.texts.Texts.{Texts}
use Rattle.bz_gsym_layout.proofs.DistinctLemmas.{Differ, firsts_differ, index_there}
use Rattle.bz_gsym_layout.proofs.ListedLemmas.{Grows, firsts_grow, firsts_last, grown_at, grown_length, indexes_more, one_known, one_new}
use Rattle.bz_gsym_layout.proofs.MemberLemmas.{any_in}
use Rattle.bz_gsym_layout.proofs.NumberingLemmas.{text_is_same, text_same}

both_tie : (p q : Ordering) → is_eq (ordering_then p q) ≡ (is_eq p && is_eq q)
both_tie Less q = refl
both_tie Equal q = refl
both_tie Greater q = refl

pub last_at : {X : Type 0} (xs : List X) (x : X) → slice_get (xs ++ x ∷ []) (length xs) ≡ Some x
last_at [] x = refl
last_at (y ∷ xs) x = last_at xs x

-- One text more.
module _ (used : List (List ℕ)) (t : Texts) (are : AreTexts used t) (text : List ℕ) where
  pub texts_again : (i : ℕ) → index_if bytes_eq text (listed_texts t) ≡ Some i → AreTexts (used ++ text ∷ []) t
  texts_again i known = record {
    listed = sym (one_known bytes_eq (listed_texts t) text i known) ∙ ap (λ l. with_one bytes_eq l text) are.listed ∙ sym (firsts_last bytes_eq text_same used text);
    indexes = are.indexes;
  }

  pub texts_more : (new : Texts) → index_if bytes_eq text (listed_texts t) ≡ None → listed_texts new ≡ listed_texts t ++ text ∷ [] →
      HasIndexes (get same_text new.indexes) text_of bytes_eq (listed_texts t ++ text ∷ []) → AreTexts (used ++ text ∷ []) new
  texts_more new none listed has = record {
    listed = listed ∙ sym (one_new bytes_eq (listed_texts t) text none) ∙ ap (λ l. with_one bytes_eq l text) are.listed ∙ sym (firsts_last bytes_eq text_same used text);
    indexes = subst (HasIndexes (get same_text new.indexes) text_of bytes_eq) (sym listed) has;
  }

-- A text that wasn't used before, as a map and a list take it.
module _ (used : List (List ℕ)) (t : Texts) (are : AreTexts used t) (text : Bor (List ℕ)) (new : Texts) (index : ℕ) (counted : index ≡ length t.listed.items) (pushed : new.listed.items ≡ t.listed.items ++ text ∷ []) where
  pub texts_inserted : get same_text t.indexes text ≡ None →
      ((k : Bor (List ℕ)) → get same_text new.indexes k ≡ cond (same_text text k) (Some index) (get same_text t.indexes k)) → AreTexts (used ++ text.now ∷ []) new
  texts_inserted none updates =
      let listed : listed_texts new ≡ listed_texts t ++ text.now ∷ [] = ap (map text_of) pushed ∙ map-append text_of t.listed.items (text ∷ []) in
      let new_one : index_if bytes_eq text.now (listed_texts t) ≡ None = sym (are.indexes text) ∙ none in
      let count : index ≡ length (listed_texts t) = counted ∙ sym (length-map t.listed.items text_of) in
      texts_more used t are text.now new new_one listed
      (indexes_more bytes_eq text_same same_text text_of (λ a b. refl) (get same_text t.indexes) (get same_text new.indexes) (listed_texts t) text are.indexes new_one
      (λ k. updates k ∙ ap (λ n. cond (same_text text k) (Some n) (get same_text t.indexes k)) count))

  pub text_inserted_at : slice_get (listed_texts new) index ≡ Some text.now
  text_inserted_at =
      ap (λ l. slice_get l index) (ap (map text_of) pushed ∙ map-append text_of t.listed.items (text ∷ [])) ∙ ap (slice_get (listed_texts t ++ text.now ∷ [])) (counted ∙ sym (length-map t.listed.items text_of))
      ∙ last_at (listed_texts t) text.now

pub texts_grow : (used more : List (List ℕ)) (old new : Texts) → AreTexts used old → AreTexts (used ++ more) new → Grows (listed_texts old) (listed_texts new)
texts_grow used more old new is_old is_new =
    let g = firsts_grow bytes_eq text_same more used in
    (g.0, is_new.listed ∙ g.1 ∙ ap (λ l. l ++ g.0) (sym is_old.listed))

pub texts_differ : (used : List (List ℕ)) (t : Texts) → AreTexts used t → Differ bytes_eq (listed_texts t)
texts_differ used t are = subst (Differ bytes_eq) (sym are.listed) (firsts_differ bytes_eq used)

-- Source files.
pub text_found : (texts : List (List ℕ)) (i : ℕ) (text : List ℕ) → slice_get texts i ≡ Some text → text_at texts i ≡ text
text_found texts i text at = same_Some (text_at texts i) text (sym (slice_get-get_or texts i [] (slice_get_within texts i text at)) ∙ at)

pub files_same : (a b : SourceFile) → same_file a b ≡ true → a ≡ b
files_same a b is =
    let parts = and_parts (a.dir == b.dir) (a.name == b.name) is in
    ap (λ (n : ℕ). record { dir = n; name = a.name }) (eqb-true a.dir b.dir parts.0) ∙ ap (λ (n : ℕ). record { dir = b.dir; name = n }) (eqb-true a.name b.name parts.1)

pub files_tied : (a b : ℕ × ℕ) → is_eq (pair_cmp a b) ≡ same_file (file_of a) (file_of b)
files_tied a b = both_tie (nat_cmp a.0 b.0) (nat_cmp a.1 b.1) ∙ ap (λ t. t && is_eq (nat_cmp a.1 b.1)) (sym (unsigned_ties a.0 b.0)) ∙ ap (λ t. (a.0 == b.0) && t) (sym (unsigned_ties a.1 b.1))

module _ (texts more : List (List ℕ)) (grows : Grows texts more) where
  text_stays : (i : ℕ) → i < length texts → text_at more i ≡ text_at texts i
  text_stays i within = text_found more i (text_at texts i) (grown_at texts more grows i (text_at texts i) (slice_get-get_or texts i [] within))

  -- source files say the same by more texts
  pub files_stay : (files : List SourceFile) → indexed.AreFiles (length texts) files → map (source_of more) files ≡ map (source_of texts) files
  files_stay [] within = refl
  files_stay (f ∷ files) within =
      let own = within 0 f refl in
      ap (λ (d : List ℕ). record { dir = d; file = text_at more f.name } ∷ map (source_of more) files) (text_stays f.dir own.0)
      ∙ ap (λ (n : List ℕ). record { dir = text_at texts f.dir; file = n } ∷ map (source_of more) files) (text_stays f.name own.1)
      ∙ ap (λ l. source_of texts f ∷ l) (files_stay files (λ i g at. within (suc i) g at))

  pub within_more : (files : List SourceFile) → indexed.AreFiles (length texts) files → indexed.AreFiles (length more) files
  within_more files within i f at = let own = within i f at in (omega (arith, own.0, grown_length texts more grows), omega (arith, own.1, grown_length texts more grows))

module _ (texts : List (List ℕ)) (differ : Differ bytes_eq texts) where
  texts_seen : (i j : ℕ) → i < length texts → j < length texts → bytes_eq (text_at texts i) (text_at texts j) ≡ (i == j)
  texts_seen i j low high = by (bytes_eq (text_at texts i) (text_at texts j)) refl (i == j) refl where
    by : (a : Bool) → bytes_eq (text_at texts i) (text_at texts j) ≡ a → (b : Bool) → (i == j) ≡ b → a ≡ b
    by true is true also = refl
    by false is false also = refl
    by true is false also =
        let at_i = index_there bytes_eq text_is_same texts differ i (text_at texts i) (slice_get-get_or texts i [] low) in
        let at_j = index_there bytes_eq text_is_same texts differ j (text_at texts j) (slice_get-get_or texts j [] high) in
        let e : i ≡ j = sym at_i ∙ ap (λ x. index_of bytes_eq x texts) (text_same (text_at texts i) (text_at texts j) is) ∙ at_j in
        absurd (true≢false (sym (eq-eqb i j e) ∙ also))
    by false is true also = absurd (true≢false (sym (ap (λ n. bytes_eq (text_at texts i) (text_at texts n)) (sym (eqb-true i j also)) ∙ text_is_same (text_at texts i)) ∙ is))

  any_lifted : (f : SourceFile) → (f.dir < length texts) × (f.name < length texts) → (files : List SourceFile) → indexed.AreFiles (length texts) files →
      list_any (λ s. same_source s (source_of texts f)) (map (source_of texts) files) ≡ list_any (λ g. same_file g f) files
  any_lifted f own [] within = refl
  any_lifted f own (g ∷ files) within =
      let at = within 0 g refl in
      ap (λ b. (b && bytes_eq (text_at texts g.name) (text_at texts f.name)) || list_any (λ s. same_source s (source_of texts f)) (map (source_of texts) files)) (texts_seen g.dir f.dir at.0 own.0)
      ∙ ap (λ b. ((g.dir == f.dir) && b) || list_any (λ s. same_source s (source_of texts f)) (map (source_of texts) files)) (texts_seen g.name f.name at.1 own.1)
      ∙ ap (λ b. same_file g f || b) (any_lifted f own files (λ i h there. within (suc i) h there))

  map_last : (xs : List SourceFile) (f : SourceFile) → map (source_of texts) (xs ++ f ∷ []) ≡ map (source_of texts) xs ++ source_of texts f ∷ []
  map_last [] f = refl
  map_last (x ∷ xs) f = ap (λ l. source_of texts x ∷ l) (map_last xs f)

  -- a source file more, in texts
  pub one_lifted : (f : SourceFile) → (f.dir < length texts) × (f.name < length texts) → (files : List SourceFile) → indexed.AreFiles (length texts) files →
      map (source_of texts) (with_one same_file files f) ≡ with_one same_source (map (source_of texts) files) (source_of texts f)
  one_lifted f own files within = by (list_any (λ g. same_file g f) files) ∙ ap (λ b. cond b (map (source_of texts) files) (map (source_of texts) files ++ source_of texts f ∷ [])) (sym (any_lifted f own files within)) where
    by : (b : Bool) → map (source_of texts) (cond b files (files ++ f ∷ [])) ≡ cond b (map (source_of texts) files) (map (source_of texts) files ++ source_of texts f ∷ [])
    by true = refl
    by false = map_last files f

  pub one_within : (f : SourceFile) → (f.dir < length texts) × (f.name < length texts) → (files : List SourceFile) → indexed.AreFiles (length texts) files → indexed.AreFiles (length texts) (with_one same_file files f)
  one_within f own files within = by (list_any (λ g. same_file g f) files) where
    last : (files : List SourceFile) → indexed.AreFiles (length texts) files → indexed.AreFiles (length texts) (files ++ f ∷ [])
    last [] within zero g at = subst (λ h. (h.dir < length texts) × (h.name < length texts)) (same_Some f g at) own
    last [] within (suc i) g at = absurd (none-some g at)
    last (h ∷ files) within zero g at = within 0 g at
    last (h ∷ files) within (suc i) g at = last files (λ j k there. within (suc j) k there) i g at

    by : (b : Bool) → indexed.AreFiles (length texts) (cond b files (files ++ f ∷ []))
    by true = within
    by false = last files within

-- A source file that wasn't used before.
module _ (s : Sources) (has : HasFileIndexes s) (file : SourceFile) (new : Sources) (index : ℕ) (counted : index ≡ length s.listed.items) (pushed : new.listed.items ≡ s.listed.items ++ file ∷ []) where
  pub file_listed : btree.get pair_cmp s.indexes (file.dir, file.name) ≡ None → new.listed.items ≡ with_one same_file s.listed.items file
  file_listed none = pushed ∙ sym (one_new same_file s.listed.items file (sym (has (file.dir, file.name)) ∙ none))

  pub files_inserted : btree.get pair_cmp s.indexes (file.dir, file.name) ≡ None →
      ((q : ℕ × ℕ) → btree.get pair_cmp new.indexes q ≡ cond (is_eq (pair_cmp (file.dir, file.name) q)) (Some index) (btree.get pair_cmp s.indexes q)) → HasFileIndexes new
  files_inserted none updates =
      subst (HasIndexes (btree.get pair_cmp new.indexes) file_of same_file) (sym pushed)
      (indexes_more same_file files_same (λ a b. is_eq (pair_cmp a b)) file_of files_tied (btree.get pair_cmp s.indexes) (btree.get pair_cmp new.indexes) s.listed.items (file.dir, file.name) has
      (sym (has (file.dir, file.name)) ∙ none) (λ q. updates q ∙ ap (λ n. cond (is_eq (pair_cmp (file.dir, file.name) q)) (Some n) (btree.get pair_cmp s.indexes q)) counted))

  pub file_inserted_at : slice_get new.listed.items index ≡ Some file
  file_inserted_at = ap (λ l. slice_get l index) pushed ∙ ap (slice_get (s.listed.items ++ file ∷ [])) counted ∙ last_at s.listed.items file

pub if_ok : {A E : Type 0} (r : Result A E) (P Q : A → Type 0) → ((a : A) → P a → Q a) → IfOk r P → IfOk r Q
if_ok (Ok a) P Q then is = then a is
if_ok (Err e) P Q then is = is

pub seen_at : {X Y : Type 0} (view : X → Y) (xs : List X) (i : ℕ) (x : X) → slice_get xs i ≡ Some x → slice_get (map view xs) i ≡ Some (view x)
seen_at view [] i x at = absurd (none-some x at)
seen_at view (y ∷ xs) zero x at = ap (λ z. Some (view z)) (same_Some y x at)
seen_at view (y ∷ xs) (suc i) x at = seen_at view xs i x at

pub source_is_same : (s : Source) → same_source s s ≡ true
source_is_same s = ap (λ b. b && bytes_eq s.file s.file) (text_is_same s.dir) ∙ text_is_same s.file

-- What is listed is used again.
module _ {X : Type 0} (same : X → X → Bool) (itself : (x : X) → same x x ≡ true) where
  pub with_listed : (xs : List X) (x : X) (i : ℕ) → slice_get xs i ≡ Some x → with_one same xs x ≡ xs
  with_listed xs x i at = ap (λ b. cond b xs (xs ++ x ∷ [])) (any_in (λ y. same y x) xs x (i, at) (itself x))

pub texts_known : (used : List (List ℕ)) (t : Texts) → AreTexts used t → (text : List ℕ) (i : ℕ) → slice_get (listed_texts t) i ≡ Some text → AreTexts (used ++ text ∷ []) t
texts_known used t are text i at = record {
  listed = sym (with_listed bytes_eq text_is_same (listed_texts t) text i at) ∙ ap (λ l. with_one bytes_eq l text) are.listed ∙ sym (firsts_last bytes_eq text_same used text);
  indexes = are.indexes;
}
