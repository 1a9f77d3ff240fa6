-- Texts and source files are numbered one after another.
use Rattle.std.proofs.Common.{◌≡◌, ◌⊎◌, inl, inr, ℕ, zero, suc, ◌<◌, List, [], ◌∷◌, ◌++◌, drop, length, map, take, Option, Some, None, refl, sym, ap, ap₂, subst, ◌∙◌, append-nil, append_assoc}
use Rattle.std.specs.BTreeMap as btree
use Rattle.std.specs.HashMap.{get}
use Rattle.std.specs.List.{slice_get}
use Rattle.std.proofs.lemmas.Option.{none-some, same_Some, slice_get_within, slice_get-get_or}
use Rattle.bz_breakpad_lines.specs.Table.{Table}
use Rattle.bz_gsym_layout.specs.Listed.{HasIndexes, with_one}
use Rattle.bz_convert.specs.Numbered.{AreKnown, AreNumbered, IsNumbering, IsRemembered, Uses, listed_sources}
use Rattle.bz_gsym_layout.specs.Listing.{AreTexts, HasFileIndexes, file_of, listed_texts, pair_cmp, same_file}
use Rattle.bz_convert.specs.Plan.{origin_named, source_named}
use Rattle.bz_convert.specs.declared.conversion.numbering.Numbering.{Numbering}
use Rattle.bz_gsym_layout.specs.declared.sources.Sources.{Sources}
use Rattle.bz_gsym_layout.specs.declared.texts.Texts.{Texts}
use Rattle.bz_gsym_layout.proofs.ListedLemmas.{Grows, firsts_grow, firsts_last, grown_at}
use Rattle.bz_gsym_layout.proofs.ListingLemmas.{files_stay, one_lifted, one_within, seen_at, source_is_same, text_found, texts_differ, texts_grow, texts_known, with_listed, within_more}
use Rattle.bz_gsym_layout.proofs.NumberingLemmas.{source_same}
use Rattle.bz_gsym_layout.specs.Indexed as indexed
use Rattle.bz_gsym_layout.specs.Indexed.{source_of, text_at}
use Rattle.bz_gsym_layout.specs.Numbering.{firsts, same_source}
use Rattle.bz_gsym_layout.specs.Plan.{Source}
use Rattle.bz_gsym_layout.specs.declared.plan.SourceFile.{SourceFile}

-- A text more, and a source file more.
module _ (texts : List (List ℕ)) (sources : List Source) (n : Numbering) (is : AreNumbered texts sources n) where
  pub text_numbered : (more : List (List ℕ)) (new : Numbering) → AreTexts (texts ++ more) new.texts → new.sources ≡ n.sources → AreNumbered (texts ++ more) sources new
  text_numbered more new are same =
      let grows = texts_grow texts more n.texts new.texts is.texts are in
      record {
        texts = are;
        sources = ap (λ s. map (source_of (listed_texts new.texts)) s.listed.items) same ∙ files_stay (listed_texts n.texts) (listed_texts new.texts) grows n.sources.listed.items is.within ∙ is.sources;
        files = subst (λ s. HasIndexes (btree.get pair_cmp s.indexes) file_of same_file s.listed.items) (sym same) is.files;
        within = subst (λ s. indexed.AreFiles (length (listed_texts new.texts)) s.listed.items) (sym same) (within_more (listed_texts n.texts) (listed_texts new.texts) grows n.sources.listed.items is.within);
      }

  pub source_numbered : (f : SourceFile) (s : Source) → slice_get (listed_texts n.texts) f.dir ≡ Some s.dir → slice_get (listed_texts n.texts) f.name ≡ Some s.file →
      (new : Numbering) → new.texts ≡ n.texts → new.sources.listed.items ≡ with_one same_file n.sources.listed.items f → HasIndexes (btree.get pair_cmp new.sources.indexes) file_of same_file new.sources.listed.items →
      AreNumbered texts (sources ++ s ∷ []) new
  source_numbered f s at_dir at_file new same listed has =
      let all = listed_texts n.texts in
      let own : (f.dir < length all) × (f.name < length all) = (slice_get_within all f.dir s.dir at_dir, slice_get_within all f.name s.file at_file) in
      let differ = texts_differ texts n.texts is.texts in
      let says : source_of all f ≡ s =
      ap (λ (d : List ℕ). record { dir = d; file = text_at all f.name }) (text_found all f.dir s.dir at_dir) ∙ ap (λ (t : List ℕ). record { dir = s.dir; file = t }) (text_found all f.name s.file at_file) in
      record {
        texts = subst (AreTexts texts) (sym same) is.texts;
        sources =
            ap (λ t. map (source_of (listed_texts t)) new.sources.listed.items) same ∙ ap (map (source_of all)) listed ∙ one_lifted all differ f own n.sources.listed.items is.within
            ∙ ap (λ l. with_one same_source l (source_of all f)) is.sources ∙ ap (with_one same_source (firsts same_source sources)) says ∙ sym (firsts_last same_source source_same sources s);
        files = has;
        within = subst (λ t. indexed.AreFiles (length (listed_texts t)) new.sources.listed.items) (sym same) (subst (indexed.AreFiles (length all)) (sym listed) (one_within all differ f own n.sources.listed.items is.within));
      }

-- what is listed stays at its index
module _ (texts : List (List ℕ)) (sources : List Source) (old : Numbering) (is_old : AreNumbered texts sources old)
    (more_texts : List (List ℕ)) (more_sources : List Source) (new : Numbering) (is_new : AreNumbered (texts ++ more_texts) (sources ++ more_sources) new) where
  pub listed_grow : Grows (listed_texts old.texts) (listed_texts new.texts)
  listed_grow = texts_grow texts more_texts old.texts new.texts is_old.texts is_new.texts

  pub sources_grow : Grows (listed_sources old) (listed_sources new)
  sources_grow =
      let g = firsts_grow same_source source_same more_sources sources in
      (g.0, is_new.sources ∙ g.1 ∙ ap (λ l. l ++ g.0) (sym is_old.sources))

-- The two texts of a source file, and the source file.
module _ (texts : List (List ℕ)) (sources : List Source) (n : Numbering) (is : AreNumbered texts sources n) (s : Source) (dir : List ℕ) (named : dir ≡ s.dir) (first second : Texts)
    (one : AreTexts (texts ++ dir ∷ []) first) (two : AreTexts ((texts ++ dir ∷ []) ++ s.file ∷ []) second) (f : SourceFile)
    (at_dir : slice_get (listed_texts first) f.dir ≡ Some dir) (at_file : slice_get (listed_texts second) f.name ≡ Some s.file) (files : Sources) where
  both_used : AreTexts (texts ++ s.dir ∷ s.file ∷ []) second
  both_used = subst (λ l. AreTexts l second) (append_assoc texts (dir ∷ []) (s.file ∷ []) ∙ ap (λ (d : List ℕ). texts ++ d ∷ s.file ∷ []) named) two

  abbrev middle : Numbering
  middle = record { texts = second; sources = n.sources; files = n.files; origins = n.origins }

  middle_is : AreNumbered (texts ++ s.dir ∷ s.file ∷ []) sources middle
  middle_is = text_numbered texts sources n is (s.dir ∷ s.file ∷ []) middle both_used refl

  dir_at : slice_get (listed_texts second) f.dir ≡ Some s.dir
  dir_at = grown_at (listed_texts first) (listed_texts second) (texts_grow (texts ++ dir ∷ []) (s.file ∷ []) first second one two) f.dir dir at_dir ∙ ap Some named

  pub both_numbered : files.listed.items ≡ with_one same_file n.sources.listed.items f → HasFileIndexes files → AreNumbered (texts ++ s.dir ∷ s.file ∷ []) (sources ++ s ∷ []) (record { texts = second; sources = files; files = n.files; origins = n.origins })
  both_numbered listed has = source_numbered (texts ++ s.dir ∷ s.file ∷ []) sources middle middle_is f s dir_at at_file (record { texts = second; sources = files; files = n.files; origins = n.origins }) refl listed has

  pub source_at : (index : ℕ) → slice_get files.listed.items index ≡ Some f → slice_get (listed_sources (record { texts = second; sources = files; files = n.files; origins = n.origins })) index ≡ Some s
  source_at index at =
      seen_at (source_of (listed_texts second)) files.listed.items index f at
      ∙ ap (λ (d : List ℕ). Some (record { dir = d; file = text_at (listed_texts second) f.name })) (text_found (listed_texts second) f.dir s.dir dir_at)
      ∙ ap (λ (t : List ℕ). Some (record { dir = s.dir; file = t })) (text_found (listed_texts second) f.name s.file at_file)

file_at : (texts : List (List ℕ)) (files : List SourceFile) (i : ℕ) (s : Source) → slice_get (map (source_of texts) files) i ≡ Some s → (f : SourceFile) × (slice_get files i ≡ Some f) × (source_of texts f ≡ s)
file_at texts [] i s at = absurd (none-some s at)
file_at texts (f ∷ files) zero s at = (f, refl, same_Some (source_of texts f) s at)
file_at texts (f ∷ files) (suc i) s at = file_at texts files i s at

module _ (texts : List (List ℕ)) (sources : List Source) (n : Numbering) (is : AreNumbered texts sources n) where
  -- a text that is listed
  pub text_again : (text : List ℕ) (i : ℕ) → slice_get (listed_texts n.texts) i ≡ Some text → AreNumbered (texts ++ text ∷ []) sources n
  text_again text i at = record { texts = texts_known texts n.texts is.texts text i at; sources = is.sources; files = is.files; within = is.within }

  -- a source file that is
  pub source_again : (s : Source) (i : ℕ) → slice_get (listed_sources n) i ≡ Some s → AreNumbered (texts ++ s.dir ∷ s.file ∷ []) (sources ++ s ∷ []) n
  source_again s i at =
      let all = listed_texts n.texts in
      let f = file_at all n.sources.listed.items i s at in
      let own = is.within i f.0 f.1 in
      let at_dir : slice_get all f.0.dir ≡ Some s.dir = slice_get-get_or all f.0.dir [] own.0 ∙ ap (λ (r : Source). Some r.dir) f.2 in
      let at_name : slice_get all f.0.name ≡ Some s.file = slice_get-get_or all f.0.name [] own.1 ∙ ap (λ (r : Source). Some r.file) f.2 in
      record {
        texts = subst (λ l. AreTexts l n.texts) (append_assoc texts (s.dir ∷ []) (s.file ∷ []))
            (texts_known (texts ++ s.dir ∷ []) n.texts (texts_known texts n.texts is.texts s.dir f.0.dir at_dir) s.file f.0.name at_name);
        sources = sym (with_listed same_source source_is_same (listed_sources n) s i at) ∙ ap (λ l. with_one same_source l s) is.sources ∙ sym (firsts_last same_source source_same sources s);
        files = is.files;
        within = is.within;
      }

-- What is known of ids stays where more is listed.
pub known_on : (table : Table) (old new : Numbering) → new.files ≡ old.files → new.origins ≡ old.origins → Grows (listed_texts old.texts) (listed_texts new.texts) → Grows (listed_sources old) (listed_sources new) → AreKnown table old → AreKnown table new
known_on table old new files origins texts sources known = record {
  files = λ id index at. grown_at (listed_sources old) (listed_sources new) sources index (source_named table id) (known.files id index (ap (λ l. slice_get l.items id) (sym files) ∙ at));
  origins = λ id index at. grown_at (listed_texts old.texts) (listed_texts new.texts) texts index (origin_named table id) (known.origins id index (ap (λ l. slice_get l.items id) (sym origins) ∙ at));
}

module _ (table : Table) (texts : List (List ℕ)) (sources : List Source) (old : Numbering) (is : IsNumbering table texts sources old) where
  -- a numbering of more, by the same ids
  pub numbered_on : (more_texts : List (List ℕ)) (more_sources : List Source) (new : Numbering) → new.files ≡ old.files → new.origins ≡ old.origins → AreNumbered (texts ++ more_texts) (sources ++ more_sources) new →
      IsNumbering table (texts ++ more_texts) (sources ++ more_sources) new
  numbered_on more_texts more_sources new files origins are = record {
    numbered = are;
    known = known_on table old new files origins (listed_grow texts sources old is.numbered more_texts more_sources new are) (sources_grow texts sources old is.numbered more_texts more_sources new are) is.known;
  }

  pub text_on : (text : List ℕ) (new : Numbering) → new.sources ≡ old.sources → new.files ≡ old.files → new.origins ≡ old.origins → AreTexts (texts ++ text ∷ []) new.texts → IsNumbering table (texts ++ text ∷ []) sources new
  text_on text new same files origins are =
      let all = text_numbered texts sources old is.numbered (text ∷ []) new are same in
      record {
        numbered = all;
        known = known_on table old new files origins (texts_grow texts (text ∷ []) old.texts new.texts is.numbered.texts are)
            (sources_grow texts sources old is.numbered (text ∷ []) [] new (subst (λ l. AreNumbered (texts ++ text ∷ []) l new) (sym (append-nil sources)) all)) is.known;
      }

  -- what was known
  pub file_again : (id index : ℕ) → slice_get old.files.items id ≡ Some (Some index) → IsNumbering table (texts ++ (source_named table id).dir ∷ (source_named table id).file ∷ []) (sources ++ source_named table id ∷ []) old
  file_again id index at = record { numbered = source_again texts sources old is.numbered (source_named table id) index (is.known.files id index at); known = is.known }

  pub origin_again : (id index : ℕ) → slice_get old.origins.items id ≡ Some (Some index) → IsNumbering table (texts ++ origin_named table id ∷ []) sources old
  origin_again id index at = record { numbered = text_again texts sources old is.numbered (origin_named table id) index (is.known.origins id index at); known = is.known }

-- What becomes known.
module _ (table : Table) (texts : List (List ℕ)) (sources : List Source) (old new : Numbering) (is : IsNumbering table texts sources old) (id index : ℕ) (same_texts : new.texts ≡ old.texts) (same_sources : new.sources ≡ old.sources) where
  same_numbered : AreNumbered texts sources new
  same_numbered = record {
    texts = subst (AreTexts texts) (sym same_texts) is.numbered.texts;
    sources = ap₂ (λ t s. map (source_of (listed_texts t)) s.listed.items) same_texts same_sources ∙ is.numbered.sources;
    files = subst HasFileIndexes (sym same_sources) is.numbered.files;
    within = subst (λ t. indexed.AreFiles (length (listed_texts t)) new.sources.listed.items) (sym same_texts) (subst (λ s. indexed.AreFiles (length (listed_texts old.texts)) s.listed.items) (sym same_sources) is.numbered.within);
  }

  texts_kept : listed_texts new.texts ≡ listed_texts old.texts
  texts_kept = ap listed_texts same_texts

  sources_kept : listed_sources new ≡ listed_sources old
  sources_kept = ap₂ (λ t s. map (source_of (listed_texts t)) s.listed.items) same_texts same_sources

  pub file_known : new.origins ≡ old.origins → IsRemembered old.files.items new.files.items id index → slice_get (listed_sources old) index ≡ Some (source_named table id) → IsNumbering table texts sources new
  file_known origins remembered at = record {
    numbered = same_numbered;
    known = record {
      files = λ i j there. elim (remembered i j there) [
        | inl before ↦ ap (λ l. slice_get l j) sources_kept ∙ is.known.files i j before
        | inr here ↦ ap (λ l. slice_get l j) sources_kept ∙ ap (slice_get (listed_sources old)) here.1 ∙ at ∙ ap (λ n. Some (source_named table n)) (sym here.0)
      ];
      origins = λ i j there. ap (λ l. slice_get l j) texts_kept ∙ is.known.origins i j (ap (λ l. slice_get l.items i) (sym origins) ∙ there);
    };
  }

  pub origin_known : new.files ≡ old.files → IsRemembered old.origins.items new.origins.items id index → slice_get (listed_texts old.texts) index ≡ Some (origin_named table id) → IsNumbering table texts sources new
  origin_known files remembered at = record {
    numbered = same_numbered;
    known = record {
      files = λ i j there. ap (λ l. slice_get l j) sources_kept ∙ is.known.files i j (ap (λ l. slice_get l.items i) (sym files) ∙ there);
      origins = λ i j there. elim (remembered i j there) [
        | inl before ↦ ap (λ l. slice_get l j) texts_kept ∙ is.known.origins i j before
        | inr here ↦ ap (λ l. slice_get l j) texts_kept ∙ ap (slice_get (listed_texts old.texts)) here.1 ∙ at ∙ ap (λ n. Some (origin_named table n)) (sym here.0)
      ];
    };
  }

-- A list whose front was written anew.
front_get : {X : Type 0} (n : ℕ) (xs : List X) (i : ℕ) (y : X) → slice_get (take n xs) i ≡ Some y → slice_get xs i ≡ Some y
front_get zero [] i y at = at
front_get zero (x ∷ xs) i y at = absurd (none-some y at)
front_get (suc n) [] i y at = at
front_get (suc n) (x ∷ xs) zero y at = at
front_get (suc n) (x ∷ xs) (suc i) y at = front_get n xs i y at

written_get : {X : Type 0} (ws xs : List X) (i : ℕ) (y : X) → slice_get (ws ++ drop (length ws) xs) i ≡ Some y → (slice_get ws i ≡ Some y) ⊎ (slice_get xs i ≡ Some y)
written_get [] xs i y at = inr at
written_get (w ∷ ws) [] zero y at = inl at
written_get (w ∷ ws) [] (suc i) y at = inl (ap (λ l. slice_get l i) (sym (append-nil ws)) ∙ at)
written_get (w ∷ ws) (x ∷ xs) zero y at = inl at
written_get (w ∷ ws) (x ∷ xs) (suc i) y at = written_get ws xs i y at

pub remembers_all : (old new : List (Option ℕ)) (n id index : ℕ) → IsRemembered old new id index → IsRemembered old (take n (new ++ drop (length new) old)) id index
remembers_all old new n id index is i j at =
    elim (written_get new old i (Some j) (front_get n (new ++ drop (length new) old) i (Some j) at)) [ inl own ↦ is i j own | inr before ↦ inl before ]

pub none_more : (xs : List (Option ℕ)) → ((i j : ℕ) → slice_get xs i ≡ Some (Some j) → ⊥) → (i j : ℕ) → slice_get (xs ++ None ∷ []) i ≡ Some (Some j) → ⊥
none_more [] none zero j at = none-some j (same_Some None (Some j) at)
none_more [] none (suc i) j at = none-some (Some j) at
none_more (x ∷ xs) none zero j at = none 0 j at
none_more (x ∷ xs) none (suc i) j at = none_more xs (λ k l there. none (suc k) l there) i j at

-- Nothing is used yet.
pub none_numbered : (table : Table) (n : Numbering) → AreTexts [] n.texts → n.sources.listed.items ≡ [] → HasFileIndexes n.sources → ((i j : ℕ) → slice_get n.files.items i ≡ Some (Some j) → ⊥) → ((i j : ℕ) → slice_get n.origins.items i ≡ Some (Some j) → ⊥) → IsNumbering table [] [] n
none_numbered table n texts empty has files origins = record {
  numbered = record {
    texts = texts;
    sources = ap (map (source_of (listed_texts n.texts))) empty;
    files = has;
    within = subst (indexed.AreFiles (length (listed_texts n.texts))) (sym empty) (λ i f at. absurd (none-some f at));
  };
  known = record { files = λ id index at. absurd (files id index at); origins = λ id index at. absurd (origins id index at) };
}

-- The texts of an inlined call: its name, and those of its source file.
pub call_numbered : (table : Table) (texts : List (List ℕ)) (sources : List Source) (n : Numbering) (name : List ℕ) (s : Source) →
    IsNumbering table ((texts ++ name ∷ []) ++ s.dir ∷ s.file ∷ []) (sources ++ s ∷ []) n → IsNumbering table (texts ++ name ∷ s.dir ∷ s.file ∷ []) (sources ++ s ∷ []) n
call_numbered table texts sources n name s is = subst (λ l. IsNumbering table l (sources ++ s ∷ []) n) (append_assoc texts (name ∷ []) (s.dir ∷ s.file ∷ [])) is

-- Texts more, and no source file more.
module _ (table : Table) where
  pub no_source_more : (texts : List (List ℕ)) (sources : List Source) (n : Numbering) → IsNumbering table texts sources n → IsNumbering table texts (sources ++ []) n
  no_source_more texts sources n is = subst (λ l. IsNumbering table texts l n) (sym (append-nil sources)) is

  pub texts_alone : (more : List (List ℕ)) (old new : Numbering) → Uses table more [] old new → (texts : List (List ℕ)) (sources : List Source) → IsNumbering table texts sources old → IsNumbering table (texts ++ more) sources new
  texts_alone more old new uses texts sources is = subst (λ l. IsNumbering table (texts ++ more) l new) (append-nil sources) (uses texts sources is)
