-- Line records that are put in order by their keys.
use Rattle.std.proofs.Common.{◌≡◌, ℕ, zero, suc, ◌-◌, ◌≤◌, List, [], ◌∷◌, ◌++◌, length, map, Some, refl, sym, ap, ap₂, subst, ◌∙◌, arith, inl, inr, length-append}
use Rattle.std.specs.List.{AllByRecursion, filter, slice_get}
use Rattle.std.specs.Prelude.{slice_index}
use Rattle.std.proofs.lemmas.Bool.{cases_lt}
use Rattle.std.proofs.lemmas.List.{length-map}
use Rattle.std.proofs.lemmas.Option.{none-some, same_Some, slice_get_within}
use Rattle.bz_base.specs.Byte.{line_feed}
use Rattle.bz_base.specs.Nearest.{IsTable, has_span}
use Rattle.bz_base.specs.Starts.{NeverDescends}
use Rattle.bz_base.proofs.TableLemmas.{start_at}
use Rattle.bz_base.proofs.ViewLemmas.{table_seen}
use Rattle.bz_breakpad_table.specs.Kept.{AreEndedInOrder, IsLineKey, IsOpenRunAt, kept_lines, text_at}
use Rattle.bz_breakpad_lines.specs.LineStarts.{ReadsLine, StrictlyAscends, line_read, line_size, line_start, line_starts}
use Rattle.bz_breakpad_table.specs.LineKeys.{places_of}
use Rattle.bz_breakpad_table.specs.LineRun.{lines_in}
use Rattle.bz_breakpad_lines.specs.Table.{SourceLine}
use Rattle.bz_breakpad_table.specs.declared.standing.LinesSoFar.TheVariants as sofar
use Rattle.bz_breakpad_lines.specs.declared.start_text.StartText.{StartText}
use Rattle.bz_breakpad_table.specs.declared.types.LineKey.{LineKey}
use Rattle.bz_breakpad_table.specs.declared.types.LineRecords.TheVariants as records
use Rattle.bz_breakpad_table.specs.declared.types.Part.{Part}
use Rattle.bz_breakpad_table.proofs.KeptLemmas.{all_weaker, last_part}
use Rattle.bz_breakpad_lines.proofs.AtPlaceLemmas.{read_there}
use Rattle.bz_base.proofs.InTableLemmas.{all_in_table}

module _ {X : Type 0} (start size : X → ℕ) where
  -- records of which each starts after the one before it are a table
  pub ascending_table : (xs : List X) → StrictlyAscends (map start xs) → IsTable start size xs xs
  ascending_table xs ascend = record {
    starts_ascend = λ i j x y up at_x at_y. elim (cases_lt i j) [
      | inl below ↦ omega (arith, ascend i j below (omega (arith, slice_get_within xs j y at_y, length-map xs start)), start_at start size xs i x at_x, start_at start size xs j y at_y)
      | inr above ↦ same_start i j x y (omega (arith, up, above)) at_x at_y
    ];
    sizes_ascend = λ i j x y up at_x at_y same. elim (cases_lt i j) [
      | inl below ↦ absurd (omega (arith, ascend i j below (omega (arith, slice_get_within xs j y at_y, length-map xs start)), start_at start size xs i x at_x, start_at start size xs j y at_y, same))
      | inr above ↦ same_size i j x y (omega (arith, up, above)) at_x at_y
    ];
    alike = λ at length. refl;
  } where
    one : (i j : ℕ) (x y : X) → i ≡ j → slice_get xs i ≡ Some x → slice_get xs j ≡ Some y → x ≡ y
    one i j x y same at_x at_y = same_Some x y (sym at_x ∙ ap (slice_get xs) same ∙ at_y)

    same_start : (i j : ℕ) (x y : X) → i ≡ j → slice_get xs i ≡ Some x → slice_get xs j ≡ Some y → start x ≤ start y
    same_start i j x y same at_x at_y = omega (arith, ap start (one i j x y same at_x at_y))

    same_size : (i j : ℕ) (x y : X) → i ≡ j → slice_get xs i ≡ Some x → slice_get xs j ≡ Some y → size x ≤ size y
    same_size i j x y same at_x at_y = omega (arith, ap size (one i j x y same at_x at_y))

  -- a table is one of itself
  pub itself : (records table : List X) → IsTable start size records table → IsTable start size table table
  itself records table is = record { starts_ascend = is.starts_ascend; sizes_ascend = is.sizes_ascend; alike = λ at length. refl }

-- what holds of all holds of the one at an index
all_at : {X : Type 0} (P : X → Type 0) (xs : List X) (i : ℕ) (x : X) → AllByRecursion P xs → slice_get xs i ≡ Some x → P x
all_at P [] i x all at = absurd (none-some x at)
all_at P (y ∷ xs) zero x all at = subst P (same_Some y x at) all.0
all_at P (y ∷ xs) (suc i) x all at = all_at P xs i x all.1 at

module _ {X : Type 0} (start size start' size' : X → ℕ) where
  -- the record starts there, and has that size, by both readings
  abbrev IsSame : X → Type 0
  IsSame x = (start x ≡ start' x) × (size x ≡ size' x)

  same_left : (at long : ℕ) (xs : List X) → AllByRecursion IsSame xs → filter (has_span start size at long) xs ≡ filter (has_span start' size' at long) xs
  same_left at long [] all = refl
  same_left at long (x ∷ xs) all =
      rw (all.0.0, all.0.1, same_left at long xs all.1) refl

  -- a table by one reading is one by the other
  same_table : (records table : List X) → AllByRecursion IsSame records → IsTable start size records table → IsTable start' size' records table
  same_table records table all is =
      let there = all_in_table IsSame start size records table is all in
      record {
        starts_ascend = λ i j x y up at_x at_y.
            let a = all_at IsSame table i x there at_x in let b = all_at IsSame table j y there at_y in omega (arith, is.starts_ascend i j x y up at_x at_y, a.0, b.0);
        sizes_ascend = λ i j x y up at_x at_y same.
            let a = all_at IsSame table i x there at_x in let b = all_at IsSame table j y there at_y in
            let alike : start x ≡ start y = omega (arith, same, a.0, b.0) in
            omega (arith, is.sizes_ascend i j x y up at_x at_y alike, a.1, b.1);
        alike = λ at long. sym (same_left at long table there) ∙ is.alike at long ∙ same_left at long records all;
      }

-- the last byte of a text
last_is : (text front : List ℕ) (b : ℕ) → text ≡ front ++ b ∷ [] → slice_index text (length text - 1) ≡ b
last_is text front b is =
    ap (λ (t : List ℕ). slice_index t (length t - 1)) is
    ∙ ap (slice_index (front ++ b ∷ [])) (omega (arith, length-append front (b ∷ [])))
    ∙ at_end front
  where
    at_end : (xs : List ℕ) → slice_index (xs ++ b ∷ []) (length xs) ≡ b
    at_end [] = refl
    at_end (x ∷ xs) = at_end xs

module _ (bytes : List ℕ) where
  -- at the places of keys line records are read
  keys_read : (keys : List LineKey) → AllByRecursion (IsLineKey bytes) keys → AllByRecursion (ReadsLine bytes) (places_of keys)
  keys_read [] all = tt
  keys_read (k ∷ keys) all = (all.0.reads, keys_read keys all.1)

  -- and they are these
  keys_lines : (keys : List LineKey) → AllByRecursion (IsLineKey bytes) keys → kept_lines bytes (places_of keys) ≡ map (λ (k : LineKey). line_read bytes k.place) keys
  keys_lines [] all = refl
  keys_lines (k ∷ keys) all = rw (read_there bytes k.place all.0.reads) (ap (λ rest. line_read bytes k.place ∷ rest) (keys_lines keys all.1))

  keys_starts : (keys : List LineKey) → AllByRecursion (IsLineKey bytes) keys → map (λ (k : LineKey). k.start) keys ≡ line_starts bytes (places_of keys)
  keys_starts [] all = refl
  keys_starts (k ∷ keys) all = ap₂ (λ s rest. s ∷ rest) all.0.start_is (keys_starts keys all.1)

  -- keys in order are still keys
  pub keys_sorted : (keys sorted : List LineKey) → IsTable (λ k. k.start) (λ k. k.size) keys sorted → AllByRecursion (IsLineKey bytes) keys → AllByRecursion (IsLineKey bytes) sorted
  keys_sorted keys sorted table all = all_in_table (IsLineKey bytes) (λ (k : LineKey). k.start) (λ k. k.size) keys sorted table all

  -- the line records of keys in order are in order
  lines_sorted : (keys sorted : List LineKey) → IsTable (λ k. k.start) (λ k. k.size) keys sorted → AllByRecursion (IsLineKey bytes) keys →
      IsTable (λ l. l.start) (λ l. l.size) (kept_lines bytes (places_of keys)) (kept_lines bytes (places_of sorted))
  lines_sorted keys sorted table all =
      let read = same_table (λ (k : LineKey). k.start) (λ k. k.size) (λ k. line_start bytes k.place) (λ k. line_size bytes k.place) keys sorted
      (all_weaker _ _ (λ (k : LineKey) is. (is.start_is, is.size_is)) keys all) table in
      rw (keys_lines keys all, keys_lines sorted (keys_sorted keys sorted table all))
      (table_seen (λ (l : SourceLine). l.start) (λ l. l.size) (λ (k : LineKey). line_read bytes k.place) keys sorted read)

  -- of a function that ends, those that are listed
  pub listed_ended : (places more_places : List ℕ) (keys sorted : List LineKey) (part : Part) → IsTable (λ k. k.start) (λ k. k.size) keys sorted →
      NeverDescends (map (λ (k : LineKey). k.start) sorted) → more_places ≡ places ++ places_of sorted → part.from ≡ length places → part.to ≡ length more_places →
      AllByRecursion (IsLineKey bytes) keys → AreEndedInOrder bytes more_places keys sofar.Listed (records.Listed part)
  listed_ended places more_places keys sorted part table ascend more from to all =
      let own = last_part places (places_of sorted) more_places part more from to in
      let still = keys_sorted keys sorted table all in
      let lines = lines_sorted keys sorted table all in
      record {
        fit = record {
          within = record { ordered = omega (arith, from, to, ap length more, length-append places (places_of sorted)); within = omega (arith, to) };
          searchable = rw own (record { read = keys_read sorted still; ascend = subst NeverDescends (keys_starts sorted still) ascend });
          table = rw own (itself (λ (l : SourceLine). l.start) (λ l. l.size) _ _ lines);
        };
        table = rw own lines;
      }

  -- and those of a run
  pub run_ended : (places : List ℕ) (keys : List LineKey) (run : Part) (last : StartText) → IsOpenRunAt bytes run last → AreEndedInOrder bytes places keys (sofar.Run run last) (records.Run run)
  run_ended places keys run last is = record {
    fit = record {
      within = is.within;
      run = record { read = is.run.read; ascend = is.run.starts.ascend };
      ended = λ some. last_is (text_at bytes run) is.run.front line_feed is.run.ends;
    };
    table = ascending_table (λ (l : SourceLine). l.start) (λ l. l.size) (lines_in (text_at bytes run)) is.run.starts.ascend;
  }

  -- and none
  pub none_ended : (places : List ℕ) (keys : List LineKey) → AreEndedInOrder bytes places keys sofar.Empty (records.Run (record { from = 0; to = 0 }))
  none_ended places keys = record {
    fit = record {
      within = record { ordered = omega arith; within = omega arith };
      run = record { read = tt; ascend = λ i j below within. absurd (omega (arith, within)) };
      ended = λ some. absurd (omega (arith, some));
    };
    table = ascending_table (λ (l : SourceLine). l.start) (λ l. l.size) [] (λ i j below within. absurd (omega (arith, within)));
  }
