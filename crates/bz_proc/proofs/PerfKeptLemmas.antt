-- What is kept of a perf map, while its lines are read one after another and then.
use Rattle.std.proofs.Common.{◌≡◌, ℕ, ◌+◌, ◌-◌, ◌<◌, ◌≤◌, List, [], ◌∷◌, ◌++◌, append_assoc, append-nil, length, take, drop, map, Option, Some, None, option_map, refl, sym, ap, subst, ◌∙◌, arith}
use Rattle.std.specs.Prelude.{IsUtf8}
use Rattle.std.specs.List.{AllByRecursion}
use Rattle.std.proofs.lemmas.Iterator.Adapters.{option_map_id}
use Rattle.std.proofs.lemmas.List.{drop-drop, drop-take, length-append, length-drop, length-take-le, map-append}
use Rattle.std.proofs.lemmas.List.Sums.{prefix_len-le-length}
use Rattle.std.proofs.lemmas.Option.{none-some, same_Some}
use Rattle.std.proofs.Math.ListN.{drop_of_length-le}
use Rattle.std.proofs.Math.Seq.{drop-append_seam}
use Rattle.bz_base.specs.Nearest.{IsTable}
use Rattle.bz_base.proofs.LoadLemmas.{run_goes_on}
use Rattle.bz_base.proofs.ViewLemmas.{table_seen}
use Rattle.bz_proc.specs.PerfKept.{IsKept, IsNamed, entry_to, function_at}
use Rattle.bz_proc.specs.PerfLine.{PerfFunction, perf_function_in}
use Rattle.bz_proc.specs.PerfLines.{before_functions, ends_line, line_front, line_len, perf_functions_in}
use Rattle.bz_proc.specs.PerfMap.{functions, functions_told, unless_told}
use Rattle.bz_proc.specs.declared.perf_map.entry.PerfEntry.{PerfEntry}
use Rattle.bz_proc.proofs.PerfLineLemmas.{first_told, line_found, name_last, with_line}
use Rattle.bz_base.proofs.InTableLemmas.{all_append, all_in_table}
use Rattle.std.specs.Prelude.{not}

-- the functions of the lines before a place are kept, and with those of the lines from there on they
-- are all
pub record IsSoFar (bytes : List ℕ) (entries : List PerfEntry) (place : ℕ) : Type 0 where
  pub within : place ≤ length bytes + 1
  pub functions_are : perf_functions_in bytes ≡ option_map (λ later. map (function_at bytes) entries ++ later) (perf_functions_in (drop place bytes))
  pub named : AllByRecursion (IsNamed bytes) entries

no_lines : perf_functions_in [] ≡ Some []
unfolding perf_functions_in
no_lines = refl

filled_told : (line : List ℕ) (later : Option (List PerfFunction)) → 0 < length line → with_line line later ≡ before_functions (perf_function_in line) later
filled_told [] later some = absurd (omega arith)
filled_told (b ∷ line) later some = refl

empty_told : (line : List ℕ) (later : Option (List PerfFunction)) → length line ≡ 0 → with_line line later ≡ later
empty_told [] later none = refl
empty_told (b ∷ line) later none = absurd (omega arith)

module _ (bytes : List ℕ) where
  pub at_first : IsSoFar bytes [] 0
  at_first = record { within = omega arith; functions_are = sym (option_map_id (perf_functions_in bytes)); named = tt }

  pub at_last : (entries : List PerfEntry) (place : ℕ) → IsSoFar bytes entries place → length bytes ≤ place → perf_functions_in bytes ≡ Some (map (function_at bytes) entries)
  at_last entries place is past =
      is.functions_are
      ∙ ap (λ text. option_map (λ later. map (function_at bytes) entries ++ later) (perf_functions_in text)) (drop_of_length-le bytes past)
      ∙ ap (option_map (λ later. map (function_at bytes) entries ++ later)) no_lines
      ∙ ap Some (append-nil (map (function_at bytes) entries))

  module _ (entries : List PerfEntry) (place past : ℕ) (is : IsSoFar bytes entries place) (room : place < length bytes) (past_is : past ≡ place + line_len (drop place bytes)) where
    abbrev rest : List ℕ
    rest = drop place bytes

    abbrev done : Option (List PerfFunction) → Option (List PerfFunction)
    done later = option_map (λ functions. map (function_at bytes) entries ++ functions) later

    abbrev later : Option (List PerfFunction)
    later = perf_functions_in (drop (past + 1) bytes)

    len : line_len rest ≤ length rest
    len = prefix_len-le-length (λ b. not (ends_line b)) rest

    pub past_within : past ≤ length bytes
    past_within = omega (arith, len, length-drop place bytes)

    -- the line that is cut
    pub cut_is : take (past - place) rest ≡ line_front rest
    cut_is = let e : past - place ≡ line_len rest = omega arith in ap (λ n. take n rest) e

    told : perf_functions_in bytes ≡ done (with_line (line_front rest) later)
    told =
        let e : place + (line_len rest + 1) ≡ past + 1 = omega arith in
        is.functions_are ∙ ap done (first_told rest ∙ ap (λ text. with_line (line_front rest) (perf_functions_in text)) (drop-drop (line_len rest + 1) place bytes ∙ ap (λ n. drop n bytes) e))

    -- an empty line tells nothing
    pub after_empty : length (line_front rest) ≡ 0 → IsSoFar bytes entries (past + 1)
    after_empty none = record {
      within = omega (arith, past_within);
      functions_are = told ∙ ap done (empty_told (line_front rest) later none);
      named = is.named;
    }

    -- a line of another form refuses the whole
    pub after_other : 0 < length (line_front rest) → perf_function_in (line_front rest) ≡ None → unless_told (perf_functions_in bytes) ≡ unless_told None
    after_other some none =
        ap unless_told (told ∙ ap done (filled_told (line_front rest) later some ∙ ap (λ o. before_functions o later) none))

    module _ (f : PerfFunction) (read : perf_function_in (line_front rest) ≡ Some f) where
      abbrev entry : PerfEntry
      entry = entry_to past f

      front : (front : List ℕ) × (line_front rest ≡ front ++ f.name)
      front = name_last (line_front rest) f (line_found (line_front rest) f read)

      lengths : line_len rest ≡ length front.0 + length f.name
      lengths = sym (length-take-le (line_len rest) rest len) ∙ ap length front.1 ∙ length-append front.0 f.name

      -- its name stands where it is kept
      name_there : line_front (drop entry.name bytes) ≡ f.name
      name_there =
          let k = length front.0 in
          let e : past - length f.name ≡ place + k = omega (arith, lengths) in
          let goes = run_goes_on (λ b. not (ends_line b)) k rest (omega (arith, lengths)) in
          let there : drop entry.name bytes ≡ drop k rest = ap (λ n. drop n bytes) e ∙ sym (drop-drop k place bytes) in
          ap line_front there
          ∙ sym (drop-take k (line_len (drop k rest)) rest)
          ∙ ap (λ n. drop k (take n rest)) (sym goes)
          ∙ ap (drop k) front.1
          ∙ drop-append_seam front.0 f.name

      same : function_at bytes entry ≡ f
      same = ap (λ (n : List ℕ). record { name = n; start = f.start; size = f.size }) name_there

      is_named : IsNamed bytes entry
      is_named = record {
        within = omega (arith, past_within);
        utf8 = subst IsUtf8 (sym name_there) (line_found (line_front rest) f read).name;
      }

      one_more : (o : Option (List PerfFunction)) → done (before_functions (Some f) o) ≡ option_map (λ functions. map (function_at bytes) (entries ++ entry ∷ []) ++ functions) o
      one_more None = refl
      one_more (Some functions) =
          ap Some (
          ap (λ g. map (function_at bytes) entries ++ g ∷ functions) (sym same)
          ∙ sym (append_assoc (map (function_at bytes) entries) (function_at bytes entry ∷ []) functions)
          ∙ ap (λ l. l ++ functions) (sym (map-append (function_at bytes) entries (entry ∷ [])))
          )

      -- the function of a line goes behind those before it
      pub after_line : 0 < length (line_front rest) → IsSoFar bytes (entries ++ entry ∷ []) (past + 1)
      after_line some = record {
        within = omega (arith, past_within);
        functions_are = told ∙ ap done (filled_told (line_front rest) later some ∙ ap (λ o. before_functions o later) read) ∙ one_more later;
        named = all_append (IsNamed bytes) entries (entry ∷ []) is.named (is_named, tt);
      }

  -- what was read and put in order is what is kept
  pub kept : (entries sorted : List PerfEntry) → perf_functions_in bytes ≡ Some (map (function_at bytes) entries) → AllByRecursion (IsNamed bytes) entries →
      IsTable (λ e. e.start) (λ e. e.size) entries sorted → IsKept bytes sorted
  kept entries sorted told named table = record {
    formed = ap unless_told told;
    named = all_in_table (IsNamed bytes) (λ (e : PerfEntry). e.start) (λ e. e.size) entries sorted table named;
    functions_are =
        subst (λ (fs : List PerfFunction). IsTable (λ (f : PerfFunction). f.start) (λ f. f.size) fs (map (function_at bytes) sorted)) (sym (ap functions_told told))
        (table_seen (λ (f : PerfFunction). f.start) (λ f. f.size) (function_at bytes) entries sorted table);
  }

-- what is read of a line that tells a function, or tells none
pub entry_read : (past : ℕ) (o : Option PerfFunction) (entry : PerfEntry) → Some entry ≡ option_map (entry_to past) o → (f : PerfFunction) × (o ≡ Some f) × (entry ≡ entry_to past f)
entry_read past None entry is = absurd (none-some entry (sym is))
entry_read past (Some f) entry is = (f, refl, same_Some entry (entry_to past f) is)

pub entry_none : (past : ℕ) (o : Option PerfFunction) → None ≡ option_map (entry_to past) o → o ≡ None
entry_none past None is = refl
entry_none past (Some f) is = absurd (none-some (entry_to past f) is)
