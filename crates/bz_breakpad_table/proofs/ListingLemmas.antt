-- The line records of a run are listed, and others after them.
use Rattle.std.proofs.Common.{◌≡◌, ℕ, ◌+◌, ◌-◌, ◌<◌, ◌≤◌, true, false, Bool, cond, nat_eq, List, [], ◌∷◌, ◌++◌, length, drop, Option, Some, None, option_map, IsSome, refl, sym, ap, subst, ◌∙◌, arith, append_assoc, append-nil, length-append, length-drop}
use Rattle.std.specs.List.{AllByRecursion, cons_option, filter_map}
use Rattle.std.proofs.lemmas.Bool.{false≢true}
use Rattle.std.proofs.lemmas.List.{drop-drop, length-take-le, map-append, take-append-drop}
use Rattle.std.proofs.lemmas.List.Elements.{filter_map-append}
use Rattle.std.proofs.Math.Seq.{drop-append_seam}
use Rattle.bz_base.specs.Bind.{◌>>=◌}
use Rattle.bz_base.specs.Byte.{line_feed, HasNo}
use Rattle.bz_base.specs.Line.{all_lines, before_ended, ended, ended_lines}
use Rattle.bz_base.proofs.ListLemmas.{all_and_one}
use Rattle.bz_breakpad_lines.specs.Choice.{body_at}
use Rattle.bz_breakpad_table.specs.Kept.{AreListed, AreListedTo, IsLineKey, IsLonger, IsOpenRunAt, kept_lines, records_so_far, text_at}
use Rattle.bz_breakpad_lines.specs.LineStarts.{ReadsLine}
use Rattle.bz_breakpad_lines.specs.Line.{line_front, line_in, source_line}
use Rattle.bz_breakpad_table.specs.LineKeys.{line_key, places_of}
use Rattle.bz_breakpad_table.specs.LineRun.{lines_in}
use Rattle.bz_breakpad_lines.specs.Reads.{form_at}
use Rattle.bz_breakpad_lines.specs.Records.{LINE}
use Rattle.bz_breakpad_lines.specs.Table.{SourceLine}
use Rattle.bz_breakpad_table.specs.declared.standing.LinesSoFar.{LinesSoFar}
use Rattle.bz_breakpad_table.specs.declared.standing.LinesSoFar.TheVariants as sofar
use Rattle.bz_breakpad_lines.specs.declared.start_text.StartText.{StartText}
use Rattle.bz_breakpad_table.specs.declared.types.LineKey.{LineKey}
use Rattle.bz_breakpad_table.specs.declared.types.Part.{Part}
use Rattle.bz_breakpad_lines.proofs.LineFrontLemmas.{line_front_of}
use Rattle.bz_breakpad_table.proofs.RunLemmas.{front_front}

-- a run that ends within the bytes isn't longer than the bytes up to its end
pub run_within : (bytes : List ℕ) (run : Part) → run.to ≤ length bytes → length (text_at bytes run) ≤ run.to
run_within bytes run within =
    let many = run.to - run.from in
    omega (arith, length-take-le many (drop run.from bytes) (omega (arith, within, length-drop run.from bytes)))

-- the last line of a text has its end where the text ends with a line feed
ended_some : (front : List ℕ) → (line : List ℕ) × (lines : List (List ℕ)) × (ended_lines (front ++ line_feed ∷ []) ≡ Some (line ∷ lines))
ended_some [] = ([], [], refl)
ended_some (b ∷ front) =
    let rest = ended_some front in
    let next = by (nat_eq b line_feed) rest.0 rest.1 in
    (next.0, next.1, ap (before_ended b) rest.2 ∙ next.2) where
      by : (is_end : Bool) (first : List ℕ) (others : List (List ℕ)) →
          (line : List ℕ) × (lines : List (List ℕ)) × (cond is_end (Some ([] ∷ (first ∷ others))) (Some ((b ∷ first) ∷ others)) ≡ Some (line ∷ lines))
      by true first others = ([], first ∷ others, refl)
      by false first others = (b ∷ first, others, refl)

one_ended : (o p : Option (List (List ℕ))) (line : List ℕ) → o ≡ option_map (λ lines. line ∷ lines) p → IsSome o → IsSome p
one_ended o None line is some = subst (λ (q : Option (List (List ℕ))). IsSome q) is some
one_ended o (Some lines) line is some = refl

-- a text whose last line has its end has no line if its lines have no end
none_ended : (text : List ℕ) → IsSome (ended_lines text) → (0 < length text → ended_lines text ≡ None) → text ≡ []
none_ended [] some none = refl
none_ended (b ∷ text) some none = absurd (false≢true (rw (none (omega arith)) at some))

-- the line record of one key more
lines_more : (bytes : List ℕ) (keys more_keys : List LineKey) (place : ℕ) → more_keys ≡ keys ++ line_key bytes place ∷ [] →
    kept_lines bytes (places_of more_keys) ≡ kept_lines bytes (places_of keys) ++ kept_lines bytes (place ∷ [])
lines_more bytes keys more_keys place more =
    ap (kept_lines bytes) (ap places_of more ∙ map-append (λ (k : LineKey). k.place) keys (line_key bytes place ∷ []))
    ∙ filter_map-append (λ p. line_in (drop p bytes)) (places_of keys) (place ∷ [])

module _ (bytes : List ℕ) (run : Part) where
  -- at the front none is listed
  pub listing_begins : (last : StartText) → IsOpenRunAt bytes run last → AreListedTo bytes run (text_at bytes run) []
  listing_begins last is =
      let text = text_at bytes run in
      let many = run.to - run.from in
      let long : length text ≡ many = length-take-le many (drop run.from bytes) (omega (arith, length-drop run.from bytes, is.within.within)) in
      let back : run.from + (run.to - run.from) ≡ run.to = omega (arith, is.within.ordered) in
      record {
        fits = tt;
        rest_is =
            ap (λ n. drop n bytes) (omega (arith, long, is.within.ordered))
            ∙ sym (take-append-drop many (drop run.from bytes))
            ∙ ap (λ rest. text ++ rest) (drop-drop many run.from bytes ∙ ap (λ n. drop n bytes) back);
        records = is.run.read;
        ended = subst (λ t. IsSome (ended_lines t)) (sym is.run.ends) (subst (λ (o : Option (List (List ℕ))). IsSome o) (sym (ended_some is.run.front).2) refl);
        are = refl;
      }

  -- at the end all are
  pub listing_ends : (rest : List ℕ) (keys : List LineKey) → (0 < length rest → ended_lines rest ≡ None) → AreListedTo bytes run rest keys → AreListedTo bytes run [] keys
  listing_ends rest keys none is = subst (λ r. AreListedTo bytes run r keys) (none_ended rest is.ended none) is

  module _ (line after : List ℕ) (none : HasNo line_feed line) where
    abbrev beyond : List ℕ
    beyond = drop run.to bytes

    in_front : (more : List ℕ) → line_front (ended line ++ more) ≡ line
    in_front more = line_front_of line more none

    line_alone : line_in line ≡ option_map source_line (body_at line >>= form_at LINE)
    line_alone =
        ap (λ front. option_map source_line (body_at front >>= form_at LINE))
        (ap line_front (sym (in_front after)) ∙ front_front (ended line ++ after) ∙ in_front after)

    -- and one more after others
    pub listing_goes_on : (rest : List ℕ) (keys next_keys : List LineKey) → rest ≡ ended line ++ after → all_lines rest ≡ line ∷ all_lines after →
        ended_lines rest ≡ option_map (λ lines. line ∷ lines) (ended_lines after) → length rest ≤ run.to →
        next_keys ≡ keys ++ line_key bytes (run.to - length rest) ∷ [] → AreListedTo bytes run rest keys → AreListedTo bytes run after next_keys
    listing_goes_on rest keys next_keys whole lines ends within next is =
        let place = run.to - length rest in
        let long : length rest ≡ length (ended line) + length after = ap length whole ∙ length-append (ended line) after in
        let records = subst (AllByRecursion (λ (l : List ℕ). IsSome (line_in l))) lines is.records in
        let there : drop place bytes ≡ ended line ++ (after ++ beyond) = is.rest_is ∙ ap (λ r. r ++ beyond) whole ∙ append_assoc (ended line) after beyond in
        let same : line_in (drop place bytes) ≡ line_in line
        = ap (λ front. option_map source_line (body_at front >>= form_at LINE)) (ap line_front there ∙ in_front (after ++ beyond)) ∙ sym line_alone in
        let reads : ReadsLine bytes place = subst (λ (o : Option SourceLine). IsSome o) (sym same) records.0 in
        let start : run.to - length after ≡ place + length (ended line) = omega (arith, long, within) in
        record {
          fits = rw next (all_and_one (IsLineKey bytes) keys (line_key bytes place) is.fits (record { reads = reads; start_is = refl; size_is = refl }));
          rest_is =
              ap (λ n. drop n bytes) start
              ∙ sym (drop-drop (length (ended line)) place bytes)
              ∙ ap (drop (length (ended line))) there
              ∙ drop-append_seam (ended line) (after ++ beyond);
          records = records.1;
          ended = one_ended (ended_lines rest) (ended_lines after) line ends is.ended;
          are =
              ap (λ ls. ls ++ lines_in after) (lines_more bytes keys next_keys place next)
              ∙ append_assoc (kept_lines bytes (places_of keys)) (kept_lines bytes (place ∷ [])) (lines_in after)
              ∙ ap (λ ls. kept_lines bytes (places_of keys) ++ ls) (seen (line_in (drop place bytes)) (line_in line) same ∙ sym (ap (filter_map line_in) lines))
              ∙ is.are;
        } where
          seen : (o p : Option SourceLine) → o ≡ p → cons_option o [] ++ lines_in after ≡ cons_option p (lines_in after)
          seen o None is = ap (λ q. cons_option q [] ++ lines_in after) is
          seen o (Some l) is = ap (λ q. cons_option q [] ++ lines_in after) is

  -- so a run's line records are listed
  pub run_listed : (keys more_keys : List LineKey) (last : StartText) → AreListedTo bytes run [] more_keys → AreListed bytes keys more_keys (sofar.Run run last)
  run_listed keys more_keys last is = record { fits = is.fits; are = sym (append-nil (kept_lines bytes (places_of more_keys))) ∙ is.are }

-- none are listed of none
pub none_listed : (bytes : List ℕ) (keys : List LineKey) → keys ≡ [] → AreListed bytes keys keys sofar.Empty
none_listed bytes keys none = record { fits = rw none tt; are = rw none refl }

-- one line record more after those that are listed
pub listed_longer : (bytes : List ℕ) (keys more_keys next_keys : List LineKey) (old : LinesSoFar) (place : ℕ) (line : SourceLine) → AreListed bytes keys more_keys old →
    next_keys ≡ more_keys ++ line_key bytes place ∷ [] → line_in (drop place bytes) ≡ Some line → IsLonger bytes keys next_keys old sofar.Listed line
listed_longer bytes keys more_keys next_keys old place line is next reads =
    let one : kept_lines bytes (place ∷ []) ≡ line ∷ [] = ap (λ (o : Option SourceLine). cons_option o []) reads in
    let key_is : IsLineKey bytes (line_key bytes place) = record { reads = subst (λ (o : Option SourceLine). IsSome o) (sym reads) refl; start_is = refl; size_is = refl } in
    record {
      fits = rw next (all_and_one (IsLineKey bytes) more_keys (line_key bytes place) is.fits key_is);
      are =
          lines_more bytes more_keys next_keys place next
          ∙ ap (λ ls. ls ++ kept_lines bytes (place ∷ [])) is.are
          ∙ ap (λ ls. records_so_far bytes keys old ++ ls) one;
    }
