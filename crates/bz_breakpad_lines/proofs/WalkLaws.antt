-- The lines are read as the records that they are.
use Rattle.std.proofs.Common.{◌≡◌, ℕ, suc, ◌+◌, Bool, true, false, cond, ◌&&◌, inl, inr, List, [], ◌∷◌, ◌++◌, take, drop, Option, Some, None, option_map, refl, sym, ap, subst, ◌∙◌, arith, append-nil}
use Rattle.std.specs.List.{prefix_len}
use Rattle.std.proofs.lemmas.Bool.{and_parts, and_right, cond_both, false≢true, true≢false}
use Rattle.std.proofs.lemmas.List.{take-append-drop}
use Rattle.std.proofs.lemmas.Option.{same_Some, none-some}
use Rattle.std.proofs.Math.Seq.{drop-append_seam}
use Rattle.bz_base.specs.Bind.{◌>>=◌}
use Rattle.bz_base.specs.Byte.{begins_with}
use Rattle.bz_base.specs.Number.{digits_at}
use Rattle.bz_breakpad_lines.specs.Byte.{is_white, is_nothing}
use Rattle.bz_breakpad_lines.specs.Form.{AllPass}
use Rattle.bz_breakpad_lines.specs.Reads.{form_at, piece_at, run_at}
use Rattle.bz_breakpad_lines.specs.Choice.{One, one_at, body_at}
use Rattle.bz_breakpad_lines.specs.Records.{TOP, INNER, STACK_CFI}
use Rattle.bz_breakpad_lines.specs.Contexts.{Context, Record, context_after, white_allowed_after, IsUnder, IsBodyOf, IsRecord, body_record, under_at, IsText, or_record, record_at, after_white}
use Rattle.bz_breakpad_lines.specs.Contexts.Context.{Outside, InFunc, InCfi}
use Rattle.bz_breakpad_lines.specs.Contexts.Record.{Top, OfFunc, OfCfi}
use Rattle.bz_breakpad_lines.proofs.ChoiceLaws.{one_found, one_again, body_found, body_again}
use Rattle.bz_breakpad_lines.proofs.FormLaws.{form_found, form_again}
use Rattle.bz_breakpad_lines.proofs.Runs.{front_passes, run_len}
use Rattle.bz_breakpad_lines.proofs.Turns.{bind_some, map_some}
use Rattle.bz_breakpad_lines.proofs.Walks.{IsWalkedExactly, Walks, walk}

-- where a run ends, no further byte is of its kind
run_stops : (byte : ℕ → Bool) (text : List ℕ) → begins_with byte (drop (prefix_len byte text) text) ≡ false
run_stops byte [] = refl
run_stops byte (b ∷ text) =
    let more : 1 + prefix_len byte text ≡ suc (prefix_len byte text) = omega arith in
    cond_both (byte b) (1 + prefix_len byte text) 0 (λ n. begins_with byte (drop n (b ∷ text)) ≡ false)
    (λ yes. rw more (run_stops byte text)) (λ none. none)

text_found : (white_allowed : Bool) (line : List ℕ) → IsText white_allowed line (after_white white_allowed line)
unfolding after_white
text_found true line = record {
  front = take (prefix_len is_white line) line;
  whole = sym (take-append-drop (prefix_len is_white line) line);
  white = front_passes is_white line;
  bound = λ no_space. absurd (true≢false no_space);
  longest = λ _. run_stops is_white line;
}
text_found false line = record { front = []; whole = refl; white = tt; bound = λ _. refl; longest = λ is. absurd (false≢true is) }

text_again : (white_allowed : Bool) (line text : List ℕ) → IsText white_allowed line text → after_white white_allowed line ≡ text
unfolding after_white
text_again true line text is =
    rw (is.whole, run_len is_white is.front text is.white (is.longest refl), drop-append_seam is.front text) refl
text_again false line text is = is.whole ∙ ap (λ x. x ++ text) (is.bound refl)

under_found : (c : Context) (body : List ℕ) (r : Record) → under_at c body ≡ Some r → IsUnder c body r
under_found Outside body r is = absurd (none-some r is)
under_found InFunc body r is =
    let one = map_some OfFunc (one_at INNER body) r is in
    subst (λ x. IsUnder InFunc body x) one.2 (one_found INNER body one.0 one.1)
under_found InCfi body r is =
    let one = map_some (λ _. OfCfi) (form_at STACK_CFI body) r is in
    subst (λ x. IsUnder InCfi body x) one.2 (form_found STACK_CFI body one.0 one.1)

under_again : (c : Context) (body : List ℕ) (r : Record) → IsUnder c body r → under_at c body ≡ Some r
under_again InFunc body (OfFunc one) is = ap (option_map OfFunc) (one_again INNER refl body one is)
under_again InCfi body OfCfi is = ap (option_map (λ _. OfCfi)) (form_again STACK_CFI refl body tt is)
under_again _ body _ is = absurd is

-- a record under another is that of its body
under_body : (c : Context) (body : List ℕ) (r : Record) → IsUnder c body r → IsBodyOf c body r
under_body c body (OfFunc one) is = is
under_body c body OfCfi is = is
under_body Outside body (Top one) is = absurd is
under_body InFunc body (Top one) is = absurd is
under_body InCfi body (Top one) is = absurd is

or_record_found : (c : Context) (body : List ℕ) (o : Option Record) (p : Option (One TOP)) (r : Record) →
    under_at c body ≡ o → one_at TOP body ≡ p → or_record o (option_map Top p) ≡ Some r → IsBodyOf c body r
or_record_found c body (Some under) p r is_under top is = under_body c body r (under_found c body r (is_under ∙ is))
or_record_found c body None (Some one) r is_under top is =
    subst (λ x. IsBodyOf c body x) (same_Some (Top one) r is)
    (λ other at. none-some other (sym is_under ∙ under_again c body other at), one_found TOP body one top)
or_record_found c body None None r is_under top is = absurd (none-some r is)

-- what a body is read as, it is
pub body_found_of : (c : Context) (body : List ℕ) (r : Record) → body_record c body ≡ Some r → IsBodyOf c body r
body_found_of c body r is = or_record_found c body (under_at c body) (one_at TOP body) r refl refl is

or_record_top : (o : Option Record) (r : Record) → ((other : Record) → o ≡ Some other → ⊥) → or_record o (Some r) ≡ Some r
or_record_top (Some other) r none = absurd (none other refl)
or_record_top None r none = refl

body_read : (c : Context) (body : List ℕ) (r : Record) → IsBodyOf c body r → or_record (under_at c body) (option_map Top (one_at TOP body)) ≡ Some r
body_read c body (Top one) is =
    ap (λ o. or_record (under_at c body) (option_map Top o)) (one_again TOP refl body one is.1)
    ∙ or_record_top (under_at c body) (Top one) (λ other read. is.0 other (under_found c body other read))
body_read c body (OfFunc one) is = rw (under_again c body (OfFunc one) is) refl
body_read c body OfCfi is = rw (under_again c body OfCfi is) refl

record_found : (c : Context) (line : List ℕ) (r : Record) → record_at c line ≡ Some r → IsRecord c line r
unfolding record_at
record_found c line r is =
    let body = bind_some (body_at line) (λ body. or_record (under_at c body) (option_map Top (one_at TOP body))) r is in
    (body.0, body_found line body.0 body.1, or_record_found c body.0 (under_at c body.0) (one_at TOP body.0) r refl refl body.2)

record_again : (c : Context) (line : List ℕ) (r : Record) → IsRecord c line r → record_at c line ≡ Some r
unfolding record_at
record_again c line r is = rw (body_again line is.0 is.1) (body_read c is.0 r is.2)

-- no record is empty
record_nothing : (c : Context) → record_at c [] ≡ None
unfolding record_at body_at piece_at run_at digits_at
record_nothing Outside = refl
record_nothing InFunc = refl
record_nothing InCfi = refl

-- a line with nothing but white space
white_line : (line : List ℕ) → is_nothing (after_white true line) ≡ true → AllPass is_white line
unfolding after_white
white_line line none = by (drop n line) refl none where
  n : ℕ
  n = prefix_len is_white line

  by : (rest : List ℕ) → drop n line ≡ rest → is_nothing rest ≡ true → AllPass is_white line
  by [] is none =
      let same : take n line ≡ line = sym (append-nil (take n line)) ∙ ap (λ x. take n line ++ x) (sym is) ∙ take-append-drop n line in
      subst (λ x. AllPass is_white x) same (front_passes is_white line)
  by (b ∷ rest) is none = absurd (false≢true none)

line_white : (line : List ℕ) → AllPass is_white line → after_white true line ≡ []
unfolding after_white
line_white line white =
    text_again true line [] (record { front = line; whole = sym (append-nil line); white = white; bound = λ e. absurd (true≢false e); longest = λ _. refl })

abbrev next : (Context → Bool → List (List ℕ) → Option (List Record)) → List (List ℕ) → Record → Option (List Record)
next go lines r = option_map (λ rest. r ∷ rest) (go (context_after r) (white_allowed_after r) lines)

walk_found : (c : Context) (white_allowed : Bool) (lines : List (List ℕ)) (records : List Record) → walk c white_allowed lines ≡ Some records → Walks c white_allowed lines records
walk_found c white_allowed [] records is = sym (same_Some [] records is)
walk_found c white_allowed (line ∷ lines) records is =
    line_found (white_allowed && is_nothing (after_white white_allowed line)) refl is (walk_found c white_allowed lines records) (λ d f rest. walk_found d f lines rest) where
      line_found : (test : Bool) → (white_allowed && is_nothing (after_white white_allowed line)) ≡ test →
          cond test (walk c white_allowed lines) (record_at c (after_white white_allowed line) >>= next walk lines) ≡ Some records →
          (walk c white_allowed lines ≡ Some records → Walks c white_allowed lines records) →
          ((d : Context) (f : Bool) (rest : List Record) → walk d f lines ≡ Some rest → Walks d f lines rest) →
          Walks c white_allowed (line ∷ lines) records
      line_found true test is passed later =
          let parts = and_parts white_allowed (is_nothing (after_white white_allowed line)) test in
          inl (parts.0, white_line line (rw parts.0 at parts.1), passed is)
      line_found false test is passed later =
          let first = bind_some (record_at c (after_white white_allowed line)) (next walk lines) records is in
          let rest = map_some (λ rest. first.0 ∷ rest) (walk (context_after first.0) (white_allowed_after first.0) lines) records first.2 in
          inr (record {
            text = after_white white_allowed line;
            first = first.0;
            others = rest.0;
            text_is = text_found white_allowed line;
            first_is = record_found c (after_white white_allowed line) first.0 first.1;
            rest = later (context_after first.0) (white_allowed_after first.0) rest.0 rest.1;
            records_are = sym rest.2;
          })

nothing_is : (text : List ℕ) → is_nothing text ≡ true → text ≡ []
nothing_is [] none = refl
nothing_is (b ∷ text) none = absurd (false≢true none)

-- a line that is read has a text
pub some_text : (c : Context) (text : List ℕ) (r : Record) → record_at c text ≡ Some r → is_nothing text ≡ false
some_text c [] r is = absurd (none-some r (sym (record_nothing c) ∙ is))
some_text c (b ∷ text) r is = refl

walk_again : (c : Context) (white_allowed : Bool) (lines : List (List ℕ)) (records : List Record) → Walks c white_allowed lines records → walk c white_allowed lines ≡ Some records
walk_again c white_allowed [] records is = ap (λ rs. Some rs) (sym is)
walk_again c white_allowed (line ∷ lines) records (inl is) =
    rw (is.0, line_white line is.1) (rw is.0 at (walk_again c white_allowed lines records is.2))
walk_again c white_allowed (line ∷ lines) records (inr is) =
    let first = record_again c is.text is.first is.first_is in
    rw (
      text_again white_allowed line is.text is.text_is,
      some_text c is.text is.first first,
      and_right white_allowed false refl,
      first,
      walk_again (context_after is.first) (white_allowed_after is.first) lines is.others is.rest,
      is.records_are,
    ) refl

pub walked_exactly : IsWalkedExactly
walked_exactly c white_allowed lines records = (walk_found c white_allowed lines records, walk_again c white_allowed lines records)
