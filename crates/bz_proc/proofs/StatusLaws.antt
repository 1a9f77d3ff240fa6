-- What is read of a status is what it tells.
use Rattle.std.proofs.Common.{◌≡◌, ◌⊎◌, ℕ, ◌-◌, ◌<◌, Bool, true, false, not, cond, List, [], ◌∷◌, ◌++◌, length, take, drop, Option, Some, None, option_map, inl, inr, reverse, refl, sym, ap, subst, ◌∙◌, arith, append_assoc, length-append}
use Rattle.std.specs.List.{AllByRecursion, find, prefix_len, suffix_len}
use Rattle.std.specs.Str.{is_utf8}
use Rattle.std.proofs.lemmas.List.{length-reverse, reverse-append}
use Rattle.std.proofs.lemmas.Option.{none-some, same_Some}
use Rattle.std.proofs.lemmas.Str.{IsUtf8-from_is_utf8}
use Rattle.std.proofs.Math.Seq.{take-append_seam, drop-append_seam}
use Rattle.bz_base.specs.Byte.{begins_with}
use Rattle.bz_base.specs.Line.{all_lines}
use Rattle.bz_base.proofs.LineLemmas.{all_found, all_again}
use Rattle.bz_proc.specs.Status.{is_between, EndsBetween, IsLastWord, SpellsId, has_label, IsFirstLabelled, Tells, label, to_last_word, last_word, number_in, labelled, id_behind, ns_tgid_in}
use Rattle.bz_proc.proofs.RunLemmas.{AllOf, run_len}
use Rattle.bz_proc.proofs.StatusLemmas.{id_utf8, spelled_found, spelled_again}

-- Runs at the end of a text.

-- the text ends in no byte of the kind
abbrev EndsApart : (ℕ → Bool) → List ℕ → Type 0
EndsApart kind front = (front ≡ []) ⊎ ((more : List ℕ) × (b : ℕ) × (front ≡ more ++ b ∷ []) × (kind b ≡ false))

module _ (kind : ℕ → Bool) where
  all_append : (front back : List ℕ) → AllOf kind front → AllOf kind back → AllOf kind (front ++ back)
  all_append [] back all more = more
  all_append (b ∷ front) back all more = (all.0, all_append front back all.1 more)

  all_reverse : (run : List ℕ) → AllOf kind run → AllOf kind (reverse run)
  all_reverse [] all = tt
  all_reverse (b ∷ run) all = subst (AllOf kind) (sym (reverse-append (b ∷ []) run)) (all_append (reverse run) (b ∷ []) (all_reverse run all.1) (all.0, tt))

  apart_reverse : (front : List ℕ) → EndsApart kind front → begins_with kind (reverse front) ≡ false
  apart_reverse front (inl none) = ap (λ text. begins_with kind (reverse text)) none
  apart_reverse front (inr (more, b, parts, other)) = ap (λ text. begins_with kind (reverse text)) parts ∙ ap (begins_with kind) (reverse-append more (b ∷ [])) ∙ other

  -- a run at the end is as long as its bytes go
  end_run : (front run : List ℕ) → AllOf kind run → EndsApart kind front → suffix_len kind (front ++ run) ≡ length run
  end_run front run all apart =
      ap (prefix_len kind) (reverse-append front run)
      ∙ run_len kind (reverse run) (reverse front) (all_reverse run all) (apart_reverse front apart)
      ∙ length-reverse run

-- what is left before so many bytes at the end
before_end : (front run : List ℕ) (n : ℕ) → n ≡ length run → length (front ++ run) - n ≡ length front
before_end front run n is = omega (arith, length-append front run)

-- Last words.

-- bytes of a word aren't between words
solid_kind : (word : List ℕ) → AllByRecursion (λ b. is_between b ≡ false) word → AllOf (λ b. not (is_between b)) word
solid_kind [] solid = tt
solid_kind (b ∷ word) solid = (ap not solid.0, solid_kind word solid.1)

before_apart : (front : List ℕ) → EndsBetween front → EndsApart (λ b. not (is_between b)) front
before_apart front (inl none) = inl none
before_apart front (inr (more, b, parts, is)) = inr (more, b, parts, ap not is)

-- a text that ends in a word ends in no byte between words
word_apart : (front word : List ℕ) → 0 < length word → AllByRecursion (λ b. is_between b ≡ false) word → EndsApart is_between (front ++ word)
word_apart front [] some solid = absurd (omega arith)
word_apart front (b ∷ []) some solid = inr (front, b, refl, solid.0)
word_apart front (b ∷ d ∷ word) some solid =
    let P : List ℕ → Type 0 = EndsApart is_between in
    subst P (append_assoc front (b ∷ []) (d ∷ word)) (word_apart (front ++ b ∷ []) (d ∷ word) (omega arith) solid.1)

-- the last word is read
word_again : (text word : List ℕ) → IsLastWord text word → last_word text ≡ word
word_again text word is =
    ap last_word (is.parts ∙ sym (append_assoc is.front word is.back)) ∙ at (is.front ++ word) refl
  where
    at : (kept : List ℕ) → kept ≡ is.front ++ word → last_word (kept ++ is.back) ≡ word
    at kept kept_is =
        let apart : EndsApart is_between kept = let P : List ℕ → Type 0 = EndsApart is_between in subst P (sym kept_is) (word_apart is.front word is.positive is.solid) in
        let cut : to_last_word (kept ++ is.back) ≡ kept =
        ap (λ n. take n (kept ++ is.back)) (before_end kept is.back (suffix_len is_between (kept ++ is.back)) (end_run is_between kept is.back is.behind apart))
        ∙ take-append_seam kept is.back in
        let run = end_run (λ b. not (is_between b)) is.front word (solid_kind word is.solid) (before_apart is.front is.before) in
        ap (λ t. drop (length t - suffix_len (λ b. not (is_between b)) t) t) (cut ∙ kept_is)
        ∙ ap (λ n. drop n (is.front ++ word)) (before_end is.front word (suffix_len (λ b. not (is_between b)) (is.front ++ word)) run)
        ∙ drop-append_seam is.front word

-- a text has a last word, or all of its bytes stand between words
some_word : (text : List ℕ) → AllOf is_between text ⊎ ((word : List ℕ) × IsLastWord text word)
some_word [] = inl tt
some_word (b ∷ text) = by (is_between b) refl (some_word text)
  where
    more : (front word : List ℕ) (test : Bool) → is_between b ≡ test → (back : List ℕ) → text ≡ front ++ (word ++ back) → EndsBetween front → 0 < length word →
        AllByRecursion (λ b. is_between b ≡ false) word → AllOf is_between back → (found : List ℕ) × IsLastWord (b ∷ text) found
    more [] word true is back parts before positive solid behind =
        (word, record { front = b ∷ []; back = back; parts = ap (λ t. b ∷ t) parts; before = inr ([], b, refl, is); positive = positive; solid = solid; behind = behind })
    more [] word false is back parts before positive solid behind =
        (b ∷ word, record { front = []; back = back; parts = ap (λ t. b ∷ t) parts; before = inl refl; positive = omega arith; solid = (is, solid); behind = behind })
    more (c ∷ front) word test is back parts (inl none) positive solid behind = cc
    more (c ∷ front) word test is back parts (inr (rest, d, ends, between)) positive solid behind =
        (word, record { front = b ∷ c ∷ front; back = back; parts = ap (λ t. b ∷ t) parts; before = inr (b ∷ rest, d, ap (λ t. b ∷ t) ends, between); positive = positive; solid = solid; behind = behind })

    by : (test : Bool) → is_between b ≡ test → AllOf is_between text ⊎ ((word : List ℕ) × IsLastWord text word) →
        AllOf is_between (b ∷ text) ⊎ ((word : List ℕ) × IsLastWord (b ∷ text) word)
    by test is (inr (word, last)) = inr (more last.front word test is last.back last.parts last.before last.positive last.solid last.behind)
    by true is (inl all) = inl (is, all)
    by false is (inl all) = inr (b ∷ [], record { front = []; back = text; parts = refl; before = inl refl; positive = omega arith; solid = (is, tt); behind = all })

-- where all bytes stand between words, no word is read
no_word : (text : List ℕ) → AllOf is_between text → last_word text ≡ []
no_word text all =
    let cut : to_last_word text ≡ [] = ap (λ n. take n text) (before_end [] text (suffix_len is_between text) (end_run is_between [] text all (inl refl))) in
    ap (λ t. drop (length t - suffix_len (λ b. not (is_between b)) t) t) cut

-- a word that is read is the last one
word_found : (text : List ℕ) → 0 < length (last_word text) → IsLastWord text (last_word text)
word_found text some = elim (some_word text) [
  | inl all ↦ absurd (omega (arith, some, ap length (no_word text all)))
  | inr found ↦ let P : List ℕ → Type 0 = IsLastWord text in subst P (sym (word_again text found.0 found.1)) found.1
]

-- a word that spells an id isn't empty
spelled_some : (word : List ℕ) (id : ℕ) → SpellsId word id → 0 < length word
spelled_some [] id spells = absurd (omega (arith, spells.numeral.0))
spelled_some (b ∷ word) id spells = omega arith

-- The line with the label.

first_found : (lines : List (List ℕ)) (line : List ℕ) → find has_label lines ≡ Some line → IsFirstLabelled lines line
first_found [] line read = absurd (none-some line read)
first_found (l ∷ lines) line read = by (has_label l) refl (first_found lines line) read
  where
    by : (test : Bool) → has_label l ≡ test → (find has_label lines ≡ Some line → IsFirstLabelled lines line) → cond test (Some l) (find has_label lines) ≡ Some line → IsFirstLabelled (l ∷ lines) line
    by true is later read =
        let same = same_Some l line read in
        let P : List ℕ → Type 0 = IsFirstLabelled (l ∷ lines) in
        subst P same (record { before = []; after = lines; parts = refl; labelled = is; others = tt })
    by false is later read =
        let found = later read in
        record { before = l ∷ found.before; after = found.after; parts = ap (λ ls. l ∷ ls) found.parts; labelled = found.labelled; others = (is, found.others) }

first_again : (before after : List (List ℕ)) (line : List ℕ) → has_label line ≡ true → AllByRecursion (λ l. has_label l ≡ false) before →
    find has_label (before ++ line ∷ after) ≡ Some line
first_again [] after line is others = rw is refl
first_again (l ∷ before) after line is others = rw others.0 (first_again before after line is others.1)

none_found : (lines : List (List ℕ)) → find has_label lines ≡ None → AllByRecursion (λ l. has_label l ≡ false) lines
none_found [] read = tt
none_found (l ∷ lines) read = by (has_label l) refl (none_found lines) read
  where
    by : (test : Bool) → has_label l ≡ test → (find has_label lines ≡ None → AllByRecursion (λ l. has_label l ≡ false) lines) → cond test (Some l) (find has_label lines) ≡ None →
        AllByRecursion (λ l. has_label l ≡ false) (l ∷ lines)
    by true is later read = absurd (none-some l (sym read))
    by false is later read = (is, later read)

none_again : (lines : List (List ℕ)) → AllByRecursion (λ l. has_label l ≡ false) lines → find has_label lines ≡ None
none_again [] others = refl
none_again (l ∷ lines) others = rw others.0 (none_again lines others.1)

-- Status texts.

module _ (status : List ℕ) where
  -- what is read behind a label, or without one, is told
  behind_found : (line : Option (List ℕ)) (told : Option ℕ) → is_utf8 status ≡ true → find has_label (all_lines status) ≡ line →
      id_behind (option_map (drop (length label)) line) ≡ Some told → Tells status told
  behind_found None None utf8 first read =
      record { utf8 = IsUtf8-from_is_utf8 status utf8; lines = all_lines status; are_lines = all_found status; others = none_found (all_lines status) first }
  behind_found None (Some id) utf8 first read = cc
  behind_found (Some line) told utf8 first read = by (number_in (last_word (drop (length label) line))) refl told read
    where
      by : (number : Option ℕ) → number_in (last_word (drop (length label) line)) ≡ number → (told : Option ℕ) → option_map (λ id. Some id) number ≡ Some told → Tells status told
      by None is told read = absurd (none-some told read)
      by (Some number) is None read = cc
      by (Some number) is (Some id) read =
          let same : number ≡ id = cc in
          let spells = spelled_found (last_word (drop (length label) line)) id (is ∙ ap Some same) in
          record {
            utf8 = IsUtf8-from_is_utf8 status utf8;
            lines = all_lines status;
            line = line;
            word = last_word (drop (length label) line);
            are_lines = all_found status;
            first = first_found (all_lines status) line first;
            last = word_found (drop (length label) line) (spelled_some (last_word (drop (length label) line)) id spells);
            spells = spells;
          }

  -- what is read is told
  pub tells_found : (told : Option ℕ) → ns_tgid_in status ≡ Some told → Tells status told
  tells_found told read = by (is_utf8 status) refl read
    where
      by : (test : Bool) → is_utf8 status ≡ test → cond test (id_behind (labelled status)) None ≡ Some told → Tells status told
      by false is read = absurd (none-some told read)
      by true is read = behind_found (find has_label (all_lines status)) told is refl read

  -- what is told is read
  pub tells_again : (told : Option ℕ) → Tells status told → ns_tgid_in status ≡ Some told
  tells_again None tells =
      id_utf8 status tells.utf8
      ∙ ap (λ line. id_behind (option_map (drop (length label)) line)) (ap (find has_label) (all_again status tells.lines tells.are_lines) ∙ none_again tells.lines tells.others)
  tells_again (Some id) tells =
      let first = tells.first in
      id_utf8 status tells.utf8
      ∙ ap (λ line. id_behind (option_map (drop (length label)) line))
      (ap (find has_label) (all_again status tells.lines tells.are_lines ∙ first.parts) ∙ first_again first.before first.after tells.line first.labelled first.others)
      ∙ ap (λ word. option_map (λ n. Some n) (number_in word)) (word_again (drop (length label) tells.line) tells.word tells.last)
      ∙ ap (option_map (λ n. Some n)) (spelled_again tells.word id tells.spells)
