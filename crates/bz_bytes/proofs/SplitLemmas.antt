-- The split of a path into directory and file is the one that its pieces say.
use Rattle.std.proofs.Common.{◌≡◌, inl, inr, ℕ, ◌<◌, Bool, true, false, cond, List, [], ◌∷◌, ◌++◌, length, Option, Some, None, nat_eq, refl, sym, ap, ap₂, subst₂, ◌∙◌, arith}
use Rattle.std.specs.List.{AllByRecursion, list_any, onto_first, join_with_byte}
use Rattle.std.proofs.lemmas.Bool.{or_parts, or_from}
use Rattle.std.proofs.lemmas.List.Splits.{join_with_byte-slice_split}
use Rattle.std.proofs.lemmas.Option.{none-some, some_pair_parts}
use Rattle.bz_bytes.specs.Byte.{HasNo}
use Rattle.bz_bytes.specs.Path.{slash, root, begins_with_slash, ArePieces, is_dead, AreDead, is_first, IsLastLive, IsDirectory, IsSplit, pieces, live_of, last_live, directory_of, split_by, split}
use Rattle.bz_bytes.proofs.PathLemmas.{rooted_if_dead}
use Rattle.bz_bytes.proofs.PieceLemmas.{pieces_some, pieces_alone}

-- The pieces of a text.

-- a byte in front of pieces that is no slash leaves them without one
onto_first_plain : (b : ℕ) (all : List (List ℕ)) → nat_eq b slash ≡ false → AllByRecursion (HasNo slash) all → AllByRecursion (HasNo slash) (onto_first b all)
onto_first_plain b [] other none = (or_from _ _ other refl, tt)
onto_first_plain b (piece ∷ all) other none = (or_from _ _ other none.0, none.1)

-- no piece has a slash
pieces_plain : (text : List ℕ) → AllByRecursion (HasNo slash) (pieces text)
pieces_plain [] = (refl, tt)
pieces_plain (b ∷ text) = by_test (nat_eq b slash) refl (pieces_plain text) where
  by_test : (cut : Bool) → nat_eq b slash ≡ cut → AllByRecursion (HasNo slash) (pieces text) →
      AllByRecursion (HasNo slash) (cond cut ([] ∷ pieces text) (onto_first b (pieces text)))
  by_test true is none = (refl, none)
  by_test false other none = onto_first_plain b (pieces text) other none

-- a text is its pieces
are_pieces : (text : List ℕ) → ArePieces text (pieces text)
are_pieces text = record { positive = pieces_some text; whole = sym (join_with_byte-slice_split slash text); no_slash = pieces_plain text }

-- what stands before a slash is the first piece
pieces_next : (piece rest : List ℕ) → HasNo slash piece → pieces (piece ++ slash ∷ rest) ≡ piece ∷ pieces rest
pieces_next [] rest none = refl
pieces_next (b ∷ piece) rest none =
    let parts = or_parts (nat_eq b slash) (list_any (λ c. nat_eq c slash) piece) none in
    ap₂ (λ cut all. cond cut ([] ∷ all) (onto_first b all)) parts.0 (pieces_next piece rest parts.1)

-- pieces with slashes between them are cut again
joined_again : (all : List (List ℕ)) → 0 < length all → AllByRecursion (HasNo slash) all → pieces (join_with_byte slash all) ≡ all
joined_again [] some none = absurd (omega arith)
joined_again (piece ∷ []) some none = pieces_alone piece none.0
joined_again (piece ∷ next ∷ all) some none =
    pieces_next piece (join_with_byte slash (next ∷ all)) none.0 ∙ ap (λ l. piece ∷ l) (joined_again (next ∷ all) (omega arith) none.1)

-- the pieces of a text are those that it is cut into
pieces_are : (text : List ℕ) (all : List (List ℕ)) → ArePieces text all → pieces text ≡ all
pieces_are text all are = ap pieces are.whole ∙ joined_again all are.positive are.no_slash

-- The last live piece, of pieces whose first is that of the text or isn't.

-- whether a piece after these is the text's first
abbrev at_first : Bool → List (List ℕ) → Bool
at_first first [] = first
at_first first (piece ∷ before) = false

at_first-false : (before : List (List ℕ)) → at_first false before ≡ false
at_first-false [] = refl
at_first-false (piece ∷ before) = refl

at_first-true : (before : List (List ℕ)) → at_first true before ≡ is_first before
at_first-true [] = refl
at_first-true (piece ∷ before) = refl

-- the piece is live, these come before it, and all after it are dead
record IsLast (first : Bool) (all before : List (List ℕ)) (piece : List ℕ) : Type 0 where
  after : List (List ℕ)
  parts : all ≡ before ++ piece ∷ after
  live : is_dead (at_first first before) piece ≡ false
  dead : AreDead false after

-- where none is found all are dead
none_found : (first : Bool) (all : List (List ℕ)) → last_live first all ≡ None → AreDead first all
none_found first [] none = tt
none_found first (piece ∷ all) none = by_rest (last_live false all) refl (λ is. none_found false all is) none where
  by_test : (dead : Bool) → is_dead first piece ≡ dead → cond {A = Option (List (List ℕ) × List ℕ)} dead None (Some ([], piece)) ≡ None → is_dead first piece ≡ true
  by_test true is same = is
  by_test false is same = absurd (none-some ([], piece) (sym same))

  by_rest : (o : Option (List (List ℕ) × List ℕ)) → last_live false all ≡ o → (last_live false all ≡ None → AreDead false all) → live_of first piece o ≡ None →
      AreDead first (piece ∷ all)
  by_rest None is rest same = (by_test (is_dead first piece) refl same, rest is)
  by_rest (Some found) is rest same = absurd (none-some (piece ∷ found.0, found.1) (sym same))

-- and where all are dead none is found
none_again : (first : Bool) (all : List (List ℕ)) → AreDead first all → last_live first all ≡ None
none_again first [] dead = refl
none_again first (piece ∷ all) dead = ap (live_of first piece) (none_again false all dead.1) ∙ ap (λ test. cond test None (Some ([], piece))) dead.0

-- what is found is the last live piece
last_found : (first : Bool) (all before : List (List ℕ)) (piece : List ℕ) → last_live first all ≡ Some (before, piece) → IsLast first all before piece
last_found first [] before piece found = absurd (none-some (before, piece) found)
last_found first (one ∷ all) before piece found = by_rest (last_live false all) refl (λ earlier last is. last_found false all earlier last is) found where
  by_test : (dead : Bool) → is_dead first one ≡ dead → AreDead false all → cond {A = Option (List (List ℕ) × List ℕ)} dead None (Some ([], one)) ≡ Some (before, piece) →
      IsLast first (one ∷ all) before piece
  by_test true is rest same = absurd (none-some (before, piece) same)
  by_test false is rest same =
      let parts = some_pair_parts [] before one piece same in
      let P : List (List ℕ) → List ℕ → Type 0 = IsLast first (one ∷ all) in
      subst₂ P parts.0 parts.1 (record { after = all; parts = refl; live = is; dead = rest })

  later : (found : List (List ℕ) × List ℕ) → IsLast false all found.0 found.1 → live_of first one (Some found) ≡ Some (before, piece) →
      IsLast first (one ∷ all) before piece
  later found last same =
      let parts = some_pair_parts (one ∷ found.0) before found.1 piece same in
      let P : List (List ℕ) → List ℕ → Type 0 = IsLast first (one ∷ all) in
      subst₂ P parts.0 parts.1 (record {
        after = last.after;
        parts = ap (λ l. one ∷ l) last.parts;
        live = ap (λ test. is_dead test found.1) (sym (at_first-false found.0)) ∙ last.live;
        dead = last.dead;
      })

  by_rest : (o : Option (List (List ℕ) × List ℕ)) → last_live false all ≡ o →
      ((earlier : List (List ℕ)) (last : List ℕ) → last_live false all ≡ Some (earlier, last) → IsLast false all earlier last)
      → live_of first one o ≡ Some (before, piece) → IsLast first (one ∷ all) before piece
  by_rest None is rest same = by_test (is_dead first one) refl (none_found false all is) same
  by_rest (Some found) is rest same = later found (rest found.0 found.1 is) same

-- and the last live piece is what is found
last_again : (first : Bool) (before : List (List ℕ)) (piece : List ℕ) (after : List (List ℕ)) → is_dead (at_first first before) piece ≡ false → AreDead false after →
    last_live first (before ++ piece ∷ after) ≡ Some (before, piece)
last_again first [] piece after live dead = ap (live_of first piece) (none_again false after dead) ∙ ap (λ test. cond test None (Some ([], piece))) live
last_again first (one ∷ before) piece after live dead =
    ap (live_of first one) (last_again false before piece after (ap (λ test. is_dead test piece) (at_first-false before) ∙ live) dead)

-- the same of the pieces of a text
is_last_found : (all before : List (List ℕ)) (piece : List ℕ) → last_live true all ≡ Some (before, piece) → IsLastLive all before piece
is_last_found all before piece found =
    let last = last_found true all before piece found in
    record { after = last.after; parts = last.parts; live = ap (λ test. is_dead test piece) (sym (at_first-true before)) ∙ last.live; dead = last.dead }

is_last_again : (all before : List (List ℕ)) (piece : List ℕ) → IsLastLive all before piece → last_live true all ≡ Some (before, piece)
is_last_again all before piece last =
    ap (last_live true) last.parts
    ∙ last_again true before piece last.after (ap (λ test. is_dead test piece) (at_first-true before) ∙ last.live) last.dead

-- Directory and file.

-- the directory that is given is that of the pieces before the file
directory_found : (text : List ℕ) (before : List (List ℕ)) → IsDirectory text before (directory_of (begins_with_slash text) (last_live true before))
directory_found text before = by_last (last_live true before) refl where
  by_test : (rooted : Bool) → begins_with_slash text ≡ rooted → last_live true before ≡ None → IsDirectory text before (directory_of rooted None)
  by_test true is none = inr (none_found true before none, is, refl)
  by_test false is none = (none_found true before none, is)

  by_last : (o : Option (List (List ℕ) × List ℕ)) → last_live true before ≡ o → IsDirectory text before (directory_of (begins_with_slash text) o)
  by_last None none = by_test (begins_with_slash text) refl none
  by_last (Some found) is = inl (found.0, found.1, is_last_found before found.0 found.1 is, refl)

-- and that directory is given
directory_again : (text : List ℕ) (before : List (List ℕ)) (directory : Option (List ℕ)) → IsDirectory text before directory →
    directory_of (begins_with_slash text) (last_live true before) ≡ directory
directory_again text before None is = ap₂ directory_of is.1 (none_again true before is.0)
directory_again text before (Some directory) (inl is) =
    ap (directory_of (begins_with_slash text)) (is_last_again before is.0 is.1 is.2) ∙ ap (λ d. Some d) (sym is.3)
directory_again text before (Some directory) (inr is) =
    ap₂ directory_of is.1 (none_again true before is.0) ∙ ap (λ d. Some d) (sym is.2)

-- what a text is split into is its split
pub split_found : (text : List ℕ) (directory : Option (List ℕ)) (file : List ℕ) → split text ≡ Some (directory, file) → IsSplit text directory file
split_found text directory file given = by_last (last_live true (pieces text)) refl given where
  at_root : (rooted : Bool) → begins_with_slash text ≡ rooted → last_live true (pieces text) ≡ None → split_by rooted None ≡ Some (directory, file) → IsSplit text directory file
  at_root true is none same =
      let parts = some_pair_parts None directory root file same in
      record { all = pieces text; are_pieces = are_pieces text; file_is = inr (none_found true (pieces text) none, is, sym parts.1, sym parts.0) }
  at_root false is none same = absurd (none-some (directory, file) same)

  at_file : (found : List (List ℕ) × List ℕ) → last_live true (pieces text) ≡ Some found →
      split_by (begins_with_slash text) (Some found) ≡ Some (directory, file) → IsSplit text directory file
  at_file found is same =
      let parts = some_pair_parts (directory_of (begins_with_slash text) (last_live true found.0)) directory found.1 file same in
      let P : Option (List ℕ) → List ℕ → Type 0 = IsSplit text in
      subst₂ P parts.0 parts.1 (record {
        all = pieces text;
        are_pieces = are_pieces text;
        file_is = inl (found.0, is_last_found (pieces text) found.0 found.1 is, directory_found text found.0);
      })

  by_last : (o : Option (List (List ℕ) × List ℕ)) → last_live true (pieces text) ≡ o → split_by (begins_with_slash text) o ≡ Some (directory, file) → IsSplit text directory file
  by_last None none same = at_root (begins_with_slash text) refl none same
  by_last (Some found) is same = at_file found is same

-- and its split is what it is split into
pub split_again : (text : List ℕ) (directory : Option (List ℕ)) (file : List ℕ) → IsSplit text directory file → split text ≡ Some (directory, file)
split_again text directory file is = elim is.file_is [
  | inl in_text ↦
      ap (split_by (begins_with_slash text)) (ap (last_live true) (pieces_are text is.all is.are_pieces) ∙ is_last_again is.all in_text.0 file in_text.1)
      ∙ ap (λ d. Some (d, file)) (directory_again text in_text.0 directory in_text.2)
  | inr at_root ↦
      ap₂ split_by at_root.1 (ap (last_live true) (pieces_are text is.all is.are_pieces) ∙ none_again true is.all at_root.0)
      ∙ ap₂ (λ d f. Some (d, f)) (sym at_root.3) (sym at_root.2)
]

-- only the empty text is split into nothing
pub split_none : (text : List ℕ) → split text ≡ None → text ≡ []
split_none [] none = refl
split_none (b ∷ text) none = by_last (last_live true (pieces (b ∷ text))) refl none where
  by_last : (o : Option (List (List ℕ) × List ℕ)) → last_live true (pieces (b ∷ text)) ≡ o → split_by (begins_with_slash (b ∷ text)) o ≡ None → b ∷ text ≡ []
  by_last None dead same =
      let rooted = rooted_if_dead (b ∷ text) dead (omega arith) in
      absurd (none-some (None, root) (sym same ∙ ap (λ test. split_by test None) rooted))
  by_last (Some found) is same = absurd (none-some (directory_of (begins_with_slash (b ∷ text)) (last_live true found.0), found.1) (sym same))
