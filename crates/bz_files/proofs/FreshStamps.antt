-- Stamps are fresh where edits give them: so files in memory stay in agreement through edits and looks.
use Rattle.std.proofs.Common.{◌≡◌, ℕ, ◌+◌, ◌==◌, ◌<◌, ◌≤◌, ◌⊎◌, Bool, true, false, cond, pos, List, [], ◌∷◌, length, ◌++◌, Option, Some, None, refl, sym, ap, ◌∙◌, subst, inl, inr, arith, le_trans}
use Rattle.std.specs.Prelude.{Contains}
use Rattle.std.specs.List.{AllByRecursion}
use Rattle.std.specs.FinMap as map
use Rattle.std.proofs.lemmas.List.Elements.{Contains-append_cases, Contains-append_left, Contains-append_right}
use Rattle.bz_files.specs.declared.stamp.Stamp.{Stamp}
use Rattle.bz_files.specs.World.{World, Entry, Denied, Present, entry_at, with_entry, without_entry, next_worlds}
use Rattle.bz_files.specs.MemWorlds.{MemWorlds, new_worlds, last_world, with_version, with_link, last_stamp, fresh_stamp, with_put}
use Rattle.bz_files.specs.Edits.{Edit, Put, Link, Remove, Deny, Schedule, after_edit, worlds_seen, Agreeing}
use Rattle.bz_files.specs.Agreement.{Agree}
use Rattle.bz_files.proofs.EachWorld.{each_after, each_among, each_contained, each_joined, each_last, entry_cases, entry_still, none_in_empty}

-- a fresh stamp has the next number
fresh-number : (count size : ℕ) (s : Stamp) → fresh_stamp count size ≡ Some s → s.inode ≡ count + 1
fresh-number count size s = by_test (count == last_stamp)
  where
    next : Stamp
    next = record { dev = 1; inode = count + 1; size = size; mtime_sec = pos (count + 1); mtime_nsec = pos 0 }

    by_test : (b : Bool) → cond b None (Some next) ≡ Some s → s.inode ≡ count + 1
    by_test true is = cc is
    by_test false is = let same : next ≡ s = cc is in ap (λ (t : Stamp). t.inode) (sym same)

-- a version lies in one of the worlds
abbrev Lies : List World → Stamp → List ℕ → Type 0
Lies worlds s b = (w : World) × (p : List ℕ) × (Contains worlds w) × (entry_at w p ≡ Some (Present s b))

-- a world has only versions that were seen, or that are new
module _ (seen : List World) (New : Stamp → List ℕ → Type 0) where
  abbrev Known : World → Type 0
  Known w = (p : List ℕ) (s : Stamp) (b : List ℕ) → entry_at w p ≡ Some (Present s b) → Lies seen s b ⊎ New s b

  -- as a world that was seen has
  known_seen : (w : World) → Contains seen w → Known w
  known_seen w has p s b at = inl (w, p, has, at)

  -- and the empty one
  known_empty : Known map.empty
  known_empty p s b at = absurd (none_in_empty p (Present s b) at)

  -- where such a version is put at a path
  known_put : (path : List ℕ) (s : Stamp) (b : List ℕ) (w : World) → Lies seen s b ⊎ New s b → Known w → Known (with_entry path (Present s b) w)
  known_put path s b w given known p t c at = elim (entry_cases w path (Present s b) p (Present t c) at) [
    | inl put ↦
        let stamp : s ≡ t = cc put in
        let bytes : b ≡ c = cc put in
        subst (λ (u : Stamp). Lies seen u c ⊎ New u c) stamp (subst (λ (d : List ℕ). Lies seen s d ⊎ New s d) bytes given)
    | inr lay ↦ known p t c lay
  ]

  -- where a path may not be read any more
  known_denied : (path : List ℕ) (w : World) → Known w → Known (with_entry path Denied w)
  known_denied path w known p s b at = elim (entry_cases w path Denied p (Present s b) at) [
    | inl put ↦ cc put
    | inr lay ↦ known p s b lay
  ]

  -- where nothing is at a path any more
  known_cleared : (path : List ℕ) (w : World) → Known w → Known (without_entry path w)
  known_cleared path w known p s b at = known p s b (entry_still w path p (Present s b) at)

  -- where a path gets what is at another
  known_linked : (path old : List ℕ) (w : World) → Known w → Known (with_link path old w)
  known_linked path old w known = by_entry (entry_at w old) refl
    where
      by_entry : (there : Option Entry) → entry_at w old ≡ there → Known (with_version path there w)
      by_entry None is = known
      by_entry (Some Denied) is = known
      by_entry (Some (Present s b)) is = known_put path s b w (known old s b is) known

-- files in memory that agree still do where new versions have stamps past those that were given
module _ (seen : List World) (files later : MemWorlds) (New : Stamp → List ℕ → Type 0) (was : Agreeing seen files) where
  agreeing_later :
      ((s : Stamp) (b : List ℕ) → New s b → (files.stamps < s.inode) × (s.inode ≤ later.stamps)) →
      ((s : Stamp) (a b : List ℕ) → New s a → New s b → a ≡ b) →
      files.stamps ≤ later.stamps →
      AllByRecursion (Known seen New) later.worlds →
      Agreeing (seen ++ later.worlds) later
  agreeing_later past one more known = record {
    agree = λ w v has_w has_v p q s a b at_w at_v. same s a b (all_known w has_w p s a at_w) (all_known v has_v q s b at_v);
    present = λ w has. Contains-append_right seen later.worlds w has;
    given = λ w p s b has at. in_range s b (all_known w has p s b at);
  }
    where
      all_known : (w : World) → Contains (seen ++ later.worlds) w → Known seen New w
      all_known w has = elim (Contains-append_cases seen later.worlds w has) [
        | inl old ↦ known_seen seen New w old
        | inr now ↦ each_among (Known seen New) later.worlds w known now
      ]

      in_range : (s : Stamp) (b : List ℕ) → Lies seen s b ⊎ New s b → s.inode ≤ later.stamps
      in_range s b (inl (w, p, has, at)) = le_trans (was.given w p s b has at) more
      in_range s b (inr new) = (past s b new).1

      same : (s : Stamp) (a b : List ℕ) → Lies seen s a ⊎ New s a → Lies seen s b ⊎ New s b → a ≡ b
      same s a b (inl (w, p, in_w, at_w)) (inl (v, q, in_v, at_v)) = was.agree w v in_w in_v p q s a b at_w at_v
      same s a b (inl (w, p, in_w, at_w)) (inr new) = absurd (omega (arith, was.given w p s a in_w at_w, (past s b new).0))
      same s a b (inr new) (inl (v, q, in_v, at_v)) = absurd (omega (arith, was.given v q s b in_v at_v, (past s a new).0))
      same s a b (inr new) (inr again) = one s a b new again

-- nothing is new
abbrev Nothing : Stamp → List ℕ → Type 0
Nothing s b = ⊥

-- files in memory that agree
module _ (seen : List World) (files : MemWorlds) (was : Agreeing seen files) where
  -- each of their worlds was seen
  known_now : (New : Stamp → List ℕ → Type 0) → AllByRecursion (Known seen New) files.worlds
  known_now New = each_contained (Known seen New) files.worlds (λ w has. known_seen seen New w (was.present w has))

  -- after an edit that gives no stamp and makes no version
  agreeing_old : (later : MemWorlds) → files.stamps ≤ later.stamps → AllByRecursion (Known seen Nothing) later.worlds → Agreeing (seen ++ later.worlds) later
  agreeing_old later more known = agreeing_later seen files later Nothing was (λ s b new. absurd new) (λ s a b new again. absurd new) more known

  -- bytes are put under a fresh stamp, which is past those that were given
  agreeing_put : (path bytes : List ℕ) (given : Option Stamp) → fresh_stamp files.stamps (length bytes) ≡ given →
      Agreeing (seen ++ (with_put path bytes given files).worlds) (with_put path bytes given files)
  agreeing_put path bytes None is = agreeing_old files (omega arith) (known_now Nothing)
  agreeing_put path bytes (Some stamp) is =
      let number = fresh-number files.stamps (length bytes) stamp is in
      agreeing_later seen files (with_put path bytes (Some stamp) files) New was
      (λ s b new. let same = ap (λ (u : Stamp). u.inode) new.0 in (omega (arith, number, same), omega (arith, number, same)))
      (λ s a b new again. new.1 ∙ sym again.1)
      (omega arith)
      (each_after (Known seen New) (with_entry path (Present stamp bytes)) (λ w known. known_put seen New path stamp bytes w (inr (refl, refl)) known) files.worlds (known_now New))
    where
      New : Stamp → List ℕ → Type 0
      New s b = (s ≡ stamp) × (b ≡ bytes)

  -- each edit keeps agreement
  pub agreeing_edit : (edit : Edit) → Agreeing (seen ++ (after_edit edit files).worlds) (after_edit edit files)
  agreeing_edit (Put path bytes) = agreeing_put path bytes (fresh_stamp files.stamps (length bytes)) refl
  agreeing_edit (Link path old) =
      agreeing_old (after_edit (Link path old) files) (omega arith)
      (each_after (Known seen Nothing) (with_link path old) (known_linked seen Nothing path old) files.worlds (known_now Nothing))
  agreeing_edit (Remove path) =
      agreeing_old (after_edit (Remove path) files) (omega arith)
      (each_after (Known seen Nothing) (without_entry path) (known_cleared seen Nothing path) files.worlds (known_now Nothing))
  agreeing_edit (Deny path) =
      agreeing_old (after_edit (Deny path) files) (omega arith)
      (each_after (Known seen Nothing) (with_entry path Denied) (known_denied seen Nothing path) files.worlds (known_now Nothing))
  agreeing_edit Schedule =
      agreeing_old (after_edit Schedule files) (omega arith)
      (each_joined (Known seen Nothing) files.worlds (last_world files.worlds ∷ []) (known_now Nothing)
      (each_last (Known seen Nothing) (known_empty seen Nothing) files.worlds (known_now Nothing), tt))

  -- and so does the next world that comes into view
  pub agreeing_begin : Agreeing seen (record files { worlds = next_worlds files.worlds })
  agreeing_begin = record { agree = was.agree; present = λ w has. was.present w (among_next files.worlds w has); given = was.given }
    where
      among_next : (worlds : List World) (w : World) → Contains (next_worlds worlds) w → Contains worlds w
      among_next [] w has = has
      among_next (world ∷ []) w has = has
      among_next (world ∷ next ∷ later) w has = Contains-append_right (world ∷ []) (next ∷ later) w has

-- new files in memory agree, where their one world was seen
pub agreeing_new : (pid : ℕ) → Agreeing (new_worlds pid).worlds (new_worlds pid)
agreeing_new pid = record {
  agree = λ w v has_w has_v p q s a b at_w at_v. absurd (no_version w has_w p s a at_w);
  present = λ w has. has;
  given = λ w p s b has at. absurd (no_version w has p s b at);
}
  where
    no_version : (w : World) → Contains (map.empty ∷ []) w → (p : List ℕ) (s : Stamp) (b : List ℕ) → entry_at w p ≡ Some (Present s b) → ⊥
    no_version w has = each_among (λ v. (p : List ℕ) (s : Stamp) (b : List ℕ) → entry_at v p ≡ Some (Present s b) → ⊥) (map.empty ∷ []) w (λ p s b at. none_in_empty p (Present s b) at, tt) has

-- worlds agree that are all among worlds that agree
agree_among : (worlds all : List World) → ((w : World) → Contains worlds w → Contains all w) → Agree all → Agree worlds
agree_among worlds all among agree w v has_w has_v = agree w v (among w has_w) (among v has_v)

-- the worlds that were seen agree with those that are to come
pub agreeing_agree : (seen : List World) (files : MemWorlds) → Agreeing seen files → Agree (seen ++ files.worlds)
agreeing_agree seen files was = agree_among (seen ++ files.worlds) seen (λ w has. elim (Contains-append_cases seen files.worlds w has) [
  | inl old ↦ old
  | inr now ↦ was.present w now
]) was.agree

-- whatever the edits, the worlds that they make agree with those that were seen
seen_agree : (edits : List Edit) (seen : List World) (files : MemWorlds) → Agreeing seen files → Agree (seen ++ worlds_seen files edits)
seen_agree [] seen files was = agreeing_agree seen files was
seen_agree (edit ∷ edits) seen files was =
    agree_among (seen ++ (files.worlds ++ rest)) (after ++ rest) among (seen_agree edits after (after_edit edit files) (agreeing_edit seen files was edit))
  where
    rest : List World
    rest = worlds_seen (after_edit edit files) edits

    after : List World
    after = seen ++ (after_edit edit files).worlds

    before : (w : World) → Contains seen w → Contains (after ++ rest) w
    before w has = Contains-append_left after rest w (Contains-append_left seen (after_edit edit files).worlds w has)

    among : (w : World) → Contains (seen ++ (files.worlds ++ rest)) w → Contains (after ++ rest) w
    among w has = elim (Contains-append_cases seen (files.worlds ++ rest) w has) [
      | inl old ↦ before w old
      | inr more ↦ elim (Contains-append_cases files.worlds rest w more) [
        | inl now ↦ before w (was.present w now)
        | inr later ↦ Contains-append_right after rest w later
      ]
    ]

-- the worlds that edits make agree
pub worlds_seen_agree : (pid : ℕ) (edits : List Edit) → Agree (worlds_seen (new_worlds pid) edits)
worlds_seen_agree pid edits =
    agree_among (worlds_seen (new_worlds pid) edits) ((new_worlds pid).worlds ++ worlds_seen (new_worlds pid) edits)
    (λ w has. Contains-append_right (new_worlds pid).worlds (worlds_seen (new_worlds pid) edits) w has)
    (seen_agree edits (new_worlds pid).worlds (new_worlds pid) (agreeing_new pid))
