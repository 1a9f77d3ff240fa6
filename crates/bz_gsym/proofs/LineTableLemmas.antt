-- The operators of a line table, one after another, and the states that they come to.
use Rattle.std.proofs.Common.{◌≡◌, ℕ, ℤ, zero, suc, ◌-◌, ◌<◌, ◌≤◌, Bool, true, false, cond, List, [], ◌∷◌, length, drop, Option, Some, None, IfNone, IfSome, option_map, unwrap_or, nat_lt, nat_eq, refl, sym, ap, ◌∙◌, arith}
use Rattle.std.specs.Option.{option_and, option_and_then}
use Rattle.std.specs.List.{slice_index}
use Rattle.std.proofs.lemmas.Bool.{le-ltb, lt-ltb, ne_eqb}
use Rattle.std.proofs.lemmas.Option.{none-some, same_Some}
use Rattle.bz_base.specs.Cursor.{Reading, byte_at, with_first, with_rest}
use Rattle.bz_base.specs.Leb128.{leb_at, low_bits, signed, sleb_at, uleb_at, unsigned}
use Rattle.bz_gsym.specs.LineTable.{State, behind_delta, followed, operated, operator_at, sought, special, states, states_within, with_file, further, lines_on, advance_line, advance_pc, end_sequence, first_special, set_file}
use Rattle.bz_gsym.specs.declared.linetab.LineTableHeader.{LineTableHeader}
use Rattle.bz_gsym.specs.declared.linetab.LineTableRow.{LineTableRow}
use Rattle.bz_gsym.specs.declared.linetab.RunResult.{RunResult}
use Rattle.bz_gsym.specs.declared.linetab.RunResult.TheVariants as results

-- past a byte that is read lie those behind it, and past none there are none
pub byte_passed : (o : Option ℕ) (new old : Reading) → IfNone o (new ≡ old) → with_rest o new.left ≡ byte_at old.left → new.left ≡ drop 1 old.left
unfolding byte_at
byte_passed o new old none reads = by o old.left reads (same o none) where
  same : (o : Option ℕ) → IfNone o (new ≡ old) → IfNone o (new.left ≡ old.left)
  same None is = ap (λ (r : Reading). r.left) is
  same (Some byte) is = is

  by : (o : Option ℕ) (left : List ℕ) → with_rest o new.left ≡ byte_at left → IfNone o (new.left ≡ left) → new.left ≡ drop 1 left
  by None [] is still = still
  by None (b ∷ left) is still = absurd (none-some (b, left) is)
  by (Some byte) [] is still = absurd (none-some (byte, new.left) (sym is))
  by (Some byte) (b ∷ left) is still = ap (λ (p : ℕ × List ℕ). p.1) (same_Some (byte, new.left) (b, left) is)

-- what holds anyway holds where nothing is given
pub if_none : {A : Type 0} {P : Type 0} (o : Option A) → P → IfNone o P
if_none None is = is
if_none (Some x) is = tt

-- behind a line delta that is missing lie the same bytes, and behind one that is read those that are
-- left
pub delta_missing : (bytes : List ℕ) → None ≡ sleb_at bytes → behind_delta bytes ≡ bytes
delta_missing bytes none = ap (λ (o : Option (ℤ × List ℕ)). unwrap_or (option_map (λ delta. delta.1) o) bytes) (sym none)

pub delta_read : (bytes rest : List ℕ) (delta : ℤ) → Some (delta, rest) ≡ sleb_at bytes → behind_delta bytes ≡ rest
delta_read bytes rest delta read = ap (λ (o : Option (ℤ × List ℕ)). unwrap_or (option_map (λ d. d.1) o) bytes) (sym read)

-- where a second step gives something, the first did
then_some : {A B : Type 0} (f : A → Option B) (o : Option A) (y : B) → option_and_then f o ≡ Some y → (x : A) × (o ≡ Some x) × (f x ≡ Some y)
then_some f None y is = absurd (none-some y is)
then_some f (Some x) y is = (x, refl, is)

map_some : {A B : Type 0} (f : A → B) (o : Option A) (y : B) → option_map f o ≡ Some y → (x : A) × (o ≡ Some x) × (f x ≡ y)
map_some f None y is = absurd (none-some y is)
map_some f (Some x) y is = (x, refl, same_Some (f x) y is)

if_then : {A C : Type 0} (b : Bool) (o p : Option A) (y : A) → cond b o p ≡ Some y → (o ≡ Some y → C) → (p ≡ Some y → C) → C
if_then true o p y is first second = first is
if_then false o p y is first second = second is

-- What is read leaves less behind.
rest_is : {A : Type 0} (o : Option A) (rest : List ℕ) (x : A × List ℕ) → with_rest o rest ≡ Some x → length rest ≡ length x.1
rest_is None rest x is = absurd (none-some x is)
rest_is {A} (Some a) rest x is = ap (λ (p : A × List ℕ). length p.1) (same_Some (a, rest) x is)

leb-shorter : (bytes : List ℕ) (x : List ℕ × List ℕ) → leb_at bytes ≡ Some x → length x.1 < length bytes
leb-shorter [] x is = absurd (none-some x is)
leb-shorter (b ∷ bytes) x is =
    if_then (nat_lt b 128) (Some (b ∷ [], bytes)) (option_map (with_first b) (leb_at bytes)) x is
    (λ is. let left : length bytes ≡ length x.1 = ap (λ (p : List ℕ × List ℕ). length p.1) (same_Some (b ∷ [], bytes) x is) in omega arith)
    (λ is.
    let found = map_some (with_first b) (leb_at bytes) x is in
    let left : length found.0.1 ≡ length x.1 = ap (λ (p : List ℕ × List ℕ). length p.1) found.2 in
    let shorter = leb-shorter bytes found.0 found.1 in
    omega arith)

uleb-shorter : (bytes : List ℕ) (x : ℕ × List ℕ) → uleb_at bytes ≡ Some x → length x.1 < length bytes
unfolding uleb_at
uleb-shorter bytes x is =
    let cut = then_some (λ (cut : List ℕ × List ℕ). with_rest (unsigned (length cut.0) (low_bits cut.0)) cut.1) (leb_at bytes) x is in
    omega (arith, leb-shorter bytes cut.0 cut.1, rest_is (unsigned (length cut.0.0) (low_bits cut.0.0)) cut.0.1 x cut.2)

sleb-shorter : (bytes : List ℕ) (x : ℤ × List ℕ) → sleb_at bytes ≡ Some x → length x.1 < length bytes
unfolding sleb_at
sleb-shorter bytes x is =
    let cut = then_some (λ (cut : List ℕ × List ℕ). with_rest (signed (length cut.0) (low_bits cut.0)) cut.1) (leb_at bytes) x is in
    omega (arith, leb-shorter bytes cut.0 cut.1, rest_is (signed (length cut.0.0) (low_bits cut.0.0)) cut.0.1 x cut.2)

-- what an operator comes to, and the bytes behind
abbrev Came : Type 0
Came = (RunResult × LineTableRow) × List ℕ

module _ (header : LineTableHeader) where
  same_rest : {A : Type 0} (came : A × List ℕ → RunResult × LineTableRow) (o : Option (A × List ℕ)) (bytes : List ℕ) (x : Came) →
      ((y : A × List ℕ) → o ≡ Some y → length y.1 ≤ length bytes) → option_map (λ y. (came y, y.1)) o ≡ Some x → length x.1 ≤ length bytes
  same_rest {A} came o bytes x shorter is =
      let found = map_some (λ (y : A × List ℕ). (came y, y.1)) o x is in
      let left : length found.0.1 ≡ length x.1 = ap (λ (p : Came). length p.1) found.2 in
      omega (arith, shorter found.0 found.1)

  -- an operand is taken, or none
  operand-shorter : (row : LineTableRow) (operator : ℕ) (bytes : List ℕ) (x : Came) → operated header row operator bytes ≡ Some x → length x.1 ≤ length bytes
  operand-shorter row operator bytes x is =
      if_then (nat_eq operator end_sequence) _ _ x is
      (λ is. let left : length bytes ≡ length x.1 = ap (λ (p : Came). length p.1) (same_Some ((results.End, row), bytes) x is) in omega arith)
      (λ is. if_then (nat_eq operator set_file) _ _ x is
      (λ is. same_rest (λ file. (results.Ok, with_file row file.0)) (uleb_at bytes) bytes x (λ y read. omega (arith, uleb-shorter bytes y read)) is)
      (λ is. if_then (nat_eq operator advance_pc) _ _ x is
      (λ is. same_rest (λ delta. (results.NewRow, further row delta.0)) (uleb_at bytes) bytes x (λ y read. omega (arith, uleb-shorter bytes y read)) is)
      (λ is. if_then (nat_eq operator advance_line) _ _ x is
      (λ is. same_rest (λ delta. (results.Ok, lines_on row delta.0)) (sleb_at bytes) bytes x (λ y read. omega (arith, sleb-shorter bytes y read)) is)
      (λ is.
      let found = map_some (λ (state : LineTableRow). ((results.NewRow, state), bytes)) (special header row (operator - first_special)) x is in
      let left : length bytes ≡ length x.1 = ap (λ (p : Came). length p.1) found.2 in
      omega arith))))

  operator-shorter : (row : LineTableRow) (bytes : List ℕ) (x : Came) → operator_at header row bytes ≡ Some x → length x.1 < length bytes
  unfolding operator_at byte_at
  operator-shorter row [] x is = absurd (none-some x is)
  operator-shorter row (operator ∷ bytes) x is = let shorter = operand-shorter row operator bytes x is in omega arith

  -- a special operator in front, which comes to a row if it does something
  special_does : (row : LineTableRow) (b : ℕ) (bytes : List ℕ) → 4 ≤ b → operator_at header row (b ∷ bytes) ≡ option_map (λ state. ((results.NewRow, state), bytes)) (special header row (b - 4))
  unfolding operator_at byte_at
  special_does row b bytes far =
      rw (ne_eqb b 0 (λ same. omega arith), ne_eqb b 1 (λ same. omega arith), ne_eqb b 2 (λ same. omega arith), ne_eqb b 3 (λ same. omega arith)) refl

  pub special_row : (row : LineTableRow) (bytes : List ℕ) (o : Option LineTableRow) → 0 < length bytes → 4 ≤ slice_index bytes 0 → o ≡ special header row (slice_index bytes 0 - 4) →
      IfSome o (λ state. operator_at header row bytes ≡ Some ((results.NewRow, state), drop 1 bytes))
  special_row row [] o some far is = absurd (omega arith)
  special_row row (b ∷ bytes) None some far is = tt
  special_row row (b ∷ bytes) (Some state) some far is = special_does row b bytes far ∙ ap (option_map (λ state. ((results.NewRow, state), bytes))) (sym is)

  -- no operator is left where no byte is
  none_left : (row : LineTableRow) (bytes : List ℕ) → length bytes ≤ 0 → operator_at header row bytes ≡ None
  unfolding operator_at byte_at
  none_left row [] none = refl
  none_left row (b ∷ bytes) none = absurd (omega arith)

  none_within : (most : ℕ) (row : LineTableRow) (bytes : List ℕ) → length bytes ≤ 0 → states_within most header row bytes ≡ []
  none_within zero row bytes none = refl
  none_within (suc most) row bytes none = ap (followed (states_within most header)) (none_left row bytes none)

  -- what follows an operator follows it alike where the bytes behind it go on alike
  followed_same : (o : Option Came) (f g : LineTableRow → List ℕ → List State) →
      ((x : Came) → o ≡ Some x → f x.0.1 x.1 ≡ g x.0.1 x.1) → followed f o ≡ followed g o
  followed_same None f g same = refl
  followed_same (Some ((results.End, row), bytes)) f g same = refl
  followed_same (Some ((results.Ok, row), bytes)) f g same = ap (λ list. record { is_row = false; at = row } ∷ list) (same ((results.Ok, row), bytes) refl)
  followed_same (Some ((results.NewRow, row), bytes)) f g same = ap (λ list. record { is_row = true; at = row } ∷ list) (same ((results.NewRow, row), bytes) refl)

  -- so many operators as there are bytes are enough
  enough : (most more : ℕ) (row : LineTableRow) (bytes : List ℕ) → length bytes ≤ most → length bytes ≤ more →
      states_within most header row bytes ≡ states_within more header row bytes
  enough zero more row bytes here there = sym (none_within more row bytes here)
  enough (suc most) zero row bytes here there = none_within (suc most) row bytes there
  enough (suc most) (suc more) row bytes here there =
      followed_same (operator_at header row bytes) (states_within most header) (states_within more header)
      (λ x is. let shorter = operator-shorter row bytes x is in enough most more x.0.1 x.1 (omega arith) (omega arith))

  -- the states are that of the operator in front, and those after it
  pub states_go_on : (row : LineTableRow) (bytes : List ℕ) → states header row bytes ≡ followed (states header) (operator_at header row bytes)
  unfolding states
  states_go_on row bytes =
      enough (length bytes) (suc (length bytes)) row bytes (omega arith) (omega arith)
      ∙ followed_same (operator_at header row bytes) (states_within (length bytes) header) (λ row bytes. states_within (length bytes) header row bytes)
      (λ x is. let shorter = operator-shorter row bytes x is in enough (length bytes) (length x.1) x.0.1 x.1 (omega arith) (omega arith))

  not_ended : {A : Type 0} (came : A → Came) (o : Option A) (next : LineTableRow) (rest : List ℕ) → ((y : A) → (came y).0.0 ≡ results.End → ⊥) →
      option_map came o ≡ Some ((results.End, next), rest) → ⊥
  not_ended came o next rest goes_on is =
      let found = map_some came o ((results.End, next), rest) is in
      goes_on found.0 (ap (λ (p : Came). p.0.0) found.2)

  -- the operator that ends the table leaves the state
  end_keeps : (row next : LineTableRow) (bytes rest : List ℕ) → operator_at header row bytes ≡ Some ((results.End, next), rest) → next ≡ row
  unfolding operator_at byte_at
  end_keeps row next [] rest is = absurd (none-some ((results.End, next), rest) is)
  end_keeps row next (operator ∷ bytes) rest is =
      let end : Came = ((results.End, next), rest) in
      if_then (nat_eq operator end_sequence) _ _ end is
      (λ is. sym (ap (λ (p : Came). p.0.1) (same_Some ((results.End, row), bytes) end is)))
      (λ is. if_then (nat_eq operator set_file) _ _ end is
      (λ is. absurd (not_ended (λ file. ((results.Ok, with_file row file.0), file.1)) (uleb_at bytes) next rest (λ y same. cc) is))
      (λ is. if_then (nat_eq operator advance_pc) _ _ end is
      (λ is. absurd (not_ended (λ delta. ((results.NewRow, further row delta.0), delta.1)) (uleb_at bytes) next rest (λ y same. cc) is))
      (λ is. if_then (nat_eq operator advance_line) _ _ end is
      (λ is. absurd (not_ended (λ delta. ((results.Ok, lines_on row delta.0), delta.1)) (sleb_at bytes) next rest (λ y same. cc) is))
      (λ is. absurd (not_ended (λ state. ((results.NewRow, state), bytes)) (special header row (operator - first_special)) next rest (λ y same. cc) is)))))

  -- What is found for an address goes on from operator to operator.
  module _ (addr : ℕ) (last : Option LineTableRow) (now next : LineTableRow) (left rest : List ℕ) where
    by_operator : (o : Option Came) → o ≡ operator_at header now left → sought addr last now (states header now left) ≡ sought addr last now (followed (states header) o)
    by_operator o is = ap (sought addr last now) (states_go_on now left ∙ ap (followed (states header)) (sym is))

    pub past_state : Some ((results.Ok, next), rest) ≡ operator_at header now left → sought addr last next (states header next rest) ≡ sought addr last now (states header now left)
    past_state is = sym (by_operator (Some ((results.Ok, next), rest)) is)

    -- a row that isn't above the address is the last one so far
    pub past_row : Some ((results.NewRow, next), rest) ≡ operator_at header now left → next.addr ≤ addr →
        sought addr (Some next) next (states header next rest) ≡ sought addr last now (states header now left)
    past_row is below = sym (by_operator (Some ((results.NewRow, next), rest)) is ∙ rw (le-ltb addr next.addr below) refl)

    -- one above it is where the last one so far is known to be the one
    pub at_row : Some ((results.NewRow, next), rest) ≡ operator_at header now left → addr < next.addr → last ≡ sought addr last now (states header now left)
    at_row is above = sym (by_operator (Some ((results.NewRow, next), rest)) is ∙ rw (lt-ltb addr next.addr above) refl)

    -- at the end the state is the one, if there was a row
    pub at_end : Some ((results.End, next), rest) ≡ operator_at header now left → option_map (λ row. next) last ≡ sought addr last now (states header now left)
    at_end is = rw (end_keeps now next left rest (sym is)) (sym (by_operator (Some ((results.End, next), rest)) is))

    pub at_none : None ≡ operator_at header now left → next ≡ now → option_map (λ row. next) last ≡ sought addr last now (states header now left)
    at_none is same = rw same (sym (by_operator None is))

-- a state in place of a row that is there
pub and_there : (last : Option LineTableRow) (now : LineTableRow) → option_and last (Some now) ≡ option_map (λ row. now) last
and_there None now = refl
and_there (Some row) now = refl
