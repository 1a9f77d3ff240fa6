-- What a reading leaves is shorter, and siblings are read alike with any reach that is far enough.
use Rattle.std.proofs.Common.{◌≡◌, ℕ, zero, suc, ◌<◌, ◌≤◌, true, false, List, length, Bool, cond, Option, Some, None, option_map, nat_eq, refl, ap, ◌∙◌, arith}
use Rattle.std.proofs.lemmas.Option.{none-some, same_Some}
use Rattle.bz_gsym.specs.InlineTree.{Head, Nodes}
use Rattle.bz_base.specs.Bind.{◌>>=◌}
use Rattle.bz_base.specs.Cursor.{byte_at, word_at}
use Rattle.bz_base.specs.Leb128.{uleb_at}
use Rattle.bz_base.proofs.PieceOfBytesLemmas.{map_some}
use Rattle.bz_gsym.proofs.InlinePieceLemmas.{byte-shorter, uleb-shorter, word-shorter}
use Rattle.bz_gsym.specs.InlineReader.{range_at, before, ranges_at, Tail, tail_at, filled_at, there, head_at, node_before, children_by, node_by, nodes_within, nodes_at}

-- where the second of two readings gives something, the first did
pub bind_then : {A B C : Type 0} (o : Option A) (f : A → Option B) (y : B) → (o >>= f) ≡ Some y →
    ((x : A) → o ≡ Some x → f x ≡ Some y → C) → C
bind_then None f y read next = absurd (none-some y read)
bind_then (Some x) f y read next = next x refl read

-- what is read after one reading is read alike
pub bind_same : {A B : Type 0} (o : Option A) (f g : A → Option B) → ((x : A) → o ≡ Some x → f x ≡ g x) → (o >>= f) ≡ (o >>= g)
bind_same None f g same = refl
bind_same (Some x) f g same = same x refl

if_then : {A C : Type 0} (b : Bool) (o p : Option A) (y : A) → cond b o p ≡ Some y → (o ≡ Some y → C) → (p ≡ Some y → C) → C
if_then true o p y read first second = first read
if_then false o p y read first second = second read

range_at-shorter : (bytes : List ℕ) (x : (ℕ × ℕ) × List ℕ) → range_at bytes ≡ Some x → length x.1 < length bytes
unfolding range_at
range_at-shorter bytes x read =
    bind_then (uleb_at bytes) _ x read (λ offset offset_is read.
    bind_then (uleb_at offset.1) _ x read (λ size size_is read.
    let left : length size.1 ≡ length x.1 = ap (λ (p : (ℕ × ℕ) × List ℕ). length p.1) (same_Some _ x read) in
    omega (arith, uleb-shorter bytes offset offset_is, uleb-shorter offset.1 size size_is)))

ranges_at-shorter : (count : ℕ) (bytes : List ℕ) (x : List (ℕ × ℕ) × List ℕ) → ranges_at count bytes ≡ Some x → length x.1 ≤ length bytes
ranges_at-shorter zero bytes x read =
    let left : length bytes ≡ length x.1 = ap (λ (p : List (ℕ × ℕ) × List ℕ). length p.1) (same_Some _ x read) in omega arith
ranges_at-shorter (suc count) bytes x read =
    bind_then (range_at bytes) _ x read (λ range range_is read.
    let found = map_some (before range.0) (ranges_at count range.1) x read in
    let left : length found.0.1 ≡ length x.1 = ap (λ (p : List (ℕ × ℕ) × List ℕ). length p.1) found.2 in
    omega (arith, range_at-shorter bytes range range_is, ranges_at-shorter count range.1 found.0 found.1))

tail_at-shorter : (bytes : List ℕ) (x : Tail × List ℕ) → tail_at bytes ≡ Some x → length x.1 < length bytes
unfolding tail_at
tail_at-shorter bytes x read =
    bind_then (byte_at bytes) _ x read (λ flag flag_is read.
    bind_then (word_at 4 flag.1) _ x read (λ name name_is read.
    bind_then (uleb_at name.1) _ x read (λ file file_is read.
    bind_then (uleb_at file.1) _ x read (λ line line_is read.
    let left : length line.1 ≡ length x.1 = ap (λ (p : Tail × List ℕ). length p.1) (same_Some _ x read) in
    omega (arith, byte-shorter bytes flag flag_is, word-shorter flag.1 name name_is, uleb-shorter name.1 file file_is, uleb-shorter file.1 line line_is)))))

filled_at-shorter : (count : ℕ) (bytes : List ℕ) (x : Head × List ℕ) → filled_at count bytes ≡ Some x → length x.1 < length bytes
unfolding filled_at
filled_at-shorter count bytes x read =
    bind_then (ranges_at count bytes) _ x read (λ ranges ranges_is read.
    bind_then (tail_at ranges.1) _ x read (λ tail tail_is read.
    let left : length tail.1 ≡ length x.1 = ap (λ (p : Head × List ℕ). length p.1) (same_Some _ x read) in
    omega (arith, ranges_at-shorter count bytes ranges ranges_is, tail_at-shorter ranges.1 tail tail_is)))

pub head_at-shorter : (bytes : List ℕ) (x : Option Head × List ℕ) → head_at bytes ≡ Some x → length x.1 < length bytes
unfolding head_at
head_at-shorter bytes x read =
    bind_then (uleb_at bytes) _ x read (λ count count_is read.
    let shorter = uleb-shorter bytes count count_is in
    if_then (nat_eq count.0 0) (Some (None, count.1)) (option_map there (filled_at count.0 count.1)) x read
    (λ read. let left : length count.1 ≡ length x.1 = ap (λ (p : Option Head × List ℕ). length p.1) (same_Some (None, count.1) x read) in omega arith)
    (λ read.
    let found = map_some there (filled_at count.0 count.1) x read in
    let left : length found.0.1 ≡ length x.1 = ap (λ (p : Option Head × List ℕ). length p.1) found.2 in
    omega (arith, filled_at-shorter count.0 count.1 found.0 found.1)))

-- what is left after siblings is shorter
module _ (read : List ℕ → Option (Nodes × List ℕ)) (shorter : (b : List ℕ) (x : Nodes × List ℕ) → read b ≡ Some x → length x.1 < length b) where
  children_by-shorter : (has : Bool) (bytes : List ℕ) (x : Nodes × List ℕ) → children_by read has bytes ≡ Some x → length x.1 ≤ length bytes
  children_by-shorter true bytes x is = omega (arith, shorter bytes x is)
  children_by-shorter false bytes x is =
      let left : length bytes ≡ length x.1 = ap (λ (p : Nodes × List ℕ). length p.1) (same_Some _ x is) in omega arith

  node_by-shorter : (found : Option Head × List ℕ) (x : Nodes × List ℕ) → node_by read found ≡ Some x → length x.1 ≤ length found.1
  node_by-shorter (None, bytes) x is =
      let left : length bytes ≡ length x.1 = ap (λ (p : Nodes × List ℕ). length p.1) (same_Some _ x is) in omega arith
  node_by-shorter (Some head, bytes) x is =
      bind_then (children_by read head.has_children bytes) (λ children. option_map (node_before head children.0) (read children.1)) x is (λ children children_is is.
      let found = map_some (node_before head children.0) (read children.1) x is in
      let left : length found.0.1 ≡ length x.1 = ap (λ (p : Nodes × List ℕ). length p.1) found.2 in
      omega (arith, children_by-shorter head.has_children bytes children children_is, shorter children.1 found.0 found.1))

  -- another reading that agrees on all that isn't longer reads the node alike
  module _ (other : List ℕ → Option (Nodes × List ℕ)) where
    children_by-same : (has : Bool) (bytes : List ℕ) → ((b : List ℕ) → length b ≤ length bytes → read b ≡ other b) → children_by read has bytes ≡ children_by other has bytes
    children_by-same true bytes same = same bytes (omega arith)
    children_by-same false bytes same = refl

    node_by-same : (found : Option Head × List ℕ) → ((b : List ℕ) → length b ≤ length found.1 → read b ≡ other b) → node_by read found ≡ node_by other found
    node_by-same (None, bytes) same = refl
    node_by-same (Some head, bytes) same =
        bind_same _ _ _ (λ children children_is. ap (option_map (node_before head children.0)) (same children.1 (children_by-shorter head.has_children bytes children children_is)))
        ∙ ap (λ o. o >>= (λ children. option_map (node_before head children.0) (other children.1))) (children_by-same head.has_children bytes same)

nodes_within-shorter : (reach : ℕ) (bytes : List ℕ) (x : Nodes × List ℕ) → nodes_within reach bytes ≡ Some x → length x.1 < length bytes
nodes_within-shorter zero bytes x read = absurd (none-some x read)
nodes_within-shorter (suc reach) bytes x read =
    bind_then (head_at bytes) (node_by (nodes_within reach)) x read (λ found found_is read.
    omega (arith, head_at-shorter bytes found found_is, node_by-shorter (nodes_within reach) (nodes_within-shorter reach) found x read))

-- a reach past the length is far enough
nodes_within-same : (n m : ℕ) (bytes : List ℕ) → length bytes < n → length bytes < m → nodes_within n bytes ≡ nodes_within m bytes
nodes_within-same zero m bytes far also = absurd (omega arith)
nodes_within-same (suc n) zero bytes far also = absurd (omega arith)
nodes_within-same (suc n) (suc m) bytes far also =
    bind_same (head_at bytes) (node_by (nodes_within n)) (node_by (nodes_within m)) (λ found found_is.
    let shorter = head_at-shorter bytes found found_is in
    node_by-same (nodes_within n) (nodes_within-shorter n) (nodes_within m) found (λ b within. nodes_within-same n m b (omega arith) (omega arith)))

-- siblings are the next node with its children, and the siblings after it
pub nodes_at-step : (bytes : List ℕ) → nodes_at bytes ≡ (head_at bytes >>= node_by nodes_at)
unfolding nodes_at
nodes_at-step bytes =
    bind_same (head_at bytes) (node_by (nodes_within (length bytes))) (node_by (λ b. nodes_within (suc (length b)) b)) (λ found found_is.
    let shorter = head_at-shorter bytes found found_is in
    node_by-same (nodes_within (length bytes)) (nodes_within-shorter (length bytes)) (λ b. nodes_within (suc (length b)) b) found
    (λ b within. nodes_within-same (length bytes) (suc (length b)) b (omega arith) (omega arith)))

pub nodes_at-shorter : (bytes : List ℕ) (x : Nodes × List ℕ) → nodes_at bytes ≡ Some x → length x.1 < length bytes
unfolding nodes_at
nodes_at-shorter bytes x read = nodes_within-shorter (suc (length bytes)) bytes x read
