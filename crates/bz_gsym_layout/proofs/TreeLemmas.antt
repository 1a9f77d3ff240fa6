-- An inline tree that is written from calls is read as their tree, whose frames are those of the calls
-- around an address.
use Rattle.std.proofs.Common.{◌≡◌, ℕ, ◌+◌, ◌-◌, ◌^◌, ◌<◌, ◌≤◌, ◌&&◌, Bool, true, false, cond, not, map, option_map, min, nat_lt, nat_le, List, [], ◌∷◌, ◌++◌, Some, refl, sym, ap, ◌∙◌, arith, append_assoc, append-nil}
use Rattle.std.proofs.lemmas.List.{map-append}
use Rattle.std.specs.Prelude.{◌==◌, ◌||◌}
use Rattle.std.proofs.lemmas.Bool.{lt-ltb, le-leb, ne_eqb, true≢false}
use Rattle.bz_base.specs.Span.{inside, last_address}
use Rattle.bz_gsym.specs.InlineReader.{frames_at}
use Rattle.bz_gsym.specs.InlineSpelling.{AreNodes, IsHead, IsTree}
use Rattle.bz_gsym.specs.InlineTree.{Frame, Head, Nodes, both, children_base, frame_by, frame_of, frames, is_sound, last_index, matches, with_frame}
use Rattle.bz_gsym.specs.InlineTree.Nodes.{Ended, Node}
use Rattle.bz_gsym.proofs.InlineSpellingLemmas.{frames_again}
use Rattle.bz_gsym_layout.specs.Layout.{Tables, calls_bytes, child_flag, node_bytes, source_index, text_place, tree_bytes, unless_ended, word}
use Rattle.bz_gsym_layout.specs.Leb.{uleb}
use Rattle.bz_gsym_layout.specs.Nesting.{Forest, calls_in}
use Rattle.bz_gsym_layout.specs.Nesting.Forest.{NoCalls, Call}
use Rattle.bz_gsym_layout.specs.Plan.{Called, Code}
use Rattle.bz_gsym_layout.proofs.WordLemmas.{is_uleb, is_word}

-- the text of a node is a head
head_written : (t : Tables) (offset size : ℕ) (name : List ℕ) (flag file line : ℕ) (has : Bool) → offset < 2 ^ 64 → size < 2 ^ 64 → text_place t name < 2 ^ 32 →
    file < 2 ^ 64 → line < 2 ^ 64 → has ≡ not (flag == 0) →
    IsHead (record { ranges = (offset, size) ∷ []; has_children = has; name = text_place t name; call_file = file; call_line = line }) (node_bytes t offset size name flag file line)
unfolding uleb
head_written t offset size name flag file line has small_offset small_size small_name small_file small_line flag_is = record {
  count = 1 ∷ [];
  ranges = uleb offset ++ (uleb size ++ []);
  flag = flag;
  name = word 4 (text_place t name);
  call_file = uleb file;
  call_line = uleb line;
  whole = ap (λ l. 1 ∷ l) (sym (append_assoc (uleb offset) (uleb size ++ []) _ ∙ ap (λ l. uleb offset ++ l) (append_assoc (uleb size) [] _)));
  positive = omega arith;
  count_is = is_uleb 1 (omega arith);
  ranges_are = (uleb offset, uleb size, [], refl, is_uleb offset small_offset, is_uleb size small_size, refl);
  flag_is = flag_is;
  name_is = is_word 4 (text_place t name) (omega arith);
  file_is = is_uleb file small_file;
  line_is = is_uleb line small_line;
}

module _ (t : Tables) where
  -- a call as a node of the tree
  abbrev pub head_of : ℕ → Called → Forest Called → Head
  head_of base c within = record {
    ranges = (c.start - base, c.size) ∷ [];
    has_children = not (child_flag within == 0);
    name = text_place t c.name;
    call_file = source_index t c.at.source;
    call_line = c.at.line;
  }

  abbrev pub nodes_of : ℕ → Forest Called → Nodes
  nodes_of base NoCalls = Ended
  nodes_of base (Call c within after) = Node (head_of base c within) (nodes_of c.start within) (nodes_of base after)

  -- the numbers of a call, of which none passes its width
  pub record CallFits (base : ℕ) (c : Called) : Type 0 where
    pub from : base ≤ c.start
    pub end : c.start + c.size ≤ last_address
    pub name : text_place t c.name < 2 ^ 32
    pub some_name : 0 < text_place t c.name
    pub file : source_index t c.at.source < 2 ^ 32
    pub line : c.at.line < 2 ^ 32

  abbrev pub CallsFit : ℕ → Forest Called → Type 0
  CallsFit base NoCalls = Unit {0}
  CallsFit base (Call c within after) = CallFits base c × CallsFit c.start within × CallsFit base after

  one_node : (base : ℕ) (c : Called) (within : Forest Called) → CallFits base c →
      IsHead (head_of base c within) (node_bytes t (c.start - base) c.size c.name (child_flag within) (source_index t c.at.source) c.at.line)
  one_node base c within fits =
      head_written t (c.start - base) c.size c.name (child_flag within) (source_index t c.at.source) c.at.line (not (child_flag within == 0))
      (omega (arith, fits.end)) (omega (arith, fits.end)) fits.name (omega (arith, fits.file)) (omega (arith, fits.line)) refl

  inner_some : (within : Forest Called) (base : ℕ) (text : List ℕ) → AreNodes (nodes_of base within) text → not (child_flag within == 0) ≡ true →
      AreNodes (nodes_of base within) (unless_ended within text)
  inner_some NoCalls base text are some = absurd (cc)
  inner_some (Call c within after) base text are some = are

  inner_none : (within : Forest Called) (base : ℕ) (text : List ℕ) → not (child_flag within == 0) ≡ false →
      (nodes_of base within ≡ Ended) × (unless_ended within text ≡ [])
  inner_none NoCalls base text none = (refl, refl)
  inner_none (Call c within after) base text none = absurd (cc)

  -- what is written are the nodes
  nodes_written : (calls : Forest Called) (base : ℕ) → CallsFit base calls → AreNodes (nodes_of base calls) (calls_bytes t base calls)
  unfolding uleb
  nodes_written NoCalls base fits = is_uleb 0 (omega arith)
  nodes_written (Call c within after) base fits = (
    node_bytes t (c.start - base) c.size c.name (child_flag within) (source_index t c.at.source) c.at.line,
    unless_ended within (calls_bytes t c.start within),
    calls_bytes t base after,
    refl,
    one_node base c within fits.0,
    inner_some within c.start (calls_bytes t c.start within) (nodes_written within c.start fits.1),
    inner_none within c.start (calls_bytes t c.start within),
    nodes_written after base fits.2,
  )

  abbrev pub frame : Called → Frame
  frame c = record { name = text_place t c.name; call_file = source_index t c.at.source; call_line = c.at.line }

  module _ (base : ℕ) (c : Called) (within : Forest Called) (fits : CallFits base c) where
    start_is : base + (c.start - base) ≡ c.start
    start_is = omega (arith, fits.from)

    sound : is_sound base (head_of base c within) ≡ true
    unfolding is_sound
    sound = rw (start_is, le-leb (c.start + c.size) last_address fits.end, le-leb (source_index t c.at.source) last_index (omega (arith, fits.file))) refl

    base_is : children_base base (head_of base c within) ≡ c.start
    unfolding children_base
    base_is = start_is

    frame_is : frame_of (head_of base c within) ≡ Some (frame c)
    unfolding frame_by
    frame_is =
        let cut : min c.at.line last_index ≡ c.at.line = omega (arith, fits.line) in
        rw (ne_eqb (text_place t c.name) 0 (λ none. omega (arith, fits.some_name)), cut) refl

    matches_is : (addr : ℕ) → matches base addr (head_of base c within) ≡ inside c.start c.size addr
    unfolding matches
    matches_is addr = rw (start_is, le-leb (c.start + c.size) last_address fits.end) (or_false (nat_le c.start addr && nat_lt addr (c.start + c.size))) where
      or_false : (b : Bool) → (b || false) ≡ b
      or_false true = refl
      or_false false = refl

  -- frames in front of others
  both_some : {A : Type 0} (xs ys : List A) → both (Some xs) (Some ys) ≡ Some (xs ++ ys)
  both_some xs ys = refl

  with_within : (c : Called) (b : Bool) (within after : List Called) →
      both (cond b (option_map (with_frame (Some (frame c))) (Some (map frame within))) (Some [])) (Some (map frame after))
      ≡ Some (map frame (cond b (c ∷ within) [] ++ after))
  with_within c true within after = ap (λ l. Some (frame c ∷ l)) (sym (map-append frame within after))
  with_within c false within after = refl

  -- the frames of the nodes are those of the calls that have the address inside
  frames_are : (addr : ℕ) (calls : Forest Called) (base : ℕ) → CallsFit base calls →
      frames addr base (nodes_of base calls) ≡ Some (map frame (calls_in (λ c. c.start) (λ c. c.size) addr calls))
  frames_are addr NoCalls base fits = refl
  frames_are addr (Call c within after) base fits =
      rw (
        sound base c within fits.0,
        matches_is base c within fits.0 addr,
        base_is base c within fits.0,
        frame_is base c within fits.0,
        frames_are addr within c.start fits.1,
        frames_are addr after base fits.2,
      ) (with_within c (inside c.start c.size addr) (calls_in (λ c. c.start) (λ c. c.size) addr within) (calls_in (λ c. c.start) (λ c. c.size) addr after))

  -- the root is the function
  pub record RootFits (c : Code) : Type 0 where
    pub end : c.start + c.size ≤ last_address
    pub name : text_place t c.name < 2 ^ 32
    pub some_name : 0 < text_place t c.name
    pub calls : CallsFit c.start c.calls

  abbrev root_head : Code → Head
  root_head c = record { ranges = (0, c.size) ∷ []; has_children = true; name = text_place t c.name; call_file = 0; call_line = 0 }

  abbrev pub tree_of : Code → Nodes
  tree_of c = Node (root_head c) (nodes_of c.start c.calls) Ended

  module _ (c : Code) (fits : RootFits c) where
    pub tree_written : IsTree (tree_bytes t c) (tree_of c)
    tree_written = record {
      text = tree_bytes t c;
      rest = [];
      whole = sym (append-nil (tree_bytes t c));
      root = (
        node_bytes t 0 c.size c.name 1 0 0,
        calls_bytes t c.start c.calls,
        refl,
        refl,
        head_written t 0 c.size c.name 1 0 0 true (omega arith) (omega (arith, fits.end)) fits.name (omega arith) (omega arith) refl,
        λ some. nodes_written c.calls c.start fits.calls,
        λ none. absurd (true≢false none),
      );
    }

    -- the root's frame has the function's name
    abbrev pub root_frame : Frame
    root_frame = record { name = text_place t c.name; call_file = 0; call_line = 0 }

    root_frames : (addr : ℕ) → c.start ≤ addr → addr < c.start + c.size →
        frames addr c.start (tree_of c) ≡ Some (root_frame ∷ map frame (calls_in (λ call. call.start) (λ call. call.size) addr c.calls))
    unfolding is_sound matches children_base frame_by
    root_frames addr low high =
        let zero_off : c.start + 0 ≡ c.start = omega arith in
        rw (
          zero_off,
          le-leb (c.start + c.size) last_address fits.end,
          le-leb c.start addr low,
          lt-ltb addr (c.start + c.size) high,
          ne_eqb (text_place t c.name) 0 (λ none. omega (arith, fits.some_name)),
          frames_are addr c.calls c.start fits.calls,
        ) (ap (λ l. Some (root_frame ∷ l)) (append-nil (map frame (calls_in (λ call. call.start) (λ call. call.size) addr c.calls))))

    -- the bytes of an inline tree give the function's frame, and those of the calls around the address
    pub tree_read : (addr : ℕ) → c.start ≤ addr → addr < c.start + c.size →
        frames_at addr c.start (tree_bytes t c) ≡ Some (root_frame ∷ map frame (calls_in (λ call. call.start) (λ call. call.size) addr c.calls))
    tree_read addr low high = frames_again addr c.start (tree_bytes t c) (tree_of c) tree_written ∙ root_frames addr low high
