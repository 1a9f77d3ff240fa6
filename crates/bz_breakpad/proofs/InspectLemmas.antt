-- What is told of the function of a key in order, and of all functions one after another.
use Rattle.std.proofs.Common.{◌≡◌, inl, inr, ℕ, ◌+◌, ◌<◌, ◌≤◌, Bool, true, false, cond, List, [], ◌∷◌, ◌++◌, drop, take, length, map, get_or, bytes_eq, Option, Some, option_map, refl, sym, ap, subst, ◌∙◌, append-nil, Bor}
use Rattle.std.specs.Fn.{Mut}
use Rattle.std.specs.List.{slice_get}
use Rattle.std.proofs.lemmas.List.{drop_all, drop_more, length-map, take_more}
use Rattle.std.proofs.lemmas.List.Elements.{filter-append}
use Rattle.std.proofs.lemmas.Option.{get_or_from_slice_get, slice_get-map, slice_get_within}
use Rattle.bz_breakpad_lines.specs.Reader.{table_in}
use Rattle.bz_breakpad_lines.specs.Table.{Function, Table}
use Rattle.bz_breakpad_table.specs.Kept.{IsTextAt, function_seen}
use Rattle.bz_breakpad_table.specs.Sorted.{StandsFor}
use Rattle.bz_breakpad_table.specs.declared.types.FunctionKey.{FunctionKey}
use Rattle.bz_breakpad_table.specs.declared.types.KeptFunction.{KeptFunction}
use Rattle.bz_breakpad_table.specs.declared.types.KeptTable.{KeptTable}
use Rattle.bz_breakpad_table.proofs.PublicKeyLemmas.{all_at}
use Rattle.bz_breakpad_function.specs.Indexed.{functions_of}
use Rattle.bz_breakpad.specs.Inspect.{CalledAtInfo, CalledInTurn, Info, function_info, infos_in, infos_of, named}
use Rattle.bz_breakpad.specs.declared.inspect.SymInfo.{SymInfo}
use Rattle.bz_breakpad.proofs.KeyLemmas.{all_tell, told, told_in_order}
use Rattle.bz_breakpad_function.proofs.IndexedLemmas.{fits_there, nested_there, there_within}

module _ (bytes : List ℕ) (table : Table) (kept : KeptTable) (stands : StandsFor bytes table kept) where
  -- something is told for each key
  pub infos_count : length (infos_of table.functions) ≡ length kept.code.keys.items
  infos_count =
      ap (λ (fs : List Function). length (map function_info fs)) (sym (told_in_order bytes kept.code table.functions stands.functions kept.code.keys.items stands.keys))
      ∙ length-map (map (told table.functions) kept.code.keys.items) function_info
      ∙ length-map kept.code.keys.items (told table.functions)

  module _ (index : ℕ) (key : FunctionKey) (at : slice_get kept.code.keys.items index ≡ Some key) where
    function_there : slice_get table.functions key.index ≡ Some (told table.functions key)
    function_there =
        all_at (λ (k : FunctionKey). slice_get table.functions k.index ≡ Some (told table.functions k)) kept.code.keys.items index key at
        (all_tell bytes kept.code table.functions stands.functions kept.code.keys.items stands.keys)

    -- the function of the key is kept
    pub key_within : key.index < length kept.code.functions.items
    key_within = there_within bytes table kept stands key.index (told table.functions key) function_there

    module _ (f : KeptFunction) (read : f ≡ get_or kept.code.functions.items key.index f) where
      -- with a name
      pub key_named : IsTextAt bytes f.name
      key_named = (fits_there bytes table kept stands key.index (told table.functions key) function_there f read).name

      -- what is told at the key's place is told of it
      pub info_told : slice_get (infos_of table.functions) index ≡ Some (function_info (function_seen bytes kept.code f))
      info_told =
          ap (λ (fs : List Function). slice_get (map function_info fs) index) (sym (told_in_order bytes kept.code table.functions stands.functions kept.code.keys.items stands.keys))
          ∙ slice_get-map function_info (map (told table.functions) kept.code.keys.items) index
          ∙ ap (option_map function_info) (slice_get-map (told table.functions) kept.code.keys.items index ∙ ap (option_map (told table.functions)) at)
          ∙ ap (λ (g : Function). Some (function_info g)) (sym (nested_there bytes table kept stands key.index (told table.functions key) function_there f read).same)

-- what is told of a file is told of its table's functions
pub infos_are : (bytes : List ℕ) (table : Table) → table_in bytes ≡ Some table → infos_of table.functions ≡ infos_in bytes
infos_are bytes table read = sym (ap (λ (o : Option Table). infos_of (functions_of o)) read)

-- One after another.

module _ (infos : List Info) (index : ℕ) (info : Info) (there : slice_get infos index ≡ Some info) where
  info_within : index < length infos
  info_within = slice_get_within infos index info there

  info_read : get_or infos index info ≡ info
  info_read = get_or_from_slice_get infos index info info there

  info_left : drop index infos ≡ info ∷ drop (index + 1) infos
  info_left = drop_more infos index info info_within ∙ ap (λ i. i ∷ drop (index + 1) infos) info_read

  module _ (name : List ℕ) where
    -- those of a name, of one more: it is put behind them if it has the name
    named_more : (so_far : List Info) → so_far ≡ named name (take index infos) →
        so_far ++ cond {A = List Info} (bytes_eq info.name name) (info ∷ []) [] ≡ named name (take (index + 1) infos)
    named_more so_far are =
        ap (λ l. l ++ named name (info ∷ [])) are
        ∙ sym (filter-append (λ (i : Info). bytes_eq i.name name) (take index infos) (info ∷ []))
        ∙ sym (ap (named name) (take_more infos index info info_within ∙ ap (λ i. take index infos ++ i ∷ []) info_read))

    pub named_pushed : (so_far : List Info) → so_far ≡ named name (take index infos) → bytes_eq info.name name ≡ true →
        so_far ++ info ∷ [] ≡ named name (take (index + 1) infos)
    named_pushed so_far are is = ap (λ b. so_far ++ cond {A = List Info} b (info ∷ []) []) (sym is) ∙ named_more so_far are

    pub named_kept : (so_far : List Info) → so_far ≡ named name (take index infos) → bytes_eq info.name name ≡ false → so_far ≡ named name (take (index + 1) infos)
    named_kept so_far are is = sym (append-nil so_far) ∙ ap (λ b. so_far ++ cond {A = List Info} b (info ∷ []) []) (sym is) ∙ named_more so_far are

  module _ {F : Type 0} (g : Mut F (Bor SymInfo × Unit {0}) Bool) (f next : F) where
    -- a call that answers true goes on
    pub goes_on : CalledAtInfo g f info true next → (last : F) → CalledInTurn g next (drop (index + 1) infos) last → CalledInTurn g f (drop index infos) last
    goes_on called last rest = subst (λ is. CalledInTurn g f is last) (sym info_left) (inr (next, called, rest))

    -- and one that answers false is the last
    pub stops : CalledAtInfo g f info false next → CalledInTurn g f (drop index infos) next
    stops called = subst (λ is. CalledInTurn g f is next) (sym info_left) (inl called)

-- nothing is left to be called
pub none_left : {F : Type 0} (g : Mut F (Bor SymInfo × Unit {0}) Bool) (f : F) (infos : List Info) (index : ℕ) → length infos ≤ index → CalledInTurn g f (drop index infos) f
none_left g f infos index past = subst (λ is. CalledInTurn g f is f) (sym (drop_all index infos past)) refl
