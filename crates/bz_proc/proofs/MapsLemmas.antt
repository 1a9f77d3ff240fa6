-- The mappings that are read of a text are those that its lines say.
use Rattle.std.proofs.Common.{◌≡◌, ℕ, Bool, true, false, cond, List, [], ◌∷◌, ◌++◌, length, flat_map, Option, Some, None, option_map, option_to_list, refl, sym, ap, ◌∙◌, arith, length-append}
use Rattle.std.specs.List.{AllZip}
use Rattle.std.specs.Str.{IsUtf8, is_utf8}
use Rattle.std.proofs.lemmas.Bool.{false_from_ne_true}
use Rattle.std.proofs.lemmas.Option.{none-some, same_Some}
use Rattle.std.proofs.lemmas.Str.{IsUtf8-from_is_utf8, is_utf8-from_IsUtf8}
use Rattle.bz_base.specs.Line.{all_lines}
use Rattle.bz_base.specs.declared.pid.Pid.{Pid}
use Rattle.bz_base.proofs.LineLemmas.{all_found, all_again}
use Rattle.bz_proc.specs.MappingLine.{Line, IsLine, line_in}
use Rattle.bz_proc.specs.Maps.{Mapping, mapping_told, Says, AreMappings, mapping_in, said_in, in_front, with_said, mappings_of, maps_in}
use Rattle.bz_proc.proofs.LineLemmas.{line_found, line_again}

-- an empty front changes nothing
pub front_none : (others : Option (List Mapping)) → in_front [] others ≡ others
front_none None = refl
front_none (Some mappings) = refl

map_some : {A B : Type 0} (f : A → B) (o : Option A) (y : B) → option_map f o ≡ Some y → (x : A) × (o ≡ Some x) × (f x ≡ y)
map_some f None y read = absurd (none-some y read)
map_some f (Some x) y read = (x, refl, same_Some (f x) y read)

-- an empty line is of no mapping
no_line : (told : Line) → IsLine [] told → ⊥
no_line told is = omega (arith, is.fields.first.positive, ap length is.fields.parts, length-append is.fields.front is.fields.back)

module _ (pid : Pid) where
  -- in UTF-8 the lines decide
  pub maps_utf8 : (text : List ℕ) → IsUtf8 text → maps_in pid text ≡ mappings_of pid (all_lines text)
  maps_utf8 text utf8 = rw (is_utf8-from_IsUtf8 text utf8) refl

  -- another text has no mappings
  pub maps_other : (text : List ℕ) → ¬ IsUtf8 text → maps_in pid text ≡ None
  maps_other text other = rw (false_from_ne_true (is_utf8 text) (λ utf8. other (IsUtf8-from_is_utf8 text utf8))) refl

  -- what is read of a line is what the line says
  said_found : (line : List ℕ) (said : Option Mapping) → said_in pid line ≡ Some said → Says pid line said
  said_found [] None read = refl
  said_found [] (Some mapping) read = cc
  said_found (b ∷ line) None read =
      let parts = map_some (λ (mapping : Mapping). Some mapping) (mapping_in pid (b ∷ line)) None read in cc
  said_found (b ∷ line) (Some mapping) read =
      let parts = map_some (λ (mapping : Mapping). Some mapping) (mapping_in pid (b ∷ line)) (Some mapping) read in
      let told = map_some (mapping_told pid) (line_in (b ∷ line)) parts.0 parts.1 in
      (told.0, line_found (b ∷ line) told.0 told.1, sym (same_Some parts.0 mapping parts.2) ∙ sym told.2)

  -- what the line says is read
  said_again : (line : List ℕ) (said : Option Mapping) → Says pid line said → said_in pid line ≡ Some said
  said_again line None is = ap (said_in pid) is
  said_again [] (Some mapping) (told, is, same) = absurd (no_line told is)
  said_again (b ∷ line) (Some mapping) (told, is, same) = rw (line_again (b ∷ line) told is, same) refl

  -- the lines say the mappings
  abbrev AreSaid : List (List ℕ) → List Mapping → Type 0
  AreSaid lines mappings = (said : List (Option Mapping)) × AllZip (Says pid) lines said × (mappings ≡ flat_map option_to_list said)

  -- the mappings that are read of lines are those that they say
  said_lines : (lines : List (List ℕ)) (mappings : List Mapping) → mappings_of pid lines ≡ Some mappings → AreSaid lines mappings
  said_lines [] mappings read = ([], tt, sym (same_Some [] mappings read))
  said_lines (line ∷ lines) mappings read = by_said (said_lines lines) (said_in pid line) refl read
    where
      by_said : ((rest : List Mapping) → mappings_of pid lines ≡ Some rest → AreSaid lines rest) → (said : Option (Option Mapping)) → said_in pid line ≡ said →
          with_said said (mappings_of pid lines) ≡ Some mappings → AreSaid (line ∷ lines) mappings
      by_said more None is read = absurd (none-some mappings read)
      by_said more (Some said) is read =
          let parts = map_some (λ rest. option_to_list said ++ rest) (mappings_of pid lines) mappings read in
          let others = more parts.0 parts.1 in
          (said ∷ others.0, (said_found line said is, others.1), sym parts.2 ∙ ap (λ rest. option_to_list said ++ rest) others.2)

  -- mappings that lines say are read of them
  lines_again : (lines : List (List ℕ)) (said : List (Option Mapping)) → AllZip (Says pid) lines said → mappings_of pid lines ≡ Some (flat_map option_to_list said)
  lines_again [] [] each = refl
  lines_again [] (first ∷ said) each = absurd each
  lines_again (line ∷ lines) [] each = absurd each
  lines_again (line ∷ lines) (first ∷ said) each = rw (said_again line first each.0, lines_again lines said each.1) refl

  -- the mappings that are read of a text are those that its lines say
  pub maps_found : (text : List ℕ) (mappings : List Mapping) → maps_in pid text ≡ Some mappings → AreMappings pid text mappings
  maps_found text mappings read = by_test (is_utf8 text) refl read
    where
      by_test : (test : Bool) → is_utf8 text ≡ test → cond test (mappings_of pid (all_lines text)) None ≡ Some mappings → AreMappings pid text mappings
      by_test false is read = absurd (none-some mappings read)
      by_test true is read =
          let said = said_lines (all_lines text) mappings read in
          record {
            utf8 = IsUtf8-from_is_utf8 text is;
            lines = all_lines text;
            said = said.0;
            are_lines = all_found text;
            each = said.1;
            in_order = said.2;
          }

  -- mappings that the lines of a text say are read of it
  pub maps_again : (text : List ℕ) (mappings : List Mapping) → AreMappings pid text mappings → maps_in pid text ≡ Some mappings
  maps_again text mappings are =
      maps_utf8 text are.utf8 ∙ ap (mappings_of pid) (all_again text are.lines are.are_lines) ∙ lines_again are.lines are.said are.each ∙ ap Some (sym are.in_order)
