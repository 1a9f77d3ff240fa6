use Rattle.std.proofs.Common.{◌≡◌, ◌↔◌, ℕ, ◌<◌, ◌≤◌, true, length, drop, get_or}
use Rattle.std.specs.List.{list_all}
use Rattle.std.specs.Str.{IsCharBoundary}
use Rattle.bz_elf.specs.Names.{is_name_at}
use Rattle.bz_elf.proofs.parser.names.are_names.Given as goal

-- at the places so far names stand; at a later place before the end, where a character begins
abbrev pub invariant-loop-place : goal.invariant-loop-place
invariant-loop-place l = record {
  so_far : list_all (is_name_at l.strings) (drop l.place-index l.places) ≡ list_all (is_name_at l.strings) l.places;
  within : l.end ≤ length l.strings;
  ahead : (i : ℕ) → l.place-index ≤ i → i < length l.places → get_or l.places i 0 < l.end →
      (is_name_at l.strings (get_or l.places i 0) ≡ true) ↔ IsCharBoundary l.strings (get_or l.places i 0);
}
