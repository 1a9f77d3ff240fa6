-- The end of the last line.
use Rattle.std.proofs.Common.{◌≡◌, ℕ, ◌<◌, ◌-◌, Bool, true, false, cond, List, [], ◌∷◌, length, Option, Some, None, is_some, nat_eq, refl, sym, ap, ◌∙◌, arith}
use Rattle.std.specs.List.{slice_index}
use Rattle.bz_base.specs.Byte.{line_feed}
use Rattle.bz_base.specs.Line.{begins_ended, before_ended, ended_lines}
use Rattle.bz_base.proofs.LineLemmas.{ended_found}

-- bytes that are there are no empty list of lines
ended_some : (b : ℕ) (bytes : List ℕ) → ended_lines (b ∷ bytes) ≡ Some [] → ⊥
ended_some b bytes none = let are = ended_found (b ∷ bytes) [] none in omega (arith, ap length are.whole)

-- a byte in front of lines that have their ends changes nothing
some_before : (b : ℕ) (lines : Option (List (List ℕ))) → (lines ≡ Some [] → ⊥) → is_some (before_ended b lines) ≡ is_some lines
some_before b None some = refl
some_before b (Some []) some = absurd (some refl)
some_before b (Some (line ∷ lines)) some = by (nat_eq b line_feed)
  where
    by : (test : Bool) → is_some (cond {A = Option (List (List ℕ))} test (Some ([] ∷ line ∷ lines)) (begins_ended b (line ∷ lines))) ≡ true
    by true = refl
    by false = refl

-- a single byte has the end, if it is a line feed
single : (test : Bool) (b : ℕ) → is_some (cond {A = Option (List (List ℕ))} test (Some ([] ∷ [])) (begins_ended b [])) ≡ test
single true b = refl
single false b = refl

-- the last line has its end exactly where the last byte is a line feed
pub last_end : (b : ℕ) (bytes : List ℕ) → is_some (ended_lines (b ∷ bytes)) ≡ nat_eq (slice_index (b ∷ bytes) (length bytes)) line_feed
last_end b [] = single (nat_eq b line_feed) b
last_end b (c ∷ bytes) = some_before b (ended_lines (c ∷ bytes)) (ended_some c bytes) ∙ last_end c bytes

-- the same of bytes that are there
pub end_is : (bytes : List ℕ) → 0 < length bytes → nat_eq (slice_index bytes (length bytes - 1)) line_feed ≡ is_some (ended_lines bytes)
end_is [] some = absurd (omega arith)
end_is (b ∷ bytes) some =
    let last : length (b ∷ bytes) - 1 ≡ length bytes = omega arith in
    ap (λ n. nat_eq (slice_index (b ∷ bytes) n) line_feed) last ∙ sym (last_end b bytes)
