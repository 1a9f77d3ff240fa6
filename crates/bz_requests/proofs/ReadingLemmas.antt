-- What the fields of a request are, one after the other.
use Rattle.std.proofs.Common.{◌≡◌, ◌<◌, ◌≤◌, ◌-◌, ◌==◌, ◌&&◌, Bor, IfOk, map, slice_index_or, ℕ, Bool, true, false, cond, List, [], ◌∷◌, length, take, drop, Option, Some, None, Result, option_map, refl, arith}
use Rattle.std.proofs.lemmas.Bool.{lt-ltb}
use Rattle.std.proofs.lemmas.Str.{is_utf8-from_IsUtf8, IsUtf8-from_is_utf8}
use Rattle.std.specs.Str.{IsUtf8, is_utf8}
use Rattle.bz_requests.proofs.FieldLemmas.{past_place}
use Rattle.bz_requests.specs.Requests.{batch_in, other_in, path_in, request_of}
use Rattle.bz_requests.specs.declared.requests.Request as made

-- UTF-8 text that isn't empty is a path
pub path_some : (text : List ℕ) → 0 < length text → IsUtf8 text → path_in text ≡ Some text
path_some text some utf8 = rw (lt-ltb _ _ some, is_utf8-from_IsUtf8 text utf8) refl

-- and other text isn't
pub path_none : (text : List ℕ) (some : Bool) → (IsUtf8 text → ⊥) → cond (some && is_utf8 text) (Some text) None ≡ None
path_none text some never = by_test some (is_utf8 text) refl
  where
    by_test : (a b : Bool) → is_utf8 text ≡ b → cond (a && b) (Some text) None ≡ None
    by_test false b is = refl
    by_test true true is = absurd (never (IsUtf8-from_is_utf8 text is))
    by_test true false is = refl

-- text that isn't empty has a byte
pub some_byte : (text : List ℕ) → (length text == 0) ≡ false → 0 < length text
some_byte [] is = cc
some_byte (b ∷ bs) is = omega arith

-- the first field, and those after it
pub other_again : {E : Type 0} (kind : List ℕ) (all : List (Bor (List ℕ))) (none : Bor (List ℕ)) (result : Result (Option made.Request) E) → 1 ≤ length all →
    IfOk result (λ request. option_map request_of request ≡ batch_in kind (slice_index_or all 0 none).now (map (λ field. field.now) (take (length all - 1) (drop 1 all)))) →
    IfOk result (λ request. option_map request_of request ≡ other_in kind (map (λ field. field.now) all))
other_again kind [] none result some is = absurd (omega (arith, some))
other_again kind (first ∷ others) none result some is = rw (past_place 1 (first ∷ others)) at is
