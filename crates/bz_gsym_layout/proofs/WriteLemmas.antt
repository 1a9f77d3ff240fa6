-- LEB128 numbers are written byte by byte.
use Rattle.std.proofs.Common.{◌≡◌, ℕ, pos, negsuc, zero, suc, ◌+◌, ◌-◌, ◌*◌, ◌/◌, ◌%◌, ◌^◌, ◌<◌, ◌≤◌, List, [], ◌∷◌, ◌++◌, refl, sym, ◌∙◌, arith, append_assoc}
use Rattle.std.proofs.lemmas.Bool.{lt-ltb, le-ltb}
use Rattle.std.proofs.Math.Nat.{pow-suc}
use Rattle.bz_gsym_layout.specs.Leb.{unsigned_within, positive_within, negative_within, uleb, sleb}

-- with what is still to be written the bytes are the whole
module _ (limit : ℕ) (within : ℕ → ℕ → List ℕ) where
  pub record IsLeft (out : List ℕ) (rest : ℕ) (whole : List ℕ) : Type 0 where
    pub more : ℕ
    pub small : limit * rest < 128 ^ suc more
    pub all : out ++ within more rest ≡ whole

pub unsigned_begins : (out : List ℕ) (number : ℕ) → number < 2 ^ 64 → IsLeft 1 unsigned_within out number (out ++ uleb number)
unfolding uleb
unsigned_begins out number small = record { more = 9; small = omega arith; all = refl }

pub unsigned_goes_on : (out : List ℕ) (rest : ℕ) (whole : List ℕ) → 128 ≤ rest → IsLeft 1 unsigned_within out rest whole → IsLeft 1 unsigned_within (out ++ (128 + rest % 128) ∷ []) (rest / 128) whole
unsigned_goes_on out rest whole high is = by is.more is.small is.all where
  by : (more : ℕ) → 1 * rest < 128 ^ suc more → out ++ unsigned_within more rest ≡ whole → IsLeft 1 unsigned_within (out ++ (128 + rest % 128) ∷ []) (rest / 128) whole
  by zero small all = absurd (omega (arith, small, pow-suc 128 0))
  by (suc more) small all = record {
    more = more;
    small = omega (arith, small, pow-suc 128 (suc more));
    all = append_assoc out ((128 + rest % 128) ∷ []) (unsigned_within more (rest / 128)) ∙ sym (rw (le-ltb rest 128 high) refl) ∙ all;
  }

pub unsigned_ends : (out : List ℕ) (rest : ℕ) (whole : List ℕ) → rest < 128 → IsLeft 1 unsigned_within out rest whole → out ++ rest ∷ [] ≡ whole
unsigned_ends out rest whole low is = by is.more is.all where
  by : (more : ℕ) → out ++ unsigned_within more rest ≡ whole → out ++ rest ∷ [] ≡ whole
  by zero all = all
  by (suc more) all = sym (rw (lt-ltb rest 128 low) refl) ∙ all

pub positive_begins : (out : List ℕ) (number : ℕ) → number < 2 ^ 63 → IsLeft 2 positive_within out number (out ++ sleb (pos number))
unfolding sleb
positive_begins out number small = record { more = 9; small = omega arith; all = refl }

pub positive_goes_on : (out : List ℕ) (rest : ℕ) (whole : List ℕ) → 64 ≤ rest → IsLeft 2 positive_within out rest whole → IsLeft 2 positive_within (out ++ (128 + rest % 128) ∷ []) (rest / 128) whole
positive_goes_on out rest whole high is = by is.more is.small is.all where
  by : (more : ℕ) → 2 * rest < 128 ^ suc more → out ++ positive_within more rest ≡ whole → IsLeft 2 positive_within (out ++ (128 + rest % 128) ∷ []) (rest / 128) whole
  by zero small all = absurd (omega (arith, small, pow-suc 128 0))
  by (suc more) small all = record {
    more = more;
    small = omega (arith, small, pow-suc 128 (suc more));
    all = append_assoc out ((128 + rest % 128) ∷ []) (positive_within more (rest / 128)) ∙ sym (rw (le-ltb rest 64 high) refl) ∙ all;
  }

pub positive_ends : (out : List ℕ) (rest : ℕ) (whole : List ℕ) → rest < 64 → IsLeft 2 positive_within out rest whole → out ++ rest ∷ [] ≡ whole
positive_ends out rest whole low is = by is.more is.all where
  by : (more : ℕ) → out ++ positive_within more rest ≡ whole → out ++ rest ∷ [] ≡ whole
  by zero all = all
  by (suc more) all = sym (rw (lt-ltb rest 64 low) refl) ∙ all

pub negative_begins : (out : List ℕ) (below : ℕ) → below < 2 ^ 63 → IsLeft 2 negative_within out below (out ++ sleb (negsuc below))
unfolding sleb
negative_begins out below small = record { more = 9; small = omega arith; all = refl }

pub negative_goes_on : (out : List ℕ) (rest : ℕ) (whole : List ℕ) → 64 ≤ rest → IsLeft 2 negative_within out rest whole → IsLeft 2 negative_within (out ++ (255 - rest % 128) ∷ []) (rest / 128) whole
negative_goes_on out rest whole high is = by is.more is.small is.all where
  by : (more : ℕ) → 2 * rest < 128 ^ suc more → out ++ negative_within more rest ≡ whole → IsLeft 2 negative_within (out ++ (255 - rest % 128) ∷ []) (rest / 128) whole
  by zero small all = absurd (omega (arith, small, pow-suc 128 0))
  by (suc more) small all = record {
    more = more;
    small = omega (arith, small, pow-suc 128 (suc more));
    all = append_assoc out ((255 - rest % 128) ∷ []) (negative_within more (rest / 128)) ∙ sym (rw (le-ltb rest 64 high) refl) ∙ all;
  }

pub negative_ends : (out : List ℕ) (rest : ℕ) (whole : List ℕ) → rest < 64 → IsLeft 2 negative_within out rest whole → out ++ (127 - rest) ∷ [] ≡ whole
negative_ends out rest whole low is = by is.more is.all where
  by : (more : ℕ) → out ++ negative_within more rest ≡ whole → out ++ (127 - rest) ∷ [] ≡ whole
  by zero all = all
  by (suc more) all = sym (rw (lt-ltb rest 64 low) refl) ∙ all
