-- A run of bytes of one kind is found at the front of a text, and found again.
use Rattle.std.proofs.Common.{◌≡◌, ℕ, suc, ◌+◌, Bool, false, List, [], ◌∷◌, ◌++◌, length, take, drop, Some, refl, sym, ap, ◌∙◌, arith}
use Rattle.std.specs.List.{prefix_len}
use Rattle.std.proofs.lemmas.Bool.{cond_both}
use Rattle.std.proofs.lemmas.List.{take-append-drop}
use Rattle.std.proofs.lemmas.Option.{cond_some}
use Rattle.std.proofs.Math.Seq.{take-append_seam, drop-append_seam}
use Rattle.bz_base.specs.Byte.{begins_with}
use Rattle.bz_breakpad_lines.specs.Form.{AllPass, IsRun}
use Rattle.bz_breakpad_lines.specs.Reads.{run_at}

-- the bytes at the front are of the kind
pub front_passes : (byte : ℕ → Bool) (text : List ℕ) → AllPass byte (take (prefix_len byte text) text)
front_passes byte [] = tt
front_passes byte (b ∷ text) =
    let more : 1 + prefix_len byte text ≡ suc (prefix_len byte text) = omega arith in
    cond_both (byte b) (1 + prefix_len byte text) 0 (λ n. AllPass byte (take n (b ∷ text)))
    (λ yes. rw more (yes, front_passes byte text)) (λ no. tt)

-- no run is empty, where it ends
run_len-end : (byte : ℕ → Bool) (rest : List ℕ) → begins_with byte rest ≡ false → prefix_len byte rest ≡ 0
run_len-end byte [] stops = refl
run_len-end byte (b ∷ rest) stops = rw stops refl

-- a run is as long as its bytes go
pub run_len : (byte : ℕ → Bool) (run rest : List ℕ) → AllPass byte run → begins_with byte rest ≡ false →
    prefix_len byte (run ++ rest) ≡ length run
run_len byte [] rest all stops = run_len-end byte rest stops
run_len byte (b ∷ run) rest all stops = rw all.0 (omega (arith, run_len byte run rest all.1 stops))

module _ {A : Type 0} (byte : ℕ → Bool) (whole : List ℕ → Bool) (tell : List ℕ → A) where
  pub run_found : (text : List ℕ) (read : A × List ℕ) → run_at byte whole tell text ≡ Some read →
      (front : List ℕ) × IsRun byte whole tell front read.0 × (text ≡ front ++ read.1)
  unfolding run_at
  run_found text read is =
      let n = prefix_len byte text in
      let parts = cond_some (whole (take n text)) (tell (take n text), drop n text) read is in (
        take n text,
        record {
          bytes = front_passes byte text;
          passes = parts.0;
          tells = sym (ap (λ r. r.0) parts.1);
        },
        sym (take-append-drop n text) ∙ ap (λ r. take n text ++ r.1) parts.1,
      )

  pub run_again : (run rest : List ℕ) (value : A) → IsRun byte whole tell run value → begins_with byte rest ≡ false →
      run_at byte whole tell (run ++ rest) ≡ Some (value, rest)
  unfolding run_at
  run_again run rest value is stops =
      rw (
        run_len byte run rest is.bytes stops,
        take-append_seam run rest,
        drop-append_seam run rest,
        is.passes,
        is.tells,
      ) refl
