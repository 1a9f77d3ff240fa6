-- Replies one after the other: those that were written so far, and those that are left.
use Rattle.std.proofs.Common.{◌≡◌, ℕ, List, [], ◌∷◌, ◌++◌, Option, Some, refl, sym, ap, subst, ◌∙◌, append_assoc, append-nil}
use Rattle.bz_serve.specs.SomeReplies.{AreReplies, WritesReplies}

module _ {A : Type 0} (MaySay : A → List ℕ → Type 0) where
  -- a reply to the first request, and those to the others
  reply_first : (request : A) (left : List A) (text rest : List ℕ) → MaySay request text → AreReplies MaySay left rest → AreReplies MaySay (request ∷ left) (text ++ rest)
  reply_first request left text rest may are = record {
    texts = text ∷ are.texts;
    each = (may, are.each);
    text_is = ap (λ (all : List ℕ). text ++ all) are.text_is;
  }

  -- replies to the requests so far were written. With replies to those that are left they are replies
  -- to all
  pub record RepliedSoFar (requests left : List A) (was : List ℕ) (now : Option (List ℕ)) : Type 0 where
    pub front : List ℕ
    pub written : now ≡ Some (was ++ front)
    pub joins : (rest : List ℕ) → AreReplies MaySay left rest → AreReplies MaySay requests (front ++ rest)

  -- before the first one
  pub replied_none : (requests : List A) (was : List ℕ) (now : Option (List ℕ)) → now ≡ Some was → RepliedSoFar requests requests was now
  replied_none requests was now is = record { front = []; written = is ∙ ap Some (sym (append-nil was)); joins = λ rest are. are }

  -- one more
  pub replied_more : (requests left : List A) (request : A) (was : List ℕ) (written after : Option (List ℕ)) → RepliedSoFar requests (request ∷ left) was written →
      ((old : List ℕ) → written ≡ Some old → (text : List ℕ) × MaySay request text × (after ≡ Some (old ++ text))) → RepliedSoFar requests left was after
  replied_more requests left request was written after so_far adds =
      let one = adds (was ++ so_far.front) so_far.written in
      record {
        front = so_far.front ++ one.0;
        written = one.2 ∙ ap Some (append_assoc was so_far.front one.0);
        joins = λ rest are. subst (AreReplies MaySay requests) (sym (append_assoc so_far.front one.0 rest)) (so_far.joins (one.0 ++ rest) (reply_first request left one.0 rest one.1 are));
      }

  -- none is left
  pub replied_all : (requests : List A) (was : List ℕ) (now : Option (List ℕ)) → RepliedSoFar requests [] was now → WritesReplies MaySay requests was now
  replied_all requests was now so_far = (
    so_far.front ++ [],
    so_far.joins [] (record { texts = []; each = tt; text_is = refl }),
    so_far.written ∙ ap (λ (text : List ℕ). Some (was ++ text)) (sym (append-nil so_far.front)),
  )
