-- What the finite map that a std map reads as has at a key, after a look-up and after a change.
use Rattle.std.proofs.Common.{◌≡◌, Bool, true, false, cond, List, [], ◌∷◌, map, Option, Some, None, option_map, sym, ap, ◌∙◌, refl}
use Rattle.std.specs.Map.{lookup}
use Rattle.std.specs.Cmp.{IsTotalOrder, eq_by_cmp_equiv}
use Rattle.std.specs.Ordering.{eq_by_cmp, is_eq}
use Rattle.std.specs.declared.cmp.Ordering.{Ordering}
use Rattle.std.specs.FinMap.{IsAntisymmetric, from_entries, find, get-from_entries, get-insert, get-remove, same_map}
use Rattle.std.specs.FinMap as finmap

-- a function over a choice
map_cond : {A B : Type 0} (g : A → B) (b : Bool) (w v : Option A) → option_map g (cond b w v) ≡ cond b (option_map g w) (option_map g v)
map_cond g true w v = refl
map_cond g false w v = refl

module _ {K B X Y : Type 0} (R : B → B → Ordering) (f : K → B) (g : X → Y) where
  -- the entries of a map, read by f and g
  abbrev pub read_entries : List (K × X) → List (B × Y)
  read_entries es = map (λ e. (f e.0, g e.1)) es

  -- a scan of the read entries finds what the map's look-up finds
  pub find_read : (q : B) (es : List (K × X)) → find R q (read_entries es) ≡ option_map g (lookup (λ k. is_eq (R q (f k))) es)
  find_read q [] = refl
  find_read q (e ∷ es) = ap (cond (is_eq (R q (f e.0))) (Some (g e.1))) (find_read q es) ∙ sym (map_cond g (is_eq (R q (f e.0))) (Some e.1) (lookup (λ k. is_eq (R q (f k))) es))

  -- what a map reads as has at a key what the map has there
  pub get_read : IsTotalOrder R → (es : List (K × X)) (q : B) → finmap.get (from_entries {R = R} (read_entries es)) q ≡ option_map g (lookup (λ k. is_eq (R q (f k))) es)
  get_read o es q = get-from_entries o (read_entries es) q ∙ find_read q es

  module _ (o : IsTotalOrder R) (apart : IsAntisymmetric R) (old new : List (K × X)) (k : B) (w : Option X)
      (updates : (q : B) → lookup (λ j. is_eq (R q (f j))) new ≡ cond (is_eq (R k q)) w (lookup (λ j. is_eq (R q (f j))) old)) where
    -- what the changed map has at each key
    get_updated : (q : B) → finmap.get (from_entries {R = R} (read_entries new)) q ≡ cond (eq_by_cmp R q k) (option_map g w) (finmap.get (from_entries {R = R} (read_entries old)) q)
    get_updated q = get_read o new q ∙ ap (option_map g) (updates q) ∙ map_cond g (is_eq (R k q)) w _ ∙ ap (λ b. cond b (option_map g w) (option_map g (lookup (λ j. is_eq (R q (f j))) old))) ((eq_by_cmp_equiv o).symm k q) ∙ ap (cond (eq_by_cmp R q k) (option_map g w)) (sym (get_read o old q))

    -- a value that was put in
    pub read_insert : (v : X) → w ≡ Some v → from_entries {R = R} (read_entries new) ≡ finmap.insert (from_entries (read_entries old)) k (g v)
    read_insert v is = same_map o apart _ _ (λ q. get_updated q ∙ ap (λ u. cond (eq_by_cmp R q k) (option_map g u) (finmap.get (from_entries {R = R} (read_entries old)) q)) is ∙ sym (get-insert o (from_entries (read_entries old)) k (g v) q))

    -- a value that was taken out
    pub read_remove : w ≡ None → from_entries {R = R} (read_entries new) ≡ finmap.remove (from_entries (read_entries old)) k
    read_remove is = same_map o apart _ _ (λ q. get_updated q ∙ ap (λ u. cond (eq_by_cmp R q k) (option_map g u) (finmap.get (from_entries {R = R} (read_entries old)) q)) is ∙ sym (get-remove o (from_entries (read_entries old)) k q))
