-- What is put into a map of processes and taken back.
use Rattle.std.proofs.Common.{◌≡◌, Bool, true, false, cond, List, [], ◌∷◌, Option, Some, None, is_some, Ok, Err, refl, sym, ap, ◌∙◌}
use Rattle.std.specs.BTreeMap.{insert_entry, is_at}
use Rattle.std.specs.Cmp.{IsTotalOrder}
use Rattle.std.specs.Map.{lookup, remove_entry, set_value}
use Rattle.std.specs.Option.{ok_or, option_map_or}
use Rattle.std.specs.Ordering.{match_ordering, is_eq}
use Rattle.std.specs.declared.cmp.Ordering.{Ordering}
use Rattle.std.specs.declared.cmp.Ordering.TheVariants.{Less, Equal, Greater}
use Rattle.std.proofs.lemmas.Cmp.{eq_by_cmp_equiv}
use Rattle.bz_base.specs.contracts.pid.PidOrd.TheImpl.Laws.{total-law}
use Rattle.bz_base.specs.declared.pid.Pid.{Pid}
use Rattle.bz_cache.specs.InsertMap.{value_at, with_absent, with_value, without}
use Rattle.bz_proc.specs.Maps.{Mapping}
use Rattle.bz_cache.specs.Cache.{Cache}
use Rattle.bz_process.specs.Caches.{caches}
use Rattle.bz_process.specs.Caching.{KeptMappings, with_former, with_mappings}
use Rattle.bz_process.specs.Process.{pid_cmp}
use Rattle.bz_process.specs.Remembered.{Remembered}
use Rattle.bz_process.specs.declared.perf_maps.PerfMaps.{PerfMaps}

module _ {K V : Type 0} (cmp : K → K → Ordering) where
  -- a key that is there keeps its value
  pub kept_there : (es : List (K × V)) (k : K) (v w : V) → value_at cmp es k ≡ Some w → with_absent cmp es k v ≡ es
  kept_there es k v w there = ap (λ (o : Option V). option_map_or (λ (x : V). es) o (insert_entry cmp es k v)) there

  -- a key that isn't there gets one
  pub put_in : (es : List (K × V)) (k : K) (v : V) → value_at cmp es k ≡ None → with_absent cmp es k v ≡ insert_entry cmp es k v
  put_in es k v absent = ap (λ (o : Option V). option_map_or (λ (x : V). es) o (insert_entry cmp es k v)) absent

module _ {K V : Type 0} (test : K → Bool) where
  -- no value is put in place of one that isn't there
  pub set_absent : (es : List (K × V)) (v : V) → lookup test es ≡ None → set_value test es v ≡ es
  set_absent [] v absent = refl
  set_absent (e ∷ es) v absent = by_test (test e.0) absent (set_absent es v)
    where
      by_test : (b : Bool) → cond b (Some e.1) (lookup test es) ≡ None → (lookup test es ≡ None → set_value test es v ≡ es) → cond b ((e.0, v) ∷ es) (e ∷ set_value test es v) ≡ e ∷ es
      by_test true absent rest = cc absent
      by_test false absent rest = ap (λ (xs : List (K × V)). e ∷ xs) (rest absent)

  -- a value that is put back in place of another
  pub set_back : (es : List (K × V)) (v w : V) → lookup test es ≡ Some w → set_value test (set_value test es v) w ≡ es
  set_back [] v w there = cc
  set_back (e ∷ es) v w there = by_test (test e.0) refl there (set_back es v w)
    where
      by_test : (b : Bool) → test e.0 ≡ b → cond b (Some e.1) (lookup test es) ≡ Some w → (lookup test es ≡ Some w → set_value test (set_value test es v) w ≡ es) →
          set_value test (cond b ((e.0, v) ∷ es) (e ∷ set_value test es v)) w ≡ e ∷ es
      by_test true is there rest =
          let same : e.1 ≡ w = cc there in
          ap (λ (b : Bool). cond b ((e.0, w) ∷ es) ((e.0, v) ∷ set_value test es w)) is ∙ ap (λ (x : V). (e.0, x) ∷ es) (sym same)
      by_test false is there rest =
          ap (λ (b : Bool). cond b ((e.0, w) ∷ set_value test es v) (e ∷ set_value test (set_value test es v) w)) is ∙ ap (λ (xs : List (K × V)). e ∷ xs) (rest there)

module _ {K V : Type 0} {cmp : K → K → Ordering} (o : IsTotalOrder cmp) (k : K) (v : V) where
  -- a key that is put in and taken out again
  taken_out : (es : List (K × V)) → value_at cmp es k ≡ None → without cmp (insert_entry cmp es k v) k ≡ es
  taken_out [] absent = ap (λ (b : Bool). cond b [] ((k, v) ∷ [])) ((eq_by_cmp_equiv o).refl k)
  taken_out (e ∷ es) absent = by_order (cmp k e.0) refl (taken_out es)
    where
      by_order : (r : Ordering) → cmp k e.0 ≡ r → (value_at cmp es k ≡ None → without cmp (insert_entry cmp es k v) k ≡ es) →
          without cmp (match_ordering r ((k, v) ∷ e ∷ es) ((e.0, v) ∷ es) (e ∷ insert_entry cmp es k v)) k ≡ e ∷ es
      by_order Less is rest = ap (λ (b : Bool). cond b (e ∷ es) ((k, v) ∷ remove_entry (is_at (cmp k)) (e ∷ es))) ((eq_by_cmp_equiv o).refl k)
      by_order Equal is rest = let here : cond (is_eq Equal) (Some e.1) (value_at cmp es k) ≡ None = ap (λ (x : Ordering). cond (is_eq x) (Some e.1) (value_at cmp es k)) (sym is) ∙ absent in cc here
      by_order Greater is rest =
          let later : value_at cmp es k ≡ None = ap (λ (x : Ordering). cond (is_eq x) (Some e.1) (value_at cmp es k)) (sym is) ∙ absent in
          ap (λ (x : Ordering). cond (is_eq x) (insert_entry cmp es k v) (e ∷ remove_entry (is_at (cmp k)) (insert_entry cmp es k v))) is ∙ ap (λ (xs : List (K × V)). e ∷ xs) (rest later)

  pub put_and_taken : (es : List (K × V)) → value_at cmp es k ≡ None → without cmp (with_absent cmp es k v) k ≡ es
  put_and_taken es absent = ap (λ (xs : List (K × V)). without cmp xs k) (put_in cmp es k v absent) ∙ taken_out es absent

pid_total : IsTotalOrder pid_cmp
pid_total = total-law

-- the mappings of a process that are put in and taken back
pub mappings_back : (pid : Pid) (kept : KeptMappings) (mappings : List Mapping) (former : Option (List Mapping)) → former ≡ value_at pid_cmp kept pid →
    with_former pid (with_mappings pid kept mappings) former ≡ kept
mappings_back pid kept mappings former is = by_found (value_at pid_cmp kept pid) refl former is
  where
    by_found : (found : Option (List Mapping)) → value_at pid_cmp kept pid ≡ found → (former : Option (List Mapping)) → former ≡ found →
        with_former pid (option_map_or (λ (x : List Mapping). with_value pid_cmp kept pid mappings) found (insert_entry pid_cmp kept pid mappings)) former ≡ kept
    by_found None absent former is = rw is (taken_out pid_total pid mappings kept absent)
    by_found (Some w) there former is = rw is (set_back (is_at (pid_cmp pid)) kept mappings w there)

-- a value that came out was there
pub was_there : {A : Type 0} (found : Option A) (put out : A) → Ok out ≡ ok_or found put → found ≡ Some out
was_there (Some there) put out is = let same : out ≡ there = cc is in ap Some (sym same)
was_there None put out is = cc is

-- a value came back, since none was there
pub was_absent : {A : Type 0} (found : Option A) (put back : A) → Err back ≡ ok_or found put → (found ≡ None) × (back ≡ put)
was_absent (Some there) put back is = cc is
was_absent None put back is = (refl, cc is)

module _ (pid : Pid) (kept : KeptMappings) (mappings : List Mapping) where
  -- other mappings were there
  pub with_others : (former : List Mapping) → value_at pid_cmp kept pid ≡ Some former → with_value pid_cmp kept pid mappings ≡ with_mappings pid kept mappings
  with_others former there = sym (ap (λ (o : Option (List Mapping)). option_map_or (λ (x : List Mapping). with_value pid_cmp kept pid mappings) o (insert_entry pid_cmp kept pid mappings)) there)

  -- none were
  pub with_first : value_at pid_cmp kept pid ≡ None → with_absent pid_cmp (with_value pid_cmp kept pid mappings) pid mappings ≡ with_mappings pid kept mappings
  with_first absent =
      ap (λ (es : KeptMappings). with_absent pid_cmp es pid mappings) (set_absent (is_at (pid_cmp pid)) kept mappings absent)
      ∙ put_in pid_cmp kept pid mappings absent
      ∙ sym (ap (λ (o : Option (List Mapping)). option_map_or (λ (x : List Mapping). with_value pid_cmp kept pid mappings) o (insert_entry pid_cmp kept pid mappings)) absent)

-- what isn't there
none_there : {A : Type 0} (found : Option A) → is_some found ≡ false → found ≡ None
none_there None is = refl
none_there (Some x) is = cc is

module _ (elf : Cache) (old : PerfMaps) (pid : Pid) (known : Remembered) (left : Cache) where
  abbrev noted : PerfMaps
  noted = record old { ids = with_absent pid_cmp old.ids pid known }

  -- a process that was remembered before stays so
  stays_known : (mid : PerfMaps) → mid ≡ noted → is_some (value_at pid_cmp old.ids pid) ≡ true → left ≡ mid.files → record { elf = elf; perf_maps = left; ids = mid.ids } ≡ caches elf old
  stays_known mid is remembered same = by_found (value_at pid_cmp old.ids pid) refl remembered
    where
      by_found : (found : Option Remembered) → value_at pid_cmp old.ids pid ≡ found → is_some found ≡ true → record { elf = elf; perf_maps = left; ids = mid.ids } ≡ caches elf old
      by_found None there remembered = cc remembered
      by_found (Some w) there remembered =
          let ids : mid.ids ≡ old.ids = ap (λ (m : PerfMaps). m.ids) is ∙ kept_there pid_cmp old.ids pid known w there in
          let files : left ≡ old.files = same ∙ ap (λ (m : PerfMaps). m.files) is in
          rw (files, ids) refl

  -- one that wasn't is forgotten again
  stays_unknown : (mid : PerfMaps) (ids : List (Pid × Remembered)) → mid ≡ noted → is_some (value_at pid_cmp old.ids pid) ≡ false → left ≡ mid.files → ids ≡ without pid_cmp mid.ids pid →
      record { elf = elf; perf_maps = left; ids = ids } ≡ caches elf old
  stays_unknown mid ids is unknown same out =
      let absent : value_at pid_cmp old.ids pid ≡ None = none_there _ unknown in
      let again : ids ≡ old.ids = out ∙ ap (λ (m : PerfMaps). without pid_cmp m.ids pid) is ∙ put_and_taken pid_total pid known old.ids absent in
      let files : left ≡ old.files = same ∙ ap (λ (m : PerfMaps). m.files) is in
      rw (files, again) refl

  -- so what was remembered is remembered, and no more
  pub stays_before : (mid : PerfMaps) (ids : List (Pid × Remembered)) (remembered : Bool) → mid ≡ noted → remembered ≡ is_some (value_at pid_cmp old.ids pid) → left ≡ mid.files →
      ids ≡ cond remembered mid.ids (without pid_cmp mid.ids pid) → record { elf = elf; perf_maps = left; ids = ids } ≡ caches elf old
  stays_before mid ids true is known same back = rw back (stays_known mid is (sym known) same)
  stays_before mid ids false is known same back = stays_unknown mid ids is (sym known) same back
