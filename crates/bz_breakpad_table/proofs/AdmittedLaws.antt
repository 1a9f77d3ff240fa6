-- Lines are admitted exactly where they are passed one after the other.
use Rattle.std.proofs.Common.{◌≡◌, ℕ, suc, ◌+◌, ◌&&◌, nat_lt, Bool, true, false, cond, List, [], ◌∷◌, ◌++◌, length, Option, Some, None, is_some, refl, sym, ap, subst, ◌∙◌, arith}
use Rattle.std.proofs.lemmas.Bool.{false≢true, lt-ltb, true≢false}
use Rattle.bz_base.specs.Bind.{◌>>=◌}
use Rattle.bz_breakpad_lines.specs.Byte.{is_nothing}
use Rattle.bz_breakpad_lines.specs.Grammar.{records_of}
use Rattle.bz_breakpad_lines.specs.Reader.{Reading, lines_read, next_read, nothing_read, with_record}
use Rattle.bz_breakpad_lines.specs.Says.{module_of}
use Rattle.bz_breakpad_lines.specs.Contexts.{Context, Record, context_after, white_allowed_after, record_at, after_white}
use Rattle.bz_breakpad_lines.specs.Contexts.Context.{Outside}
use Rattle.bz_breakpad_lines.proofs.FoldLaws.{Follow, fold_found, fold_again}
use Rattle.bz_breakpad_lines.proofs.RoleLaws.{roles_exactly}
use Rattle.bz_breakpad_lines.proofs.WalkLaws.{walked_exactly}
use Rattle.bz_breakpad_table.specs.Admitted.{Before, AreAdmitted, at_front, after_record, after_line, or_refused, refused_from}

-- what is told after all of the lines, if each is admitted
abbrev pub after_lines : Before → List (List ℕ) → Option Before
after_lines before [] = Some before
after_lines before (line ∷ lines) = after_line before line >>= (λ after. after_lines after lines)

-- whether all of the lines are admitted
abbrev pub passes : Before → List (List ℕ) → Bool
passes before lines = is_some (after_lines before lines)

-- Lines that are read.

-- what is told after what was read
abbrev told : Context → Bool → Reading → Before
told c white_allowed reading = record { context = c; white_allowed = white_allowed; record_seen = nat_lt 0 reading.count }

-- after a record more, some were read
some_read : (reading : Reading) (r : Record) → nat_lt 0 (with_record reading r).count ≡ true
some_read reading r = lt-ltb 0 (reading.count + 1) (omega arith)

module _ (lines : List (List ℕ))
    (same : (c : Context) (white_allowed : Bool) (reading : Reading) → is_some (lines_read c white_allowed reading lines) ≡ passes (told c white_allowed reading) lines)
    (c : Context) (white_allowed : Bool) (reading : Reading) where
  -- what is read of the lines after a record
  abbrev read_after : Record → Option Reading
  read_after r = next_read reading r >>= (λ next. lines_read (context_after r) (white_allowed_after r) next lines)

  -- a record is read where it is admitted, and then the lines
  record_passes : (r : Record) → is_some (read_after r) ≡ is_some (after_record (told c white_allowed reading) r >>= (λ after. after_lines after lines))
  record_passes r = by (is_some (module_of r) && nat_lt 0 reading.count)
    where
      by : (late : Bool) →
          is_some (cond {A = Option Reading} late None (Some (with_record reading r)) >>= (λ next. lines_read (context_after r) (white_allowed_after r) next lines))
          ≡ is_some (cond {A = Option Before} late None (Some (record { context = context_after r; white_allowed = white_allowed_after r; record_seen = true })) >>= (λ after. after_lines after lines))
      by true = refl
      by false =
          same (context_after r) (white_allowed_after r) (with_record reading r)
          ∙ ap (λ seen. passes (record { context = context_after r; white_allowed = white_allowed_after r; record_seen = seen }) lines) (some_read reading r)

  -- the same of a record, if there is one
  found_passes : (found : Option Record) → is_some (found >>= read_after) ≡ is_some (found >>= after_record (told c white_allowed reading) >>= (λ after. after_lines after lines))
  found_passes None = refl
  found_passes (Some r) = record_passes r

  -- a line is read where it is admitted, and then the lines
  line_passes : (line : List ℕ) → is_some (lines_read c white_allowed reading (line ∷ lines)) ≡ passes (told c white_allowed reading) (line ∷ lines)
  unfolding after_line
  line_passes line = by (white_allowed && is_nothing (after_white white_allowed line))
    where
      by : (blank : Bool) →
          is_some (cond {A = Option Reading} blank (lines_read c white_allowed reading lines) (record_at c (after_white white_allowed line) >>= (λ r. next_read reading r >>= (λ next. lines_read (context_after r) (white_allowed_after r) next lines))))
          ≡ is_some (cond {A = Option Before} blank (Some (told c white_allowed reading)) (record_at c (after_white white_allowed line) >>= after_record (told c white_allowed reading)) >>= (λ after. after_lines after lines))
      by true = same c white_allowed reading
      by false = found_passes (record_at c (after_white white_allowed line))

-- lines are read exactly where each is admitted
lines_pass : (lines : List (List ℕ)) (c : Context) (white_allowed : Bool) (reading : Reading) → is_some (lines_read c white_allowed reading lines) ≡ passes (told c white_allowed reading) lines
lines_pass [] c white_allowed reading = refl
lines_pass (line ∷ lines) c white_allowed reading = line_passes lines (lines_pass lines) c white_allowed reading line

-- Lines that have roles.

-- there is what is some
is_there : {A : Type 0} (o : Option A) → is_some o ≡ true → (x : A) × (o ≡ Some x)
is_there None is = absurd (false≢true is)
is_there (Some x) is = (x, refl)

-- lines that pass are admitted
pub admitted_found : (lines : List (List ℕ)) → passes at_front lines ≡ true → AreAdmitted lines
admitted_found lines pass =
    let read = is_there (lines_read Outside false nothing_read lines) (lines_pass lines Outside false nothing_read ∙ pass) in
    let fold = fold_found Outside false nothing_read lines read.0 read.1 in
    let roles = (roles_exactly [] lines fold.records).0 ((walked_exactly Outside false lines fold.records).0 fold.walked) in
    let P : List Record → Type 0 = Follow false in
    record { roles = roles.0; are_roles = roles.1; module_first = subst P roles.2 fold.follow }

-- lines that are admitted pass
pub admitted_again : (lines : List (List ℕ)) → AreAdmitted lines → passes at_front lines ≡ true
admitted_again lines have =
    let records = records_of have.roles in
    let walks = (roles_exactly [] lines records).1 (have.roles, have.are_roles, refl) in
    let walked = (walked_exactly Outside false lines records).1 walks in
    sym (lines_pass lines Outside false nothing_read) ∙ ap is_some (fold_again Outside false nothing_read lines records walked have.module_first)

-- lines that don't pass aren't admitted, and the other way round
pub unadmitted_found : (lines : List (List ℕ)) → passes at_front lines ≡ false → ¬ AreAdmitted lines
unadmitted_found lines stop have = true≢false (sym (admitted_again lines have) ∙ stop)

pub unadmitted_again : (lines : List (List ℕ)) → ¬ AreAdmitted lines → passes at_front lines ≡ false
unadmitted_again lines none = by (passes at_front lines) refl
  where
    by : (pass : Bool) → passes at_front lines ≡ pass → passes at_front lines ≡ false
    by true is = absurd (none (admitted_found lines is))
    by false is = is

-- The first line that isn't admitted.

-- of lines that are numbered from n, line m is the first that doesn't pass
pub record IsStop (told : Before) (n : ℕ) (lines : List (List ℕ)) (m : ℕ) : Type 0 where
  pub before : List (List ℕ)
  pub line : List ℕ
  pub after : List (List ℕ)
  pub split : lines ≡ before ++ line ∷ after
  pub admitted : passes told before ≡ true
  pub refused : passes told (before ++ line ∷ []) ≡ false
  pub numbered : m ≡ length before + n

-- the number that is found is that of the first line that doesn't pass
pub stop_found : (told : Before) (n : ℕ) (lines : List (List ℕ)) (m : ℕ) → refused_from told n lines ≡ Some m → IsStop told n lines m
stop_found told n [] m read = cc
stop_found told n (line ∷ lines) m read = by (λ later. stop_found later (n + 1) lines m) (after_line told line) refl read
  where
    by : ((later : Before) → refused_from later (n + 1) lines ≡ Some m → IsStop later (n + 1) lines m) → (after : Option Before) → after_line told line ≡ after →
        or_refused n after (λ later. refused_from later (n + 1) lines) ≡ Some m → IsStop told n (line ∷ lines) m
    by more None is read =
        let same : m ≡ n = cc in
        record { before = []; line = line; after = lines; split = refl; admitted = refl; refused = rw is refl; numbered = omega arith }
    by more (Some later) is read =
        let others = more later read in
        record {
          before = line ∷ others.before;
          line = others.line;
          after = others.after;
          split = ap (λ rest. line ∷ rest) others.split;
          admitted = rw is others.admitted;
          refused = rw is others.refused;
          numbered = omega (arith, others.numbered);
        }

-- the number of the first line that doesn't pass is found
pub stop_again : (told : Before) (n : ℕ) (before : List (List ℕ)) (line : List ℕ) (after : List (List ℕ)) →
    passes told before ≡ true → passes told (before ++ line ∷ []) ≡ false → refused_from told n (before ++ line ∷ after) ≡ Some (length before + n)
stop_again told n [] line after admitted refused = by (after_line told line) refl refused
  where
    by : (found : Option Before) → after_line told line ≡ found → is_some (found >>= (λ later. Some later)) ≡ false →
        refused_from told n (line ∷ after) ≡ Some (0 + n)
    by None is refused = let same : n ≡ 0 + n = omega arith in rw is (ap Some same)
    by (Some later) is refused = absurd (true≢false refused)
stop_again told n (first ∷ before) line after admitted refused =
    by (λ later. stop_again later (n + 1) before line after) (after_line told first) refl admitted refused
  where
    by : ((later : Before) → passes later before ≡ true → passes later (before ++ line ∷ []) ≡ false → refused_from later (n + 1) (before ++ line ∷ after) ≡ Some (length before + (n + 1))) →
        (found : Option Before) → after_line told first ≡ found → is_some (found >>= (λ later. after_lines later before)) ≡ true →
        is_some (found >>= (λ later. after_lines later (before ++ line ∷ []))) ≡ false → refused_from told n (first ∷ before ++ line ∷ after) ≡ Some (suc (length before) + n)
    by more None is admitted refused = absurd (false≢true admitted)
    by more (Some later) is admitted refused =
        let same : length before + (n + 1) ≡ suc (length before) + n = omega arith in
        rw is (more later admitted refused ∙ ap Some same)

-- no number is found where all lines pass, and nowhere else
pub pass_found : (told : Before) (n : ℕ) (lines : List (List ℕ)) → refused_from told n lines ≡ None → passes told lines ≡ true
pass_found told n [] none = refl
pass_found told n (line ∷ lines) none = by (λ later. pass_found later (n + 1) lines) (after_line told line) refl none
  where
    by : ((later : Before) → refused_from later (n + 1) lines ≡ None → passes later lines ≡ true) → (after : Option Before) → after_line told line ≡ after →
        or_refused n after (λ later. refused_from later (n + 1) lines) ≡ None → passes told (line ∷ lines) ≡ true
    by more None is none = cc
    by more (Some later) is none = rw is (more later none)

pub pass_again : (told : Before) (n : ℕ) (lines : List (List ℕ)) → passes told lines ≡ true → refused_from told n lines ≡ None
pass_again told n [] pass = refl
pass_again told n (line ∷ lines) pass = by (λ later. pass_again later (n + 1) lines) (after_line told line) refl pass
  where
    by : ((later : Before) → passes later lines ≡ true → refused_from later (n + 1) lines ≡ None) → (after : Option Before) → after_line told line ≡ after →
        is_some (after >>= (λ later. after_lines later lines)) ≡ true → refused_from told n (line ∷ lines) ≡ None
    by more None is pass = absurd (false≢true pass)
    by more (Some later) is pass = rw is (more later pass)
