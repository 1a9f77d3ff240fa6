-- No fault of a file is that it is too large.
use Rattle.std.proofs.Common.{◌≡◌, ◌≢◌, ℕ, Bool, true, false, cond, List, [], ◌∷◌, Option, Some, None, option_map, sym, ap, subst, ◌∙◌}
use Rattle.std.proofs.lemmas.Option.{same_Some}
use Rattle.bz_breakpad_lines.specs.Table.{Function, Inlinee, SourceLine, Table}
use Rattle.bz_breakpad_function.specs.InOrder.{ordered_functions}
use Rattle.bz_convert.specs.Converted.{Refuses}
use Rattle.bz_convert.specs.Fault.{checked_fault, equal_starts, fault_in, fault_of, first_fault, line_gap, no_call_file, no_line_file, no_origin, not_nested, only_if, overlap, zero_in, zero_size, ◌or◌}
use Rattle.bz_convert.specs.Plan.{is_checked}
use Rattle.bz_convert.specs.declared.error.ConvertError.{ConvertError}
use Rattle.bz_convert.specs.declared.error.ConvertError.TheVariants.{EqualStarts, LineGap, NoFile, NoOrigin, NotNested, OutOfMemory, Overlap, TooLarge, ZeroByte, ZeroSize}

abbrev IsOther : ConvertError → Type 0
IsOther OutOfMemory = ⊥
IsOther e = Unit {0}

other : (e : ConvertError) → IsOther e → e ≢ OutOfMemory
other e is same = subst IsOther same is

abbrev IsFault : ConvertError → Type 0
IsFault (TooLarge bytes) = ⊥
IsFault e = Unit {0}

-- what is told, if something is, is a fault
abbrev AreFaults : Option ConvertError → Type 0
AreFaults None = Unit {0}
AreFaults (Some e) = IsFault e

or_faults : (o p : Option ConvertError) → AreFaults o → AreFaults p → AreFaults (o or p)
or_faults None p a b = b
or_faults (Some e) p a b = a

map_faults : {X : Type 0} (f : X → ConvertError) → ((x : X) → IsFault (f x)) → (o : Option X) → AreFaults (option_map f o)
map_faults f each None = tt
map_faults f each (Some x) = each x

cond_faults : (b : Bool) (e : ConvertError) → IsFault e → AreFaults (cond b (Some e) None)
cond_faults true e is = is
cond_faults false e is = tt

only_faults : (b : Bool) (o : Option ConvertError) → AreFaults o → AreFaults (only_if b o)
only_faults true o are = are
only_faults false o are = tt

equal_faults : (before : Option ℕ) (f : Function) → AreFaults (equal_starts before f)
equal_faults None f = tt
equal_faults (Some start) f = cond_faults _ (EqualStarts f.start) tt

module _ (table : Table) where
  checked_faults : (f : Function) → AreFaults (checked_fault table f)
  checked_faults f =
      or_faults (line_gap f) _ (map_faults (LineGap f.start) (λ addr. tt) _)
      (or_faults (not_nested f) _ (map_faults (λ (i : Inlinee). NotNested f.start i.depth i.start) (λ i. tt) _)
      (or_faults (overlap f) _ (map_faults (λ (i : Inlinee). Overlap f.start i.depth i.start) (λ i. tt) _)
      (or_faults (no_line_file table f) _ (map_faults (λ (l : SourceLine). NoFile f.start l.file) (λ l. tt) _)
      (or_faults (no_call_file table f) (no_origin table f) (map_faults (λ (i : Inlinee). NoFile f.start i.call_file) (λ i. tt) _) (map_faults (λ (i : Inlinee). NoOrigin f.start i.origin) (λ i. tt) _)))))

  function_faults : (before : Option ℕ) (f : Function) → AreFaults (fault_of table before f)
  function_faults before f =
      or_faults (zero_size f) _ (cond_faults _ (ZeroSize f.start) tt)
      (or_faults (equal_starts before f) _ (equal_faults before f)
      (or_faults (only_if (is_checked f) (checked_fault table f)) (zero_in table f) (only_faults (is_checked f) (checked_fault table f) (checked_faults f)) (cond_faults _ (ZeroByte f.start) tt)))

  all_faults : (fs : List Function) (before : Option ℕ) → AreFaults (first_fault table before fs)
  all_faults [] before = tt
  all_faults (f ∷ fs) before = or_faults (fault_of table before f) (first_fault table (Some f.start) fs) (function_faults before f) (all_faults fs (Some f.start))

  -- a cause refuses the file if it is the fault, unless it is want of memory
  pub fault_refuses : (e : ConvertError) (len : ℕ) → (e ≢ OutOfMemory → fault_in table ≡ Some e) → Refuses e (fault_in table) len
  fault_refuses (TooLarge bytes) len told = absurd (subst AreFaults (told (other (TooLarge bytes) tt)) (all_faults (ordered_functions table.functions) None))
  fault_refuses OutOfMemory len told = tt
  fault_refuses (ZeroSize addr) len told = told (other (ZeroSize addr) tt)
  fault_refuses (EqualStarts addr) len told = told (other (EqualStarts addr) tt)
  fault_refuses (LineGap func addr) len told = told (other (LineGap func addr) tt)
  fault_refuses (NotNested func depth addr) len told = told (other (NotNested func depth addr) tt)
  fault_refuses (Overlap func depth addr) len told = told (other (Overlap func depth addr) tt)
  fault_refuses (NoFile func id) len told = told (other (NoFile func id) tt)
  fault_refuses (NoOrigin func id) len told = told (other (NoOrigin func id) tt)
  fault_refuses (ZeroByte func) len told = told (other (ZeroByte func) tt)

-- what was found of the file is found of its table
pub fault_told : (o : Option Table) (fault : Option ConvertError) → option_map fault_in o ≡ Some fault → (table : Table) → o ≡ Some table → fault_in table ≡ fault
fault_told o fault found table read = same_Some (fault_in table) fault (ap (option_map fault_in) (sym read) ∙ found)
