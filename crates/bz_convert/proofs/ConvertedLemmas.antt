-- What a file is converted to is told by what its bytes are to be, and the refusal by its cause.
use Rattle.std.proofs.Common.{◌≡◌, ◌≢◌, ℕ, ◌<◌, ◌≤◌, ◌^◌, List, length, Option, Some, None, Ok, Err, refl, sym, ap, ◌∙◌, lt-ltb, le-ltb}
use Rattle.bz_breakpad_lines.specs.Table.{Table}
use Rattle.bz_convert.specs.Converted.{IsConversion, Refuses, conversion, if_small, unless_faulty}
use Rattle.bz_convert.specs.Fault.{fault_in}
use Rattle.bz_convert.specs.Plan.{plan}
use Rattle.bz_convert.specs.declared.error.ConvertError.{ConvertError}
use Rattle.bz_convert.specs.declared.error.ConvertError.TheVariants.{EqualStarts, LineGap, NoFile, NoOrigin, NotNested, OutOfMemory, Overlap, TooLarge, ZeroByte, ZeroSize}
use Rattle.bz_gsym_layout.specs.Layout.{layout}

-- a refusal by a fault is that fault
faulty : (bytes : List ℕ) (fault : Option ConvertError) (e : ConvertError) → fault ≡ Some e → unless_faulty fault bytes ≡ Err e
faulty bytes fault e is = ap (λ (o : Option ConvertError). unless_faulty o bytes) is

-- bytes that 32 bits count are kept, and more are refused
small : (bytes : List ℕ) → length bytes < 2 ^ 32 → if_small bytes ≡ Ok bytes
small bytes is = rw (lt-ltb (length bytes) (2 ^ 32) is) refl

large : (bytes : List ℕ) → 2 ^ 32 ≤ length bytes → if_small bytes ≡ Err (TooLarge (length bytes))
large bytes is = rw (le-ltb (length bytes) (2 ^ 32) is) refl

-- without a fault the length decides
clean : (bytes : List ℕ) (fault : Option ConvertError) → fault ≡ None → unless_faulty fault bytes ≡ if_small bytes
clean bytes fault is = ap (λ (o : Option ConvertError). unless_faulty o bytes) is

module _ (table : Table) where
  abbrev pub laid : List ℕ
  laid = layout (plan table)

  -- bytes that are laid out are what the file is converted to
  pub converted : (bytes : List ℕ) → IsConversion table bytes → conversion table ≡ Ok bytes
  converted bytes is = clean laid (fault_in table) is.clean ∙ (ap if_small (sym is.laid_out) ∙ small bytes is.small)

  too_large : (bytes : ℕ) → Refuses (TooLarge bytes) (fault_in table) (length laid) → conversion table ≡ Err (TooLarge bytes)
  too_large bytes is = clean laid (fault_in table) is.0 ∙ (large laid is.2 ∙ ap (λ (len : ℕ). Err (TooLarge len)) (sym is.1))

  -- and a cause that refuses it is the refusal
  pub refused : (e : ConvertError) → e ≢ OutOfMemory → Refuses e (fault_in table) (length laid) → conversion table ≡ Err e
  refused (TooLarge bytes) other is = too_large bytes is
  refused OutOfMemory other is = absurd (other refl)
  refused (ZeroSize addr) other is = faulty laid (fault_in table) (ZeroSize addr) is
  refused (EqualStarts addr) other is = faulty laid (fault_in table) (EqualStarts addr) is
  refused (LineGap func addr) other is = faulty laid (fault_in table) (LineGap func addr) is
  refused (NotNested func depth addr) other is = faulty laid (fault_in table) (NotNested func depth addr) is
  refused (Overlap func depth addr) other is = faulty laid (fault_in table) (Overlap func depth addr) is
  refused (NoFile func id) other is = faulty laid (fault_in table) (NoFile func id) is
  refused (NoOrigin func id) other is = faulty laid (fault_in table) (NoOrigin func id) is
  refused (ZeroByte func) other is = faulty laid (fault_in table) (ZeroByte func) is
