-- The record that was found for an address: where it is kept, and the answer by it.
use Rattle.std.proofs.Common.{◌≡◌, ℕ, ◌+◌, ◌<◌, ◌≤◌, Bool, true, false, cond, List, length, map, get_or, Option, Some, None, Result, Ok, Err, refl, sym, ap, subst, ◌∙◌, arith}
use Rattle.std.specs.List.{slice_get}
use Rattle.std.proofs.lemmas.Option.{same_Some, slice_get-map, slice_get_read, slice_get_within}
use Rattle.bz_base.specs.Answer.{Answer, Symbol}
use Rattle.bz_base.specs.Answer.Answer.{Known, Unknown}
use Rattle.bz_base.specs.declared.error.Error.{Error}
use Rattle.bz_base.specs.declared.types.FindSymOpts.{FindSymOpts}
use Rattle.bz_base.specs.declared.types.Reason.TheVariants as reasons
use Rattle.bz_breakpad.specs.Found.{IsFunctionFor, IsPublicFor}
use Rattle.bz_breakpad_table.specs.Kept.{IsNested, kept_public, function_seen}
use Rattle.bz_breakpad.specs.Plain.{any_between, by_location, by_public, plain, public_at, public_symbol_at}
use Rattle.bz_breakpad_function.specs.Locations.{Location, location_at}
use Rattle.bz_breakpad_table.specs.Sorted.{StandsFor}
use Rattle.bz_breakpad_lines.specs.Table.{Function, PublicSymbol, Table}
use Rattle.bz_breakpad_table.specs.declared.types.KeptFunction.{KeptFunction}
use Rattle.bz_breakpad_table.specs.declared.types.KeptPublic.{KeptPublic}
use Rattle.bz_breakpad_table.specs.declared.types.KeptTable.{KeptTable}
use Rattle.bz_breakpad.proofs.AddressLaws.{public_below, starts_below}
use Rattle.bz_breakpad_function.proofs.AsKept.{location_same}
use Rattle.bz_breakpad_function.proofs.IndexedLemmas.{nested_there}
use Rattle.bz_breakpad_function.proofs.IndexedLemmas.{some_of}
use Rattle.bz_breakpad.proofs.PlainLemmas.{plain-some}

module _ (table : Table) (f k : Function) (is : IsNested f k) (addr : ℕ) where
  locating : (p : Result Location Error) → by_location table f addr p ≡ by_location table k addr p
  locating (Ok location) = ap (λ g. by_location table g addr (Ok location)) (sym is.same)
  locating (Err e) = refl

  -- a function whose records are in order answers as in the order of the file
  answer_same : (opts : FindSymOpts) → by_location table f addr (location_at table opts f addr) ≡ by_location table k addr (location_at table opts k addr)
  answer_same opts = ap (by_location table f addr) (location_same table f k is addr opts) ∙ locating (location_at table opts k addr)

-- a PUBLIC record that answers starts at or below the address
answers_below : (table : Table) (addr : ℕ) (s : Symbol) → by_public table addr (public_at addr table.publics) ≡ Known s → s.addr ≤ addr
answers_below table addr s is = by_one (public_at addr table.publics) refl is where
  by_clear : (p : PublicSymbol) → p.start ≤ addr → (between : Bool) → cond {A = Answer} between (Unknown reasons.UnknownAddr) (Known (public_symbol_at table p addr)) ≡ Known s → s.addr ≤ addr
  by_clear p below true is = cc
  by_clear p below false is =
      let same : public_symbol_at table p addr ≡ s = cc in
      subst (λ (s : Symbol). s.addr ≤ addr) same below

  by_one : (o : Option PublicSymbol) → public_at addr table.publics ≡ o → by_public table addr o ≡ Known s → s.addr ≤ addr
  by_one None found is = cc
  by_one (Some p) found is = by_clear p (public_below addr table.publics p found) (any_between p.start addr (map (λ (f : Function). f.start) table.functions)) is

module _ (bytes : List ℕ) (table : Table) (kept : KeptTable) (stands : StandsFor bytes table kept) (addr index : ℕ) where
  module _ (is : IsFunctionFor table addr index) where
    module _ (f : KeptFunction) (read : f ≡ get_or kept.code.functions.items index f) where
      -- the function of the index is kept with its records in order
      pub function_nested : IsNested is.function (function_seen bytes kept.code f)
      function_nested = nested_there bytes table kept stands index is.function is.there f read

      pub function_below : f.start ≤ addr
      function_below = omega (arith, starts_below addr table.functions is.function is.answers, ap (λ (g : Function). g.start) function_nested.same)

      -- the answer is by it
      pub function_answers : (opts : FindSymOpts) →
          plain table opts addr ≡ by_location table (function_seen bytes kept.code f) addr (location_at table opts (function_seen bytes kept.code f) addr)
      function_answers opts =
          let some : 0 < length table.functions + length table.publics = omega (arith, slice_get_within table.functions index is.function is.there) in
          plain-some table opts addr (Some is.function) some (sym is.answers)
          ∙ answer_same table is.function (function_seen bytes kept.code f) function_nested addr opts

  module _ (is : IsPublicFor table addr index) where
    public_there : (p : KeptPublic) × (slice_get kept.publics.items index ≡ Some p) × (kept_public bytes p ≡ is.public)
    public_there =
        some_of (kept_public bytes) (slice_get kept.publics.items index) is.public
        (sym (slice_get-map (kept_public bytes) kept.publics.items index) ∙ ap (λ ps. slice_get ps index) stands.publics ∙ is.there)

    -- the PUBLIC record of the index is kept
    pub public_within : index < length kept.publics.items
    public_within = slice_get_within kept.publics.items index public_there.0 public_there.1

    module _ (p : KeptPublic) (read : p ≡ get_or kept.publics.items index p) where
      told_as : kept_public bytes p ≡ is.public
      told_as =
          let there = slice_get_read kept.publics.items (length kept.publics.items) index p refl public_within read in
          ap (kept_public bytes) (same_Some p public_there.0 (sym there ∙ public_there.1)) ∙ public_there.2

      pub public_starts : p.start ≤ addr
      public_starts = subst (λ (q : PublicSymbol). q.start ≤ addr) (sym told_as) (answers_below table addr (public_symbol_at table is.public addr) is.answers)

      -- the answer is by it
      pub public_answers : (opts : FindSymOpts) → plain table opts addr ≡ Ok (Known (public_symbol_at table (kept_public bytes p) addr))
      public_answers opts =
          let some : 0 < length table.functions + length table.publics = omega (arith, slice_get_within table.publics index is.public is.there) in
          plain-some table opts addr None some (sym is.no_function)
          ∙ ap Ok (is.answers ∙ ap (λ q. Known (public_symbol_at table q addr)) (sym told_as))
