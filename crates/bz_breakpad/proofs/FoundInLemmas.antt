-- The plain answer as a table of symbols gives it: where it is refused,
-- and what it becomes at the address.
use Rattle.std.proofs.Common.{◌≡◌, ℕ, ◌+◌, ◌-◌, ◌<◌, Bool, true, false, List, [], ◌∷◌, length, Option, Some, None, Result, Ok, Err, refl, sym, ap, subst, ◌∙◌, arith}
use Rattle.std.proofs.lemmas.Option.{slice_get_within}
use Rattle.bz_base.specs.Answer.{Answer, Gives, Resolved, reading}
use Rattle.bz_base.specs.Answer.Answer.{Known, Unknown}
use Rattle.bz_base.specs.Resolution.{MayGive, answer_at, found_of}
use Rattle.bz_base.specs.declared.error.Error.{Error}
use Rattle.bz_base.specs.declared.error.Error.TheVariants as errors
use Rattle.bz_base.specs.declared.types.FindSymOpts.{FindSymOpts}
use Rattle.bz_base.specs.declared.types.Reason.{Reason}
use Rattle.bz_breakpad_function.specs.Lent.{location_seen}
use Rattle.bz_breakpad.specs.Found.{IsRecordFor, IsUnanswered, is_public}
use Rattle.bz_breakpad.specs.Plain.{by_function, by_location, by_records, function_at, plain}
use Rattle.bz_breakpad_function.specs.Locations.{Location, location_at, IsAnswerRefusal}
use Rattle.bz_breakpad.specs.Resolver.{found_in, marked, resolved_in, unmarked}
use Rattle.bz_breakpad_lines.specs.Table.{Function, PublicSymbol, Table}
use Rattle.bz_breakpad.specs.declared.found.FoundRecord.{FoundRecord}
use Rattle.bz_breakpad.specs.declared.found.FoundRecord.TheVariants as records
use Rattle.bz_breakpad.proofs.AddressLaws.{known_at}
use Rattle.bz_breakpad.proofs.PlainLemmas.{plain-some}

-- where a place is refused, what is found is
pub found_refused : (table : Table) (f : Function) (addr : ℕ) (expected : Result Answer Error) (location : Result Location Error) (e : Error) →
    expected ≡ by_location table f addr location → Gives location_seen location (Err e) → IsAnswerRefusal e → MayGive found_of (λ answer. answer ≡ found_in expected) (Err e)
found_refused table f addr expected location errors.InvalidInput is gives refusal = sym (ap found_in (is ∙ ap (by_location table f addr) gives))
found_refused table f addr expected location errors.OutOfMemory is gives refusal = tt
found_refused table f addr expected location _ is gives refusal = absurd refusal

-- what is found becomes the plain answer at the address, but for the mark of a PUBLIC record
pub found_plain : (table : Table) (opts : FindSymOpts) (addr : ℕ) (found : Result Resolved Reason) → found_in (plain table opts addr) ≡ Ok found →
    unmarked (plain table opts addr) ≡ Ok (answer_at addr found)
found_plain table opts addr found is = by (plain table opts addr) refl is where
  by : (o : Result Answer Error) → plain table opts addr ≡ o → found_in o ≡ Ok found → unmarked o ≡ Ok (answer_at addr found)
  by (Ok (Known s)) plain_is is =
      let same : Ok (resolved_in s) ≡ found = cc in
      let offset : s.offset ≡ addr - s.addr = omega (arith, known_at table opts addr s plain_is) in
      ap (λ (n : ℕ). Ok (Known (record s { offset = n; public = false }))) offset ∙ ap (λ (r : Result Resolved Reason). Ok (answer_at addr r)) same
  by (Ok (Unknown reason)) plain_is is =
      let same : Err reason ≡ found = cc in
      ap (λ (r : Result Resolved Reason). Ok (answer_at addr r)) same
  by (Err e) plain_is is = cc

-- and the plain answer itself by the mark of the record that was found
pub found_marked : (table : Table) (opts : FindSymOpts) (addr : ℕ) (given : FoundRecord) (answer : Result Resolved Reason) → IsRecordFor table addr given →
    Ok answer ≡ found_in (plain table opts addr) → plain table opts addr ≡ Ok (marked (is_public given) (answer_at addr answer))
found_marked table opts addr given answer is gives =
    mark_is given is ∙ ap (marked_as (is_public given)) (found_plain table opts addr answer (sym gives)) where
      marked_as : Bool → Result Answer Error → Result Answer Error
      marked_as public (Ok a) = Ok (marked public a)
      marked_as public (Err e) = Err e

      with_location : (f : Function) (location : Result Location Error) → by_location table f addr location ≡ marked_as false (unmarked (by_location table f addr location))
      with_location f (Ok location) = refl
      with_location f (Err e) = refl

      by_none : IsUnanswered table addr → by_function table opts addr None ≡ marked_as false (unmarked (by_function table opts addr None))
      by_none is = subst (λ (a : Answer). Ok a ≡ marked_as false (unmarked (Ok a))) (sym is.no_public) refl

      by_list : (functions : List Function) (publics : List PublicSymbol) → IsUnanswered table addr → function_at addr functions ≡ None →
          by_records table opts addr functions publics ≡ marked_as false (unmarked (by_records table opts addr functions publics))
      by_list [] [] is none = refl
      by_list [] (p ∷ ps) is none = by_none is
      by_list (f ∷ fs) ps is none =
          subst (λ (o : Option Function). by_function table opts addr o ≡ marked_as false (unmarked (by_function table opts addr o))) (sym none) (by_none is)

      mark_is : (given : FoundRecord) → IsRecordFor table addr given → plain table opts addr ≡ marked_as (is_public given) (unmarked (plain table opts addr))
      mark_is (records.Function index) is =
          let some : 0 < length table.functions + length table.publics = omega (arith, slice_get_within table.functions index is.function is.there) in
          let by = plain-some table opts addr (Some is.function) some (sym is.answers) in
          subst (λ (a : Result Answer Error). a ≡ marked_as false (unmarked a)) (sym by) (with_location is.function (location_at table opts is.function addr))
      mark_is (records.Public index) is =
          let some : 0 < length table.functions + length table.publics = omega (arith, slice_get_within table.publics index is.public is.there) in
          let by = plain-some table opts addr None some (sym is.no_function) ∙ ap Ok is.answers in
          subst (λ (a : Result Answer Error). a ≡ marked_as true (unmarked a)) (sym by) refl
      mark_is records.Absent is = by_list table.functions table.publics is is.no_function

-- where what is found is refused, the plain answer is
pub refused_as_found : (expected : Result Answer Error) (e : Error) → MayGive found_of (λ answer. answer ≡ found_in expected) (Err e) → IsAnswerRefusal e →
    Gives reading expected (Err e)
refused_as_found expected errors.InvalidInput gives refusal = by expected gives where
  same : (e : Error) → Err errors.InvalidInput ≡ found_in (Err e) → e ≡ errors.InvalidInput
  same e gives = cc

  by : (expected : Result Answer Error) → Err errors.InvalidInput ≡ found_in expected → expected ≡ Err errors.InvalidInput
  by (Ok (Known s)) gives = cc
  by (Ok (Unknown reason)) gives = cc
  by (Err e) gives = ap (λ (refusal : Error). Err refusal) (same e gives)
refused_as_found expected errors.OutOfMemory gives refusal = tt
refused_as_found expected _ gives refusal = absurd refusal
