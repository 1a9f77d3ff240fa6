-- Why a call on a target's file may be refused, whatever the files tell, from what the call promises.
use Rattle.std.proofs.Common.{◌≡◌, ◌⊎◌, ℕ, Bool, true, false, if◌then◌else◌, List, [], ◌∷◌, Option, Some, None, Result, Ok, Err, IfErr, IfOk, IsErrOf, string_bytes, refl, sym, ap, subst, inl, inr}
use Rattle.bz_base.specs.ErrorNames.{name_of}
use Rattle.bz_base.specs.InputKind.{AddressKind}
use Rattle.bz_base.specs.declared.error.Error.{Error}
use Rattle.bz_base.specs.declared.error.Error.TheVariants as errors
use Rattle.bz_base.specs.declared.types.FindSymOpts.{FindSymOpts}
use Rattle.bz_breakpad.specs.Grammar.{IsFile}
use Rattle.bz_breakpad.specs.Reader.{table_in}
use Rattle.bz_breakpad.specs.Table.{Table}
use Rattle.bz_breakpad.specs.Version as breakpad_version
use Rattle.bz_elf.specs.Format.{Check, checks, first_refusal, format_test}
use Rattle.bz_gsym.specs.Tables.{is_gsym}
use Rattle.bz_gsym.specs.Version as gsym_version
use Rattle.bz_lookups.specs.Formats.{is_in_file, is_in_table}
use Rattle.bz_requests.specs.declared.requests.Config.{Config}
use Rattle.bz_symbolize.specs.FileCall.{MayBeRefused, batch_of}
use Rattle.bz_symbolize.specs.Promise.{IsOwnRefusal, IsUnserved}
use Rattle.bz_symbolize.specs.Sources.{OnFile}
use Rattle.bz_symbolize.specs.declared.source.Breakpad as breakpads
use Rattle.bz_symbolize.specs.declared.source.Elf as elves
use Rattle.bz_symbolize.specs.declared.source.Gsym.TheVariants as gsyms
use Rattle.bz_symbolize.specs.declared.source.GsymFile as gsym_files
use Rattle.bz_symbolize.specs.declared.source.Source.{Source}
use Rattle.bz_symbolize.specs.declared.source.Source.TheVariants as sources
use Rattle.bz_symbolize.proofs.BatchLemmas.{never_refused}
use Rattle.bz_symq.specs.Command.{FileTarget, Breakpad, Gsym, Elf, Product, of_file}
use Rattle.bz_symq.specs.Outcome.{Outcome, by_product}
use Rattle.bz_symq.specs.Products.{made_of, path_of}
use Rattle.bz_symq.specs.Reply.{outcome_of, IsRefusalReply, IsSomeCauseOrFails, IsUnmadeReply, RepliesTo}
use Rattle.bz_symq.specs.Targets.{IsSomeCause, IsSomeFileCause, IsSourceOf, file_takes}
use Rattle.bz_symq.specs.declared.reply.Reply.{Reply}
use Rattle.bz_symq.proofs.ReplyLemmas.{refusal_named, when_given}
use Rattle.bz_symq.proofs.TargetLemmas.{by_source}

-- a look is refused by such a cause of the file, if bytes are and a kind of address
-- that no version answers is
cause_of_look : (target : FileTarget) (Unserved : Type 0) (test : List ℕ → Option Error) (e : Error) → (Unserved → IsSomeFileCause target errors.Unsupported) →
    ((bytes : List ℕ) (refusal : Error) → test bytes ≡ Some refusal → IsSomeCauseOrFails (IsSomeFileCause target) refusal) → MayBeRefused Unserved test e →
    IsSomeCauseOrFails (IsSomeFileCause target) e
cause_of_look target Unserved test errors.NotFound unserved of_bytes may = tt
cause_of_look target Unserved test errors.PermissionDenied unserved of_bytes may = tt
cause_of_look target Unserved test errors.ReadFault unserved of_bytes may = tt
cause_of_look target Unserved test errors.OutOfMemory unserved of_bytes may = tt
cause_of_look target Unserved test errors.Unsupported unserved of_bytes (inl is) = unserved is
cause_of_look target Unserved test errors.Unsupported unserved of_bytes (inr may) = of_bytes may.0 errors.Unsupported may.1
cause_of_look target Unserved test e unserved of_bytes may = of_bytes may.0 e may.1

-- bytes that aren't a Breakpad file are refused by one refusal
breakpad_refusal : (table : Option Table) (e : Error) → breakpad_version.refusal_of table ≡ Some e → e ≡ errors.InvalidInput
breakpad_refusal None e is = cc
breakpad_refusal (Some table) e is = cc

breakpad_bytes : (path bytes : List ℕ) (e : Error) → breakpad_version.format_test bytes ≡ Some e → IsSomeCauseOrFails (IsSomeFileCause (Breakpad path)) e
breakpad_bytes path bytes e is = subst (IsSomeCauseOrFails (IsSomeFileCause (Breakpad path))) (sym (breakpad_refusal (table_in bytes) e is)) tt

-- and so are bytes that aren't a GSYM file
gsym_refusal : (formed : Bool) (e : Error) → (if formed then None else Some errors.InvalidData) ≡ Some e → e ≡ errors.InvalidData
gsym_refusal true e is = cc
gsym_refusal false e is = cc

gsym_bytes : (path bytes : List ℕ) (e : Error) → gsym_version.format_test bytes ≡ Some e → IsSomeCauseOrFails (IsSomeFileCause (Gsym path)) e
gsym_bytes path bytes e is = subst (IsSomeCauseOrFails (IsSomeFileCause (Gsym path))) (sym (gsym_refusal (is_gsym bytes) e is)) tt

-- bytes that aren't an ELF file are refused by one of the checks
module _ (path : List ℕ) where
  abbrev IsElfCause : Error → Type 0
  IsElfCause e = IsSomeCauseOrFails (IsSomeFileCause (Elf path)) e

  abbrev AreElfCauses : List Check → Type 0
  AreElfCauses [] = Unit {0}
  AreElfCauses (check ∷ later) = IsElfCause check.refusal × AreElfCauses later

  by_check : (passes : Bool) (refusal e : Error) (later : Option Error) → IsElfCause refusal → (later ≡ Some e → IsElfCause e) → (if passes then later else Some refusal) ≡ Some e → IsElfCause e
  by_check true refusal e later here after is = after is
  by_check false refusal e later here after is = subst (λ (other : Error). IsElfCause other) (cc is) here

  by_checks : (list : List Check) (bytes : List ℕ) (e : Error) → AreElfCauses list → first_refusal list bytes ≡ Some e → IsElfCause e
  by_checks [] bytes e causes is = absurd (cc is)
  by_checks (check ∷ later) bytes e causes is = by_check (check.test bytes) check.refusal e (first_refusal later bytes) causes.0 (by_checks later bytes e causes.1) is

  elf_bytes : (bytes : List ℕ) (e : Error) → format_test bytes ≡ Some e → IsElfCause e
  elf_bytes bytes e is = by_checks checks bytes e (tt, (tt, (tt, (tt, (tt, (tt, (tt, (tt, tt)))))))) is

-- a kind of address that is taken isn't refused as untaken
never_untaken : (took : Bool) → took ≡ true → (took ≡ false) ⊎ (took ≡ false) → ⊥
never_untaken true is (inl untaken) = cc
never_untaken true is (inr untaken) = cc
never_untaken false is untaken = cc

module _ (opts : FindSymOpts) (addrs : List ℕ) (kind : AddressKind) where
  -- why a batch may be refused, whatever the files tell
  abbrev MayRefuse : Source → Error → Type 0
  MayRefuse source e = OnFile source (λ file. MayBeRefused (IsUnserved file kind) file.test e ⊎ IsOwnRefusal source opts (batch_of kind addrs) e)

  -- no file refuses a batch by itself, so a kind of address that is taken is refused by
  -- such a cause of the file
  abbrev HasCause : Error → FileTarget → Source → Type 0
  HasCause e target source = file_takes target kind ≡ true → MayRefuse source e → IsSomeCauseOrFails (IsSomeFileCause target) e

  breakpad_cause : (e : Error) (source : breakpads.Breakpad) → HasCause e (Breakpad (string_bytes source.path)) (sources.Breakpad source)
  breakpad_cause e source took (inl may) =
      cause_of_look (Breakpad (string_bytes source.path)) _ breakpad_version.format_test e (λ unserved. absurd (never_untaken (is_in_file kind) took unserved)) (breakpad_bytes (string_bytes source.path)) may
  breakpad_cause e source took (inr own) = absurd (never_refused (sources.Breakpad source) opts own.0 kind addrs e own.1)

  gsym_cause : (e : Error) (source : gsym_files.GsymFile) → HasCause e (Gsym (string_bytes source.path)) (sources.Gsym (gsyms.File source))
  gsym_cause e source took (inl may) =
      cause_of_look (Gsym (string_bytes source.path)) _ gsym_version.format_test e (λ unserved. absurd (never_untaken (is_in_table kind) took unserved)) (gsym_bytes (string_bytes source.path)) may
  gsym_cause e source took (inr own) = absurd (never_refused (sources.Gsym (gsyms.File source)) opts own.0 kind addrs e own.1)

  elf_cause : (e : Error) (source : elves.Elf) → HasCause e (Elf (string_bytes source.path)) (sources.Elf source)
  elf_cause e source took (inl may) = cause_of_look (Elf (string_bytes source.path)) _ format_test e (λ unserved. tt) (elf_bytes (string_bytes source.path)) may
  elf_cause e source took (inr own) = absurd (never_refused (sources.Elf source) opts own.0 kind addrs e own.1)

  file_cause : (target : FileTarget) (source : Source) (e : Error) → IsSourceOf target source → HasCause e target source
  file_cause target source e is = by_source (HasCause e) (breakpad_cause e) (gsym_cause e) (elf_cause e) target source is

  pub file_causes : {A : Type 0} (target : FileTarget) (source : Source) (result : Result A Error) → IsSourceOf target source → file_takes target kind ≡ true →
      OnFile source (λ file. IfErr result (λ e. MayBeRefused (IsUnserved file kind) file.test e ⊎ IsOwnRefusal source opts (batch_of kind addrs) e)) →
      IfErr result (λ e. IsSomeCauseOrFails (IsSomeFileCause target) e)
  file_causes target source (Ok given) is took may = tt
  file_causes target source (Err e) is took may = file_cause target source e is took may

  -- and one that isn't taken is refused as such
  module _ (config : Config) (target : FileTarget) where
    abbrev IsRefusedBy : Error → Type 0
    IsRefusedBy e = IsSomeCauseOrFails (IsSomeCause (of_file target kind config)) e

    taken_cause : (e : Error) → file_takes target kind ≡ true → IsSomeCauseOrFails (IsSomeFileCause target) e → IsRefusedBy e
    taken_cause errors.ReadFault took cause = tt
    taken_cause errors.OutOfMemory took cause = tt
    taken_cause e took cause = inr (took, cause)

    taken_causes : {A : Type 0} (result : Result A Error) → file_takes target kind ≡ true → IfErr result (λ e. IsSomeCauseOrFails (IsSomeFileCause target) e) → IfErr result (λ e. IsRefusedBy e)
    taken_causes (Ok given) took cause = tt
    taken_causes (Err e) took cause = taken_cause e took cause

    pub file_refusal : {A : Type 0} (source : Source) (result : Result A Error) → IsSourceOf target source → (file_takes target kind ≡ false → IsErrOf result errors.Unsupported) →
        OnFile source (λ file. IfErr result (λ e. MayBeRefused (IsUnserved file kind) file.test e ⊎ IsOwnRefusal source opts (batch_of kind addrs) e)) → IfErr result (λ e. IsRefusedBy e)
    file_refusal {A} source result is untaken may = by_taken (file_takes target kind) refl
      where
        by_taken : (took : Bool) → file_takes target kind ≡ took → IfErr result (λ e. IsRefusedBy e)
        by_taken true took = taken_causes result took (file_causes target source result is took may)
        by_taken false took = rw (untaken took) (inl (took, refl))

-- a file of which nothing is made is refused by the name that its table is refused by
pub product_unmade : (product : Product) (bytes : List ℕ) (table : Table) (result : Result Reply Error) → IsFile bytes table →
    IfOk result (λ given. outcome_of given ≡ by_product (made_of product table)) → IfOk result (λ given. IsUnmadeReply product given)
product_unmade product bytes table (Err e) file makes = tt
product_unmade product bytes table (Ok reply) file makes = by_made (made_of product table) refl makes
  where
    by_made : (made : Result (List ℕ) (List ℕ)) → made_of product table ≡ made → outcome_of reply ≡ by_product made → IsUnmadeReply product reply
    by_made (Ok made) is makes refused = let done = ap (λ (o : Outcome). o.status) makes in cc
    by_made (Err name) is makes refused = (name, inr (bytes, record { table = table; accepted = file; made = is }), ap (λ (o : Outcome). o.text) makes)

-- one that isn't opened is refused for such a cause as it has
pub unopened_unmade : (product : Product) (error : Error) (result : Result Reply Error) → IsSomeCauseOrFails (IsSomeFileCause (Breakpad (path_of product))) error → RepliesTo error result →
    IfOk result (λ given. IsUnmadeReply product given)
unopened_unmade product error result cause is = when_given result named_unmade (refusal_named (IsSomeFileCause (Breakpad (path_of product))) error result cause is)
  where
    named_unmade : (reply : Reply) → IsRefusalReply (IsSomeFileCause (Breakpad (path_of product))) reply → IsUnmadeReply product reply
    named_unmade reply named refused = let some = named refused in (name_of some.refusal, inl (some.refusal, some.cause, refl), some.text_is)
