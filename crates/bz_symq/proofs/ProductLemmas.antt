-- What is made of a file, and why nothing is.
use Rattle.std.proofs.Common.{◌≡◌, ℕ, List, Option, Some, None, Result, Ok, Err, IfOk, IsOkUnless, refl, sym, ap, ◌∙◌, inl, inr}
use Rattle.bz_base.specs.ErrorNames.{name_of}
use Rattle.bz_base.specs.declared.error.Error.{Error}
use Rattle.bz_base.specs.declared.error.Error.TheVariants as errors
use Rattle.bz_breakpad.specs.Grammar.{IsFile}
use Rattle.bz_breakpad.specs.Reader.{table_in}
use Rattle.bz_breakpad.specs.Resolver.{opened, read_of}
use Rattle.bz_breakpad.specs.Table.{Table}
use Rattle.bz_cache.specs.Format.{GivesOrFaults}
use Rattle.bz_files.specs.Looked.{Faulted, Looked}
use Rattle.bz_files.specs.World.{World, Entry, entry_at}
use Rattle.bz_files.specs.World.Entry.{Denied, Present}
use Rattle.bz_files.specs.declared.files.Files as files_trait
use Rattle.bz_symbolize.proofs.Tables.{table_found, table_again}
use Rattle.bz_symq.specs.Command.{Product}
use Rattle.bz_symq.specs.Outcome.{Outcome, by_product}
use Rattle.bz_symq.specs.Products.{by_table, made_by, made_in, made_of, path_of, IsMadeOf, IsUnmadeBy, IsUnmadeOf, MadeIn, UnmadeIn}
use Rattle.bz_symq.specs.Reply.{outcome_of, IsProductReply, Replies, RepliesTo}
use Rattle.bz_symq.specs.Targets.{HasFile}
use Rattle.bz_symq.specs.declared.reply.Reply.{Reply}
use Rattle.bz_symq.proofs.FaultLemmas.{counts_still, no_fault}

-- what is refused by one thing is refused by one
same_name : (a b : List ℕ) (result : Result (List ℕ) (List ℕ)) → result ≡ Err a → result ≡ Err b → a ≡ b
same_name a b result one other = cc

same_error : (a b : Error) (result : Result (List ℕ) Error) → result ≡ Err a → result ≡ Err b → a ≡ b
same_error a b result one other = cc

-- a refusal by its name
abbrev named : Error → Result (List ℕ) (List ℕ)
named e = Err (name_of e)

module _ (product : Product) where
  -- what bytes make, their table makes
  made_from_bytes : (bytes made : List ℕ) → by_table product (table_in bytes) ≡ Ok made → IsMadeOf product bytes (Ok made)
  made_from_bytes bytes made given = by_read (table_in bytes) refl given
    where
      by_read : (read : Option Table) → table_in bytes ≡ read → by_table product read ≡ Ok made → IsMadeOf product bytes (Ok made)
      by_read None is given = cc
      by_read (Some table) is given = record { table = table; accepted = table_found bytes table is; made = given }

  -- and what their table makes, they make
  bytes_from_made : (bytes : List ℕ) (result : Result (List ℕ) (List ℕ)) → IsMadeOf product bytes result → by_table product (table_in bytes) ≡ result
  bytes_from_made bytes result is = rw (table_again bytes is.table is.accepted) is.made

  -- and bytes are refused as they or their table are
  unmade_from_bytes : (bytes name : List ℕ) → by_table product (table_in bytes) ≡ Err name → IsUnmadeOf product bytes name
  unmade_from_bytes bytes name given = by_read (table_in bytes) refl given
    where
      by_read : (read : Option Table) → table_in bytes ≡ read → by_table product read ≡ Err name → IsUnmadeOf product bytes name
      by_read None is given = inl (same_name name (name_of errors.InvalidInput) (by_table product None) given refl, λ table file. let read = table_again bytes table file in cc)
      by_read (Some table) is given = inr (record { table = table; accepted = table_found bytes table is; made = given })

  bytes_from_unmade : (bytes name : List ℕ) → IsUnmadeOf product bytes name → by_table product (table_in bytes) ≡ Err name
  bytes_from_unmade bytes name (inr is) = bytes_from_made bytes (Err name) is
  bytes_from_unmade bytes name (inl refusal) = by_read (table_in bytes) refl
    where
      by_read : (read : Option Table) → table_in bytes ≡ read → by_table product read ≡ Err name
      by_read None is = ap Err (sym refusal.0)
      by_read (Some table) is = absurd (refusal.1 table (table_found bytes table is))

  -- the same of what lies at the path
  made_from_entry : (made : List ℕ) (there : Option Entry) → made_by product there ≡ Ok made → HasFile (λ bytes. IsMadeOf product bytes (Ok made)) there
  made_from_entry made None given = cc
  made_from_entry made (Some Denied) given = cc
  made_from_entry made (Some (Present stamp bytes)) given = record { stamp = stamp; bytes = bytes; present = refl; such = made_from_bytes bytes made given }

  unmade_from_entry : (name : List ℕ) (there : Option Entry) → made_by product there ≡ Err name → IsUnmadeBy product there name
  unmade_from_entry name None given = same_name name (name_of errors.NotFound) (made_by product None) given refl
  unmade_from_entry name (Some Denied) given = same_name name (name_of errors.PermissionDenied) (made_by product (Some Denied)) given refl
  unmade_from_entry name (Some (Present stamp bytes)) given = unmade_from_bytes bytes name given

  entry_from_unmade : (name : List ℕ) (there : Option Entry) → IsUnmadeBy product there name → made_by product there ≡ Err name
  entry_from_unmade name None cause = ap Err (sym cause)
  entry_from_unmade name (Some Denied) cause = ap Err (sym cause)
  entry_from_unmade name (Some (Present stamp bytes)) cause = bytes_from_unmade bytes name cause

  -- what isn't opened is refused by the same name
  unopened : (e : Error) (there : Option Entry) → opened there ≡ Err e → made_by product there ≡ Err (name_of e)
  unopened e None given = ap named (same_error errors.NotFound e (opened None) refl given)
  unopened e (Some Denied) given = ap named (same_error errors.PermissionDenied e (opened (Some Denied)) refl given)
  unopened e (Some (Present stamp bytes)) given = by_read (table_in bytes) given
    where
      by_read : (read : Option Table) → read_of bytes read ≡ Err e → by_table product read ≡ Err (name_of e)
      by_read None given = ap named (same_error errors.InvalidInput e (read_of bytes None) refl given)
      by_read (Some table) given = cc

  -- and what is opened makes what its table makes
  opened_makes : (bytes : List ℕ) (table : Table) (there : Option Entry) → opened there ≡ Ok bytes → table_in bytes ≡ Some table → made_by product there ≡ made_of product table
  opened_makes bytes table None given told = cc
  opened_makes bytes table (Some Denied) given told = cc
  opened_makes bytes table (Some (Present stamp read)) given told = by_read (table_in read) refl given
    where
      by_read : (found : Option Table) → table_in read ≡ found → read_of read found ≡ Ok bytes → by_table product found ≡ made_of product table
      by_read None is given = cc
      by_read (Some other) is given =
          let same : read ≡ bytes = cc in
          let one : Some other ≡ Some table = sym is ∙ (ap table_in same ∙ told) in
          ap (by_table product) one

module _ (product : Product) (world : World) where
  -- what is made is made of the file in the world
  pub made_found : (made : List ℕ) → made_in product world ≡ Ok made → MadeIn product world made
  made_found made given = made_from_entry product made (entry_at world (path_of product)) given

  -- and what its file makes is made
  pub made_given : (made : List ℕ) → MadeIn product world made → made_in product world ≡ Ok made
  made_given made has = rw has.present (bytes_from_made product has.bytes (Ok made) has.such)

  -- nothing is made exactly where the file has the cause
  pub unmade_found : (name : List ℕ) → made_in product world ≡ Err name → UnmadeIn product world name
  unmade_found name given = unmade_from_entry product name (entry_at world (path_of product)) given

  pub unmade_given : (name : List ℕ) → UnmadeIn product world name → made_in product world ≡ Err name
  unmade_given name cause = entry_from_unmade product name (entry_at world (path_of product)) cause

module _ (product : Product) (there : Option Entry) where
  -- the reply to an opened file is what its table makes
  pub replies_opened : (bytes : List ℕ) (table : Table) (result : Result Reply Error) → opened there ≡ Ok bytes → table_in bytes ≡ Some table →
      IfOk result (λ given. outcome_of given ≡ by_product (made_of product table)) → IsOkUnless result errors.OutOfMemory → Replies (by_product (made_by product there)) result
  replies_opened bytes table (Ok reply) given told makes memory = makes ∙ ap by_product (sym (opened_makes product bytes table there given told))
  replies_opened bytes table (Err e) given told makes memory = rw memory tt

  -- and the reply to one that isn't is its refusal
  pub replies_unopened : (error : Error) (result : Result Reply Error) → GivesOrFaults (λ (bytes : List ℕ). bytes) (opened there) (Err error) → RepliesTo error result →
      Replies (by_product (made_by product there)) result
  replies_unopened errors.ReadFault result comes is = rw is tt
  replies_unopened errors.OutOfMemory result comes is = rw is tt
  replies_unopened error (Ok reply) comes is = is ∙ ap by_product (sym (unopened product error there comes))
  replies_unopened error (Err e) comes is = rw is tt

-- what some Breakpad file makes is said by a reply that the run is done
pub product_answered : (product : Product) (bytes : List ℕ) (table : Table) (result : Result Reply Error) → IsFile bytes table →
    IfOk result (λ given. outcome_of given ≡ by_product (made_of product table)) → IfOk result (λ given. IsProductReply product given)
product_answered product bytes table (Err e) file makes = tt
product_answered product bytes table (Ok reply) file makes = by_made (made_of product table) refl makes
  where
    by_made : (made : Result (List ℕ) (List ℕ)) → made_of product table ≡ made → outcome_of reply ≡ by_product made → IsProductReply product reply
    by_made (Ok made) is makes done = (bytes, record { table = table; accepted = file; made = is ∙ ap Ok (sym (ap (λ (o : Outcome). o.text) makes)) })
    by_made (Err name) is makes done = let refused = ap (λ (o : Outcome). o.status) makes in cc

-- a call that wants memory alone has no fault
no_faulted : {A : Type 0} (result : Result A Error) → IsOkUnless result errors.OutOfMemory → Faulted result → ⊥
no_faulted (Ok given) memory fault = fault
no_faulted (Err e) memory fault = cc

-- so files stand as they did before it
pub looked_on : {A B F : Type 0} (looks : files_trait.Ghosts F) (before after : F) (first : A) (result : Result B Error) → Looked looks before after (Faulted (Ok first)) →
    IsOkUnless result errors.OutOfMemory → Looked looks before after (Faulted result)
looked_on looks before after first result looked memory = record {
  worlds = looked.worlds;
  pid = looked.pid;
  faults = counts_still _ _ (Faulted result) (no_faulted result memory) (no_fault _ _ (Faulted (Ok first)) (λ fault. fault) looked.faults);
}
