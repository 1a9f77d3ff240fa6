-- What a new symbolizer answers by a Breakpad file in memory no look at which fails.
use Rattle.std.proofs.Common.{◌≡◌, ℕ, List, length, pos, Some, Result, Ok, Err, IfOk, IsOkUnless, refl, subst, ◌∙◌, arith}
use Rattle.std.specs.Cmp.Lexicographic.{nat_list_cmp_total}
use Rattle.std.specs.FinMap as finite_map
use Rattle.std.specs.FinMap.{get-insert}
use Rattle.std.proofs.lemmas.Cmp.{eq_by_cmp_equiv}
use Rattle.bz_base.specs.Answer.{Answer}
use Rattle.bz_base.specs.InputKind.{InFile}
use Rattle.bz_base.specs.declared.error.Error.{Error}
use Rattle.bz_base.specs.declared.error.Error.TheVariants as errors
use Rattle.bz_base.specs.declared.types.FindSymOpts.{FindSymOpts}
use Rattle.bz_files.specs.Count.{CountsFaults}
use Rattle.bz_files.specs.Looked.{Faulted}
use Rattle.bz_files.specs.MemWorlds.{after_put, first_world, new_worlds}
use Rattle.bz_files.specs.World.{World, Present, entry_at, in_view}
use Rattle.bz_files.specs.declared.files.Files as files_trait
use Rattle.bz_files.specs.declared.stamp.Stamp.{Stamp}
use Rattle.bz_cache.specs.Format.{GivesOrFaults}
use Rattle.bz_breakpad.specs.Grammar.{IsFile}
use Rattle.bz_breakpad.specs.Plain.{batch}
use Rattle.bz_breakpad.specs.Table.{Table}
use Rattle.bz_symq.specs.FileSources.{breakpad_file}
use Rattle.bz_symbolize.specs.FileCall.{batch_of}
use Rattle.bz_symbolize.specs.Lookup.{answer_of}
use Rattle.bz_symbolize.specs.Promise.{CallTold, Symbolizes}
use Rattle.bz_symbolize.specs.Sources.{OneFile, SourceForm, UnlessProcessForm, form_of}
use Rattle.bz_symbolize.specs.State.{Settings, State, new_state, opts_of}
use Rattle.bz_symbolize.specs.declared.source.Source.{Source}
use Rattle.bz_symbolize.proofs.NewLemmas.{new_breakpad}
use Rattle.bz_symbolize.proofs.Tables.{table_again}

-- a call that comes to an answer is answered by it, where memory suffices and no look fails
module _ {A B : Type 0} (reading : A → B) (expected : B) where
  pub answered : (result : Result A Error) → GivesOrFaults reading (Ok expected) result → IfOk result (λ given. reading given ≡ expected)
  answered (Ok given) comes = cc
  answered (Err e) comes = tt

  pub unrefused : (result : Result A Error) → GivesOrFaults reading (Ok expected) result → (Faulted result → ⊥) → IsOkUnless result errors.OutOfMemory
  unrefused (Ok given) comes steady = tt
  unrefused (Err errors.OutOfMemory) comes steady = refl
  unrefused (Err errors.ReadFault) comes steady = absurd (steady refl)
  unrefused (Err _) comes steady = cc

-- a count that doesn't rise counts no fault
pub never_faults : (failed : Type 0) → CountsFaults 0 0 failed → failed → ⊥
never_faults failed counts is = let rose : ◌≡◌ {A = ℕ} 0 1 = counts.fault is in absurd (omega (arith, rose))

-- the world that has one file
abbrev world_of_file : List ℕ → List ℕ → World
world_of_file path bytes = (first_world (after_put path bytes (new_worlds 0)).worlds)

there_is_file : (path bytes : List ℕ) → (stamp : Stamp) × (entry_at (world_of_file path bytes) path ≡ Some (Present stamp bytes))
there_is_file path bytes = (
  record { dev = 1; inode = 1; size = length bytes; mtime_sec = pos 1; mtime_nsec = pos 0 },
  rw (
    get-insert nat_list_cmp_total finite_map.empty path (Present (record { dev = 1; inode = 1; size = length bytes; mtime_sec = pos 1; mtime_nsec = pos 0 }) bytes) path,
    (eq_by_cmp_equiv nat_list_cmp_total).refl path,
  ) refl,
)

module _ (opts : FindSymOpts) (settings : Settings) (path bytes addrs : List ℕ) (table : Table) (is_file : IsFile bytes table) where
  -- a symbolizer that keeps nothing answers by the file's table
  pub new_answers : answer_of opts (new_state settings) (OneFile (breakpad_file path)) (batch_of InFile addrs) (world_of_file path bytes) ≡ Ok (batch table opts addrs)
  new_answers =
      let there = there_is_file path bytes in
      new_breakpad opts settings.reload path addrs (entry_at (world_of_file path bytes) path) ∙ rw (there.1, table_again bytes table is_file) refl

-- what a call on a source that is a file is told to do in the world that has it
module _ {A X : Type 0} (looks : files_trait.Ghosts X) (reading : A → List Answer) (source : Source) (result : Result A Error) (old now : State) (before after : X)
    (settings : Settings) (path bytes addrs : List ℕ) where
  pub comes_by_file : (table : Table) → IsFile bytes table → form_of source ≡ OneFile (breakpad_file path) → old ≡ new_state settings →
      in_view (looks.worlds before) ≡ Some (world_of_file path bytes) → Symbolizes looks reading source (batch_of InFile addrs) result old now before after →
      GivesOrFaults reading (Ok (batch table (opts_of settings) addrs)) result
  comes_by_file table is_file form old_is told promise =
      let call : CallTold reading (opts_of old.settings) (OneFile (breakpad_file path)) (batch_of InFile addrs) result old now (world_of_file path bytes) (looks.opens before) (looks.opens after) =
      subst (λ (f : SourceForm). UnlessProcessForm f (CallTold reading (opts_of old.settings) f (batch_of InFile addrs) result old now (world_of_file path bytes) (looks.opens before) (looks.opens after))) form (promise.told (world_of_file path bytes) told) in
      let answer = subst (λ (s : State). GivesOrFaults reading (answer_of (opts_of s.settings) s (OneFile (breakpad_file path)) (batch_of InFile addrs) (world_of_file path bytes)) result) old_is call.answer in
      rw (new_answers (opts_of settings) settings path bytes addrs table is_file) at answer
