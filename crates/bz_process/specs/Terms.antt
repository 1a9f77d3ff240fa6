-- By which terms a process is asked, and what is kept to answer it.
use Rattle.std.specs.Prelude.{ℕ}
use Rattle.bz_base.specs.declared.resolve.Symbolize.{Ghosts as Finds}
use Rattle.bz_base.specs.declared.resolve.TranslateFileOffset.{Ghosts as Translates}
use Rattle.bz_base.specs.declared.types.FindSymOpts.{FindSymOpts}
use Rattle.bz_cache.specs.Cache.{Cache}
use Rattle.bz_process.specs.Asked.{Asked, asked_of}
use Rattle.bz_process.specs.Caches.{ProcessCaches, caches}
use Rattle.bz_process.specs.Dispatch.{DispatchAnswers, Test}
use Rattle.bz_process.specs.declared.answering.Answerer.{Answerer}
use Rattle.bz_process.specs.declared.dispatch.ProcessDispatch.{Ghosts as Dispatches}
use Rattle.bz_process.specs.declared.query.ProcessQuestion.{ProcessQuestion}

-- what a call may say for an address, and what it asks
pub record Terms (R : Type 0) : Type 1 where
  -- what the dispatcher may answer for a member
  pub test : Test R
  -- what a resolver may make of an offset, and what it may find at an address
  pub translates : Translates R
  pub finds : Finds R
  -- what is asked of each symbol
  pub opts : FindSymOpts
  -- which process is asked, and how
  pub asked : Asked

-- what is kept to answer for processes: files, what is remembered of processes, and the answers of the
-- dispatcher
pub record KeptToAnswer (R : Type 0) : Type 0 where
  pub caches : ProcessCaches
  pub answers : DispatchAnswers R

module _ {D R : Type 0} where
  -- a process is asked so, under a dispatcher and resolvers that may say what these tests allow
  abbrev pub terms_by : Dispatches D R → Translates R → Finds R → D → FindSymOpts → Asked → Terms R
  terms_by dispatches translates finds dispatcher opts asked =
      record { test = dispatches.may_dispatch dispatcher; translates = translates; finds = finds; opts = opts; asked = asked }

  -- a question, where the own process has this id, under what is kept of a dispatcher
  abbrev pub terms_of : Dispatches D R → Translates R → Finds R → Answerer D R → ProcessQuestion → ℕ → Terms R
  terms_of dispatches translates finds answering question own =
      terms_by dispatches translates finds answering.dispatching.dispatch question.opts.now (asked_of own question.query.now)

  -- the ELF files beside what else answers
  abbrev pub kept_by : Cache → Answerer D R → KeptToAnswer R
  kept_by elf answering = record { caches = caches elf answering.perf_maps; answers = answering.dispatching.answers }
