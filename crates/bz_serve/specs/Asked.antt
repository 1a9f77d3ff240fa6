-- What an input of requests asks for.
use Rattle.std.specs.Prelude.{◌≡◌, ℕ, map, List, ◌++◌, Option, Some, Result, Ok, Err}
use Rattle.bz_files.specs.World.{World}
use Rattle.bz_requests.specs.Requests.{IsRequest, Request, requests_in}
use Rattle.bz_requests.specs.declared.requests.Config.{Config}
use Rattle.bz_serve.specs.RequestRuns.{run_reads, run_text}
use Rattle.bz_serve.specs.SomeReplies.{MayReply, WritesReplies}
use Rattle.bz_requests.specs.InputText.{AsksFor, by_length}
use Rattle.bz_symq.specs.Kept.{opts_in}
use Rattle.bz_symq.specs.Outcome.{Outcome, bad_line, done_with, too_long}
use Rattle.bz_symq.specs.Reply.{outcome_of}
use Rattle.bz_requests.specs.Requests.{request_of}
use Rattle.bz_serve.specs.declared.input.Asked.{Asked}
use Rattle.bz_serve.specs.declared.input.Asked.TheVariants as askeds

-- a bad line is named
abbrev pub or_bad_line : Result (List Request) ℕ → Result (List Request) Outcome
or_bad_line (Ok requests) = Ok requests
or_bad_line (Err n) = Err (bad_line n)

-- the requests of the input; or what the run comes to, where the input is too long or else has a bad
-- line
abbrev pub asked_in : List ℕ → Result (List Request) Outcome
asked_in text = by_length text (Err too_long) (or_bad_line (requests_in text))

-- the same of the value that the code has
abbrev pub asked_of : Asked → Result (List Request) Outcome
asked_of (askeds.Requests requests) = Ok (map request_of requests.items)
asked_of (askeds.Bad reply) = Err (outcome_of reply)

-- what a run comes to over a list of worlds, where the own process has this id: each request is
-- answered in its world
abbrev pub outcome_by : Config → List World → ℕ → Result (List Request) Outcome → Outcome
outcome_by config worlds own (Ok requests) = done_with (run_text config requests worlds own)
outcome_by config worlds own (Err bad) = bad

-- and how many files it reads at most
abbrev pub reads_by : Config → List World → ℕ → Result (List Request) Outcome → ℕ
reads_by config worlds own (Ok requests) = run_reads config requests worlds own
reads_by config worlds own (Err bad) = 0

-- the texts of the answers to the input's requests are what was written
pub record IsServed (config : Config) (text : List ℕ) (worlds : List World) (own : ℕ) (old : List ℕ) (new : Option (List ℕ)) : Type 0 where
  pub requests : List Request
  pub asks : AsksFor IsRequest text requests
  pub written : new ≡ Some (old ++ run_text config requests worlds own)

-- and whatever the files tell, what was written is replies that the input's requests may have
pub record IsSomeServed (config : Config) (text old : List ℕ) (new : Option (List ℕ)) : Type 0 where
  pub requests : List Request
  pub asks : AsksFor IsRequest text requests
  pub written : WritesReplies (MayReply (opts_in config)) requests old new
