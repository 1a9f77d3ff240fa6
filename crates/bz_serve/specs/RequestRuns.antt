-- Runs: requests one after the other, each in its world and in the state that those before it left.
use Rattle.std.specs.Prelude.{ℕ, ◌+◌, List, [], ◌∷◌, ◌++◌}
use Rattle.std.specs.FinMap as finite_map
use Rattle.bz_files.specs.World.{World, next_worlds}
use Rattle.bz_requests.specs.Requests.{Request}
use Rattle.bz_requests.specs.declared.requests.Config.{Config}
use Rattle.bz_symq.specs.Kept.{KeptState, new_kept, settings_of}
use Rattle.bz_serve.specs.RequestSteps.{RequestOutcome, step}

-- the world in view of a list, which has one
abbrev pub seen_first : List World → World
seen_first [] = finite_map.empty
seen_first (world ∷ later) = world

-- each request in its world: the next one of the list, as long as there is a next one
abbrev pub turns : {A : Type 0} → List A → List World → List (World × A)
turns [] worlds = []
turns (request ∷ later) worlds = (seen_first (next_worlds worlds), request) ∷ turns later (next_worlds worlds)

-- the worlds from the one on that is in view after them
abbrev pub worlds_after : {A : Type 0} → List A → List World → List World
worlds_after [] worlds = worlds
worlds_after (request ∷ later) worlds = worlds_after later (next_worlds worlds)

module _ {A : Type 0} (step : A → KeptState → World → RequestOutcome) where
  -- all that is written, one step after the other
  abbrev pub texts_from : KeptState → List (World × A) → List ℕ
  texts_from kept [] = []
  texts_from kept (turn ∷ later) = (step turn.1 kept turn.0).text ++ texts_from (step turn.1 kept turn.0).state later

  -- how many files are read at most, one step after the other
  abbrev pub reads_from : KeptState → List (World × A) → ℕ
  reads_from kept [] = 0
  reads_from kept (turn ∷ later) = (step turn.1 kept turn.0).reads + reads_from (step turn.1 kept turn.0).state later

-- all that a run of requests writes over a list of worlds, where the own process has this id: the
-- symbolizer keeps nothing yet
abbrev pub run_text : Config → List Request → List World → ℕ → List ℕ
run_text config requests worlds own = texts_from (step config.map_files own) (new_kept (settings_of config)) (turns requests worlds)

-- and how many files it reads at most
abbrev pub run_reads : Config → List Request → List World → ℕ → ℕ
run_reads config requests worlds own = reads_from (step config.map_files own) (new_kept (settings_of config)) (turns requests worlds)
