-- Over worlds that agree, calls leave caches coherent with all of them.
use Rattle.std.proofs.Common.{ℕ, Bool, true, false, List, Option, [], ◌∷◌, map, string_bytes, inl, inr, refl, sym, subst, zero, suc, suc-le-suc, zero-lt-suc}
use Rattle.std.specs.Prelude.{Contains}
use Rattle.std.specs.List.{AllByRecursion}
use Rattle.bz_base.specs.declared.error.Error.{Error}
use Rattle.bz_files.specs.World.{World, entry_at}
use Rattle.bz_cache.specs.Cache.{Cache, new_cache}
use Rattle.bz_files.specs.Agreement.{Agree}
use Rattle.bz_cache.specs.Coherence.{Coherent, CoherentWithAll}
use Rattle.bz_cache.proofs.CoherenceLaws.{evicted_coherent, insertion_coherent, look_coherent, new_coherent}
use Rattle.bz_breakpad.specs.Version.{format_test}
use Rattle.bz_elf.specs.Format as elf
use Rattle.bz_gsym.specs.Version as gsym
use Rattle.bz_lookups.specs.Formats.{is_in_file, is_in_table}
use Rattle.bz_symbolize.specs.FileCall.{file_cache}
use Rattle.bz_proc.specs.PerfMap as perf
use Rattle.bz_symbolize.specs.History.{Call, Symbolize, Register, LookAtElf, PinElf, ForgetElf, LookAtPerfMap, PinPerfMap, ForgetPerfMap, RegistersTruly, Coheres, MayLeave, MayReach, PerfMapsMayLeave, PerfMapsMayReach, perf_maps_after, state_after}
use Rattle.bz_symbolize.specs.State.{Settings, State, new_state}
use Rattle.bz_symbolize.specs.declared.source.Source.TheVariants as sources
use Rattle.bz_symbolize.specs.declared.source.Gsym.TheVariants as gsyms

-- the worlds of the calls
abbrev worlds_of : List (World × Call) → List World
worlds_of calls = map (λ call. call.0) calls

-- what is among the later ones is among all
among_later : (world w : World) (worlds : List World) → Contains worlds w → Contains (world ∷ worlds) w
among_later world w worlds (k, lt, at) = (suc k, suc-le-suc lt, at)

-- the first one is among them
among_first : (world : World) (worlds : List World) → Contains (world ∷ worlds) world
among_first world worlds = (zero, zero-lt-suc _, refl)

-- what holds of a state and is kept by each call with a property holds after a list of such calls in
-- these worlds
module _ (worlds : List World) (P : State → Type 0) (Q : World → Call → Type 0)
    (after : (call : Call) (s : State) (w : World) → Contains worlds w → Q w call → P s → P (state_after s w call)) where
  after_step : (call : Call) (s now : State) (w : World) → Contains worlds w → Q w call → P s → MayLeave s w call now → P now
  after_step call s now w has truly before (inl same) = subst P (sym same) before
  after_step call s now w has truly before (inr is) = subst P (sym is) (after call s w has truly before)

  reached : (calls : List (World × Call)) (s end : State) → ((w : World) → Contains (worlds_of calls) w → Contains worlds w) →
      AllByRecursion (λ call. Q call.0 call.1) calls → P s → MayReach s calls end → P end
  reached [] s end among truly before same = subst P (sym same) before
  reached (step ∷ later) s end among (first, others) before (next, leaves, rest) =
      reached later next end (λ w has. among w (among_later step.0 w (worlds_of later) has)) others
      (after_step step.1 s next step.0 (among step.0 (among_first step.0 (worlds_of later))) first before leaves) rest

-- of any list
all_calls : (calls : List (World × Call)) → AllByRecursion (λ call. Unit {0}) calls
all_calls [] = tt
all_calls (call ∷ later) = (tt, all_calls later)

module _ (worlds : List World) (agree : Agree worlds) where
  -- the caches of files that aren't registered cohere with each of the worlds
  abbrev ReadCoheres : State → Type 0
  ReadCoheres s = CoherentWithAll s.breakpad.kept worlds × CoherentWithAll s.gsym.kept worlds

  -- and that of ELF files
  abbrev ElfCoheres : State → Type 0
  ElfCoheres s = CoherentWithAll s.elf.kept worlds

  -- a call on one file leaves its cache coherent
  after_file : (test : List ℕ → Option Error) (taken : Bool) (c : Cache) (p : List ℕ) (w : World) → Contains worlds w → CoherentWithAll c.kept worlds →
      CoherentWithAll (file_cache test taken c p (entry_at w p)).kept worlds
  after_file test true c p w has coherent v has_v = look_coherent test c w v p (agree w v has has_v) (coherent v has_v)
  after_file test false c p w has coherent v has_v = coherent v has_v

  -- a call leaves the other caches as they are
  read_after : (call : Call) (s : State) (w : World) → Contains worlds w → Unit {0} → ReadCoheres s → ReadCoheres (state_after s w call)
  read_after (Symbolize (sources.Breakpad source) kind) s w has _ coherent =
      (after_file format_test (is_in_file kind) s.breakpad (string_bytes source.path) w has coherent.0, coherent.1)
  read_after (Symbolize (sources.Gsym (gsyms.File source)) kind) s w has _ coherent =
      (coherent.0, after_file gsym.format_test (is_in_table kind) s.gsym (string_bytes source.path) w has coherent.1)
  read_after (Symbolize (sources.Elf source) kind) s w has _ coherent = coherent
  read_after (Symbolize (sources.Gsym (gsyms.Data source)) kind) s w has _ coherent = coherent
  read_after (Symbolize (sources.Process source) kind) s w has _ coherent = coherent
  read_after (Register path bytes) s w has _ coherent = coherent
  read_after (LookAtElf path) s w has _ coherent = coherent
  read_after (PinElf pinned path) s w has _ coherent = coherent
  read_after (ForgetElf path) s w has _ coherent = coherent
  read_after (LookAtPerfMap path) s w has _ coherent = coherent
  read_after (PinPerfMap pinned path) s w has _ coherent = coherent
  read_after (ForgetPerfMap path) s w has _ coherent = coherent

  elf_after : (call : Call) (s : State) (w : World) → Contains worlds w → RegistersTruly w call → ElfCoheres s → ElfCoheres (state_after s w call)
  elf_after (Symbolize (sources.Elf source) kind) s w has truly coherent = after_file elf.format_test true s.elf (string_bytes source.path) w has coherent
  elf_after (Symbolize (sources.Breakpad source) kind) s w has truly coherent = coherent
  elf_after (Symbolize (sources.Gsym (gsyms.File source)) kind) s w has truly coherent = coherent
  elf_after (Symbolize (sources.Gsym (gsyms.Data source)) kind) s w has truly coherent = coherent
  elf_after (Symbolize (sources.Process source) kind) s w has truly coherent = coherent
  elf_after (LookAtElf path) s w has truly coherent = after_file elf.format_test true s.elf path w has coherent
  elf_after (PinElf pinned path) s w has truly coherent = coherent
  elf_after (ForgetElf path) s w has truly coherent = λ v has_v. evicted_coherent s.elf v path (coherent v has_v)
  elf_after (LookAtPerfMap path) s w has truly coherent = coherent
  elf_after (PinPerfMap pinned path) s w has truly coherent = coherent
  elf_after (ForgetPerfMap path) s w has truly coherent = coherent
  elf_after (Register path bytes) s w has truly coherent =
      λ v has_v. insertion_coherent elf.format_test s.elf w v path (agree w v has has_v) (coherent v has_v) bytes truly

-- over a list of calls, perf maps stay coherent with all the worlds
module _ (worlds : List World) (agree : Agree worlds) where
  perf_map_after : (call : Call) (c : Cache) (w : World) → Contains worlds w → CoherentWithAll c.kept worlds → CoherentWithAll (perf_maps_after c w call).kept worlds
  perf_map_after (Symbolize source kind) c w has coherent = coherent
  perf_map_after (Register path bytes) c w has coherent = coherent
  perf_map_after (LookAtElf path) c w has coherent = coherent
  perf_map_after (PinElf pinned path) c w has coherent = coherent
  perf_map_after (ForgetElf path) c w has coherent = coherent
  perf_map_after (LookAtPerfMap path) c w has coherent = after_file worlds agree perf.format_test true c path w has coherent
  perf_map_after (PinPerfMap pinned path) c w has coherent = coherent
  perf_map_after (ForgetPerfMap path) c w has coherent = λ v has_v. evicted_coherent c v path (coherent v has_v)

  perf_map_step : (call : Call) (c now : Cache) (w : World) → Contains worlds w → CoherentWithAll c.kept worlds → PerfMapsMayLeave c w call now → CoherentWithAll now.kept worlds
  perf_map_step call c now w has before (inl same) = subst (λ (k : Cache). CoherentWithAll k.kept worlds) (sym same) before
  perf_map_step call c now w has before (inr is) = subst (λ (k : Cache). CoherentWithAll k.kept worlds) (sym is) (perf_map_after call c w has before)

  perf_maps_reached : (calls : List (World × Call)) (c end : Cache) → ((w : World) → Contains (worlds_of calls) w → Contains worlds w) → CoherentWithAll c.kept worlds → PerfMapsMayReach c calls end →
      CoherentWithAll end.kept worlds
  perf_maps_reached [] c end among before same = subst (λ (k : Cache). CoherentWithAll k.kept worlds) (sym same) before
  perf_maps_reached (step ∷ later) c end among before (next, leaves, rest) =
      perf_maps_reached later next end (λ w has. among w (among_later step.0 w (worlds_of later) has)) (perf_map_step step.1 c next step.0 (among step.0 (among_first step.0 (worlds_of later))) before leaves) rest

-- from a new symbolizer on
pub perf_maps_cohere : (settings : Settings) (calls : List (World × Call)) (perf_maps : Cache) (world : World) → Agree (world ∷ worlds_of calls) → PerfMapsMayReach (new_cache settings.reload) calls perf_maps →
    Coherent perf_maps.kept world
perf_maps_cohere settings calls perf_maps world agree reach =
    perf_maps_reached (world ∷ worlds_of calls) agree calls (new_cache settings.reload) perf_maps (λ w has. among_later world w (worlds_of calls) has) (λ w has. new_coherent settings.reload w) reach
    world (among_first world (worlds_of calls))

module _ (settings : Settings) (calls : List (World × Call)) (state : State) (world : World) (agree : Agree (world ∷ worlds_of calls)) (reach : MayReach (new_state settings) calls state) where
  -- from a new symbolizer on, whatever is registered
  pub read_coheres : Coherent state.breakpad.kept world × Coherent state.gsym.kept world
  read_coheres =
      let all = reached (world ∷ worlds_of calls) (ReadCoheres (world ∷ worlds_of calls) agree) (λ w call. Unit {0}) (read_after (world ∷ worlds_of calls) agree) calls (new_state settings) state
      (λ w has. among_later world w (worlds_of calls) has) (all_calls calls) (λ w has. new_coherent settings.reload w, λ w has. new_coherent settings.reload w) reach in
      (all.0 world (among_first world (worlds_of calls)), all.1 world (among_first world (worlds_of calls)))

  -- and where each registration is true
  pub history_coheres : AllByRecursion (λ call. RegistersTruly call.0 call.1) calls → Coheres state world
  history_coheres truly =
      let all = reached (world ∷ worlds_of calls) (ElfCoheres (world ∷ worlds_of calls) agree) RegistersTruly (elf_after (world ∷ worlds_of calls) agree) calls (new_state settings) state
      (λ w has. among_later world w (worlds_of calls) has) truly (λ w has. new_coherent settings.reload w) reach in
      record { breakpad = read_coheres.0; gsym = read_coheres.1; elf = all world (among_first world (worlds_of calls)) }
