-- The state of a symbolizer: how it was set, the files that it keeps, and what it keeps to answer for
-- processes.
use Rattle.std.specs.Prelude.{◌≡◌, ℕ, Bool, true, false, List, Option, None, refl}
use Rattle.std.specs.Coded.{Coded, code_by, coded×, coded_ℕ, coded_bool, coded_list, coded_option}
use Rattle.bz_base.specs.declared.error.Error.{Error}
use Rattle.bz_base.specs.declared.types.FindSymOpts.{FindSymOpts}
use Rattle.bz_base.specs.Options.{opts_by}
use Rattle.bz_cache.specs.Cache.{Cache, Consistent, new_cache, coded_cache}
use Rattle.bz_breakpad.specs.Version.{format_test}
use Rattle.bz_elf.specs.Format as elf
use Rattle.bz_gsym.specs.Version as gsym
use Rattle.bz_process.specs.Processes.{KeptProcesses, coded_processes, new_processes}

-- how a symbolizer is set: whether files are looked at anew, and whether answers have code info, and
-- inlined calls.
-- Whether names are demangled, and where debug files are looked for, is kept and has no effect.
pub record Settings : Type 0 where
  pub reload : Bool
  pub code_info : Bool
  pub inlined : Bool
  pub demangling : Bool
  pub debug_dirs : Option (List (List ℕ))

-- all features on, and no directories
abbrev pub default_settings : Settings
default_settings = record { reload = true; code_info = true; inlined = true; demangling = true; debug_dirs = None }

-- the options of a look-up
abbrev pub opts_of : Settings → FindSymOpts
opts_of settings = opts_by settings.code_info settings.inlined

-- the settings of a symbolizer, and the files of sources that it keeps, of each format
pub record State : Type 0 where
  pub settings : Settings
  pub breakpad : Cache
  pub gsym : Cache
  pub elf : Cache

-- no file is kept
abbrev pub new_state : Settings → State
new_state settings = record {
  settings = settings;
  breakpad = new_cache settings.reload;
  gsym = new_cache settings.reload;
  elf = new_cache settings.reload;
}

-- a cache of a symbolizer is well kept: a stamp is kept exactly while some path names it, and every
-- version is in the format. Paths are looked at anew exactly where the settings say so
pub record IsWellKept (test : List ℕ → Option Error) (settings : Settings) (cache : Cache) : Type 0 where
  pub consistent : Consistent test cache
  pub reload : cache.reload ≡ settings.reload

-- every cache is well kept
pub record WellKept (state : State) : Type 0 where
  pub breakpad : IsWellKept format_test state.settings state.breakpad
  pub gsym : IsWellKept gsym.format_test state.settings state.gsym
  pub elf : IsWellKept elf.format_test state.settings state.elf

-- settings and states can be kept in the model of a value
abbrev pub coded_settings : Coded Settings
coded_settings =
    code_by (Bool × (Bool × (Bool × (Bool × Option (List (List ℕ))))))
    (coded× coded_bool (coded× coded_bool (coded× coded_bool (coded× coded_bool (coded_option (coded_list (coded_list coded_ℕ)))))))
    (λ s. (s.reload, (s.code_info, (s.inlined, (s.demangling, s.debug_dirs)))))
    (λ p. record { reload = p.0; code_info = p.1.0; inlined = p.1.1.0; demangling = p.1.1.1.0; debug_dirs = p.1.1.1.1 })
    (λ _. refl)

abbrev pub coded_state : Coded State
coded_state =
    code_by (Settings × (Cache × (Cache × Cache))) (coded× coded_settings (coded× coded_cache (coded× coded_cache coded_cache)))
    (λ s. (s.settings, (s.breakpad, (s.gsym, s.elf))))
    (λ p. record { settings = p.0; breakpad = p.1.0; gsym = p.1.1.0; elf = p.1.1.1 })
    (λ _. refl)

-- a symbolizer: its settings and the files of sources that it keeps, and what it keeps to answer for
-- processes
pub record WholeState (D R : Type 0) : Type 0 where
  pub files : State
  pub processes : KeptProcesses D R

-- a symbolizer that keeps nothing, with a dispatcher
abbrev pub new_whole : {D R : Type 0} → Settings → D → WholeState D R
new_whole settings dispatcher = record { files = new_state settings; processes = new_processes settings.reload dispatcher }

-- perf maps too are looked at anew exactly where the settings say so
abbrev pub IsSetAlike : {D R : Type 0} → WholeState D R → Type 0
IsSetAlike whole = whole.processes.perf_maps.reload ≡ whole.files.settings.reload

-- the settings of a symbolizer to be, and its dispatcher
pub record BuilderState (D : Type 0) : Type 0 where
  pub settings : Settings
  pub dispatcher : D

-- both can be kept in the model of a value
abbrev pub coded_whole : {D R : Type 0} → Coded D → Coded R → Coded (WholeState D R)
coded_whole {D} {R} d r =
    code_by (State × KeptProcesses D R) (coded× coded_state (coded_processes d r)) (λ w. (w.files, w.processes)) (λ p. record { files = p.0; processes = p.1 }) (λ _. refl)

abbrev pub coded_builder : {D : Type 0} → Coded D → Coded (BuilderState D)
coded_builder {D} d = code_by (Settings × D) (coded× coded_settings d) (λ b. (b.settings, b.dispatcher)) (λ p. record { settings = p.0; dispatcher = p.1 }) (λ _. refl)
