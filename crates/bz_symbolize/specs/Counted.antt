-- How many steps the searches of a batch take, by its source.
use Rattle.std.specs.Prelude.{◌≡◌, ℕ, string_bytes}
use Rattle.bz_lookups.specs.Counted.{FileSteps, breakpad_steps}
use Rattle.bz_symbolize.specs.State.{State}
use Rattle.bz_symbolize.specs.declared.source.Source.{Source}
use Rattle.bz_symbolize.specs.declared.source.Source.TheVariants as sources

-- those of a call on a source: but for a Breakpad file none are counted
abbrev pub SourceSteps : Source → State → ℕ → ℕ → ℕ → Type 0
SourceSteps (sources.Breakpad source) now addrs before after = FileSteps breakpad_steps now.breakpad (string_bytes source.path) addrs before after
SourceSteps _ now addrs before after = after ≡ before
