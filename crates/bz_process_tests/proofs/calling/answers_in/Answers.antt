use Rattle.std.proofs.Common.{◌≡◌, refl}
use Rattle.bz_symbolize.specs.declared.source.Source.TheVariants as sources
use Rattle.bz_process_tests.proofs.calling.answers_in.Goals as goal

-- a dispatcher that gives no resolver leaves the answers to the definitions
pub returns : goal.returns
returns g c world seen =
    let from : c.from-src.result ≡ sources.Process c.new.result = c.from-src.ensures in
    let promise = rw (from, c.new.ensures) at c.symbolize.ensures.process.asked in
    let step = promise.exact (λ member answer is. is) refl in
    rw (c.new-symbolizer.ensures.files, c.new-symbolizer.ensures.processes) at ((step.told world seen).answer)
