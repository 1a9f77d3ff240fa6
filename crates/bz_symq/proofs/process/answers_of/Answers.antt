use Rattle.std.proofs.Common.{◌≡◌, true, false, map, None, IsErrOf, IfOk, ap}
use Rattle.bz_base.specs.InputKind.{address_kind}
use Rattle.bz_base.specs.declared.error.Error.TheVariants as errors
use Rattle.bz_process.specs.Mapped.{AreByMappings, asks_process}
use Rattle.bz_process.specs.Process.{unsaid}
use Rattle.bz_process.specs.ProcessCall.{TakesStep}
use Rattle.bz_process.specs.Processes.{caches_of, is_in_process}
use Rattle.bz_symq.specs.Processes.{asked_by, nothing_kept, pid_of, process_batch}
use Rattle.bz_symq.proofs.ProcessLemmas.{answered_if_taken, keeps_nothing, lacks_or_fails, opened_if_taken, process_named, process_refusal, served_if_given, some_if_taken, views}
use Rattle.bz_symq.proofs.process.answers_of.Goals as goal
use Rattle.bz_symq.proofs.process.answers_of.Goals.{After-symbolize_counted}

-- a kind of address that isn't taken is refused without a look
refused : (g : _) (c : goal.After-symbolize_counted g) → is_in_process (address_kind c.args.batch.kind) ≡ false →
    IsErrOf c.symbolize_counted.result errors.Unsupported × (c.symbolize_counted.new.files ≡ c.args.files.now)
refused g c is =
    let promise = rw (c.from-src.ensures, c.with.ensures.kind) at c.symbolize_counted.ensures.process.asked in
    ((promise.untaken is).0, (promise.untaken is).3)

-- one that is taken is answered by the definitions, and whatever is told by some mappings: nothing is
-- kept, and the dispatcher gives no resolver
taken : (g : _) (c : goal.After-symbolize_counted g) → is_in_process (address_kind c.args.batch.kind) ≡ true →
    TakesStep g.F.Files (g.F.Files.pid c.args.files.now) views (asks_process (asked_by c.args.batch.config c.args.batch.number (g.F.Files.pid c.args.files.now)) None (map unsaid c.args.addrs.now)) c.symbolize_counted.result (nothing_kept c.args.batch.config) (caches_of c.symbolize_counted.new.self.files.elf c.symbolize_counted.new.self.processes) c.args.files.now c.symbolize_counted.new.files
    × IfOk c.symbolize_counted.result (λ given. AreByMappings (asked_by c.args.batch.config c.args.batch.number (g.F.Files.pid c.args.files.now)) None c.args.addrs.now (views given) (nothing_kept c.args.batch.config) (caches_of c.symbolize_counted.new.self.files.elf c.symbolize_counted.new.self.processes))
taken g c is =
    let named : c.from.result ≡ pid_of c.args.batch.number = process_named c.args.batch.number c.from.result c.from.ensures in
    let promise = rw (c.from-src.ensures, c.new-process.ensures, named, c.with.ensures.kind, c.with.ensures.payload) at c.symbolize_counted.ensures.process.asked in
    let nothing = keeps_nothing c.args.batch.config c.new_symbolizer-symbolizer.result c.new_symbolizer-symbolizer.ensures in (
      rw (nothing.caches, nothing.mappings) at (promise.exact (λ member answer is. is) is),
      rw (nothing.caches, nothing.mappings) at (promise.untold (λ member answer is. is) is),
    )

pub returns-clause-answer : goal.returns-clause-answer
returns-clause-answer g c world seen =
    let call = (goal.at.returns-clause-answer g c).After-symbolize_counted in
    answered_if_taken views (is_in_process (address_kind c.args.batch.kind)) (process_batch c.args.batch.config c.args.batch.number (g.F.Files.pid c.args.files.now) c.args.addrs.now world).answer c.symbolize_counted.result (λ is. (refused g call is).0)
    (λ is. ((taken g call is).0.told world seen).answer)

-- what is answered was taken
pub returns-clause-served : goal.returns-clause-served
returns-clause-served g c =
    let call = (goal.at.returns-clause-served g c).After-symbolize_counted in
    served_if_given (is_in_process (address_kind c.args.batch.kind)) c.symbolize_counted.result (λ is. (refused g call is).0)

-- by the mappings of some text, whatever is told
pub returns-clause-answered : goal.returns-clause-answered
returns-clause-answered g c =
    let call = (goal.at.returns-clause-answered g c).After-symbolize_counted in
    some_if_taken (address_kind c.args.batch.kind) c.args.batch.config c.args.batch.number (g.F.Files.pid c.args.files.now) c.args.addrs.now c.symbolize_counted.result _ (λ is. (refused g call is).0) (λ is. (taken g call is).1)

-- no mappings are kept, so it is refused for want of mappings, whatever is told
pub returns-clause-refusal : goal.returns-clause-refusal
returns-clause-refusal g c =
    let call = (goal.at.returns-clause-refusal g c).After-symbolize_counted in
    let promise = rw (c.from-src.ensures, c.with.ensures.kind) at c.symbolize_counted.ensures.process.asked in
    let nothing = keeps_nothing c.args.batch.config c.new_symbolizer-symbolizer.result c.new_symbolizer-symbolizer.ensures in
    process_refusal c.args.batch.number (address_kind c.args.batch.kind) c.args.batch.config c.symbolize_counted.result (λ is. (refused g call is).0)
    (λ is. let asks = rw nothing.mappings at (promise.asks is) in lacks_or_fails _ _ _ _ _ _ _ _ _ _ _ _ _ _ c.symbolize_counted.result asks)

-- what isn't taken is refused without a look
pub returns-clause-untaken : goal.returns-clause-untaken
returns-clause-untaken g c is = (refused g (goal.at.returns-clause-untaken g c).After-symbolize_counted is).1

-- and no more files are read than they say
pub returns-clause-opens : goal.returns-clause-opens
returns-clause-opens g c world seen =
    let call = (goal.at.returns-clause-opens g c).After-symbolize_counted in
    opened_if_taken (is_in_process (address_kind c.args.batch.kind)) _ _ _ (λ is. ap g.F.Files.opens (refused g call is).1)
    (λ is. ((taken g call is).0.told world seen).opened)

-- of a process no steps are counted
pub returns-clause-steps : goal.returns-clause-steps
returns-clause-steps g c = rw c.from-src.ensures at c.symbolize_counted.ensures.steps
