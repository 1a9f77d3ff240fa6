use Rattle.std.proofs.Common.{◌≡◌, ℕ, List, Ok, Err, IfOk, Result, map}
use denote.Ref.{Bor}
use Rattle.bz_base.specs.Answer.{Answer, reading}
use Rattle.bz_base.specs.InputKind.{InFile}
use Rattle.bz_base.specs.declared.error.Error.{Error}
use Rattle.bz_base.specs.declared.input.Input.TheVariants.{FileOffset}
use Rattle.bz_symbolize.specs.FileCall.{batch_query}
use Rattle.bz_symbolize.specs.Promise.{AnswersKept, IsBreakpadBatch}
use Rattle.bz_symbolize.specs.Sources.{OnFile}
use Rattle.bz_symbolize.specs.State.{State, default_settings, new_state, opts_of}
use Rattle.bz_symbolize.specs.declared.source.Breakpad.{Breakpad}
use Rattle.bz_symbolize.specs.declared.source.Source.TheVariants as sources
use Rattle.bz_symbolize.proofs.BatchLemmas.{batch_answered}
use Rattle.bz_symbolize_tests.proofs.calling.answers_at.Goals as goal

-- what the symbolizer keeps is what it answers
some_from_kept : {A : Type 0} (view : A → List Answer) (source : Breakpad) (addrs : Bor (List ℕ)) (now : State) (result : Result A Error) →
    OnFile (sources.Breakpad source) (λ file. IfOk result (λ given. AnswersKept (opts_of default_settings) (sources.Breakpad source) file now (batch_query (FileOffset addrs)) (Ok (view given)))) →
    IfOk result (λ given. (bytes : List ℕ) × IsBreakpadBatch (opts_of default_settings) bytes addrs.now (view given))
some_from_kept view source addrs now (Ok given) kept = (kept.bytes, batch_answered (opts_of default_settings) kept.bytes InFile addrs.now (view given) kept.answered)
some_from_kept view source addrs now (Err e) kept = tt

pub returns : goal.returns
returns g c =
    let from : c.from-src.result ≡ sources.Breakpad _ = c.from-src.ensures in
    let made : c.new-symbolizer.result.files ≡ new_state default_settings = c.new-symbolizer.ensures.files in
    some_from_kept (λ answers. map reading answers.items) _ c.args.addrs _ c.symbolize.result (rw (from, made) at c.symbolize.ensures.call.kept)
