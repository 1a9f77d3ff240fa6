-- From what a call does on its source's file to all that it promises, whatever the source and the
-- query.
use Rattle.std.proofs.Common.{◌≡◌, Result, IsErrOf, ap}
use Rattle.bz_base.specs.declared.error.Error.{Error}
use Rattle.bz_base.specs.declared.error.Error.TheVariants as errors
use Rattle.bz_base.specs.declared.types.FindSymOpts.{FindSymOpts}
use Rattle.bz_files.specs.World.{Told, in_view}
use Rattle.bz_files.specs.declared.files.Files.{Ghosts}
use Rattle.bz_lookups.proofs.HeldLemmas.{Follows}
use Rattle.bz_lookups.specs.Batch.{held_singles}
use Rattle.bz_lookups.specs.declared.held.Held.{Held}
use Rattle.bz_symbolize.proofs.Formats.{on_file, on_handed, both, told_by_form, unless_process}
use Rattle.bz_symbolize.proofs.HeldLemmas.{asks_held, call_failed}
use Rattle.bz_symbolize.proofs.LeaveLemmas.{told_from_file, step_from_told, leaves_from_some, unchanged}
use Rattle.bz_symbolize.proofs.PromiseLemmas.{look_from_told, view_from_told, causes_from_told, complete_from_told, kept_from_some, ready_from_version, refusal_from_some}
use Rattle.bz_symbolize.specs.FileCall.{Query, CallsFile, each_of}
use Rattle.bz_symbolize.specs.Promise.{AsksSource, CallTold, Symbolizes}
use Rattle.bz_symbolize.specs.Sources.{FileSource, OnFile, UnlessProcess, asked_of, form_of}
use Rattle.bz_symbolize.specs.State.{State, opts_of}
use Rattle.bz_symbolize.specs.declared.source.Source.{Source}

-- nothing else of the state than a file's cache changes
abbrev Rests : State → State → FileSource → Type 0
Rests old now file = now ≡ file.with_cache old (file.cache now)

module _ {A B X : Type 0} (files : Ghosts X) (reading : A → B) (source : Source) (query : Query B) (result : Result A Error) (old now : State) (before after : X) where
  -- what the call does on a file
  abbrev Calls : FileSource → Type 0
  Calls file = CallsFile files reading (asked_of file (opts_of old.settings) query) file.path result (file.cache old) (file.cache now) before after

  -- after a failed read nothing has changed
  abbrev OnFault : FileSource → Type 0
  OnFault file = IsErrOf result errors.ReadFault → now ≡ old

  pub promised : AsksSource files reading source (opts_of old.settings) query result old now before after → OnFile source OnFault → Symbolizes files reading source query result old now before after
  promised did fault =
      let opts : FindSymOpts = opts_of old.settings in
      let whole : OnFile source (λ file. Calls file × Rests old now file) = both source Calls (Rests old now) did.called did.rest in
      let told_all : Told (in_view (files.worlds before)) (λ world. UnlessProcess source (CallTold reading opts (form_of source) query result old now world (files.opens before) (files.opens after))) = λ world seen. told_by_form reading opts (form_of source) query result old now world _ _
      (on_file query source whole (λ file laws all. told_from_file opts source file query laws old reading now all.1 world _ _ result (all.0.told world seen)))
      (on_handed source did.handed (λ given is. (is.0, is.1, ap files.opens is.2))) in
      record {
        view = on_file query source did.called (λ file laws all world seen coherent. view_from_told opts source file query laws old reading world result coherent (all.told world seen).answer);
        look = on_file query source did.called (λ file laws all world seen. look_from_told opts source file query laws old reading world result (all.told world seen).answer);
        kept = on_file query source did.called (λ file laws all. kept_from_some opts source file query laws old reading now result all.untold);
        causes = on_file query source did.called (λ file laws all world seen coherent. causes_from_told opts source file query laws old reading world result coherent (all.told world seen).answer);
        complete = on_file query source did.called (λ file laws all world seen. complete_from_told opts source file query laws old reading did.kept_well world result (all.told world seen).answer);
        told = told_all;
        history = λ world seen. unless_process source (told_all world seen) (λ told. step_from_told result old now _ told.state);
        leaves = on_file query source (both source (λ file. Calls file × Rests old now file) OnFault whole fault) (λ file laws all. leaves_from_some opts source file query laws old reading now all.0.1 result
            (λ other. unchanged opts source file query laws old reading now all.0.1 (all.0.0.untaken other).1) all.1 all.0.0.untold);
        handed = did.handed;
        untaken = on_file query source whole (λ file laws all other. let refused = all.0.untaken other in (refused.0, unchanged opts source file query laws old reading now all.1 refused.1, refused.2));
        stays = on_file query source whole (λ file laws all held. let same = all.0.stays held in (unchanged opts source file query laws old reading now all.1 same.0, same.1));
        ready = on_file query source did.called (λ file laws all held taken serves. ready_from_version opts source file query laws old reading now result serves (all.ready held taken));
        refusal = on_file query source did.called (λ file laws all. refusal_from_some opts source file query laws old reading now result all.untold);
        settings = did.settings;
        caches = did.caches;
        looked = did.looked;
        most = on_file query source did.called (λ file laws all. all.most);
      }

-- all that a call promises that goes on by what is held of its source
module _ {A B X : Type 0} (files : Ghosts X) (reading : A → B) (source : Source) (query : Query B) (held : Result Held Error) (result : Result A Error) (old now : State) (before after : X) where
  -- what the look for it does on a file
  abbrev Looks : FileSource → Type 0
  Looks file = CallsFile files (held_singles (opts_of old.settings)) (asked_of file (opts_of old.settings) (each_of query.kind)) file.path held (file.cache old) (file.cache now) before after

  pub promised_held : ((opts : FindSymOpts) → AsksSource files (held_singles opts) source opts (each_of query.kind) held old now before after) →
      Follows reading query (held_singles (opts_of old.settings)) held result → Symbolizes files reading source query result old now before after
  promised_held did follows =
      let opts = opts_of old.settings in
      let looked = did opts in
      let whole : OnFile source (λ file. Looks file × Rests old now file) = both source Looks (Rests old now) looked.called looked.rest in
      promised files reading source query result old now before after (asks_held files reading query (held_singles opts) before after source opts held result old now follows looked)
      (on_file query source whole (λ file laws all failed. unchanged opts source file query laws old reading now all.1
      (call_failed reading query (held_singles opts) opts file (file.cache old) (file.cache now) held result follows all.0.untold failed)))
