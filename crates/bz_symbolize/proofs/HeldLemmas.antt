-- From what is held of a source to what a call on the source does, whatever the query.
use Rattle.std.proofs.Common.{◌≡◌, ℕ, Bool, true, false, cond, Result, Ok, Err, IfErr, IsErrOf, le_refl, inl, inr, refl, sym, ap, subst, ◌∙◌}
use Rattle.bz_base.specs.Answer.{Answer, Gives}
use Rattle.bz_base.specs.Refusals.{MayRefuse}
use Rattle.bz_base.specs.declared.error.Error.{Error}
use Rattle.bz_base.specs.declared.error.Error.TheVariants as errors
use Rattle.bz_base.specs.declared.types.FindSymOpts.{FindSymOpts}
use Rattle.bz_files.specs.declared.files.Files.{Ghosts}
use Rattle.bz_cache.specs.Cache.{Cache}
use Rattle.bz_lookups.proofs.HeldLemmas.{Follows, calls_held, gives_handed, looked_made, never_faulted}
use Rattle.bz_lookups.specs.Formats.{HandedSource, handed_answer}
use Rattle.bz_symbolize.proofs.Formats.{on_file, on_handed}
use Rattle.bz_symbolize.specs.FileCall.{FileSome, Query, each_of, query_given}
use Rattle.bz_symbolize.specs.Promise.{AsksSource}
use Rattle.bz_symbolize.specs.Sources.{FileSource, Handed, asked_of, form_of}
use Rattle.bz_symbolize.specs.State.{State, WellKept}
use Rattle.bz_symbolize.specs.declared.source.Source.{Source}

-- a call that goes on by what is held does on the source what the look for it did
module _ {A B H X : Type 0} (files : Ghosts X) (reading : A → B) (query : Query B) (singles : H → ℕ → Result Answer Error) (before after : X) where
  pub asks_held : (source : Source) (opts : FindSymOpts) (held : Result H Error) (result : Result A Error) (old now : State) → Follows reading query singles held result →
      AsksSource files singles source opts (each_of query.kind) held old now before after → AsksSource files reading source opts query result old now before after
  asks_held source opts held result old now follows did = record {
    called = on_file query source did.called (λ file laws all.
        calls_held reading query singles files before after file.test file.answering opts file.path (file.cache old) (file.cache now) held result follows all);
    handed = on_handed source did.handed (λ given is. (gives_handed reading query singles given opts held result follows is.0, is.1, is.2));
    rest = did.rest;
    settings = did.settings;
    kept_well = did.kept_well;
    caches = did.caches;
    looked = looked_made reading query singles files before after held result follows did.looked;
  }

-- a version refuses a kind of address at most, and that is no failed read
never_failed : (serves : Bool) (answers : ℕ → Result Answer Error) → cond serves (Ok answers) (Err errors.Unsupported) ≡ Err errors.ReadFault → ⊥
never_failed true answers is = cc
never_failed false answers is = cc

-- so a call that goes on by what is held fails to read only where nothing was held, and nothing has
-- changed
module _ {A B H : Type 0} (reading : A → B) (query : Query B) (singles : H → ℕ → Result Answer Error) (opts : FindSymOpts) (file : FileSource) (old now : Cache) where
  look_failed : (held : Result H Error) → IsErrOf held errors.ReadFault → FileSome singles (asked_of file opts (each_of query.kind)) file.path held old now → now ≡ old
  look_failed held failed (inl by) = absurd (never_failed (file.answering.serves query.kind) (λ addr. file.answering.single opts file.path by.bytes query.kind addr)
      (subst (Gives singles (query_given file.answering opts file.path (each_of query.kind) by.bytes)) failed by.given))
  look_failed held failed (inr first) = first.unchanged

  pub call_failed : (held : Result H Error) (result : Result A Error) → Follows reading query singles held result →
      FileSome singles (asked_of file opts (each_of query.kind)) file.path held old now → IsErrOf result errors.ReadFault → now ≡ old
  call_failed (Ok h) result follows some failed = absurd (subst (λ (r : Result A Error). IfErr r MayRefuse) failed follows.1)
  call_failed (Err e) result follows some failed =
      let refused : IsErrOf {T = A} (Err e) errors.ReadFault = sym follows ∙ failed in
      let same : e ≡ errors.ReadFault = cc refused in
      look_failed (Err e) (ap Err same) some

-- a call on handed-in bytes that answers as they do leaves all as it is
module _ {A B X : Type 0} (files : Ghosts X) (reading : A → B) (source : Source) (opts : FindSymOpts) (query : Query B) (result : Result A Error) (old : State) (before : X) where
  pub asks_handed : (given : HandedSource) → form_of source ≡ Handed given → Gives reading (handed_answer given opts query) result → IfErr result MayRefuse → WellKept old →
      AsksSource files reading source opts query result old old before before
  asks_handed given is answer may kept = record {
    called = rw is tt;
    handed = rw is (answer, refl, refl);
    rest = rw is tt;
    settings = refl;
    kept_well = kept;
    caches = kept;
    looked = record {
      worlds = refl;
      pid = refl;
      faults = record { grows = le_refl _; fault = λ fault. absurd (never_faulted result may fault); steady = inr refl };
    };
  }
