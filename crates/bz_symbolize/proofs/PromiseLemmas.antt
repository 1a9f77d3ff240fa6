-- From what a call on one file does to what it promises in the words of the subject, whatever the
-- source and the query.
use Rattle.std.proofs.Common.{◌≡◌, ◌⊎◌, ℕ, Bool, true, false, cond, List, [], Option, Some, None, unwrap_or, Result, Ok, Err, IfOk, IfErr, inl, inr, refl, sym, ap, subst}
use Rattle.std.specs.FinMap as map
use Rattle.std.proofs.lemmas.Bool.{false≢true}
use Rattle.bz_base.specs.declared.error.Error.{Error}
use Rattle.bz_base.specs.declared.error.Error.TheVariants as errors
use Rattle.bz_base.specs.declared.types.FindSymOpts.{FindSymOpts}
use Rattle.bz_files.specs.World.{World, Entry, Denied, Present, entry_at}
use Rattle.bz_files.specs.declared.stamp.Stamp.{Stamp}
use Rattle.bz_cache.specs.Cache.{Cache, Consistent, kept_at}
use Rattle.bz_cache.specs.Coherence.{Coherent}
use Rattle.bz_cache.specs.Format.{GivesOrFaults}
use Rattle.bz_cache.specs.Look.{by_entry, by_fixed, look, by_test}
use Rattle.bz_cache.specs.View.{Shown, bytes_at, by_fixed_view, fixed, if_formed, shown, view}
use Rattle.bz_cache.proofs.CoherenceLaws.{shown_by_view}
use Rattle.bz_cache.proofs.Looking.{current_kept, fixed_current}
use Rattle.bz_cache.proofs.Naming.{some_at}
use Rattle.bz_symbolize.proofs.FileLemmas.{look_by_view}
use Rattle.bz_symbolize.specs.FileCall.{Query, by_look, query_given, file_answer, ByVersion, FileSome, MayBeRefused, view_answer}
use Rattle.bz_symbolize.specs.Sources.{FileSource, asked_of}
use Rattle.bz_symbolize.specs.Promise.{IsAnswerOf, IsVersionOf, AnswersView, AnswersLook, AnswersKept, IsValid, IsServedOrFails, IsServedKept, IsOwnRefusal, IsUnserved}
use Rattle.bz_symbolize.specs.State.{State, WellKept}
use Rattle.bz_symbolize.specs.declared.source.Source.{Source}

-- what is to be shown of each source that is one file. Its cache can be put back, and is well kept. Its
-- format means to a query what the subject says
pub record IsFormatOf {B : Type 0} (query : Query B) (source : Source) (file : FileSource) : Type 0 where
  pub same : (s : State) → file.with_cache s (file.cache s) ≡ s
  pub formed : (bytes : List ℕ) → IsVersionOf source bytes → file.test bytes ≡ None
  pub consistent : (s : State) → WellKept s → Consistent file.test (file.cache s)
  pub answers : (opts : FindSymOpts) (bytes : List ℕ) → file.test bytes ≡ None → file.answering.serves query.kind ≡ true →
      IsAnswerOf source opts bytes query (query.given (λ addr. file.answering.single opts file.path bytes query.kind addr))

-- where a version of the format is in view, a look gives one
module _ (test : List ℕ → Option Error) (c : Cache) (path : List ℕ) (world : World) (consistent : Consistent test c) (bytes : List ℕ) where
  -- a version of the format is taken
  taken : (s : Stamp) (v : List ℕ) → test v ≡ None → (by_test c path s v (test v)).0 ≡ Ok v
  taken s v formed = ap (λ (t : Option Error). (by_test c path s v t).0) formed

  -- the kept bytes, or else those that lie there, are in the format
  either_formed : (o : Option (List ℕ)) (there : List ℕ) → ((kept : List ℕ) → o ≡ Some kept → test kept ≡ None) → test there ≡ None → test (unwrap_or o there) ≡ None
  either_formed None there kept lies = lies
  either_formed (Some k) there kept lies = kept k refl

  abbrev IsTaken : Result (List ℕ) Error → Type 0
  IsTaken answer = (v : List ℕ) × (answer ≡ Ok v) × (test v ≡ None)

  taken_there : (there : Option Entry) → shown there ≡ Shown bytes → test bytes ≡ None → IsTaken (by_entry test c path there).0
  taken_there None is formed = cc is
  taken_there (Some Denied) is formed = cc is
  taken_there (Some (Present s b)) is formed =
      let same : bytes ≡ b = cc is in
      let v = unwrap_or (map.get c.kept s) b in
      let v_formed = either_formed (map.get c.kept s) b (λ k kept. consistent.formed s k kept) (subst (λ (d : List ℕ). test d ≡ None) same formed) in
      (v, taken s v v_formed, v_formed)

  taken_by : (o : Option Stamp) → fixed c path ≡ o → by_fixed_view c (entry_at world path) o ≡ Shown bytes → test bytes ≡ None → IsTaken (by_fixed test c path (entry_at world path) o).0
  taken_by None is shows formed = taken_there (entry_at world path) shows formed
  taken_by (Some s) is shows formed =
      let kept = current_kept test c path s [] consistent (fixed_current test c path s [] is) in
      (bytes_at c s, refl, consistent.formed s (bytes_at c s) (some_at (map.get c.kept s) [] kept))

  pub valid_look : view c world path ≡ Shown bytes → test bytes ≡ None → IsTaken (look test c path (entry_at world path)).0
  valid_look shows formed = taken_by (fixed c path) refl shows formed

module _ {B : Type 0} (opts : FindSymOpts) (source : Source) (file : FileSource) (query : Query B) (laws : IsFormatOf query source file) (old : State) where
  -- what a version answers, or refuses by itself, where it serves the kind of address
  served : (bytes : List ℕ) (answer : Result B Error) → file.test bytes ≡ None → file.answering.serves query.kind ≡ true →
      query_given file.answering opts file.path query bytes ≡ answer → IsAnswerOf source opts bytes query answer
  served bytes answer formed serves is =
      subst (λ (a : Result B Error). IsAnswerOf source opts bytes query a) (rw serves at is) (laws.answers opts bytes formed serves)

  -- an answer comes only where the kind is served
  by_kind : (bytes : List ℕ) (answer : B) (b : Bool) → file.answering.serves query.kind ≡ b → file.test bytes ≡ None →
      query_given file.answering opts file.path query bytes ≡ Ok answer → IsAnswerOf source opts bytes query (Ok answer)
  by_kind bytes answer true serves formed is = served bytes (Ok answer) formed serves is
  by_kind bytes answer false serves formed is = let none = rw serves at is in cc

  by_given : (bytes : List ℕ) (answer : B) → file.test bytes ≡ None → query_given file.answering opts file.path query bytes ≡ Ok answer → IsAnswerOf source opts bytes query (Ok answer)
  by_given bytes answer formed is = by_kind bytes answer (file.answering.serves query.kind) refl formed is

  -- a refusal is that of a kind which isn't served, or the version's own
  own_by_kind : (bytes : List ℕ) (e : Error) (b : Bool) → file.answering.serves query.kind ≡ b → file.test bytes ≡ None →
      query_given file.answering opts file.path query bytes ≡ Err e → ((file.answering.serves query.kind ≡ false) × (e ≡ errors.Unsupported)) ⊎ IsAnswerOf source opts bytes query (Err e)
  own_by_kind bytes e true serves formed is = inr (served bytes (Err e) formed serves is)
  own_by_kind bytes e false serves formed is = let unsupported = rw serves at is in inl (serves, cc)

  pub own_refusal : (bytes : List ℕ) (e : Error) → file.test bytes ≡ None → query_given file.answering opts file.path query bytes ≡ Err e →
      ((file.answering.serves query.kind ≡ false) × (e ≡ errors.Unsupported)) ⊎ IsAnswerOf source opts bytes query (Err e)
  own_refusal bytes e formed is = own_by_kind bytes e (file.answering.serves query.kind) refl formed is

  by_version : (bytes : List ℕ) (answer : B) (t : Option Error) → file.test bytes ≡ t → if_formed (asked_of file opts query).given bytes t ≡ Ok answer → IsAnswerOf source opts bytes query (Ok answer)
  by_version bytes answer None formed is = by_given bytes answer formed is
  by_version bytes answer (Some e) formed is = cc

  by_looked : (world : World) (answer : B) (looked : Result (List ℕ) Error) → (look file.test (file.cache old) file.path (entry_at world file.path)).0 ≡ looked →
      by_look (asked_of file opts query) looked ≡ Ok answer → AnswersLook opts source file old world query (Ok answer)
  by_looked world answer (Ok bytes) is comes = record { bytes = bytes; looked = is; answered = by_version bytes answer (file.test bytes) refl comes }
  by_looked world answer (Err e) is comes = cc

  by_taken : (world : World) (answer : B) (taken : Bool) →
      cond taken (by_look (asked_of file opts query) (look file.test (file.cache old) file.path (entry_at world file.path)).0) (Err errors.Unsupported) ≡ Ok answer →
      AnswersLook opts source file old world query (Ok answer)
  by_taken world answer true comes = by_looked world answer _ refl comes
  by_taken world answer false comes = cc

  module _ {A : Type 0} (reading : A → B) where
    -- an answered call answers the version that a look gives
    pub look_from_told : (world : World) (result : Result A Error) →
        GivesOrFaults reading (file_answer (asked_of file opts query) (file.cache old) file.path (entry_at world file.path)) result →
        IfOk result (λ given. AnswersLook opts source file old world query (Ok (reading given)))
    look_from_told world (Ok given) comes = by_taken world (reading given) (file.answering.takes query.kind) comes
    look_from_told world (Err e) comes = tt

    -- where kept versions cohere with the world, that is the version in view
    view_from_look : (world : World) (result : Result A Error) → Coherent (file.cache old).kept world →
        IfOk result (λ given. AnswersLook opts source file old world query (Ok (reading given))) →
        IfOk result (λ given. AnswersView opts source file old world query (reading given))
    view_from_look world (Ok given) coherent is = record {
      bytes = is.bytes;
      in_view = shown_by_view file.test (file.cache old) world file.path coherent is.bytes is.looked;
      answered = is.answered;
    }
    view_from_look world (Err e) coherent is = tt

    -- where kept versions cohere with the world, refusals have their causes in the view
    pub causes_from_told : (world : World) (result : Result A Error) → Coherent (file.cache old).kept world →
        GivesOrFaults reading (file_answer (asked_of file opts query) (file.cache old) file.path (entry_at world file.path)) result →
        GivesOrFaults reading (view_answer (asked_of file opts query) (file.cache old) world file.path) result
    causes_from_told world result coherent comes = rw (look_by_view (asked_of file opts query) (file.cache old) world file.path coherent) at comes

    -- a call whose answer is that of the version which a look gives is answered, or refused as this
    -- version refuses, or it fails
    served_by : (world : World) (bytes : List ℕ) (expected : Result B Error) (result : Result A Error) → (look file.test (file.cache old) file.path (entry_at world file.path)).0 ≡ Ok bytes →
        IsAnswerOf source opts bytes query expected → GivesOrFaults reading expected result → IsServedOrFails opts source file old world query result
    served_by world bytes expected (Ok given) looked is comes = tt
    served_by world bytes expected (Err errors.ReadFault) looked is comes = tt
    served_by world bytes expected (Err errors.OutOfMemory) looked is comes = tt
    served_by world bytes expected (Err e) looked is comes = record { bytes = bytes; looked = looked; answered = subst (λ (a : Result B Error). IsAnswerOf source opts bytes query a) comes is }

    pub view_from_told : (world : World) (result : Result A Error) → Coherent (file.cache old).kept world →
        GivesOrFaults reading (file_answer (asked_of file opts query) (file.cache old) file.path (entry_at world file.path)) result →
        IfOk result (λ given. AnswersView opts source file old world query (reading given))
    view_from_told world result coherent comes = view_from_look world result coherent (look_from_told world result comes)

    -- where a version of the format is in view, a call that it serves is such a one
    pub complete_from_told : WellKept old → (world : World) (result : Result A Error) →
        GivesOrFaults reading (file_answer (asked_of file opts query) (file.cache old) file.path (entry_at world file.path)) result →
        IsValid source file old world query.kind → IsServedOrFails opts source file old world query result
    complete_from_told well world result comes valid =
        let given = valid_look file.test (file.cache old) file.path world (laws.consistent old well) valid.bytes valid.in_view (laws.formed valid.bytes valid.formed) in
        let expected : file_answer (asked_of file opts query) (file.cache old) file.path (entry_at world file.path) ≡ query_given file.answering opts file.path query given.0 = rw (valid.takes, given.1, given.2) refl in
        served_by world given.0 _ result given.1 (served given.0 _ given.2 valid.serves refl) (rw expected at comes)

    module _ (now : State) where
      -- the version that answered is kept
      pub kept_by : (by_bytes : List ℕ) (answer : Result B Error) → kept_at (file.cache now) file.path ≡ Some by_bytes → IsAnswerOf source opts by_bytes query answer →
          AnswersKept opts source file now query answer
      kept_by bytes answer kept is = record { bytes = bytes; kept = kept; answered = is }

      -- whatever is told, the kept version is answered
      pub kept_from_some : (result : Result A Error) → FileSome reading (asked_of file opts query) file.path result (file.cache old) (file.cache now) →
          IfOk result (λ given. AnswersKept opts source file now query (Ok (reading given)))
      kept_from_some (Ok given) (inl by) = kept_by by.bytes _ by.kept.0 (by_given by.bytes (reading given) by.kept.1 by.given)
      kept_from_some (Ok given) (inr first) = absurd (false≢true first.refused)
      kept_from_some (Err e) some = tt

      -- a version that is kept and serves the kind answers, or refuses what is asked by itself
      pub ready_from_version : (result : Result A Error) → file.answering.serves query.kind ≡ true →
          ByVersion reading (asked_of file opts query) file.path result (file.cache old) (file.cache now) → IsServedKept opts source file query result now
      ready_from_version (Ok given) serves by = tt
      ready_from_version (Err errors.OutOfMemory) serves by = tt
      ready_from_version (Err e) serves by = kept_by by.bytes (Err e) by.kept.0 (served by.bytes (Err e) by.kept.1 serves by.given)

      abbrev MayRefuse : Error → Type 0
      MayRefuse e = MayBeRefused (IsUnserved file query.kind) file.test e

      unsupported_may : (e : Error) → file.answering.serves query.kind ≡ false → e ≡ errors.Unsupported → MayRefuse e
      unsupported_may e serves is = subst MayRefuse (sym is) (inl (inr serves))

      -- a kind that isn't taken is one that isn't served
      first_may : (e : Error) → MayBeRefused (file.answering.takes query.kind ≡ false) file.test e → MayRefuse e
      first_may errors.Unsupported (inl untaken) = inl (inl untaken)
      first_may errors.Unsupported (inr may) = inr may
      first_may _ may = may

      refusal_by : (bytes : List ℕ) (e : Error) → ((file.answering.serves query.kind ≡ false) × (e ≡ errors.Unsupported)) ⊎ IsAnswerOf source opts bytes query (Err e) →
          MayRefuse e ⊎ IsOwnRefusal source opts query e
      refusal_by bytes e (inl kind) = inl (unsupported_may e kind.0 kind.1)
      refusal_by bytes e (inr own) = inr (bytes, own)

      -- whatever is told, which refusals may come
      pub refusal_from_some : (result : Result A Error) → FileSome reading (asked_of file opts query) file.path result (file.cache old) (file.cache now) →
          IfErr result (λ e. MayRefuse e ⊎ IsOwnRefusal source opts query e)
      refusal_from_some (Ok given) some = tt
      refusal_from_some (Err e) (inr first) = inl (first_may e first.refusal)
      refusal_from_some (Err errors.OutOfMemory) (inl by) = inl tt
      refusal_from_some (Err e) (inl by) = refusal_by by.bytes e (own_refusal by.bytes e by.kept.1 by.given)
