-- What frames answered one by one promise of their answers and of the keys that are kept.
use Rattle.std.proofs.Common.{◌≡◌, ◌≤◌, ◌+◌, List, [], length, take, Some, Result, Ok, Err, sym, ap, ap₂, subst, ◌∙◌}
use Rattle.std.specs.Prelude.{IfErr}
use Rattle.bz_base.specs.Refusals.{IsFailure}
use Rattle.bz_base.specs.declared.error.Error.{Error}
use Rattle.bz_base.specs.declared.types.FindSymOpts.{FindSymOpts}
use Rattle.bz_files.specs.Looked.{Faulted, Looked}
use Rattle.bz_files.specs.World.{World, in_view}
use Rattle.bz_files.specs.declared.files.Files.{Ghosts}
use Rattle.bz_store.specs.Calls.{AnswersFrames, OneByOne, found_each, state, with_files}
use Rattle.bz_store.specs.Frames.{Frame, FrameReading}
use Rattle.bz_store.specs.Plain.{AreOfWorld, answered, keys, keys_after, opens_after_all}
use Rattle.bz_store.specs.Shelf.{Shelf}
use Rattle.bz_store.specs.Visits.{State, visited}
use Rattle.bz_store.proofs.Plainly.{answers_on, keys_told, opens_told}

module _ {X A : Type 0} (files : Ghosts X) (readings : A → List FrameReading) (opts : FindSymOpts) (frames : List Frame) (before after : Shelf) (old new : X) where
  abbrev start : State
  start = state before [] (files.opens old)

  pub promised : (r : Result A Error) → OneByOne files readings opts frames r before after old new → files.opens new ≤ files.opens old + length frames → after ≡ with_files before after.files → Looked files old new (Faulted r) → IfErr r IsFailure →
      AnswersFrames files readings opts frames r before after old new
  promised (Ok a) each most place looked failure =
      let end = each.ok.1 in
      let seen : (world : World) → in_view (files.worlds old) ≡ Some world → each.visits ≡ found_each world before.root frames = λ world told. each.told world told ∙ ap (found_each world before.root) each.ok.0 in
      record {
        alone = λ world told agrees. ap (λ s. s.answers) end ∙ ap (λ vs. (visited before.cap opts vs start).answers) (seen world told) ∙ (answers_on world before.root before.cap opts frames start agrees).1;
        agrees = λ world told agrees. subst (AreOfWorld world before.root) (sym (ap (λ s. s.kept) end ∙ ap (λ vs. (visited before.cap opts vs start).kept) (seen world told))) (answers_on world before.root before.cap opts frames start agrees).0;
        kept = ap (λ s. keys s.kept) end ∙ keys_told before.cap opts each.visits before.files (files.opens old)
            ∙ ap₂ (λ fs rs. keys_after before.cap (answered fs rs) (keys before.files)) each.ok.0 (sym (ap (λ s. s.answers) end));
        err = λ world told agrees. tt;
        opens = λ world told. ap (λ s. s.opens) end ∙ opens_told before.cap opts each.visits before.files (files.opens old)
            ∙ ap₂ (λ vs rs. opens_after_all before.cap vs rs (keys before.files) (files.opens old)) (seen world told) (sym (ap (λ s. s.answers) end));
        most = most;
        each = each;
        place = place;
        looked = looked;
        failure = failure;
      }
  promised (Err e) each most place looked failure =
      let n = each.err.0 in
      let seen : (world : World) → in_view (files.worlds old) ≡ Some world → each.visits ≡ found_each world before.root (take n frames) = λ world told. each.told world told ∙ ap (found_each world before.root) each.err.1 in
      record {
        alone = λ world told agrees. tt;
        agrees = λ world told agrees. subst (AreOfWorld world before.root) (sym (each.err.2 ∙ ap (λ vs. (visited before.cap opts vs start).kept) (seen world told))) (answers_on world before.root before.cap opts (take n frames) start agrees).0;
        kept = tt;
        err = λ world told agrees. (
          n,
          ap keys each.err.2 ∙ keys_told before.cap opts each.visits before.files (files.opens old)
              ∙ ap₂ (λ fs rs. keys_after before.cap (answered fs rs) (keys before.files)) each.err.1
              (ap (λ vs. (visited before.cap opts vs start).answers) (seen world told) ∙ (answers_on world before.root before.cap opts (take n frames) start agrees).1),
        );
        opens = λ world told. tt;
        most = most;
        each = each;
        place = place;
        looked = looked;
        failure = failure;
      }
