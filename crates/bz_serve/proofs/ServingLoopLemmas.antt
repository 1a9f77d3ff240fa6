-- Requests one after the other: what was written so far, and what is left.
use Rattle.std.proofs.Common.{◌≡◌, ◌≤◌, ◌<◌, ◌+◌, ℕ, List, [], ◌∷◌, ◌++◌, length, drop, get_or, map, Option, Some, None, option_map, Result, Ok, Err, refl, sym, ap, subst, ◌∙◌, inl, inr, append_assoc, append-nil, arith}
use Rattle.std.proofs.lemmas.List.{drop_all, drop_more}
use Rattle.bz_files.specs.Count.{CountsFaults}
use Rattle.bz_files.specs.World.{World, Told, in_view, next_worlds}
use Rattle.bz_files.specs.declared.files.Files as files_trait
use Rattle.bz_files.specs.declared.text.TextOut as output_trait
use Rattle.bz_requests.specs.Requests.{Request}
use Rattle.bz_requests.specs.declared.requests.Config.{Config}
use Rattle.bz_symq.specs.Run.{WritesFront}
use Rattle.bz_symq.specs.declared.status.Status.{Status}
use Rattle.bz_symq.proofs.FaultLemmas.{counts_as, counts_still, no_fault}
use Rattle.bz_symq.specs.Kept.{KeptState, new_kept, opts_in, settings_of}
use Rattle.bz_serve.specs.RequestRuns.{reads_from, seen_first, texts_from, turns, worlds_after}
use Rattle.bz_serve.specs.Serving.{EndsAs, Served, Serves, ServesAll, ToldWorlds}
use Rattle.bz_serve.specs.RequestSteps.{RequestOutcome, step as request_step}
use Rattle.bz_serve.specs.SomeReplies.{MayReply}
use Rattle.bz_serve.specs.declared.serving.Stop.{Stop}
use Rattle.bz_serve.specs.declared.serving.Stop.TheVariants as stops
use Rattle.bz_serve.proofs.RepliesLemmas.{RepliedSoFar, replied_all, replied_more, replied_none}

-- where one world is in view, one still is once the next came into view
next_seen : (world : World) (later : List World) → next_worlds (world ∷ later) ≡ seen_first (next_worlds (world ∷ later)) ∷ drop 1 (next_worlds (world ∷ later))
next_seen world [] = refl
next_seen world (next ∷ later) = refl

-- after no request the worlds are as they were
turned_none : (told : Option (List World)) → told ≡ option_map (λ worlds. worlds) told
turned_none None = refl
turned_none (Some worlds) = refl

-- a request brings the next one, and those that are left go on from there
turned_more : {A : Type 0} (request : A) (left : List A) (told : Option (List World)) → option_map (worlds_after left) (option_map next_worlds told) ≡ option_map (worlds_after (request ∷ left)) told
turned_more request left None = refl
turned_more request left (Some worlds) = refl

-- a front of the text was written, and the rest is what is left
pub record Wrote (text rest : List ℕ) (first now : Option (List ℕ)) : Type 0 where
  pub front : List ℕ
  pub whole : text ≡ front ++ rest
  pub written : Told first (λ was. now ≡ Some (was ++ front))

-- one more text joins the front
wrote_more : (text one rest : List ℕ) (first written after : Option (List ℕ)) → Wrote text (one ++ rest) first written →
    ((was : List ℕ) → written ≡ Some was → after ≡ Some (was ++ one)) → Wrote text rest first after
wrote_more text one rest first written after so_far adds = record {
  front = so_far.front ++ one;
  whole = so_far.whole ∙ sym (append_assoc so_far.front one rest);
  written = λ was told. adds (was ++ so_far.front) (so_far.written was told) ∙ ap Some (append_assoc was so_far.front one);
}

-- or a front of it
wrote_front : (text one rest : List ℕ) (first written after : Option (List ℕ)) → Wrote text (one ++ rest) first written →
    ((was : List ℕ) → written ≡ Some was → WritesFront one was after) → Told first (λ was. WritesFront text was after)
wrote_front text one rest first written after so_far adds was told =
    let more = adds (was ++ so_far.front) (so_far.written was told) in
    let inner : one ++ rest ≡ more.0 ++ (more.1 ++ rest) = ap (λ p. p ++ rest) more.2 ∙ append_assoc more.0 more.1 rest in (
      so_far.front ++ more.0,
      more.1 ++ rest,
      so_far.whole ∙ (ap (λ all. so_far.front ++ all) inner ∙ sym (append_assoc so_far.front more.0 (more.1 ++ rest))),
      more.3 ∙ ap Some (append_assoc was so_far.front more.0),
    )

-- an empty text has empty parts
nothing_in : (front rest : List ℕ) → [] ≡ front ++ rest → (front ≡ []) × (rest ≡ [])
nothing_in [] [] none = (refl, refl)
nothing_in [] (b ∷ bs) none = cc
nothing_in (b ∷ bs) rest none = cc

-- so nothing is left to be said where the whole text is empty
wrote_nothing : (text one rest : List ℕ) (first written : Option (List ℕ)) → Wrote text (one ++ rest) first written → text ≡ [] → one ≡ []
wrote_nothing text one rest first written so_far nothing = (nothing_in one rest (sym (nothing_in so_far.front (one ++ rest) (sym nothing ∙ so_far.whole)).1)).0

fewer : (opens opened one rest others reads : ℕ) → opens + (one + rest) ≤ reads → opened ≤ opens + one → rest ≡ others → opened + others ≤ reads
fewer opens opened one rest others reads few counts same = omega (arith, few, counts, same)

fewest : (opens opened one rest reads : ℕ) → opens + (one + rest) ≤ reads → opened ≤ opens + one → opened ≤ reads
fewest opens opened one rest reads few counts = omega (arith, few, counts)

-- by what each request comes to, whatever requests are
module _ {A : Type 0} (step : A → KeptState → World → RequestOutcome) where
  -- worlds are told, in which the requests left come to the rest of the text, and read no more than is
  -- left of all reads
  pub record SoFar (text : List ℕ) (reads : ℕ) (state : KeptState) (left : List A) (first written : Option (List ℕ)) (opens : ℕ) (told : Option (List World)) : Type 0 where
    pub world : World
    pub later : List World
    pub told_is : told ≡ Some (world ∷ later)
    pub wrote : Wrote text (texts_from step state (turns left (world ∷ later))) first written
    pub few : opens + reads_from step state (turns left (world ∷ later)) ≤ reads

  -- a request is to be answered in the next world
  module _ (text : List ℕ) (reads : ℕ) (state : KeptState) (request : A) (left : List A) (first written : Option (List ℕ)) (opens : ℕ) (told begun : Option (List World))
      (so_far : SoFar text reads state (request ∷ left) first written opens told) (begins : begun ≡ option_map next_worlds told) where
    abbrev next : List World
    next = next_worlds (so_far.world ∷ so_far.later)

    abbrev seen : World
    seen = seen_first next

    begun_is : begun ≡ Some (seen ∷ drop 1 next)
    begun_is = begins ∙ ap (option_map next_worlds) so_far.told_is ∙ ap Some (next_seen so_far.world so_far.later)

    pub in_view_is : in_view begun ≡ Some seen
    in_view_is = ap in_view begun_is

    -- it was, and its text was written
    pub so_far_more : (now : KeptState) (after : Option (List ℕ)) (opened : ℕ) → ((was : List ℕ) → written ≡ Some was → after ≡ Some (was ++ (step request state seen).text)) →
        now ≡ (step request state seen).state → opened ≤ opens + (step request state seen).reads → SoFar text reads now left first after opened begun
    so_far_more now after opened wrote leaves counts = record {
      world = seen;
      later = drop 1 next;
      told_is = begun_is;
      wrote = subst (λ rest. Wrote text rest first after) texts_are (wrote_more text (step request state seen).text _ first written after so_far.wrote wrote);
      few = fewer opens opened (step request state seen).reads _ _ reads so_far.few counts reads_are;
    }
      where
        texts_are : texts_from step (step request state seen).state (turns left next) ≡ texts_from step now (turns left (seen ∷ drop 1 next))
        texts_are = ap (λ (s : KeptState). texts_from step s (turns left next)) (sym leaves) ∙ ap (λ (worlds : List World). texts_from step now (turns left worlds)) (next_seen so_far.world so_far.later)

        reads_are : reads_from step (step request state seen).state (turns left next) ≡ reads_from step now (turns left (seen ∷ drop 1 next))
        reads_are = ap (λ (s : KeptState). reads_from step s (turns left next)) (sym leaves) ∙ ap (λ (worlds : List World). reads_from step now (turns left worlds)) (next_seen so_far.world so_far.later)

    -- it stopped the run, and a front of its text was written
    pub so_far_front : (after : Option (List ℕ)) → ((was : List ℕ) → written ≡ Some was → WritesFront (step request state seen).text was after) → Told first (λ was. WritesFront text was after)
    so_far_front after wrote = wrote_front text (step request state seen).text _ first written after so_far.wrote wrote

    -- where the whole text is empty, its own is
    pub so_far_nothing : text ≡ [] → (step request state seen).text ≡ []
    so_far_nothing nothing = wrote_nothing text (step request state seen).text _ first written so_far.wrote nothing

    pub so_far_few : (opened : ℕ) → opened ≤ opens + (step request state seen).reads → opened ≤ reads
    so_far_few opened counts = fewest opens opened (step request state seen).reads _ reads so_far.few counts

module _ {A W F : Type 0} (writes : output_trait.Ghosts W) (looks : files_trait.Ghosts F) (step : ℕ → A → KeptState → World → RequestOutcome) (MaySay : A → List ℕ → Type 0) where
  -- so far no request stopped the run
  pub record ServedSoFar (requests left : List A) (start state : KeptState) (output_first output : W) (files_first files : F) : Type 0 where
    pub so_far : ToldWorlds (looks.worlds files_first) (λ worlds.
        SoFar (step (looks.pid files_first)) (texts_from (step (looks.pid files_first)) start (turns requests worlds)) (looks.opens files_first + reads_from (step (looks.pid files_first)) start (turns requests worlds))
        state left (writes.written output_first) (writes.written output) (looks.opens files) (looks.worlds files))
    pub untold : Told (writes.written output_first) (λ was. RepliedSoFar MaySay requests left was (writes.written output))
    pub silent : ToldWorlds (looks.worlds files_first) (λ worlds. texts_from (step (looks.pid files_first)) start (turns requests worlds) ≡ [] → output ≡ output_first)
    pub turned : option_map (worlds_after left) (looks.worlds files) ≡ option_map (worlds_after requests) (looks.worlds files_first)
    pub output_steady : writes.faults output ≡ writes.faults output_first
    pub files_steady : looks.faults files ≡ looks.faults files_first
    pub pid : looks.pid files ≡ looks.pid files_first

  -- before the first one
  pub served_none : (requests : List A) (start : KeptState) (output : W) (files : F) → ServedSoFar requests requests start start output output files files
  served_none requests start output files = record {
    so_far = λ world later told. record {
      world = world;
      later = later;
      told_is = told;
      wrote = record { front = []; whole = refl; written = λ was written. written ∙ ap Some (sym (append-nil was)) };
      few = omega arith;
    };
    untold = λ was written. replied_none MaySay requests was (writes.written output) written;
    silent = λ world later told nothing. refl;
    turned = refl;
    output_steady = refl;
    files_steady = refl;
    pid = refl;
  }

  module _ (requests left : List A) (request : A) (start state now : KeptState) (output_first output output_now : W) (files_first files begun files_now : F)
      (so_far : ServedSoFar requests (request ∷ left) start state output_first output files_first files)
      (begins : looks.worlds begun ≡ option_map next_worlds (looks.worlds files)) (same_faults : looks.faults begun ≡ looks.faults files) (same_opens : looks.opens begun ≡ looks.opens files)
      (same_pid : looks.pid begun ≡ looks.pid files) where
    -- one more, whose text may be said
    pub served_more : {given : Unit {0}} {MayNow : List ℕ → Type 0} → Served writes looks (step (looks.pid begun) request) MayNow (Ok given) state now output output_now begun files_now →
        ((text : List ℕ) → MayNow text → MaySay request text) → ServedSoFar requests left start now output_first output_now files_first files_now
    served_more {given} {MayNow} served may =
        let one = subst (λ (own : ℕ). Served writes looks (step own request) MayNow (Ok given) state now output output_now begun files_now) (same_pid ∙ so_far.pid) served in
        record {
          so_far = λ world later told.
              let before = so_far.so_far world later told in
              let seen_is = in_view_is _ _ _ state request left _ _ _ _ (looks.worlds begun) before begins in
              let more = so_far_more _ _ _ state request left _ _ _ _ (looks.worlds begun) before begins now (writes.written output_now) (looks.opens files_now) (one.whole _ seen_is) (one.state _ seen_is)
              (rw (← same_opens) (one.reads _ seen_is)) in
              rw one.looked.worlds more;
          untold = λ was written. replied_more MaySay requests left request was (writes.written output) (writes.written output_now) (so_far.untold was written) (λ old told. let said = one.untold old told in (said.0, may said.0 said.1, said.2));
          silent = λ world later told nothing.
              let before = so_far.so_far world later told in
              let seen_is = in_view_is _ _ _ state request left _ _ _ _ (looks.worlds begun) before begins in
              one.silent _ seen_is (so_far_nothing _ _ _ state request left _ _ _ _ (looks.worlds begun) before begins nothing) ∙ so_far.silent world later told nothing;
          turned = ap (option_map (worlds_after left)) (one.looked.worlds ∙ begins) ∙ turned_more request left (looks.worlds files) ∙ so_far.turned;
          output_steady = no_fault _ _ _ (λ never. never) one.output_faults ∙ so_far.output_steady;
          files_steady = no_fault _ _ _ (λ never. never) one.looked.faults ∙ same_faults ∙ so_far.files_steady;
          pid = one.looked.pid ∙ same_pid ∙ so_far.pid;
        }

    -- it stopped the run
    pub served_stopped : {MayNow : List ℕ → Type 0} (stop : Stop) → Served writes looks (step (looks.pid begun) request) MayNow (Err stop) state now output output_now begun files_now →
        ServesAll writes looks step MaySay requests (Err stop) start output_first output_now files_first files_now
    served_stopped {MayNow} stop served =
        let one = subst (λ (own : ℕ). Served writes looks (step own request) MayNow (Err stop) state now output output_now begun files_now) (same_pid ∙ so_far.pid) served in
        record {
          whole = λ world later told was written. tt;
          front = λ world later told.
              let before = so_far.so_far world later told in
              let seen_is = in_view_is _ _ _ state request left _ _ _ _ (looks.worlds begun) before begins in
              so_far_front _ _ _ state request left _ _ _ _ (looks.worlds begun) before begins (writes.written output_now) (one.front _ seen_is);
          untold = λ was written. tt;
          silent = λ world later told nothing.
              let before = so_far.so_far world later told in
              let seen_is = in_view_is _ _ _ state request left _ _ _ _ (looks.worlds begun) before begins in
              one.silent _ seen_is (so_far_nothing _ _ _ state request left _ _ _ _ (looks.worlds begun) before begins nothing) ∙ so_far.silent world later told nothing;
          reads = λ world later told.
              let before = so_far.so_far world later told in
              let seen_is = in_view_is _ _ _ state request left _ _ _ _ (looks.worlds begun) before begins in
              so_far_few _ _ _ state request left _ _ _ _ (looks.worlds begun) before begins (looks.opens files_now) (rw (← same_opens) (one.reads _ seen_is));
          turned = tt;
          output_faults = subst (λ (n : ℕ). CountsFaults n (writes.faults output_now) (stop ≡ stops.Output)) so_far.output_steady one.output_faults;
          files_faults = subst (λ (n : ℕ). CountsFaults n (looks.faults files_now) (stop ≡ stops.Files)) (same_faults ∙ so_far.files_steady) one.looked.faults;
          pid = one.looked.pid ∙ same_pid ∙ so_far.pid;
        }

  -- none is left
  pub served_all : {given : Unit {0}} (requests : List A) (start state : KeptState) (output_first output : W) (files_first files : F) →
      ServedSoFar requests [] start state output_first output files_first files → ServesAll writes looks step MaySay requests (Ok given) start output_first output files_first files
  served_all requests start state output_first output files_first files all = record {
    whole = λ world later told was written.
        let wrote = (all.so_far world later told).wrote in
        wrote.written was written ∙ ap (λ text. Some (was ++ text)) (sym (wrote.whole ∙ append-nil wrote.front));
    front = λ world later told was written. tt;
    untold = λ was written. replied_all MaySay requests was (writes.written output) (all.untold was written);
    silent = all.silent;
    reads = λ world later told. let few = (all.so_far world later told).few in omega (arith, few);
    turned = turned_none (looks.worlds files) ∙ all.turned;
    output_faults = counts_still _ _ _ (λ never. never) all.output_steady;
    files_faults = counts_still _ _ _ (λ never. never) all.files_steady;
    pid = all.pid;
  }

-- requests that are gone over by an index, each read as it is told
module _ {M A W F : Type 0} (writes : output_trait.Ghosts W) (looks : files_trait.Ghosts F) (step : ℕ → A → KeptState → World → RequestOutcome) (MaySay : A → List ℕ → Type 0) (read : M → A) (requests : List M) (index : ℕ)
    (start state : KeptState) (output_first output : W) (files_first files : F) where
  abbrev WithLeft : List A → Type 0
  WithLeft left = ServedSoFar writes looks step MaySay (map read requests) left start state output_first output files_first files

  -- the next one is the first of those that are left
  pub next_left : (request : M) → index < length requests → request ≡ get_or requests index request → WithLeft (map read (drop index requests)) → WithLeft (read request ∷ map read (drop (index + 1) requests))
  next_left request within is so_far =
      subst (λ (left : List M). WithLeft (map read left)) (drop_more requests index request within ∙ ap (λ first. first ∷ drop (index + 1) requests) (sym is)) so_far

  -- past the last one none is left
  pub none_left : length requests ≤ index → WithLeft (map read (drop index requests)) → WithLeft []
  none_left past so_far = subst (λ (left : List M). WithLeft (map read left)) (drop_all index requests past) so_far

module _ {W F : Type 0} (writes : output_trait.Ghosts W) (looks : files_trait.Ghosts F) where
  -- the run ends by what stopped it
  pub serves_from_all : (config : Config) (requests : List Request) (result : Result (Unit {0}) Stop) (ended : Status) (output_before output_after : W) (files_before files_after : F) →
      ServesAll writes looks (request_step config.map_files) (MayReply (opts_in config)) requests result (new_kept (settings_of config)) output_before output_after files_before files_after → EndsAs result ended →
      Serves writes looks config requests ended output_before output_after files_before files_after
  serves_from_all config requests (Ok given) ended output_before output_after files_before files_after all is = rw is (record {
    ends = λ world later told was written. (refl, all.whole world later told was written);
    answered = λ _. all.untold;
    silent = all.silent;
    status = inl refl;
    reads = all.reads;
    turned = λ _. all.turned;
    fails = inl (counts_still _ _ _ (λ other. cc) (no_fault _ _ _ (λ never. never) all.output_faults), no_fault _ _ _ (λ never. never) all.files_faults);
    pid = all.pid;
  })
  serves_from_all config requests (Err stops.Files) ended output_before output_after files_before files_after all is = rw is (record {
    ends = λ world later told was written. all.front world later told was written;
    answered = λ other. cc;
    silent = all.silent;
    status = inr (inl refl);
    reads = all.reads;
    turned = λ other. cc;
    fails = inr (counts_as _ _ (λ failed. refl) (λ failed. refl) all.files_faults, no_fault _ _ _ (λ other. cc) all.output_faults);
    pid = all.pid;
  })
  serves_from_all config requests (Err stops.Output) ended output_before output_after files_before files_after all is = rw is (record {
    ends = λ world later told was written. all.front world later told was written;
    answered = λ other. cc;
    silent = all.silent;
    status = inr (inl refl);
    reads = all.reads;
    turned = λ other. cc;
    fails = inl (counts_as _ _ (λ failed. refl) (λ failed. refl) all.output_faults, no_fault _ _ _ (λ other. cc) all.files_faults);
    pid = all.pid;
  })
  serves_from_all config requests (Err stops.Memory) ended output_before output_after files_before files_after all is = rw is (record {
    ends = λ world later told was written. all.front world later told was written;
    answered = λ other. cc;
    silent = all.silent;
    status = inr (inr refl);
    reads = all.reads;
    turned = λ other. cc;
    fails = inl (counts_still _ _ _ (λ other. cc) (no_fault _ _ _ (λ other. cc) all.output_faults), no_fault _ _ _ (λ other. cc) all.files_faults);
    pid = all.pid;
  })
