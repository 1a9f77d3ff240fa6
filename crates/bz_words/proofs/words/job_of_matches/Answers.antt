use Rattle.std.proofs.Common.{◌≡◌, ◌∙◌, ℕ, List, Option, Result, [], codes, map, option_map, sym, ap, unwrap_or, Bor, IfOk}
use Rattle.clap.proofs.WalkLemmas.{raw_values-rows}
use Rattle.clap.specs.Words.{Row, Text, all_of, first_of, found_of, rows_of}
use Rattle.bz_words.specs.Command.{job_in, job_of}
use Rattle.bz_words.specs.declared.given.Job as made
use Rattle.bz_words.proofs.words.job_of_matches.Goals as goal

-- the job by the kind, the kind of address and the words that were found is the job by the matches
found_job : {E : Type 0} (result : Result (Option made.Job) E) (found : List Row) (kind input : Option Text) (args : List Text) →
    kind ≡ first_of (codes "kind") found → input ≡ first_of (codes "input") found → unwrap_or (all_of (codes "arg") found) [] ≡ args →
    IfOk result (λ job. option_map job_of job ≡ job_in kind input args) →
    IfOk result (λ job. option_map job_of job ≡ job_in (first_of (codes "kind") found) (first_of (codes "input") found) (unwrap_or (all_of (codes "arg") found) []))
found_job result found kind input args kind_is input_is args_are is = rw (args_are, ← kind_is, ← input_is) is

pub returns-in-Some : goal.returns-in-Some
returns-in-Some c =
    let matches = c.args.matches.now in
    let texts : Bor (List (Bor (List ℕ))) → List Text = λ given. map (λ text. text.now) given.now in
    let given = ap (option_map texts) (sym c.in-Some.is) ∙ c.get_strs.ensures ∙ raw_values-rows (found_of matches) (codes "arg") in
    found_job c.job_given.result (rows_of (found_of matches)) _ _ _ c.text-kind.ensures c.text-input.ensures (ap (λ (o : Option (List Text)). unwrap_or o []) (sym given)) c.job_given.ensures

pub returns-in-None : goal.returns-in-None
returns-in-None c =
    let matches = c.args.matches.now in
    let texts : Bor (List (Bor (List ℕ))) → List Text = λ given. map (λ text. text.now) given.now in
    let given = ap (option_map texts) (sym c.in-None.is) ∙ c.get_strs.ensures ∙ raw_values-rows (found_of matches) (codes "arg") in
    found_job c.job_given-in-None.result (rows_of (found_of matches)) _ _ _ c.text-kind.ensures c.text-input.ensures (ap (λ (o : Option (List Text)). unwrap_or o []) (sym given)) c.job_given-in-None.ensures
