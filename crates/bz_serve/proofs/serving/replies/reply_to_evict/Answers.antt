use Rattle.std.proofs.Common.{◌∙◌, ap, subst, sym}
use Rattle.bz_symbolize.specs.Requests.{evict_read}
use Rattle.bz_symq.specs.Kept.{kept_of}
use Rattle.bz_serve.specs.Serving.{AreKeptOfText}
use Rattle.bz_serve.proofs.DoesLemmas.{forgets_kept}
use Rattle.bz_serve.proofs.KeptTextLemmas.{forgotten_of_text}
use Rattle.bz_serve.proofs.SomeReplyLemmas.{forgotten_settings}
use Rattle.bz_serve.proofs.serving.replies.reply_to_evict.Goals as goal

-- what is left is what forgetting leaves
pub returns-clause-state : goal.returns-clause-state
returns-clause-state c asked is = ap kept_of (rw is at c.in_ok-evict.ensures.state) ∙ forgets_kept asked c.args.symbolizer.now

-- and the settings stay
pub returns-clause-settings : goal.returns-clause-settings
returns-clause-settings c = ap (λ whole. whole.files.settings) c.in_ok-evict.ensures.state ∙ forgotten_settings (evict_read c.args.evict.now) c.args.symbolizer.now

-- and so the mappings of any other process
pub returns-clause-kept : goal.returns-clause-kept
returns-clause-kept c = subst AreKeptOfText (sym (ap (λ whole. whole.processes.mappings) c.in_ok-evict.ensures.state)) (forgotten_of_text (evict_read c.args.evict.now) c.args.symbolizer.now c.requires)

-- forgetting is never refused
pub returns-in_err-evict-clause-says : goal.returns-in_err-evict-clause-says
returns-in_err-evict-clause-says c = cc c.in_err-evict.ensures.answer

pub returns-in_err-evict-clause-state : goal.returns-in_err-evict-clause-state
returns-in_err-evict-clause-state c asked is = cc c.in_err-evict.ensures.answer

pub returns-in_err-evict-clause-settings : goal.returns-in_err-evict-clause-settings
returns-in_err-evict-clause-settings c = cc c.in_err-evict.ensures.answer

pub returns-in_err-evict-clause-kept : goal.returns-in_err-evict-clause-kept
returns-in_err-evict-clause-kept c = cc c.in_err-evict.ensures.answer
