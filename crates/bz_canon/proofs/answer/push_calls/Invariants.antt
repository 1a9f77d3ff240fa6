use Rattle.std.proofs.Common.{◌≡◌, ◌++◌, map, take, string_bytes}
use Rattle.bz_base.specs.Answer.{call_of}
use Rattle.bz_canon.specs.AnswerText.{calls_text}
use Rattle.bz_canon.proofs.answer.push_calls.Given as goal

-- what is written is the texts of the calls so far
abbrev pub invariant-loop-call : goal.invariant-loop-call
invariant-loop-call l = string_bytes l.text ≡ string_bytes l.fn.text ++ calls_text (map call_of (take l.call-index l.calls))
