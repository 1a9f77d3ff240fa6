use Rattle.std.proofs.Common.{◌≡◌, ◌++◌, string_bytes}
use Rattle.bz_canon.specs.Generated.{functions_text, generated_text}
use Rattle.bz_canon.proofs.generate.gen_text.Given as goal

-- what is left joins the text to that of all functions
abbrev pub invariant-loop-i : goal.invariant-loop-i
invariant-loop-i l = string_bytes l.text ++ functions_text l.i ≡ generated_text l.functions
