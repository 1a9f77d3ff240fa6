use Rattle.std.proofs.Common.{◌≡◌, ◌++◌, length, map}
use Rattle.bz_requests.specs.Fields.{fields}
use Rattle.bz_requests.proofs.field.fields.Given as goal

-- the fields so far and those of what is left are those of the whole
abbrev pub invariant-loop-field : goal.invariant-loop-field
invariant-loop-field l = map (λ field. field.now) l.all.items ++ fields l.rest ≡ fields l.text

abbrev pub decreases-loop-field : goal.decreases-loop-field
decreases-loop-field l = length l.rest
