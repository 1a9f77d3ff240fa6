use Rattle.std.proofs.Common.{◌≡◌, ◌++◌, drop, map, option_map}
use Rattle.bz_requests.specs.Addresses.{each_address_in}
use Rattle.bz_requests.proofs.addresses.each_address.Given as goal

-- the addresses so far and those of the texts that are left are those of all
abbrev pub invariant-loop-text : goal.invariant-loop-text
invariant-loop-text l = option_map (λ rest. l.all.items ++ rest) (each_address_in (map (λ text. text.now) (drop l.text-index l.texts))) ≡ each_address_in (map (λ text. text.now) l.texts)
