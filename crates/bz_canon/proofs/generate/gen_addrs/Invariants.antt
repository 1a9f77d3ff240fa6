use Rattle.std.proofs.Common.{◌≡◌, ◌-◌, ◌<◌, ◌++◌}
use Rattle.bz_canon.specs.Generated.{addresses_after}
use Rattle.bz_canon.proofs.generate.gen_addrs.Given as goal

-- the addresses that are left join those so far to all
abbrev pub invariant-loop : goal.invariant-loop
invariant-loop l = record {
  small : l.number < 2147483648;
  addrs : l.addrs.items ++ addresses_after l.functions l.number (l.addresses - l.counter) ≡ addresses_after l.functions l.seed l.addresses;
}
