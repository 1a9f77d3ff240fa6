use Rattle.bz_requests.specs.Addresses.{IsAddress, address_in}
use Rattle.bz_requests.proofs.AddressLemmas.{address_agrees}
use Rattle.bz_requests.proofs.LineGrammarLemmas.{items_found, items_again, first_bad_found, first_bad_again}
use Rattle.bz_requests.proofs.laws.addresses_are_read.Goals as goal

pub returns : goal.returns
returns c = record {
  addresses = λ text addrs. (items_found address_in IsAddress address_agrees text addrs, items_again address_in IsAddress address_agrees text addrs);
  line = λ text n. (first_bad_found address_in IsAddress address_agrees text n, first_bad_again address_in IsAddress address_agrees text n);
}
