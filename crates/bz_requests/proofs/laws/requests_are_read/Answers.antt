use Rattle.bz_requests.proofs.LineGrammarLemmas.{items_found, items_again, first_bad_found, first_bad_again}
use Rattle.bz_requests.specs.Requests.{IsRequest, request_in}
use Rattle.bz_requests.proofs.RequestLemmas.{request_agrees, request_found, request_again}
use Rattle.bz_requests.proofs.laws.requests_are_read.Goals as goal

pub returns : goal.returns
returns c = record {
  request = λ text request. (request_found text request, request_again text request);
  requests = λ text requests. (items_found request_in IsRequest request_agrees text requests, items_again request_in IsRequest request_agrees text requests);
  line = λ text n. (first_bad_found request_in IsRequest request_agrees text n, first_bad_again request_in IsRequest request_agrees text n);
}
