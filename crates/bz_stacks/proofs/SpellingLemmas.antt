-- The stack that is read of a text is the one that it spells.
use Rattle.std.proofs.Common.{Bor, map, ◌≡◌, ℕ, ◌<◌, List, [], ◌∷◌, ◌++◌, length, Option, Some, None, option_map, option_and_then, refl, ap, subst, ◌∙◌, arith}
use Rattle.std.specs.List.{AllZip}
use Rattle.bz_base.proofs.NumberLemmas.{decimal_whole_found, decimal_whole_again}
use Rattle.bz_requests.specs.Addresses.{IsAddress, address_in, each_address_in}
use Rattle.bz_requests.specs.Fields.{AreFields, fields}
use Rattle.bz_requests.specs.Lines.{ReadsAsSpelled}
use Rattle.bz_requests.proofs.AddressLemmas.{address_found, address_again}
use Rattle.bz_requests.proofs.FieldLemmas.{are_fields, fields_are}
use Rattle.bz_requests.proofs.OptionLemmas.{map_some, then_some}
use Rattle.bz_stacks.specs.Stack.{CountedStack}
use Rattle.bz_stacks.specs.Spelling.{IsCount, IsStack, count_in, counted_in, stack_by, stack_in, taken_by, with_addr}

-- fields are addresses and then a count
record IsCounted (all : List (List ℕ)) (stack : CountedStack) : Type 0 where
  front : List (List ℕ)
  last : List ℕ
  whole : all ≡ front ++ last ∷ []
  addresses : AllZip IsAddress front stack.addrs
  count : IsCount last stack.count

one_more : (field : List ℕ) (others : List (List ℕ)) (addr : ℕ) (stack : CountedStack) → IsAddress field addr → IsCounted others stack → IsCounted (field ∷ others) (with_addr addr stack)
one_more field others addr stack is more = record { front = field ∷ more.front; last = more.last; whole = ap (λ l. field ∷ l) more.whole; addresses = (is, more.addresses); count = more.count }

counted_found : (all : List (List ℕ)) (stack : CountedStack) → counted_in all ≡ Some stack → IsCounted all stack
counted_found [] stack read = cc
counted_found (last ∷ []) stack read =
    let count = map_some (λ count. record { addrs = []; count = count }) (count_in last) stack read in
    subst (IsCounted (last ∷ [])) count.2 (record { front = []; last = last; whole = refl; addresses = tt; count = decimal_whole_found 10 4294967295 last count.0 count.1 })
counted_found (field ∷ next ∷ others) stack read =
    let addr = then_some (λ addr. option_map (with_addr addr) (counted_in (next ∷ others))) (address_in field) stack read in
    let more = map_some (with_addr addr.0) (counted_in (next ∷ others)) stack addr.2 in
    subst (IsCounted (field ∷ next ∷ others)) more.2 (one_more field (next ∷ others) addr.0 more.0 (address_found field addr.0 addr.1) (counted_found (next ∷ others) more.0 more.1))

many : (front : List (List ℕ)) (last : List ℕ) → 0 < length front → stack_by (front ++ last ∷ []) ≡ counted_in (front ++ last ∷ [])
many [] last some = absurd (omega (arith, some))
many (field ∷ []) last some = refl
many (field ∷ next ∷ front) last some = refl

counted_again : (front : List (List ℕ)) (last : List ℕ) (addrs : List ℕ) (count : ℕ) → AllZip IsAddress front addrs → IsCount last count → counted_in (front ++ last ∷ []) ≡ Some (record { addrs = addrs; count = count })
counted_again [] last [] count each is = rw (decimal_whole_again 10 4294967295 last count is) refl
counted_again [] last (addr ∷ addrs) count each is = absurd each
counted_again (field ∷ front) last [] count each is = absurd each
counted_again (field ∷ []) last (addr ∷ addrs) count each is = rw (address_again field addr each.0, counted_again [] last addrs count each.1 is) refl
counted_again (field ∷ next ∷ front) last (addr ∷ addrs) count each is = rw (address_again field addr each.0, counted_again (next ∷ front) last addrs count each.1 is) refl

by_found : (text : List ℕ) (all : List (List ℕ)) (stack : CountedStack) → fields text ≡ all → stack_by all ≡ Some stack → IsStack text stack
by_found text [] stack are read = cc
by_found text (last ∷ []) stack are read = cc
by_found text (field ∷ next ∷ others) stack are read =
    let counted = counted_found (field ∷ next ∷ others) stack read in
    record {
      front = counted.front;
      last = counted.last;
      are_fields = subst (λ all. AreFields text all) (are ∙ counted.whole) (are_fields text);
      positive = some_front counted.front counted.last counted.whole;
      addresses = counted.addresses;
      count = counted.count;
    }
  where
    some_front : (front : List (List ℕ)) (last : List ℕ) → field ∷ next ∷ others ≡ front ++ last ∷ [] → 0 < length front
    some_front [] last is = cc
    some_front (first ∷ front) last is = omega arith

pub stack_found : (text : List ℕ) (stack : CountedStack) → stack_in text ≡ Some stack → IsStack text stack
unfolding stack_in
stack_found text stack read = by_found text (fields text) stack refl read

pub stack_again : (text : List ℕ) (stack : CountedStack) → IsStack text stack → stack_in text ≡ Some stack
unfolding stack_in
stack_again text stack is =
    ap stack_by (fields_are text (is.front ++ is.last ∷ []) is.are_fields) ∙ many is.front is.last is.positive ∙ counted_again is.front is.last stack.addrs stack.count is.addresses is.count

-- so reader and relation agree
pub stack_agrees : ReadsAsSpelled stack_in IsStack
stack_agrees b content stack = (stack_found (b ∷ content) stack, stack_again (b ∷ content) stack)

-- What is read piece by piece is what is read.

one_more_read : (addr : Option ℕ) (addrs : Option (List ℕ)) (count : Option ℕ) → option_and_then (λ a. option_map (with_addr a) (taken_by addrs count)) addr ≡ taken_by (option_and_then (λ a. option_map (λ all. a ∷ all) addrs) addr) count
one_more_read None addrs count = refl
one_more_read (Some a) None count = refl
one_more_read (Some a) (Some all) None = refl
one_more_read (Some a) (Some all) (Some number) = refl

counted_by : (front : List (List ℕ)) (last : List ℕ) → counted_in (front ++ last ∷ []) ≡ taken_by (each_address_in front) (count_in last)
counted_by [] last = refl
counted_by (field ∷ []) last = one_more_read (address_in field) (Some []) (count_in last)
counted_by (field ∷ next ∷ front) last =
    ap (λ read. option_and_then (λ addr. option_map (with_addr addr) read) (address_in field)) (counted_by (next ∷ front) last)
    ∙ one_more_read (address_in field) (each_address_in (next ∷ front)) (count_in last)

last_behind : (front : List (Bor (List ℕ))) (last : Bor (List ℕ)) → map (λ field. field.now) (front ++ last ∷ []) ≡ map (λ field. field.now) front ++ last.now ∷ []
last_behind [] last = refl
last_behind (field ∷ front) last = ap (λ l. field.now ∷ l) (last_behind front last)

as_long : (front : List (Bor (List ℕ))) → 0 < length front → 0 < length (map (λ field. field.now) front)
as_long [] some = absurd (omega (arith, some))
as_long (field ∷ front) some = omega arith

-- the last field is the count, and those before it the addresses
pub by_last : (all front : List (Bor (List ℕ))) (last : Bor (List ℕ)) → all ≡ front ++ last ∷ [] → 0 < length front → stack_by (map (λ field. field.now) all) ≡ taken_by (each_address_in (map (λ field. field.now) front)) (count_in last.now)
by_last all front last is some =
    ap (λ l. stack_by (map (λ field. field.now) l)) is
    ∙ ap stack_by (last_behind front last)
    ∙ many (map (λ field. field.now) front) last.now (as_long front some)
    ∙ counted_by (map (λ field. field.now) front) last.now
