-- A search that halves what is left takes few probes, and sorted numbers never descend.
use Rattle.std.proofs.Common.{◌≡◌, ℕ, suc, ◌+◌, ◌-◌, ◌*◌, ◌^◌, ◌/◌, ◌<◌, ◌≤◌, arith, inl, inr, add-one, ap, ◌∙◌}
use Rattle.std.proofs.lemmas.Bool.{cases_lt}
use Rattle.std.proofs.Math.Pow.{pow_mono}
use Rattle.std.proofs.Math.Nat.{pow-suc, mul_assoc, mul_comm, mul-le-mul_left}
use Rattle.std.specs.Prelude.{List}
use Rattle.std.specs.List.Sorted.{IsNonDecreasing, IsSorted}
use Rattle.std.specs.Ordering.{nat_cmp}
use Rattle.std.proofs.lemmas.List.Sorted.{IsNonDecreasingBy-from_sort}
use Rattle.bz_search.specs.Starts.{NeverDescends}

-- numbers that don't decrease never descend
pub never_descends : (starts : List ℕ) → IsNonDecreasing starts → NeverDescends starts
never_descends starts up i j ordered within = up i j 0 ordered within

-- so what a sort of numbers gives never descends
pub sorted_never_descends : (starts : List ℕ) → IsSorted nat_cmp starts → NeverDescends starts
sorted_never_descends starts sorted = never_descends starts (IsNonDecreasingBy-from_sort (λ x. x) starts sorted)

-- the next power is twice as great
power_more : (n : ℕ) → 2 ^ (n + 1) ≡ 2 ^ n * 2
power_more n = rw (add-one, pow-suc 2 n)

-- one more probe doubles the power
doubled : (old now : ℕ) → old ≤ now → 2 ^ (now + 1 - old) ≡ 2 ^ (now - old) * 2
doubled old now h = let e : now + 1 - old ≡ suc (now - old) = omega arith in rw (e, pow-suc 2 (now - old))

-- what is left stays within the whole, by the power
pub still_halved : (old now left less count : ℕ) → old ≤ now → 2 * less ≤ left → 2 ^ (now - old) * left ≤ count →
    2 ^ (now + 1 - old) * less ≤ count
still_halved old now left less count h half bound =
    let e : 2 ^ (now + 1 - old) * less ≡ 2 ^ (now - old) * (2 * less) = rw (doubled old now h) (mul_assoc (2 ^ (now - old)) 2 less) in
    let m : 2 ^ (now - old) * (2 * less) ≤ 2 ^ (now - old) * left = mul-le-mul_left (2 ^ (now - old)) half in
    omega (arith, e, m)

-- and the power within twice the whole
pub still_few : (old now left count : ℕ) → old ≤ now → 1 ≤ left → 2 ^ (now - old) * left ≤ count →
    2 ^ (now + 1 - old) ≤ 2 * count + 1
still_few old now left count h some bound =
    let m : 2 ^ (now - old) * 1 ≤ 2 ^ (now - old) * left = mul-le-mul_left (2 ^ (now - old)) some in
    omega (arith, doubled old now h, m)

-- a lesser power has a lesser exponent
pub lesser_exponent : (m n : ℕ) → 2 ^ m < 2 ^ n → m < n
lesser_exponent m n lesser = elim (cases_lt m n) [ inl below ↦ below | inr above ↦ let h : 2 ^ n ≤ 2 ^ m = pow_mono above in absurd (omega (arith, h)) ]

-- a search takes no more probes than its bound
pub few_within : (probes count most : ℕ) → 2 ^ probes ≤ 2 * count + 1 → count < 2 ^ most → probes ≤ most
few_within probes count most few enough =
    let h : probes < most + 1 = lesser_exponent probes (most + 1) (omega (arith, power_more most)) in omega arith

-- a half with its power still reaches the count
pub halved_enough : (count most left : ℕ) → count < 2 ^ most * (left + 1) → count < 2 ^ (most + 1) * (left / 2 + 1)
halved_enough count most left enough =
    let e : 2 ^ (most + 1) * (left / 2 + 1) ≡ 2 ^ most * (2 * (left / 2 + 1)) = rw (power_more most) (mul_assoc (2 ^ most) 2 (left / 2 + 1)) in
    let m : 2 ^ most * (left + 1) ≤ 2 ^ most * (2 * (left / 2 + 1)) = mul-le-mul_left (2 ^ most) (omega arith) in
    omega (arith, e, m)

-- and stays within it
pub halved_within : (count most left : ℕ) → 2 ^ most * left ≤ count → 2 ^ (most + 1) * (left / 2) ≤ count
halved_within count most left within =
    let e : 2 ^ (most + 1) * (left / 2) ≡ 2 ^ most * (2 * (left / 2)) = rw (power_more most) (mul_assoc (2 ^ most) 2 (left / 2)) in
    let m : 2 ^ most * (2 * (left / 2)) ≤ 2 ^ most * left = mul-le-mul_left (2 ^ most) (omega arith) in
    omega (arith, e, m)

-- a half more is needed only where the power is within twice the count
pub halved_needed : (count most left : ℕ) → 0 < left → 2 ^ most * left ≤ count → 2 ^ (most + 1) ≤ 2 * count + 1
halved_needed count most left some within =
    let m : 2 ^ most * 1 ≤ 2 ^ most * left = mul-le-mul_left (2 ^ most) some in
    omega (arith, power_more most, m)

-- a count of 64 bits is halved fewer than 64 times before the last
pub halved_few : (count most left : ℕ) → 0 < left → 2 ^ most * left ≤ count → count < 2 ^ 64 → most < 64
halved_few count most left some within fits =
    let m : 2 ^ most * 1 ≤ 2 ^ most * left = mul-le-mul_left (2 ^ most) some in
    lesser_exponent most 64 (omega (arith, m))

-- the bounds of two groups of searches are that of both
more_searches : (done group most : ℕ) → done * most + group * most ≡ (done + group) * most
more_searches done group most = omega (arith, mul_comm done most, mul_comm group most, mul_comm (done + group) most)

-- so a group adds its bound to that of the searches before it
pub group_cost : (done now most : ℕ) → done ≤ now → done * most + (now - done) * most ≡ now * most
group_cost done now most more =
    let e : done + (now - done) ≡ now = omega arith in
    more_searches done (now - done) most ∙ ap (λ (n : ℕ). n * most) e

-- the bound of a batch by search grows with the bound of a search
pub batch_bound : (count most p starts : ℕ) → 2 ^ most ≤ 2 * starts + 1 → starts < 2 ^ p → count * most ≤ count * p
batch_bound count most p starts needed enough = mul-le-mul_left count (few_within most starts p needed enough)
