-- The ones of a word from a bit on, by the leading ones.
use Rattle.std.proofs.Common.{◌≡◌, ℕ, zero, suc, ◌+◌, ◌-◌, ◌*◌, ◌/◌, ◌%◌, ◌^◌, ◌<◌, ◌≤◌, sym, ap, ◌∙◌, subst, mul-le-mul_right, mod-lt, mod-eq_of_lt, mul_comm, div-lt_iff_lt-mul, pow-suc, lt_of_not-le, le-div_iff_mul-le, one-add, arith, pow_pos, pow_mono, shr-shr, shr_lt}
use native.Mathlib.Nat.{mul-sub}
use lib.Pow.{field, mod-mod-pow, split, ones_split, ones_lt, high, low, high_ones}
use lib.Bits.{bit_and, bit_or, and_mask, or_block, or_add_and, or_zero_r}
use lib.Count.{count_leading_zeros, leading_length}
use Rattle.bits.specs.Bits.{Run}

-- One place further down is half of the number.
pub halved : (n j : ℕ) → n / 2 ^ suc j ≡ n / 2 / 2 ^ j
halved n j = ap (λ (x : ℕ). n / 2 ^ x) (sym (one-add j)) ∙ sym (shr-shr n 1 j)

-- In the complement of s bits each bit is the other.
complement_bit : (s j w : ℕ) → j < s → w < 2 ^ s → ((2 ^ s - 1) - w) / 2 ^ j % 2 + w / 2 ^ j % 2 ≡ 1
complement_bit zero j w h l = absurd (omega arith)
complement_bit (suc s) zero w h l = let e = pow-suc 2 s in omega arith
complement_bit (suc s) (suc j) w h l =
    let e = pow-suc 2 s in
    let half : ((2 ^ suc s - 1) - w) / 2 ≡ (2 ^ s - 1) - w / 2 = omega arith in
    let a : ((2 ^ suc s - 1) - w) / 2 ^ suc j ≡ ((2 ^ s - 1) - w / 2) / 2 ^ j = halved ((2 ^ suc s - 1) - w) j ∙ ap (λ (x : ℕ). x / 2 ^ j) half in
    rw (a, halved w j) (complement_bit s j (w / 2) (omega arith) (omega arith))

-- The lowest m bits of a number have its bits.
low_bit : (n m j : ℕ) → j < m → n % 2 ^ m / 2 ^ j % 2 ≡ n / 2 ^ j % 2
low_bit n m j h =
    let e : m ≡ ((m - j - 1) + 1) + j = omega arith in
    ap (λ (x : ℕ). n % 2 ^ x / 2 ^ j % 2) e ∙ ap (λ (x : ℕ). x % 2) (field n ((m - j - 1) + 1) j) ∙ mod-mod-pow (n / 2 ^ j) (m - j - 1) 1

one_above : (w m n j : ℕ) → w < 2 ^ 16 → m ≤ 16 → n ≤ j → j < m → (65535 - w) % 2 ^ m < 2 ^ n → w / 2 ^ j % 2 ≡ 1
one_above w m n j hw hm nj jm lo =
    let p : 2 ^ n ≤ 2 ^ j = pow_mono nj in
    let z : (65535 - w) % 2 ^ m / 2 ^ j < 1 = (div-lt_iff_lt-mul (pow_pos j)).1 (omega arith) in
    let b = low_bit (65535 - w) m j jm in
    let q = complement_bit 16 j w (omega arith) hw in
    omega arith

nought_at : (w m j : ℕ) → w < 2 ^ 16 → m ≤ 16 → j < m → (65535 - w) % 2 ^ m < 2 ^ suc j → 2 ^ suc j ≤ 2 * ((65535 - w) % 2 ^ m) + 1 → w / 2 ^ j % 2 ≡ 0
nought_at w m j hw hm jm lo hi =
    let e = pow-suc 2 j in
    let z : (65535 - w) % 2 ^ m / 2 ^ j < 2 = (div-lt_iff_lt-mul (pow_pos j)).1 (omega arith) in
    let o : 1 ≤ (65535 - w) % 2 ^ m / 2 ^ j = (le-div_iff_mul-le (pow_pos j)).1 (omega arith) in
    let b = low_bit (65535 - w) m j jm in
    let q = complement_bit 16 j w (omega arith) hw in
    omega arith

-- The leading zeros of the complement, without the bits before k, end the ones that begin at k.
pub run_of : (w k : ℕ) → w < 2 ^ 16 → k < 16 → Run w k (count_leading_zeros 16 ((65535 - w) % 2 ^ (16 - k)))
run_of w k hw hk =
    let m : ℕ = 16 - k in
    let a : ℕ = (65535 - w) % 2 ^ (16 - k) in
    let am : a < 2 ^ m = mod-lt (65535 - w) (pow_pos m) in
    let p16 : 2 ^ m ≤ 2 ^ 16 = pow_mono {i = 16 - k} {j = 16} (omega arith) in
    let ll = leading_length 16 a (omega arith) in
    let r : ℕ = count_leading_zeros 16 a in
    let n : ℕ = ll.0 in
    let rn : r + n ≡ 16 = ll.1 in
    let lo : a < 2 ^ n = ll.2 in
    let hi : 2 ^ n ≤ 2 * a + 1 = ll.3 in
    let e = pow-suc 2 m in
    let nm : n < suc m = lt_of_not-le (λ h. let q : 2 ^ suc m ≤ 2 ^ n = pow_mono {i = suc m} {j = n} h in omega arith) in
    record {
      from = omega arith;
      inside = omega arith;
      ones = λ i h1 h2. one_above w m n (15 - i) hw (omega arith) (omega arith) (omega arith) lo;
      stops = λ h. nought_at w m (15 - r) hw (omega arith) (omega arith) (subst (λ (x : ℕ). a < 2 ^ x) (omega arith) lo) (subst (λ (x : ℕ). 2 ^ x ≤ 2 * a + 1) (omega arith) hi);
    }

-- The leading ones of a word end at its first bit that is 0.
pub leading_ones : (w : ℕ) → w < 2 ^ 16 → Run w 0 (count_leading_zeros 16 (65535 - w))
leading_ones w h =
    let e : (65535 - w) % 2 ^ (16 - 0) ≡ 65535 - w = mod-eq_of_lt (omega arith) in
    subst (λ (x : ℕ). Run w 0 (count_leading_zeros 16 x)) e (run_of w 0 h (omega arith))

-- A word of ones shifted to the right.
pub ones_right : (k : ℕ) → k < 16 → 65535 / 2 ^ k ≡ 2 ^ (16 - k) - 1
ones_right k h =
    let e : 16 ≡ (16 - k) + k = omega arith in
    ap (λ (x : ℕ). (2 ^ x - 1) / 2 ^ k) e ∙ ap (λ (x : ℕ). x / 2 ^ k) (ones_split (16 - k) k) ∙ high (2 ^ (16 - k) - 1) k (ones_lt k)

sub_mul : (x y z : ℕ) → (x - y) * z ≡ x * z - y * z
sub_mul x y z = mul_comm (x - y) z ∙ mul-sub z x y ∙ ap (λ (a : ℕ). a - z * y) (mul_comm z x) ∙ ap (λ (a : ℕ). x * z - a) (mul_comm z y)

-- The complement of a word whose bits before k are made ones.
pub filled : (w k : ℕ) → w < 2 ^ 16 → k < 16 → 65535 - bit_or w (65535 - 65535 / 2 ^ k) ≡ (65535 - w) % 2 ^ (16 - k)
filled w k hw hk =
    let hi : ℕ = w / 2 ^ (16 - k) in
    let lo : ℕ = w % 2 ^ (16 - k) in
    let km : k + (16 - k) ≡ 16 = omega arith in
    let mk = ones_right k hk in
    let pm : 2 ^ (16 - k) ≤ 2 ^ 16 = pow_mono {i = 16 - k} {j = 16} (omega arith) in
    let pp = pow_pos (16 - k) in
    let top : 65536 - 2 ^ (16 - k) ≡ (2 ^ k - 1) * 2 ^ (16 - k) = ap (λ (x : ℕ). 2 ^ x - 2 ^ (16 - k)) (sym km) ∙ high_ones k (16 - k) in
    let M : 65535 - 65535 / 2 ^ k ≡ (2 ^ k - 1) * 2 ^ (16 - k) + 0 = omega arith in
    let lt : w % 2 ^ (16 - k) < 2 ^ (16 - k) = mod-lt w pp in
    let hl : w / 2 ^ (16 - k) < 2 ^ k = shr_lt k (16 - k) (subst (λ (x : ℕ). w < 2 ^ x) (sym km) hw) in
    let am : bit_and hi (2 ^ k - 1) ≡ hi = and_mask hi k ∙ mod-eq_of_lt hl in
    let oa = or_add_and hi (2 ^ k - 1) in
    let om : bit_or hi (2 ^ k - 1) ≡ 2 ^ k - 1 = omega arith in
    let sp = split w (16 - k) in
    let ob : bit_or w (65535 - 65535 / 2 ^ k) ≡ (2 ^ k - 1) * 2 ^ (16 - k) + lo =
    ap (λ (x : ℕ). bit_or x (65535 - 65535 / 2 ^ k)) (sym sp) ∙
    ap (bit_or (hi * 2 ^ (16 - k) + lo)) M ∙
    or_block (16 - k) hi (2 ^ k - 1) lo 0 lt pp ∙
    ap (λ (x : ℕ). x * 2 ^ (16 - k) + bit_or lo 0) om ∙
    ap (λ (x : ℕ). (2 ^ k - 1) * 2 ^ (16 - k) + x) (or_zero_r lo) in
    let sm = sub_mul (2 ^ k - 1) hi (2 ^ (16 - k)) in
    let le : hi * 2 ^ (16 - k) ≤ (2 ^ k - 1) * 2 ^ (16 - k) = mul-le-mul_right (2 ^ (16 - k)) (omega arith) in
    let cw : 65535 - w ≡ ((2 ^ k - 1) - hi) * 2 ^ (16 - k) + ((2 ^ (16 - k) - 1) - lo) = omega arith in
    let lw : (65535 - w) % 2 ^ (16 - k) ≡ (2 ^ (16 - k) - 1) - lo = ap (λ (x : ℕ). x % 2 ^ (16 - k)) cw ∙ low ((2 ^ k - 1) - hi) (16 - k) (omega arith) in
    omega arith

-- What `ones_from` needs.
pub ruleset runs = (run_of, filled)
