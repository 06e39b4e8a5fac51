-- One bit of a word made 1 or 0: by arithmetic, and as the code does it.
use Rattle.std.proofs.Common.{◌≡◌, ℕ, zero, suc, ◌+◌, ◌-◌, ◌*◌, ◌/◌, ◌%◌, ◌^◌, ◌<◌, ◌≤◌, min, ◌⊎◌, sym, refl, ap, ◌∙◌, subst, inl, inr, one-mul, pow-suc, le-div_iff_mul-le, zero-mul, arith, pow_pos, pow_mono, pow-add}
use native.Mathlib.Nat.{add-div_right}
use lib.Pow.{shl-shr}
use lib.Bits.{bit_and, bit_or, and_step, and_high, and_zero_l, or_add_and, or_lt}
use Rattle.std.specs.Int.{bit_at}
use Rattle.std.proofs.lemmas.Nat.{pow_below}
use Rattle.std.proofs.lemmas.Nat.Bits.{bit_at_or, bit_at-pow_same, bit_at-pow_other, bit_at-lt}

-- Bit j of the word w, from the right, made 1 and made 0.
abbrev pub with_one : ℕ → ℕ → ℕ
with_one w j = w + (1 - w / 2 ^ j % 2) * 2 ^ j

abbrev pub with_nought : ℕ → ℕ → ℕ
with_nought w j = w - w / 2 ^ j % 2 * 2 ^ j

-- A bit is 0 or 1.
bit_cases : (w j : ℕ) → (w / 2 ^ j % 2 ≡ 0) ⊎ (w / 2 ^ j % 2 ≡ 1)
bit_cases w j = grind arith

-- What the two make, by the bit as it was.
one_new : (w j : ℕ) → w / 2 ^ j % 2 ≡ 0 → with_one w j ≡ w + 2 ^ j
one_new w j z = rw z (omega (arith, one-mul (2 ^ j)))

pub one_old : (w j : ℕ) → w / 2 ^ j % 2 ≡ 1 → with_one w j ≡ w
one_old w j z = rw z (omega (arith, zero-mul (2 ^ j)))

nought_new : (w j : ℕ) → w / 2 ^ j % 2 ≡ 1 → with_nought w j ≡ w - 2 ^ j
nought_new w j z = rw z (omega (arith, one-mul (2 ^ j)))

pub nought_old : (w j : ℕ) → w / 2 ^ j % 2 ≡ 0 → with_nought w j ≡ w
nought_old w j z = rw z (omega (arith, zero-mul (2 ^ j)))

-- One bit of a word taken out by a mask.
and_one : (w j : ℕ) → bit_and w (2 ^ j) ≡ w / 2 ^ j % 2 * 2 ^ j
and_one w j =
    let e : 2 ^ (1 + j) - 2 ^ j ≡ 2 ^ j = omega (arith, pow-add 2 1 j) in
    ap (bit_and w) (sym e) ∙ and_high w 1 j

-- The code's way to make a bit 1.
pub or_one : (w j : ℕ) → bit_or w (2 ^ j) ≡ with_one w j
or_one w j =
    let a = and_one w j in
    let s = or_add_and w (2 ^ j) in
    elim (bit_cases w j) [
      | inl z ↦ let b : bit_and w (2 ^ j) ≡ 0 * 2 ^ j = a ∙ ap (λ (x : ℕ). x * 2 ^ j) z in omega (arith, zero-mul (2 ^ j), one_new w j z)
      | inr o ↦ let b : bit_and w (2 ^ j) ≡ 1 * 2 ^ j = a ∙ ap (λ (x : ℕ). x * 2 ^ j) o in omega (arith, one-mul (2 ^ j), one_old w j o)
    ]

-- So bit j is 1, and the other bits are as they were.
pub one_there : (w j : ℕ) → with_one w j / 2 ^ j % 2 ≡ 1
one_there w j = subst (λ (x : ℕ). bit_at x j ≡ 1) (or_one w j) (omega (arith, bit_at_or w (2 ^ j) j, bit_at-pow_same j, bit_at-lt w j))

pub one_elsewhere : (w j i : ℕ) → (i ≡ j → ⊥) → with_one w j / 2 ^ i % 2 ≡ w / 2 ^ i % 2
one_elsewhere w j i n = subst (λ (x : ℕ). bit_at x i ≡ bit_at w i) (or_one w j) (omega (arith, bit_at_or w (2 ^ j) i, bit_at-pow_other j i n))

-- A word whose bit j is 1 is another, whose bit j is 0, and 2 ^ j more.
lowered : (w j : ℕ) → w / 2 ^ j % 2 ≡ 1 → (2 ^ j ≤ w) × ((w - 2 ^ j) / 2 ^ j % 2 ≡ 0)
lowered w j o =
    let le : 1 * 2 ^ j ≤ w = (le-div_iff_mul-le (pow_pos j)).0 (omega arith) in
    let m = one-mul (2 ^ j) in
    let b : w - 2 ^ j + 2 ^ j ≡ w = omega arith in
    let e : w / 2 ^ j ≡ (w - 2 ^ j) / 2 ^ j + 1 = ap (λ (x : ℕ). x / 2 ^ j) (sym b) ∙ add-div_right (w - 2 ^ j) (pow_pos j) in
    (omega arith, omega arith)

pub nought_there : (w j : ℕ) → with_nought w j / 2 ^ j % 2 ≡ 0
nought_there w j = elim (bit_cases w j) [ inl z ↦ rw (nought_old w j z) z | inr o ↦ rw (nought_new w j o) ((lowered w j o).1) ]

pub nought_elsewhere : (w j i : ℕ) → (i ≡ j → ⊥) → with_nought w j / 2 ^ i % 2 ≡ w / 2 ^ i % 2
nought_elsewhere w j i n = elim (bit_cases w j) [
  | inl z ↦ rw (nought_old w j z) refl
  | inr o ↦
      let l = lowered w j o in
      let b : w - 2 ^ j + 2 ^ j ≡ w = omega arith in
      let e = one_elsewhere (w - 2 ^ j) j i n in
      rw (nought_new w j o) (sym (rw (one_new (w - 2 ^ j) j l.1 ∙ b) at e))
]

-- A mask and its complement share a word out.
shared : (s w m : ℕ) → w < 2 ^ s → m < 2 ^ s → bit_and w ((2 ^ s - 1) - m) + bit_and w m ≡ w
shared zero w m hw hm =
    let z : w ≡ 0 = omega arith in
    ap (λ (x : ℕ). bit_and x (0 - m) + bit_and x m) z ∙ omega (arith, and_zero_l (0 - m), and_zero_l m)
shared (suc s) w m hw hm =
    let e = pow-suc 2 s in
    let half : ((2 ^ suc s - 1) - m) / 2 ≡ (2 ^ s - 1) - m / 2 = omega arith in
    let odd : ((2 ^ suc s - 1) - m) % 2 ≡ 1 - m % 2 = omega arith in
    let a = and_step w ((2 ^ suc s - 1) - m) in
    let b = and_step w m in
    let r = shared s (w / 2) (m / 2) (omega arith) (omega arith) in
    let c : bit_and (w / 2) (((2 ^ suc s - 1) - m) / 2) ≡ bit_and (w / 2) ((2 ^ s - 1) - m / 2) = ap (bit_and (w / 2)) half in
    let d : min (w % 2) (((2 ^ suc s - 1) - m) % 2) ≡ min (w % 2) (1 - m % 2) = ap (min (w % 2)) odd in
    omega arith

-- The code's way to make a bit 0.
pub and_not_one : (w j : ℕ) → w < 2 ^ 16 → j < 16 → bit_and w (65535 - 2 ^ j) ≡ with_nought w j
and_not_one w j hw hj =
    let p : 2 ^ suc j ≤ 2 ^ 16 = pow_mono {i = suc j} {j = 16} hj in
    let e = pow-suc 2 j in
    let q = pow_pos j in
    let s = shared 16 w (2 ^ j) hw (omega arith) in
    let a = and_one w j in
    omega arith

-- The mask of bit k from the left.
pub mask_of : (k : ℕ) → k < 16 → 32768 / 2 ^ k ≡ 2 ^ (15 - k)
mask_of k h =
    let e : 15 ≡ (15 - k) + k = omega arith in
    ap (λ (x : ℕ). 2 ^ x / 2 ^ k) e ∙ ap (λ (x : ℕ). x / 2 ^ k) (pow-add 2 (15 - k) k) ∙ shl-shr (2 ^ (15 - k)) k

-- What `take` and `free` need.
pub ruleset made_one = (mask_of, or_one)

pub ruleset made_nought = (mask_of, and_not_one)

-- A word keeps its 16 bits.
pub one_fits : (w j : ℕ) → j < 16 → w < 2 ^ 16 → with_one w j < 2 ^ 16
one_fits w j hj hw =
    let p : 2 ^ j < 2 ^ 16 = pow_below j 16 hj in
    subst (λ (x : ℕ). x < 2 ^ 16) (or_one w j) (or_lt 16 w (2 ^ j) hw p)

pub nought_fits : (w j : ℕ) → w < 2 ^ 16 → with_nought w j < 2 ^ 16
nought_fits w j hw = omega arith
