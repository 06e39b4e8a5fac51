-- Pages of a table marked as free and as not free, and how many bits it has.
use Rattle.std.proofs.Common.{◌≡◌, ℕ, zero, suc, ◌+◌, ◌-◌, ◌*◌, ◌/◌, ◌%◌, ◌^◌, ◌<◌, List, [], ◌∷◌, length, get_or, set, sym, refl, ap, ◌∙◌, subst, inl, inr, pow-suc, arith, pow_pos}
use lib.Count.{ones, ones-le, ones_step}
use Rattle.std.proofs.lemmas.List.{length-set, get_or-set_same, get_or-set_other, set-get_or, get_or_past, get_or-replicate, length-replicate}
use Rattle.std.specs.List.{sum_by}
use Rattle.std.proofs.ByRecursion.{All-get_or, All-from_get_or, All-set}
use Rattle.std.proofs.lemmas.List.Sums.{sum_by-cons}
use Rattle.std.proofs.lemmas.Bool.{cases_eq, cases_lt}
use Rattle.disk.specs.Labels.{bit}
use Rattle.bits.specs.Bits.{page_bit, taken, freed, free_all, none_free, ones_in, zeros_in, Words, In}
use Rattle.bits.proofs.Runs.{ones_right}
use Rattle.bits.proofs.Marks.{with_one, with_nought, one_old, nought_old, one_there, one_elsewhere, nought_there, nought_elsewhere, one_fits, nought_fits}

pub one_or_nought : (ws : List ℕ) (p : ℕ) → page_bit ws p < 2
unfolding page_bit
one_or_nought ws p = omega arith

-- The word of a page made anew.
at_page : (ws : List ℕ) (p x : ℕ) → p < 16 * length ws → page_bit (set ws (p / 16) x) p ≡ bit x (p % 16)
unfolding page_bit
at_page ws p x h = ap (λ (v : ℕ). bit v (p % 16)) (get_or-set_same ws (p / 16) x 0 (omega arith))

at_others : (ws : List ℕ) (p q x : ℕ) → ((i : ℕ) → (i ≡ 15 - p % 16 → ⊥) → x / 2 ^ i % 2 ≡ get_or ws (p / 16) 0 / 2 ^ i % 2)
    → (q ≡ p → ⊥) → q < 16 * length ws → page_bit (set ws (p / 16) x) q ≡ page_bit ws q
unfolding page_bit
at_others ws p q x f n h =
    elim (cases_eq (q / 16) (p / 16)) [
      | inl e ↦
          ap (λ (i : ℕ). bit (get_or (set ws (p / 16) x) i 0) (q % 16)) e ∙
          ap (λ (v : ℕ). bit v (q % 16)) (get_or-set_same ws (p / 16) x 0 (omega arith)) ∙
          f (15 - q % 16) (λ d. n (omega arith)) ∙
          ap (λ (i : ℕ). bit (get_or ws i 0) (q % 16)) (sym e)
      | inr d ↦ ap (λ (v : ℕ). bit v (q % 16)) (get_or-set_other ws (p / 16) (q / 16) x 0 d)
    ]

pub word_fits : (ws : List ℕ) (i : ℕ) → Words ws → get_or ws i 0 < 65536
word_fits ws i f =
    elim (cases_lt i (length ws)) [
      | inl h ↦ All-get_or (λ w. w < 65536) ws i 0 h f
      | inr h ↦ let z = get_or_past ws i 0 h in omega arith
    ]

pub taken_same : (ws : List ℕ) (p : ℕ) → p < 16 * length ws → page_bit (taken ws p) p ≡ 1
unfolding taken page_bit
taken_same ws p h = let w = get_or ws (p / 16) 0 in at_page ws p (with_one w (15 - p % 16)) h ∙ one_there w (15 - p % 16)

pub taken_other : (ws : List ℕ) (p q : ℕ) → (q ≡ p → ⊥) → q < 16 * length ws → page_bit (taken ws p) q ≡ page_bit ws q
unfolding taken page_bit
taken_other ws p q n h = let w = get_or ws (p / 16) 0 in at_others ws p q (with_one w (15 - p % 16)) (one_elsewhere w (15 - p % 16)) n h

-- A bit that is 1 is not changed.
pub taken_again : (ws : List ℕ) (p : ℕ) → page_bit ws p ≡ 1 → taken ws p ≡ ws
unfolding taken page_bit
taken_again ws p o = let w = get_or ws (p / 16) 0 in ap (set ws (p / 16)) (one_old w (15 - p % 16) o) ∙ set-get_or ws (p / 16) 0

pub taken_length : (ws : List ℕ) (p : ℕ) → length (taken ws p) ≡ length ws
unfolding taken page_bit
taken_length ws p = simp length-set

pub taken_words : (ws : List ℕ) (p : ℕ) → Words ws → Words (taken ws p)
unfolding taken page_bit
taken_words ws p f =
    let w = get_or ws (p / 16) 0 in
    All-set (λ v. v < 65536) ws (p / 16) (with_one w (15 - p % 16)) (one_fits w (15 - p % 16) (omega arith) (word_fits ws (p / 16) f)) f

pub freed_same : (ws : List ℕ) (p : ℕ) → p < 16 * length ws → page_bit (freed ws p) p ≡ 0
unfolding freed page_bit
freed_same ws p h = let w = get_or ws (p / 16) 0 in at_page ws p (with_nought w (15 - p % 16)) h ∙ nought_there w (15 - p % 16)

pub freed_other : (ws : List ℕ) (p q : ℕ) → (q ≡ p → ⊥) → q < 16 * length ws → page_bit (freed ws p) q ≡ page_bit ws q
unfolding freed page_bit
freed_other ws p q n h = let w = get_or ws (p / 16) 0 in at_others ws p q (with_nought w (15 - p % 16)) (nought_elsewhere w (15 - p % 16)) n h

-- A bit that is 0 is not changed.
pub freed_again : (ws : List ℕ) (p : ℕ) → page_bit ws p ≡ 0 → freed ws p ≡ ws
unfolding freed page_bit
freed_again ws p z = let w = get_or ws (p / 16) 0 in ap (set ws (p / 16)) (nought_old w (15 - p % 16) z) ∙ set-get_or ws (p / 16) 0

pub freed_length : (ws : List ℕ) (p : ℕ) → length (freed ws p) ≡ length ws
unfolding freed page_bit
freed_length ws p = simp length-set

pub freed_words : (ws : List ℕ) (p : ℕ) → Words ws → Words (freed ws p)
unfolding freed page_bit
freed_words ws p f =
    let w = get_or ws (p / 16) 0 in
    All-set (λ v. v < 65536) ws (p / 16) (with_nought w (15 - p % 16)) (nought_fits w (15 - p % 16) (word_fits ws (p / 16) f)) f

pub free_all_length : (ps ws : List ℕ) → length (free_all ps ws) ≡ length ws
unfolding free_all
free_all_length [] ws = refl
free_all_length (p ∷ ps) ws = free_all_length ps (freed ws p) ∙ freed_length ws p

pub free_all_words : (ps ws : List ℕ) → Words ws → Words (free_all ps ws)
unfolding free_all
free_all_words [] ws f = f
free_all_words (p ∷ ps) ws f = free_all_words ps (freed ws p) (freed_words ws p f)

-- The page q is in the table with p freed too.
inside : (ws : List ℕ) (p q : ℕ) → q < 16 * length ws → q < 16 * length (freed ws p)
inside ws p q h = let e = freed_length ws p in omega arith

-- A free page stays free.
pub free_all_keeps : (ps ws : List ℕ) (q : ℕ) → q < 16 * length ws → page_bit ws q ≡ 0 → page_bit (free_all ps ws) q ≡ 0
unfolding free_all
free_all_keeps [] ws q h z = z
free_all_keeps (p ∷ ps) ws q h z =
    free_all_keeps ps (freed ws p) q (inside ws p q h)
    (elim (cases_eq q p) [ inl e ↦ subst (λ (x : ℕ). page_bit (freed ws x) q ≡ 0) e (freed_same ws q h) | inr n ↦ freed_other ws p q n h ∙ z ])

pub free_all_in : (ps ws : List ℕ) (q : ℕ) → q < 16 * length ws → In q ps → page_bit (free_all ps ws) q ≡ 0
unfolding free_all
free_all_in [] ws q h i = absurd i
free_all_in (p ∷ ps) ws q h (inl e) =
    free_all_keeps ps (freed ws p) q (inside ws p q h) (subst (λ (x : ℕ). page_bit (freed ws x) q ≡ 0) e (freed_same ws q h))
free_all_in (p ∷ ps) ws q h (inr i) = free_all_in ps (freed ws p) q (inside ws p q h) i

pub free_all_out : (ps ws : List ℕ) (q : ℕ) → q < 16 * length ws → (In q ps → ⊥) → page_bit (free_all ps ws) q ≡ page_bit ws q
unfolding free_all
free_all_out [] ws q h n = refl
free_all_out (p ∷ ps) ws q h n =
    free_all_out ps (freed ws p) q (inside ws p q h) (λ i. n (inr i)) ∙ freed_other ws p q (λ e. n (inl e)) h

-- Each bit of a word of ones.
ones_bit : (k : ℕ) → k < 16 → bit 65535 k ≡ 1
ones_bit k h =
    let m = ones_right (15 - k) (omega arith) in
    let s : 2 ^ (16 - (15 - k)) ≡ 2 ^ suc k = ap (λ (x : ℕ). 2 ^ x) (omega arith) in
    let e = pow-suc 2 k in
    let t = pow_pos k in
    omega arith

pub none_free_bit : (p : ℕ) → p < 9744 → page_bit none_free p ≡ 1
unfolding page_bit none_free
none_free_bit p h =
    let w : get_or none_free (p / 16) 0 ≡ 65535 = get_or-replicate 609 (p / 16) 65535 0 (omega arith) in
    ap (λ (v : ℕ). bit v (p % 16)) w ∙ ones_bit (p % 16) (omega arith)

pub none_free_length : length none_free ≡ 609
unfolding none_free
none_free_length = length-replicate {A = ℕ} 609 65535

pub none_free_words : Words none_free
unfolding none_free
none_free_words =
    All-from_get_or (λ w. w < 65536) none_free 0
    (λ i h. let l = none_free_length in let e : get_or none_free i 0 ≡ 65535 = get_or-replicate 609 i 65535 0 (omega arith) in omega arith)

-- Each bit of a word that is not 1 is 0.
ones_rest : (s w : ℕ) → w < 2 ^ s → ones ((2 ^ s - 1) - w) + ones w ≡ s
ones_rest zero w h =
    let z : w ≡ 0 = omega arith in
    ap (λ (x : ℕ). ones (0 - x) + ones x) z ∙ omega (arith, ones-le 0 0 (omega arith))
ones_rest (suc s) w h =
    let e = pow-suc 2 s in
    let half : ((2 ^ suc s - 1) - w) / 2 ≡ (2 ^ s - 1) - w / 2 = omega arith in
    let a = ones_step ((2 ^ suc s - 1) - w) in
    let b = ones_step w in
    let c : ones (((2 ^ suc s - 1) - w) / 2) ≡ ones ((2 ^ s - 1) - w / 2) = ap ones half in
    let r = ones_rest s (w / 2) (omega arith) in
    omega arith

zeros_of : (w : ℕ) → w < 65536 → ones (65535 - w) ≡ 16 - ones w
zeros_of w h = omega (arith, ones_rest 16 w h)

pub all_bits : (ws : List ℕ) → Words ws → ones_in ws + zeros_in ws ≡ 16 * length ws
unfolding ones_in zeros_in
all_bits [] f = refl
all_bits (w ∷ ws) f =
    let a = sum_by-cons (λ v. ones v) w ws in
    let b = sum_by-cons (λ v. 16 - ones v) w ws in
    let l = ones-le 16 w f.0 in
    let r = all_bits ws f.1 in
    omega arith

-- The zeros of a table, counted as the code does.
pub zeros_are : (ws : List ℕ) → ((i : ℕ) → i < length ws → get_or ws i 0 < 65536) → sum_by (λ w. ones (65535 - w)) ws ≡ zeros_in ws
unfolding zeros_in
zeros_are [] f = refl
zeros_are (w ∷ ws) f =
    let a = sum_by-cons (λ v. ones (65535 - v)) w ws in
    let b = sum_by-cons (λ v. 16 - ones v) w ws in
    let z = zeros_of w (f 0 (omega arith)) in
    let r = zeros_are ws (λ i h. f (suc i) (omega arith)) in
    omega arith
