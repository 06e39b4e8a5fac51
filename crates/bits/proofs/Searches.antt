-- The first free page of a range, and of two ranges one after the other.
use Rattle.std.proofs.Common.{◌≡◌, ℕ, zero, suc, ◌+◌, ◌-◌, ◌/◌, ◌%◌, ◌<◌, ◌≤◌, ◌&&◌, eqb, leb, ltb, List, get_or, Some, None, Option, refl, ap, ◌∙◌, inl, inr, arith}
use Rattle.std.proofs.lemmas.Bool.{eqb-true, eqb-false, leb-true, ltb-true, ltb-false, cases_lt, cases_eq, cases_Bool, cond_both, cond-true, and_parts, and_from, le-leb}
use Rattle.std.specs.Bool.{then_some}
use Rattle.std.specs.Option.{option_map, MatchOption}
use Rattle.disk.specs.Labels.{bit}
use Rattle.disk.specs.declared.address.PageAddress.{PageAddress}
use Rattle.bits.specs.Bits.{page_bit, first_free, or_else, round_free, start_page, AllTaken, First, SomeFree, Run}
use Rattle.bits.proofs.Tables.{one_or_nought}

-- A range with one more page in front, which is not free.
wider : (ws : List ℕ) (a n : ℕ) (r : Option ℕ) → page_bit ws a ≡ 1 → First ws (a + 1) ((a + 1) + n) r → First ws a (a + suc n) r
wider ws a n None one f = λ q l u. elim (cases_eq q a) [ inl e ↦ ap (page_bit ws) e ∙ one | inr d ↦ f q (omega arith) (omega arith) ]
wider ws a n (Some p) one f = record {
  from = omega (arith, f.from);
  below = omega (arith, f.below);
  free = f.free;
  before = λ q l u. elim (cases_eq q a) [ inl e ↦ ap (page_bit ws) e ∙ one | inr d ↦ f.before q (omega arith) u ];
}

pub first_free_is : (ws : List ℕ) (a n : ℕ) → First ws a (a + n) (first_free ws a n)
unfolding first_free
first_free_is ws a zero = λ q l u. absurd (omega arith)
first_free_is ws a (suc n) =
    cond_both (eqb (page_bit ws a) 0) (Some a) (first_free ws (a + 1) n) (λ r. First ws a (a + suc n) r)
    (λ e. record {
      from = omega arith;
      below = omega arith;
      free = eqb-true (page_bit ws a) 0 e;
      before = λ q l u. absurd (omega arith);
    })
    (λ e.
    let ne = eqb-false (page_bit ws a) 0 e in
    let lt = one_or_nought ws a in
    let one : page_bit ws a ≡ 1 = elim (cases_eq (page_bit ws a) 0) [ inl z ↦ absurd (ne z) | inr d ↦ omega arith ] in
    wider ws a n (first_free ws (a + 1) n) one (first_free_is ws (a + 1) n))

-- A range has one first free page.
one_first : (ws : List ℕ) (a b : ℕ) (r s : Option ℕ) → First ws a b r → First ws a b s → r ≡ s
one_first ws a b None None f g = refl
one_first ws a b None (Some q) f g = absurd (omega (arith, f q g.from g.below, g.free))
one_first ws a b (Some p) None f g = absurd (omega (arith, g p f.from f.below, f.free))
one_first ws a b (Some p) (Some q) f g =
    elim (cases_lt p q) [
      | inl l ↦ absurd (omega (arith, g.before p f.from l, f.free))
      | inr l ↦ elim (cases_lt q p) [ inl u ↦ absurd (omega (arith, f.before q g.from u, g.free)) | inr u ↦ ap Some (omega arith) ]
    ]

-- A range that may end before it begins.
spread : (ws : List ℕ) (a b : ℕ) (r : Option ℕ) → First ws a b r → First ws a (a + (b - a)) r
spread ws a b None f = λ q l u. f q l (omega arith)
spread ws a b (Some p) f = record { from = f.from; below = omega (arith, f.from, f.below); free = f.free; before = f.before }

-- What is first free in a range is what the definition gives.
first_is : (ws : List ℕ) (a b : ℕ) (r : Option ℕ) → First ws a b r → r ≡ first_free ws a (b - a)
first_is ws a b r f = one_first ws a (a + (b - a)) r (first_free ws a (b - a)) (spread ws a b r f) (first_free_is ws a (b - a))

-- The ones of a word from page p on: those pages are not free, and the next is, if it is in that word.
same_word : (ws : List ℕ) (p q : ℕ) → q / 16 ≡ p / 16 → page_bit ws q ≡ bit (get_or ws (p / 16) 0) (q % 16)
unfolding page_bit
same_word ws p q e = ap (λ (i : ℕ). bit (get_or ws i 0) (q % 16)) e

pub passed : (ws : List ℕ) (a p n : ℕ) → AllTaken ws a p → Run (get_or ws (p / 16) 0) (p % 16) n → AllTaken ws a (p - p % 16 + n)
passed ws a p n f r q l u =
    elim (cases_lt q p) [
      | inl h ↦ f q l h
      | inr h ↦ let i = r.inside in same_word ws p q (omega arith) ∙ r.ones (q % 16) (omega arith) (omega arith)
    ]

pub stopped : (ws : List ℕ) (p n : ℕ) → Run (get_or ws (p / 16) 0) (p % 16) n → n < 16 → page_bit ws (p - p % 16 + n) ≡ 0
stopped ws p n r h =
    let e : (p - p % 16 + n) % 16 ≡ n = omega arith in
    same_word ws p (p - p % 16 + n) (omega arith) ∙ (ap (bit (get_or ws (p / 16) 0)) e ∙ r.stops h)

-- Two ranges, the second below the first.
both : (ws : List ℕ) (start n : ℕ) (r s : Option ℕ) → ((p : ℕ) → 1 ≤ p → p < start → p < n) → 1 ≤ start
    → First ws start (start + (n - start)) r → First ws 1 (1 + (start - 1)) s → SomeFree ws n (or_else r s)
both ws start n (Some p) s h o f g = record { from = omega (arith, f.from); below = omega (arith, f.from, f.below); free = f.free }
both ws start n None (Some p) h o f g = record { from = g.from; below = h p g.from (omega (arith, g.below)); free = g.free }
both ws start n None None h o f g = λ q l u. elim (cases_lt q start) [ inl b ↦ g q l (omega arith) | inr b ↦ f q b (omega arith) ]

round_from : (ws : List ℕ) (start n : ℕ) → ((p : ℕ) → 1 ≤ p → p < start → p < n) → 1 ≤ start → SomeFree ws n (round_free ws start n)
unfolding round_free
round_from ws start n h o =
    both ws start n (first_free ws start (n - start)) (first_free ws 1 (start - 1)) h o (first_free_is ws start (n - start)) (first_free_is ws 1 (start - 1))

-- Where no page of a range is free.
pub none_is : (ws : List ℕ) (a b p : ℕ) → b ≤ p → AllTaken ws a p → None ≡ first_free ws a (b - a)
none_is ws a b p l f = first_is ws a b None (λ q h u. f q h (omega arith))

-- A page where a search stops, which may lie past the range.
pub stop_is : (ws : List ℕ) (a b q : ℕ) → a ≤ q → page_bit ws q ≡ 0 → AllTaken ws a q → option_map {T = PageAddress} (λ x. x.page) (then_some (ltb q b) (record { page = q })) ≡ first_free ws a (b - a)
stop_is ws a b q l z f =
    elim (cases_Bool (ltb q b)) [
      | inl e ↦ ap (λ t. option_map (λ x. x.page) (then_some {T = PageAddress} t (record { page = q }))) e ∙ first_is ws a b (Some q) (record { from = l; below = ltb-true q b e; free = z; before = f })
      | inr e ↦ ap (λ t. option_map (λ x. x.page) (then_some {T = PageAddress} t (record { page = q }))) e ∙ none_is ws a b q (ltb-false q b e) f
    ]

-- How a search of a range ends.
pub ruleset ends = (passed, stopped, stop_is, none_is)

-- The first range, or else the second.
pub round_is : (ws : List ℕ) (start n : ℕ) (Q : Type 0) (r s : Option PageAddress) → option_map (λ a. a.page) r ≡ first_free ws start (n - start)
    → MatchOption r Q (λ x. s ≡ Some x) → (Q → option_map (λ a. a.page) s ≡ first_free ws 1 (start - 1)) → option_map (λ a. a.page) s ≡ round_free ws start n
unfolding round_free
round_is ws start n Q (Some x) s e m f = ap (option_map (λ a. a.page)) m ∙ ap (λ o. or_else o (first_free ws 1 (start - 1))) e
round_is ws start n Q None s e m f = f m ∙ ap (λ o. or_else o (first_free ws 1 (start - 1))) e

pub round_free_is : (ws : List ℕ) (start n : ℕ) → 1 ≤ start → start ≤ n → SomeFree ws n (round_free ws start n)
round_free_is ws start n o l = round_from ws start n (λ p h u. omega arith) o

-- A start from 1 to n is kept.
pub start_kept : (s n : ℕ) → 1 ≤ s → s ≤ n → start_page s n ≡ s
start_kept s n o l = cond-true (leb 1 s && leb s n) s 1 (and_from (leb 1 s) (leb s n) (le-leb 1 s o) (le-leb s n l))

pub next_free_is : (ws : List ℕ) (s n : ℕ) → SomeFree ws n (round_free ws (start_page s n) n)
next_free_is ws s n =
    cond_both (leb 1 s && leb s n) s 1 (λ x. SomeFree ws n (round_free ws x n))
    (λ e. let i = and_parts (leb 1 s) (leb s n) e in round_free_is ws s n (leb-true 1 s i.0) (leb-true s n i.1))
    (λ e. round_from ws 1 n (λ p h u. omega arith) (omega arith))
