-- The bit table of a pack: which pages are free.
use Rattle.std.specs.Prelude.{◌≡◌, ℕ, zero, suc, ◌+◌, ◌-◌, ◌*◌, ◌/◌, ◌%◌, ◌^◌, ◌<◌, ◌≤◌, cond, ◌&&◌, ◌⊎◌, List, [], ◌∷◌, length, replicate, Some, None, sum_by, Option, ◌==◌, ◌≢◌, nat_le, slice_index, slice_set}
use Rattle.std.specs.Int.Count.{ones, count_leading_zeros}
use Rattle.std.specs.List.{AllByRecursion}
use Rattle.disk.specs.Labels.{bit}

-- The bit of page p: 0 where it is free. A word has 16 pages, the first in its leftmost bit.
unfoldable pub page_bit : List ℕ → ℕ → ℕ
page_bit ws p = bit (slice_index ws (p / 16)) (p % 16)

-- The table with the bit of page p 1, and all else the same.
unfoldable pub taken : List ℕ → ℕ → List ℕ
unfolding page_bit
taken ws p = slice_set ws (p / 16) (slice_index ws (p / 16) + (1 - page_bit ws p) * 2 ^ (15 - p % 16))

-- The table with the bit of page p 0, and all else the same.
unfoldable pub freed : List ℕ → ℕ → List ℕ
unfolding page_bit
freed ws p = slice_set ws (p / 16) (slice_index ws (p / 16) - page_bit ws p * 2 ^ (15 - p % 16))

-- The table with those pages free, one after the other.
unfoldable pub free_all : List ℕ → List ℕ → List ℕ
free_all [] ws = ws
free_all (p ∷ ps) ws = free_all ps (freed ws p)

-- The table of the largest pack, 9,744 pages, with no page free.
unfoldable pub none_free : List ℕ
none_free = replicate 609 65535

-- The first of the n pages from a on that is free.
unfoldable pub first_free : List ℕ → ℕ → ℕ → Option ℕ
first_free ws a zero = None
first_free ws a (suc n) = cond (page_bit ws a == 0) (Some a) (first_free ws (a + 1) n)

abbrev pub or_else : Option ℕ → Option ℕ → Option ℕ
or_else (Some p) o = Some p
or_else None o = o

-- The first free page from start up to n - 1, and then from 1 up to start - 1.
unfoldable pub round_free : List ℕ → ℕ → ℕ → Option ℕ
round_free ws start n = or_else (first_free ws start (n - start)) (first_free ws 1 (start - 1))

-- Where a search of n pages starts: at s where s is from 1 to n, else at 1.
abbrev pub start_page : ℕ → ℕ → ℕ
start_page s n = cond (nat_le 1 s && nat_le s n) s 1

-- How many bits of a table are 1, and how many 0.
unfoldable pub ones_in : List ℕ → ℕ
ones_in ws = sum_by (λ w. ones w) ws

unfoldable pub zeros_in : List ℕ → ℕ
zeros_in ws = sum_by (λ w. 16 - ones w) ws

-- Each word of a table has 16 bits.
abbrev pub Words : List ℕ → Type 0
Words ws = AllByRecursion (λ w. w < 65536) ws

abbrev pub In : ℕ → List ℕ → Type 0
In p [] = ⊥
In p (q ∷ qs) = (p ≡ q) ⊎ In p qs

-- The page p is the first that is free from a up to b - 1, or none there is.
pub record FirstAt (ws : List ℕ) (a b p : ℕ) : Type 0 where
  pub from : a ≤ p
  pub below : p < b
  pub free : page_bit ws p ≡ 0
  pub before : (q : ℕ) → a ≤ q → q < p → page_bit ws q ≡ 1

abbrev pub AllTaken : List ℕ → ℕ → ℕ → Type 0
AllTaken ws a b = (q : ℕ) → a ≤ q → q < b → page_bit ws q ≡ 1

abbrev pub First : List ℕ → ℕ → ℕ → Option ℕ → Type 0
First ws a b (Some p) = FirstAt ws a b p
First ws a b None = AllTaken ws a b

-- The page p is free, from 1 up to n - 1.
pub record FreeAt (ws : List ℕ) (n p : ℕ) : Type 0 where
  pub from : 1 ≤ p
  pub below : p < n
  pub free : page_bit ws p ≡ 0

abbrev pub SomeFree : List ℕ → ℕ → Option ℕ → Type 0
SomeFree ws n (Some p) = FreeAt ws n p
SomeFree ws n None = AllTaken ws 1 n

-- In a word, the bits from k on are 1 up to r, and there is a 0 or the end.
pub record Run (w k r : ℕ) : Type 0 where
  pub from : k ≤ r
  pub inside : r ≤ 16
  pub ones : (i : ℕ) → k ≤ i → i < r → bit w i ≡ 1
  pub stops : r < 16 → bit w r ≡ 0

-- What is proved of a table of any length, which has 16 pages for each word. The leading ones of a
-- word are the leading zeros of its complement.
pub record BitLaws : Type 0 where
  pub one_or_nought : (ws : List ℕ) (p : ℕ) → page_bit ws p < 2
  pub taken_same : (ws : List ℕ) (p : ℕ) → p < 16 * length ws → page_bit (taken ws p) p ≡ 1
  pub taken_other : (ws : List ℕ) (p q : ℕ) → (q ≢ p) → q < 16 * length ws → page_bit (taken ws p) q ≡ page_bit ws q
  pub taken_again : (ws : List ℕ) (p : ℕ) → page_bit ws p ≡ 1 → taken ws p ≡ ws
  pub taken_length : (ws : List ℕ) (p : ℕ) → length (taken ws p) ≡ length ws
  pub taken_words : (ws : List ℕ) (p : ℕ) → Words ws → Words (taken ws p)
  pub freed_same : (ws : List ℕ) (p : ℕ) → p < 16 * length ws → page_bit (freed ws p) p ≡ 0
  pub freed_other : (ws : List ℕ) (p q : ℕ) → (q ≢ p) → q < 16 * length ws → page_bit (freed ws p) q ≡ page_bit ws q
  pub freed_again : (ws : List ℕ) (p : ℕ) → page_bit ws p ≡ 0 → freed ws p ≡ ws
  pub freed_length : (ws : List ℕ) (p : ℕ) → length (freed ws p) ≡ length ws
  pub freed_words : (ws : List ℕ) (p : ℕ) → Words ws → Words (freed ws p)
  pub free_all_in : (ps ws : List ℕ) (q : ℕ) → q < 16 * length ws → In q ps → page_bit (free_all ps ws) q ≡ 0
  pub free_all_out : (ps ws : List ℕ) (q : ℕ) → q < 16 * length ws → (In q ps → ⊥) → page_bit (free_all ps ws) q ≡ page_bit ws q
  pub free_all_length : (ps ws : List ℕ) → length (free_all ps ws) ≡ length ws
  pub free_all_words : (ps ws : List ℕ) → Words ws → Words (free_all ps ws)
  pub none_free_bit : (p : ℕ) → p < 9744 → page_bit none_free p ≡ 1
  pub none_free_length : length none_free ≡ 609
  pub none_free_words : Words none_free
  pub leading_ones : (w : ℕ) → w < 65536 → Run w 0 (count_leading_zeros 16 (65535 - w))
  pub first_free_is : (ws : List ℕ) (a n : ℕ) → First ws a (a + n) (first_free ws a n)
  pub round_free_is : (ws : List ℕ) (start n : ℕ) → 1 ≤ start → start ≤ n → SomeFree ws n (round_free ws start n)
  pub start_kept : (s n : ℕ) → 1 ≤ s → s ≤ n → start_page s n ≡ s
  pub next_free_is : (ws : List ℕ) (s n : ℕ) → SomeFree ws n (round_free ws (start_page s n) n)
  pub all_bits : (ws : List ℕ) → Words ws → ones_in ws + zeros_in ws ≡ 16 * length ws
