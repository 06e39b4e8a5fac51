-- Real addresses, page addresses and the conversion between them.
use Rattle.std.specs.Prelude.{◌≡◌, ℕ, ◌+◌, ◌*◌, ◌/◌, ◌%◌, ◌<◌, Bool, cond, ◌&&◌, Some, None, Option, ◌==◌, nat_le, nat_lt}

-- The parts of a real address, from the left: sector 4 bits, track 9, head 1, disk 1, restore 1.
abbrev pub sector : ℕ → ℕ
sector w = w / 4096

abbrev pub track : ℕ → ℕ
track w = w / 8 % 512

abbrev pub head : ℕ → ℕ
head w = w / 4 % 2

abbrev pub disk_and_restore : ℕ → ℕ
disk_and_restore w = w % 4

abbrev pub names_a_page : ℕ → ℕ → Bool
names_a_page c w = nat_le (sector w) 11 && (nat_lt (track w) c && disk_and_restore w == 0)

-- The page that the word w names on a pack of c cylinders.
unfoldable pub page_named : ℕ → ℕ → Option ℕ
page_named c w = cond (names_a_page c w) (Some (sector w + 12 * head w + 24 * track w)) None

-- The real address of page p.
unfoldable pub real_address : ℕ → ℕ
real_address p = 4096 * (p % 12) + 8 * (p / 24) + 4 * (p / 12 % 2)

-- The same, where the pack has that page.
abbrev pub real_named : ℕ → ℕ → Option ℕ
real_named c p = cond (nat_lt p (24 * c)) (Some (real_address p)) None

-- What the rest of the workbench uses of the conversion on a pack of c cylinders, and all of it.
pub record Conversion (c : ℕ) : Type 0 where
  pub there : (p : ℕ) → p < 24 * c → page_named c (real_address p) ≡ Some p
  pub back : (w p : ℕ) → page_named c w ≡ Some p → w ≡ real_address p
  pub inside : (w p : ℕ) → page_named c w ≡ Some p → p < 24 * c
  pub nought : real_address 0 ≡ 0

pub record AddressExamples : Type 0 where
  pub page_1 : real_named 4 1 ≡ Some 4096
  pub page_12 : real_named 4 12 ≡ Some 4
  pub page_24 : real_named 4 24 ≡ Some 8
  pub page_95 : real_named 4 95 ≡ Some 45084
  pub page_4871 : real_named 203 4871 ≡ Some 46676
  pub page_9743 : real_named 406 9743 ≡ Some 48300
  pub real_4096 : page_named 4 4096 ≡ Some 1
  pub real_4 : page_named 4 4 ≡ Some 12
  pub real_8 : page_named 4 8 ≡ Some 24
  pub real_45084 : page_named 4 45084 ≡ Some 95
  pub real_46676 : page_named 203 46676 ≡ Some 4871
  pub real_48300 : page_named 406 48300 ≡ Some 9743
  pub sector_12 : (c : ℕ) → page_named c 49152 ≡ None
  pub disk_bit : (c : ℕ) → page_named c 2 ≡ None
