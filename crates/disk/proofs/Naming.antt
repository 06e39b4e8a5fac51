-- The laws of the conversion.
use Rattle.std.proofs.Common.{◌≡◌, ℕ, ◌+◌, ◌*◌, ◌/◌, ◌%◌, ◌<◌, ◌≤◌, Bool, true, false, cond, ◌&&◌, eqb, ltb, leb, Some, None, Option, refl, ap, arith}
use Rattle.std.proofs.lemmas.Bool.{le-leb, lt-ltb, and_from, and_parts, leb-true, ltb-true, eqb-true}
use Rattle.disk.specs.Addresses.{sector, track, head, disk_and_restore, names_a_page, page_named, real_address, Conversion, AddressExamples}

-- The parts of the word that real_address makes.
abbrev made : ℕ → ℕ
made p = 4096 * (p % 12) + 8 * (p / 24) + 4 * (p / 12 % 2)

made_sector : (p : ℕ) → p < 9744 → made p / 4096 ≡ p % 12
made_sector p h = omega arith

low : (a b : ℕ) → b < 512 → (512 * a + b) % 512 ≡ b
low a b h = omega arith

made_track : (p : ℕ) → p < 9744 → made p / 8 % 512 ≡ p / 24
made_track p h =
    let a : made p / 8 ≡ 512 * (p % 12) + p / 24 = omega arith in
    let b : p / 24 < 512 = omega arith in
    rw a (low (p % 12) (p / 24) b)

made_head : (p : ℕ) → p < 9744 → made p / 4 % 2 ≡ p / 12 % 2
made_head p h = omega arith

made_low : (p : ℕ) → made p % 4 ≡ 0
made_low p = omega arith

parts : (p : ℕ) → p % 12 + 12 * (p / 12 % 2) + 24 * (p / 24) ≡ p
parts p = omega arith

there : (c p : ℕ) → c ≤ 406 → p < 24 * c → page_named c (real_address p) ≡ Some p
unfolding page_named real_address
there c p h k =
    let i : p < 9744 = omega arith in
    let s : leb (made p / 4096) 11 ≡ true = rw (made_sector p i) (le-leb (p % 12) 11 (omega arith)) in
    let t : ltb (made p / 8 % 512) c ≡ true = rw (made_track p i) (lt-ltb (p / 24) c (omega arith)) in
    let z : eqb (made p % 4) 0 ≡ true = rw (made_low p) in
    rw (and_from (leb (made p / 4096) 11) (ltb (made p / 8 % 512) c && eqb (made p % 4) 0) s (and_from (ltb (made p / 8 % 512) c) (eqb (made p % 4) 0) t z))
    (ap {B = Option ℕ} Some (rw (made_sector p i, made_track p i, made_head p i) (parts p)))

record Named (c w p : ℕ) : Type 0 where
  few : w / 4096 ≤ 11
  near : w / 8 % 512 < c
  clear : w % 4 ≡ 0
  is : w / 4096 + 12 * (w / 4 % 2) + 24 * (w / 8 % 512) ≡ p

named : (c w p : ℕ) → page_named c w ≡ Some p → Named c w p
unfolding page_named
named c w p e = go (names_a_page c w) refl e
  where
    go : (b : Bool) → names_a_page c w ≡ b → cond b (Some (sector w + 12 * head w + 24 * track w)) None ≡ Some p → Named c w p
    go false h k = let z : ◌≡◌ {A = ℕ} 0 1 = cc in absurd (omega arith)
    go true h k =
        let a = and_parts (leb (sector w) 11) (ltb (track w) c && eqb (disk_and_restore w) 0) h in
        let b = and_parts (ltb (track w) c) (eqb (disk_and_restore w) 0) a.1 in
        record { few = leb-true (w / 4096) 11 a.0; near = ltb-true (w / 8 % 512) c b.0; clear = eqb-true (w % 4) 0 b.1; is = cc }

-- A word of sector s, head h and track t is the one made of that page.
whole : (s h t w p : ℕ) → s ≤ 11 → h ≤ 1 → s + 12 * h + 24 * t ≡ p → w ≡ 4096 * s + 8 * t + 4 * h → w ≡ made p
whole s h t w p a b e f =
    let i : p / 12 ≡ h + 2 * t = omega arith in
    let j : p % 12 ≡ s = omega arith in
    let k : p / 24 ≡ t = omega arith in
    let l : p / 12 % 2 ≡ h = rw i (odd h t b) in
    rw (j, k, l) f
  where
    odd : (h t : ℕ) → h ≤ 1 → (h + 2 * t) % 2 ≡ h
    odd h t b = omega arith

split : (w : ℕ) → w % 4 ≡ 0 → w ≡ 4096 * (w / 4096) + 8 * (w / 8 % 512) + 4 * (w / 4 % 2)
split w z = omega arith

back : (c w p : ℕ) → page_named c w ≡ Some p → w ≡ real_address p
unfolding real_address
back c w p e =
    let n = named c w p e in
    whole (w / 4096) (w / 4 % 2) (w / 8 % 512) w p n.few (omega arith) n.is (split w n.clear)

inside : (c w p : ℕ) → page_named c w ≡ Some p → p < 24 * c
inside c w p e = let n = named c w p e in omega (arith, n.few, n.near, n.is)

pub conversion : (c : ℕ) → c ≤ 406 → Conversion c
unfolding real_address
conversion c h = record { there = λ p k. there c p h k; back = back c; inside = inside c; nought = refl }

pub address_examples : AddressExamples
unfolding page_named real_address
address_examples = record {
  page_1 = refl;
  page_12 = refl;
  page_24 = refl;
  page_95 = refl;
  page_4871 = refl;
  page_9743 = refl;
  real_4096 = refl;
  real_4 = refl;
  real_8 = refl;
  real_45084 = refl;
  real_46676 = refl;
  real_48300 = refl;
  sector_12 = λ c. refl;
  disk_bit = none_2;
}
  where
    none_2 : (c : ℕ) → cond (names_a_page c 2) (Some (sector 2 + 12 * head 2 + 24 * track 2)) None ≡ None
    none_2 c = go (ltb (track 2) c)
      where
        go : (b : Bool) → cond (b && false) (Some (sector 2 + 12 * head 2 + 24 * track 2)) None ≡ None
        go true = refl
        go false = refl
