-- Pages freed one after the other.
use Rattle.std.proofs.Common.{◌≡◌, ℕ, zero, suc, ◌+◌, List, [], ◌∷◌, ◌++◌, refl, ap, arith}
use Rattle.std.specs.List.{range_with_len}
use Rattle.bits.specs.Bits.{free_all, freed}

pub free_more : (ws : List ℕ) (a k p : ℕ) → a + k ≡ p → free_all (range_with_len a (suc k)) ws ≡ freed (free_all (range_with_len a k) ws) p
unfolding free_all
free_more ws a zero p e = ap (freed ws) (omega arith)
free_more ws a (suc k) p e = free_more (freed ws a) (a + 1) k p (omega arith)

pub free_append : (xs ys ws : List ℕ) → free_all (xs ++ ys) ws ≡ free_all ys (free_all xs ws)
unfolding free_all
free_append [] ys ws = refl
free_append (x ∷ xs) ys ws = free_append xs ys (freed ws x)
