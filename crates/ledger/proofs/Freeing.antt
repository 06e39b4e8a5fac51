-- The run that frees each page above 0, as a loop makes it: before page p the pages below it are freed.
use Rattle.std.proofs.Common.{◌≡◌, ℕ, ◌+◌, ◌-◌, ◌<◌, ◌≤◌, [], ◌∷◌, length, get_or, take, arith}
use Rattle.std.proofs.lemmas.List.FromFn.{length-map-range_with_len, get_or-map-range_with_len}
use Rattle.disk.specs.declared.refusal.Refusal.{Refusal}
use Rattle.disk.specs.declared.label.Label.{Label}
use Rattle.disk.specs.Labels.{free_label}
use Rattle.disk.specs.Media.{Medium, label_write}
use Rattle.ledger.specs.Runs.{Through, Stopped, freeing, freed_all}
use Rattle.ledger.proofs.Running.{more_at, cut_at, all_at}

pub length_freed : (n : ℕ) → length (freed_all n) ≡ n - 1
length_freed n = length-map-range_with_len freeing 1 (n - 1)

at : (n p : ℕ) → 1 ≤ p → p < n → (p - 1 < length (freed_all n)) × (get_or (freed_all n) (p - 1) (freeing p) ≡ freeing p)
at n p a b = (rw (length_freed n) (omega arith), get_or-map-range_with_len freeing 1 (n - 1) (p - 1) p (freeing p) (omega arith) (omega arith))

pub freed_more : (n p : ℕ) (l : Label) (m k t : Medium) → 1 ≤ p → p < n → l ≡ free_label → Through (take (p - 1) (freed_all n)) m k → Through (label_write p l ∷ []) k t → Through (take (p + 1 - 1) (freed_all n)) m t
freed_more n p l m k t a b e h w =
    let z : p + 1 - 1 ≡ p - 1 + 1 = omega arith in
    rw z (more_at (freed_all n) (p - 1) (freeing p) m k t (at n p a b).0 (at n p a b).1 h (rw e at w))

pub freed_cut : (n p : ℕ) (l : Label) (m k : Medium) (e : Refusal) (t : Medium) → 1 ≤ p → p < n → l ≡ free_label → Through (take (p - 1) (freed_all n)) m k → Stopped (label_write p l ∷ []) k e t → Stopped (freed_all n) m e t
freed_cut n p l m k e t a b f h w = cut_at (freed_all n) (p - 1) (freeing p) m k e t (at n p a b).0 (at n p a b).1 h (rw f at w)

pub freed_done : (n p : ℕ) (m t : Medium) → n ≤ p → Through (take (p - 1) (freed_all n)) m t → Through (freed_all n) m t
freed_done n p m t a h = all_at (freed_all n) (p - 1) m t (rw (length_freed n) (omega arith)) h
