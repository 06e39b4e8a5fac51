-- A scavenge that is cut: each label is the old one or the mended one.
use Rattle.std.proofs.Common.{◌≡◌, ℕ, zero, suc, ◌-◌, Bool, true, false, cond, ◌⊎◌, List, [], ◌∷◌, ◌++◌, length, Some, None, Option, sym, ap, ◌∙◌, subst, inl, inr, ⊎_elim, arith}
use Rattle.std.specs.List.{range_with_len}
use Rattle.disk.specs.declared.label.Label.{Label}
use Rattle.disk.specs.declared.refusal.Refusal.{Refusal}
use Rattle.disk.specs.Labels.{words_of}
use Rattle.disk.specs.Media.{Page, Medium, Write, label_at, label_write}
use Rattle.survey.specs.Chains.{Naming}
use Rattle.ledger.specs.Runs.{Stopped, applied, SecondStopped}
use Rattle.ledger.specs.Mends.{same_words, relabelling, mended_label, mend_at, gathered, mend_writes}
use Rattle.ledger.proofs.Running.{stopped_parts, through_whole, refused_torn}
use Rattle.ledger.proofs.Mending.{Between}
use Rattle.ledger.proofs.Restoring.{gathered_more, Prefix, prefix, prefix_between}

-- What stands after one page's write was refused: the pages before it, or those with it.
one_refused : (p : ℕ) (o q : Option Label) (n : Medium) (e : Refusal) (t : Medium) → Stopped (relabelling p o q) n e t → (t.pages ≡ n.pages) ⊎ (t.pages ≡ applied (relabelling p o q) n.pages)
one_refused p None q n e t s = absurd s
one_refused p (Some l) None n e t s = absurd s
one_refused p (Some l) (Some m) n e t s = go (same_words (words_of l) (words_of m)) s
  where
    go : (b : Bool) → Stopped (cond b [] (label_write p m ∷ [])) n e t → (t.pages ≡ n.pages) ⊎ (t.pages ≡ applied (cond b [] (label_write p m ∷ [])) n.pages)
    go true k = absurd k
    go false (inl k) = refused_torn (label_write p m) n e t k
    go false (inr k) = absurd k.1

module _ (name : Naming) (real : ℕ → ℕ) (m : Medium) where
  second : (k : ℕ) (e : Refusal) (t : Medium) → gathered (mend_at name real m.pages) (range_with_len 1 (suc k)) ≡ gathered (mend_at name real m.pages) (range_with_len 1 k) ++ mend_at name real m.pages (suc k) → SecondStopped (gathered (mend_at name real m.pages) (range_with_len 1 k)) (mend_at name real m.pages (suc k)) m e t → Between name real m.pages t.pages
  unfolding mend_at
  second k e t more h =
      let f = mend_at name real m.pages in
      let ps = m.pages in
      let whole = through_whole (gathered f (range_with_len 1 k)) m h.between h.first in
      let now : h.between.pages ≡ applied (gathered f (range_with_len 1 k)) ps = ap (λ (x : Medium). x.pages) whole in
      ⊎_elim
      (λ (u : t.pages ≡ h.between.pages). prefix_between name real ps t.pages k (subst (λ (rs : List Page). Prefix name real ps k rs) (sym (u ∙ now)) (prefix name real ps k)))
      (λ (u : t.pages ≡ applied (relabelling (suc k) (label_at ps (suc k)) (mended_label name real ps (suc k))) h.between.pages).
      prefix_between name real ps t.pages (suc k) (subst (λ (rs : List Page). Prefix name real ps (suc k) rs) (sym (u ∙ (ap (applied (f (suc k))) now ∙ sym (ap (λ (ws : List Write). applied ws ps) more ∙ Rattle.ledger.proofs.Running.applied_then (gathered f (range_with_len 1 k)) (f (suc k)) ps)))) (prefix name real ps (suc k))))
      (one_refused (suc k) (label_at ps (suc k)) (mended_label name real ps (suc k)) h.between e t h.second)

  stopped_to : (k : ℕ) (e : Refusal) (t : Medium) → Stopped (gathered (mend_at name real m.pages) (range_with_len 1 k)) m e t → Between name real m.pages t.pages
  stopped_to zero e t s = absurd s
  stopped_to (suc k) e t s =
      let f = mend_at name real m.pages in
      let more : gathered f (range_with_len 1 (suc k)) ≡ gathered f (range_with_len 1 k) ++ f (suc k) = gathered_more f 1 k (suc k) (omega arith) in
      ⊎_elim (λ (h : Stopped (gathered (mend_at name real m.pages) (range_with_len 1 k)) m e t). stopped_to k e t h)
      (λ (h : SecondStopped (gathered (mend_at name real m.pages) (range_with_len 1 k)) (mend_at name real m.pages (suc k)) m e t). second k e t more h)
      (stopped_parts (gathered f (range_with_len 1 k)) (f (suc k)) m e t (subst (λ (ws : List Write). Stopped ws m e t) more s))

  pub stopped_between : (e : Refusal) (t : Medium) → Stopped (mend_writes name real m.pages) m e t → Between name real m.pages t.pages
  unfolding mend_writes
  stopped_between e t s = stopped_to (length m.pages - 1) e t s
