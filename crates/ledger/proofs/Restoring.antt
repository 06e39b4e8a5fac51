-- A scavenge that goes through: the pages after all of its writes.
use Rattle.std.proofs.Common.{◌≡◌, ℕ, zero, suc, ◌+◌, ◌-◌, ◌<◌, ◌≤◌, Bool, true, false, cond, eqb, ◌⊎◌, List, [], ◌∷◌, ◌++◌, length, set, Some, None, Option, sym, refl, ap, ◌∙◌, subst, inl, inr, ⊎_elim, append_assoc, append-nil, arith, length-set}
use Rattle.std.specs.List.{range_with_len}
use Rattle.std.proofs.lemmas.Bool.{cases_Bool, cases_eq, cases_lt, eqb-true, eq-eqb, and_parts, and_from}
use Rattle.std.proofs.lemmas.List.{get_or_past, get_or-set_same, get_or-set_other}
use Rattle.disk.specs.declared.label.Label.{Label}
use Rattle.disk.specs.Labels.{free_label, words_of, label_of}
use Rattle.disk.specs.Media.{Page, Write, label_at, data_at, put, a_label, unreadable}
use Rattle.survey.specs.Chains.{Naming}
use Rattle.survey.proofs.Following.{not_true, has_label}
use Rattle.ledger.specs.Runs.{applied}
use Rattle.ledger.specs.Mends.{is_chained, page_after, page_before, relinked, mended_label, same_words, relabelling, mend_at, gathered, mend_writes}
use Rattle.ledger.proofs.Framing.{label_other, label_there}
use Rattle.ledger.proofs.Running.{applied_then, length_put}
use Rattle.ledger.proofs.Mending.{Between, mended_chained, mended_free, mended_none, mended_nought}

-- What is gathered from one page more.
pub gathered_more : (f : ℕ → List Write) (a k p : ℕ) → a + k ≡ p → gathered f (range_with_len a (suc k)) ≡ gathered f (range_with_len a k) ++ f p
gathered_more f a zero p e = append-nil (f a) ∙ ap f (omega arith)
gathered_more f a (suc k) p e = ap (λ (ws : List Write). f a ++ ws) (gathered_more f (a + 1) k p (omega arith)) ∙ sym (append_assoc (f a) (gathered f (range_with_len (a + 1) k)) (f p))

-- Nothing is gathered where no page has anything to write.
pub gathered_none : (f : ℕ → List Write) (a n : ℕ) → ((p : ℕ) → a ≤ p → p < a + n → f p ≡ []) → gathered f (range_with_len a n) ≡ []
gathered_none f a zero h = refl
gathered_none f a (suc n) h = rw (h a (omega arith) (omega arith)) (gathered_none f (a + 1) n (λ p i j. h p (omega arith) (omega arith)))

-- Labels with the same words are one.
words_same : (xs ys : List ℕ) → same_words xs ys ≡ true → xs ≡ ys
words_same [] [] h = refl
words_same [] (y ∷ ys) h = not_true false refl h
words_same (x ∷ xs) [] h = not_true false refl h
words_same (x ∷ xs) (y ∷ ys) h = let p = and_parts (eqb x y) (same_words xs ys) h in let a = eqb-true x y p.0 in let b = words_same xs ys p.1 in cc

same_label : (l m : Label) → same_words (words_of l) (words_of m) ≡ true → l ≡ m
same_label l m h = ap label_of (words_same (words_of l) (words_of m) h)

words_refl : (xs : List ℕ) → same_words xs xs ≡ true
words_refl [] = refl
words_refl (x ∷ xs) = and_from (eqb x x) (same_words xs xs) (eq-eqb x x refl) (words_refl xs)

pub relabelling_same : (p : ℕ) (o : Option Label) → relabelling p o o ≡ []
relabelling_same p None = refl
relabelling_same p (Some l) = rw (words_refl (words_of l))

-- What a label write leaves of data.
data_put : (ps : List Page) (f x : ℕ) (l : Label) → data_at (put ps f (a_label l)) x ≡ data_at ps x
data_put ps f x l = ⊎_elim
    (λ (e : x ≡ f). ⊎_elim
    (λ (h : f < length ps). ap (λ (y : ℕ). data_at (put ps f (a_label l)) y) e ∙ (ap (λ (y : Page). y.words) (get_or-set_same ps f _ unreadable h) ∙ ap (data_at ps) (sym e)))
    (λ (h : length ps ≤ f). let k : length (set ps f (record { label = Some l; words = data_at ps f })) ≡ length ps = length-set ps f _ in ap (λ (y : Page). y.words) (get_or_past (put ps f (a_label l)) x unreadable (omega arith) ∙ sym (get_or_past ps x unreadable (omega arith))))
    (cases_lt f (length ps)))
    (λ (d : x ≡ f → ⊥). ap (λ (y : Page). y.words) (get_or-set_other ps f x _ unreadable d))
    (cases_eq x f)

-- One page given a label.
pub record One (rs qs : List Page) (p : ℕ) (new : Option Label) : Type 0 where
  pub count : length qs ≡ length rs
  pub words : (x : ℕ) → data_at qs x ≡ data_at rs x
  pub others : (x : ℕ) → (x ≡ p → ⊥) → label_at qs x ≡ label_at rs x
  pub there : label_at qs p ≡ new

one_same : (rs : List Page) (p : ℕ) (new : Option Label) → label_at rs p ≡ new → One rs rs p new
one_same rs p new e = record { count = refl; words = λ x. refl; others = λ x d. refl; there = e }

pub one_page : (rs : List Page) (p : ℕ) (l m : Label) → label_at rs p ≡ Some l → One rs (applied (relabelling p (Some l) (Some m)) rs) p (Some m)
one_page rs p l m e = go (same_words (words_of l) (words_of m)) refl
  where
    go : (b : Bool) → same_words (words_of l) (words_of m) ≡ b → One rs (applied (cond b [] (Rattle.disk.specs.Media.label_write p m ∷ [])) rs) p (Some m)
    go true k = one_same rs p (Some m) (e ∙ ap {B = Option Label} Some (same_label l m k))
    go false k = record {
      count = length_put rs p (a_label m);
      words = λ x. data_put rs p x m;
      others = λ x d. label_other rs p x (a_label m) d;
      there = label_there rs p m (has_label rs p l e);
    }

-- The pages after those up to page k are mended.
pub record Prefix (name : Naming) (real : ℕ → ℕ) (ps : List Page) (k : ℕ) (rs : List Page) : Type 0 where
  pub count : length rs ≡ length ps
  pub words : (p : ℕ) → data_at rs p ≡ data_at ps p
  pub done : (p : ℕ) → 0 < p → p ≤ k → label_at rs p ≡ mended_label name real ps p
  pub left : (p : ℕ) → k < p → label_at rs p ≡ label_at ps p
  pub nought : label_at rs 0 ≡ label_at ps 0

mended_some : (name : Naming) (real : ℕ → ℕ) (ps : List Page) (p : ℕ) (l : Label) → 0 < p → label_at ps p ≡ Some l → (m : Label) × (mended_label name real ps p ≡ Some m)
mended_some name real ps p l h e = ⊎_elim
    (λ (c : is_chained name ps p ≡ true). (relinked (real (page_after name ps p)) (real (page_before name ps p)) l, mended_chained name real ps p l c e))
    (λ (c : is_chained name ps p ≡ false). (free_label, mended_free name real ps p l h c e))
    (cases_Bool (is_chained name ps p))

mend_one : (name : Naming) (real : ℕ → ℕ) (ps rs : List Page) (p : ℕ) → 0 < p → label_at rs p ≡ label_at ps p → One rs (applied (mend_at name real ps p) rs) p (mended_label name real ps p)
unfolding mend_at
mend_one name real ps rs p h e = go (label_at ps p) refl
  where
    go : (o : Option Label) → label_at ps p ≡ o → One rs (applied (relabelling p (label_at ps p) (mended_label name real ps p)) rs) p (mended_label name real ps p)
    go None n = subst (λ (o : Option Label). One rs (applied (relabelling p o (mended_label name real ps p)) rs) p (mended_label name real ps p)) (sym n) (one_same rs p (mended_label name real ps p) (e ∙ (n ∙ sym (mended_none name real ps p n))))
    go (Some l) n =
        let m = mended_some name real ps p l h n in
        subst (λ (o : Option Label). One rs (applied (relabelling p o (mended_label name real ps p)) rs) p (mended_label name real ps p)) (sym n)
        (subst (λ (o : Option Label). One rs (applied (relabelling p (Some l) o) rs) p o) (sym m.1) (one_page rs p l m.0 (e ∙ n)))

pub prefix_none : (name : Naming) (real : ℕ → ℕ) (ps : List Page) → Prefix name real ps 0 ps
prefix_none name real ps = record { count = refl; words = λ p. refl; done = λ p a b. absurd (omega arith); left = λ p a. refl; nought = refl }

prefix_more : (name : Naming) (real : ℕ → ℕ) (ps rs : List Page) (k : ℕ) → Prefix name real ps k rs → Prefix name real ps (suc k) (applied (mend_at name real ps (suc k)) rs)
prefix_more name real ps rs k x =
    let o = mend_one name real ps rs (suc k) (omega arith) (x.left (suc k) (omega arith)) in
    record {
      count = o.count ∙ x.count;
      words = λ p. o.words p ∙ x.words p;
      done = λ p a b. at o p a b (cases_eq p (suc k));
      left = λ p a. o.others p (λ e. omega arith) ∙ x.left p (omega arith);
      nought = o.others 0 (λ e. omega arith) ∙ x.nought;
    }
  where
    at : One rs (applied (mend_at name real ps (suc k)) rs) (suc k) (mended_label name real ps (suc k)) → (p : ℕ) → 0 < p → p ≤ suc k → (p ≡ suc k) ⊎ (p ≡ suc k → ⊥) → label_at (applied (mend_at name real ps (suc k)) rs) p ≡ mended_label name real ps p
    at o p a b (inl e) = ap (label_at (applied (mend_at name real ps (suc k)) rs)) e ∙ (o.there ∙ ap (mended_label name real ps) (sym e))
    at o p a b (inr d) = o.others p d ∙ x.done p a (omega arith)

pub prefix : (name : Naming) (real : ℕ → ℕ) (ps : List Page) (k : ℕ) → Prefix name real ps k (applied (gathered (mend_at name real ps) (range_with_len 1 k)) ps)
prefix name real ps zero = prefix_none name real ps
prefix name real ps (suc k) =
    subst (λ (rs : List Page). Prefix name real ps (suc k) rs)
    (sym (ap (λ (ws : List Write). applied ws ps) (gathered_more (mend_at name real ps) 1 k (suc k) (omega arith)) ∙ applied_then (gathered (mend_at name real ps) (range_with_len 1 k)) (mend_at name real ps (suc k)) ps))
    (prefix_more name real ps (applied (gathered (mend_at name real ps) (range_with_len 1 k)) ps) k (prefix name real ps k))

pub prefix_between : (name : Naming) (real : ℕ → ℕ) (ps rs : List Page) (k : ℕ) → Prefix name real ps k rs → Between name real ps rs
prefix_between name real ps rs k x = record { count = x.count; words = x.words; labels = λ p. at p (cases_lt 0 p) (cases_lt k p) }
  where
    at : (p : ℕ) → (0 < p) ⊎ (p ≤ 0) → (k < p) ⊎ (p ≤ k) → (label_at rs p ≡ label_at ps p) ⊎ (label_at rs p ≡ mended_label name real ps p)
    at p (inr z) h = let e : p ≡ 0 = omega arith in inl (ap (label_at rs) e ∙ (x.nought ∙ ap (label_at ps) (sym e)))
    at p (inl a) (inl h) = inl (x.left p h)
    at p (inl a) (inr h) = inr (x.done p a h)

-- All of them.
pub record AllMended (name : Naming) (real : ℕ → ℕ) (ps qs : List Page) : Type 0 where
  pub count : length qs ≡ length ps
  pub words : (p : ℕ) → data_at qs p ≡ data_at ps p
  pub labels : (p : ℕ) → label_at qs p ≡ mended_label name real ps p

pub all_mended : (name : Naming) (real : ℕ → ℕ) (ps : List Page) → AllMended name real ps (applied (mend_writes name real ps) ps)
unfolding mend_writes
all_mended name real ps =
    let x = prefix name real ps (length ps - 1) in
    record { count = x.count; words = x.words; labels = λ p. at x p (cases_lt 0 p) (cases_lt (length ps - 1) p) }
  where
    qs : List Page
    qs = applied (mend_writes name real ps) ps

    at : Prefix name real ps (length ps - 1) (applied (mend_writes name real ps) ps) → (p : ℕ) → (0 < p) ⊎ (p ≤ 0) → (length ps - 1 < p) ⊎ (p ≤ length ps - 1) → label_at (applied (mend_writes name real ps) ps) p ≡ mended_label name real ps p
    at x p (inr z) h = let e : p ≡ 0 = omega arith in ap (label_at (applied (mend_writes name real ps) ps)) e ∙ (x.nought ∙ (sym (mended_nought name real ps) ∙ ap (mended_label name real ps) (sym e)))
    at x p (inl a) (inr h) = x.done p a h
    at x p (inl a) (inl h) = let past : label_at ps p ≡ None = ap (λ (y : Page). y.label) (get_or_past ps p unreadable (omega arith)) in x.left p h ∙ (past ∙ sym (mended_none name real ps p past))

pub mended_between : (name : Naming) (real : ℕ → ℕ) (ps qs : List Page) → AllMended name real ps qs → Between name real ps qs
mended_between name real ps qs x = record { count = x.count; words = x.words; labels = λ p. inr (x.labels p) }
