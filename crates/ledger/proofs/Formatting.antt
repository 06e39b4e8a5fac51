-- What a format leaves: page for page, and what comes of that.
use Rattle.std.proofs.Common.{◌≡◌, ℕ, zero, suc, ◌+◌, ◌-◌, ◌*◌, ◌<◌, ◌≤◌, ◌⊎◌, List, map, length, Some, sym, refl, ap, ◌∙◌, subst, inl, inr, arith}
use Rattle.std.specs.List.{range_with_len}
use Rattle.std.proofs.lemmas.Bool.{cases_eq}
use Rattle.std.proofs.lemmas.List.{get_or-set_same, get_or-set_other}
use Rattle.disk.specs.declared.label.Label.{Label}
use Rattle.disk.specs.Labels.{free_label}
use Rattle.disk.specs.Media.{Page, unreadable, label_at, data_at, put, Part, a_label, a_data}
use Rattle.ledger.specs.Runs.{applied, freeing, freed_all}
use Rattle.ledger.specs.Formats.{directory_data, directory_leader_label, directory_page_label, directory_writes, format_writes, leader_data}
use Rattle.ledger.proofs.Running.{length_put, length_applied, applied_then}
use Rattle.ledger.proofs.Framing.{label_other, label_there, label_data}

-- The data of a page after a write.
pub data_other : (ps : List Page) (f x : ℕ) (p : Part) → (x ≡ f → ⊥) → data_at (put ps f p) x ≡ data_at ps x
data_other ps f x (a_label l) d = ap (λ (y : Page). y.words) (get_or-set_other ps f x _ unreadable d)
data_other ps f x (a_data w) d = ap (λ (y : Page). y.words) (get_or-set_other ps f x _ unreadable d)

pub data_label : (ps : List Page) (f : ℕ) (l : Label) → f < length ps → data_at (put ps f (a_label l)) f ≡ data_at ps f
data_label ps f l h = ap (λ (y : Page). y.words) (get_or-set_same ps f _ unreadable h)

pub data_there : (ps : List Page) (f : ℕ) (d : List ℕ) → f < length ps → data_at (put ps f (a_data d)) f ≡ Some d
data_there ps f d h = ap (λ (y : Page). y.words) (get_or-set_same ps f _ unreadable h)

-- The labels after a run that frees pages.
freed_below : (a k : ℕ) (ps : List Page) (p : ℕ) → p < a → label_at (applied (map freeing (range_with_len a k)) ps) p ≡ label_at ps p
freed_below a zero ps p h = refl
freed_below a (suc k) ps p h = freed_below (a + 1) k (put ps a (a_label free_label)) p (omega arith) ∙ label_other ps a p (a_label free_label) (λ e. omega arith)

freed_within : (a k : ℕ) (ps : List Page) (p : ℕ) → a ≤ p → p < a + k → p < length ps → label_at (applied (map freeing (range_with_len a k)) ps) p ≡ Some free_label
freed_within a zero ps p h i j = absurd (omega arith)
freed_within a (suc k) ps p h i j = go (cases_eq p a) (λ l. freed_within (a + 1) k (put ps a (a_label free_label)) p l (omega arith) (rw (length_put ps a (a_label free_label)) j))
  where
    us : List Page
    us = applied (map freeing (range_with_len (a + 1) k)) (put ps a (a_label free_label))

    go : (p ≡ a) ⊎ (p ≡ a → ⊥) → (a + 1 ≤ p → label_at us p ≡ Some free_label) → label_at us p ≡ Some free_label
    go (inr d) more = more (omega arith)
    go (inl e) more = freed_below (a + 1) k (put ps a (a_label free_label)) p (omega arith) ∙ (ap (label_at (put ps a (a_label free_label))) e ∙ label_there ps a free_label (rw e at j))

-- What stands on the pages of a new pack of c cylinders: nothing is said of page 0.
pub record Fresh (c : ℕ) (qs : List Page) : Type 0 where
  pub least : 1 ≤ c
  pub most : c ≤ 406
  pub count : length qs ≡ 24 * c
  pub at_1 : label_at qs 1 ≡ Some directory_leader_label
  pub at_2 : label_at qs 2 ≡ Some directory_page_label
  pub free : (p : ℕ) → 3 ≤ p → p < length qs → label_at qs p ≡ Some free_label
  pub data_1 : data_at qs 1 ≡ Some (leader_data 0 0)
  pub data_2 : data_at qs 2 ≡ Some directory_data

-- The directory's four writes, on pages of which those above 0 are free.
directory_on : (c : ℕ) (us : List Page) → 1 ≤ c → c ≤ 406 → length us ≡ 24 * c → ((p : ℕ) → 1 ≤ p → p < length us → label_at us p ≡ Some free_label) → Fresh c (applied directory_writes us)
directory_on c us least most count free =
    let a = put us 2 (a_data directory_data) in
    let b = put a 2 (a_label directory_page_label) in
    let d = put b 1 (a_data (leader_data 0 0)) in
    let la : length a ≡ length us = length_put us 2 (a_data directory_data) in
    let lb : length b ≡ length us = length_put a 2 (a_label directory_page_label) ∙ la in
    let ld : length d ≡ length us = length_put b 1 (a_data (leader_data 0 0)) ∙ lb in
    record {
      least = least;
      most = most;
      count = length_put d 1 (a_label directory_leader_label) ∙ (ld ∙ count);
      at_1 = label_there d 1 directory_leader_label (omega arith);
      at_2 = label_other d 1 2 (a_label directory_leader_label) (λ e. omega arith) ∙ (label_data b 1 2 (leader_data 0 0) ∙ label_there a 2 directory_page_label (omega arith));
      free = λ p h i. label_other d 1 p (a_label directory_leader_label) (λ e. omega arith) ∙ (label_data b 1 p (leader_data 0 0) ∙ (label_other a 2 p (a_label directory_page_label) (λ e. omega arith) ∙ (label_data us 2 p directory_data ∙ free p (omega arith) (omega (arith, length_put d 1 (a_label directory_leader_label))))));
      data_1 = data_label d 1 directory_leader_label (omega arith) ∙ data_there b 1 (leader_data 0 0) (omega arith);
      data_2 = data_other d 1 2 (a_label directory_leader_label) (λ e. omega arith) ∙ (data_other b 1 2 (a_data (leader_data 0 0)) (λ e. omega arith) ∙ (data_label a 2 directory_page_label (omega arith) ∙ data_there us 2 directory_data (omega arith)));
    }

pub formatted : (c : ℕ) (ps : List Page) → 1 ≤ c → c ≤ 406 → length ps ≡ 24 * c → Fresh c (applied (format_writes (length ps)) ps)
formatted c ps least most count =
    let n = length ps in
    let us = applied (freed_all n) ps in
    let lu : length us ≡ n = length_applied (freed_all n) ps in
    subst (λ (qs : List Page). Fresh c qs) (sym (applied_then (freed_all n) directory_writes ps))
    (directory_on c us least most (lu ∙ count) (λ p h i. freed_within 1 (n - 1) ps p h (omega arith) (omega arith)))
