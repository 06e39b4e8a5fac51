-- Writes that change no chain: the proofs.
use Rattle.std.proofs.Common.{◌≡◌, ℕ, zero, suc, ◌+◌, ◌<◌, ◌≤◌, Bool, true, false, cond, ◌&&◌, eqb, ltb, ◌⊎◌, List, [], ◌∷◌, length, set, Some, None, Option, sym, refl, ap, ◌∙◌, subst, inl, inr, arith}
use Rattle.std.proofs.lemmas.Bool.{cases_eq, cases_lt}
use Rattle.std.proofs.lemmas.List.{get_or-set_same, get_or-set_other}
use Rattle.disk.specs.declared.label.Label.{Label}
use Rattle.disk.specs.Labels.{is_file, free_label}
use Rattle.disk.specs.Media.{Page, label_at, put, a_label, a_data, Part, unreadable}
use Rattle.survey.specs.Chains.{Naming, leads, is_leader, kept_if, points, joins, same_id, follower, chain, rest}
use Rattle.survey.specs.Laws.{In, Leader}
use Rattle.survey.proofs.Walks.{Links}
use Rattle.survey.proofs.Following.{file_plain, links, rest_is, next_in_chain, leader_is, has_label}
use Rattle.ledger.specs.Frames.{with_previous, SameChains, Unchained, Unnamed, FrameLaws}

-- What stands on a page after a write.
pub label_other : (ps : List Page) (f x : ℕ) (p : Part) → (x ≡ f → ⊥) → label_at (put ps f p) x ≡ label_at ps x
label_other ps f x (a_label l) d = ap (λ (y : Page). y.label) (get_or-set_other ps f x _ unreadable d)
label_other ps f x (a_data w) d = ap (λ (y : Page). y.label) (get_or-set_other ps f x _ unreadable d)

pub label_there : (ps : List Page) (f : ℕ) (l : Label) → f < length ps → label_at (put ps f (a_label l)) f ≡ Some l
label_there ps f l h = ap (λ (y : Page). y.label) (get_or-set_same ps f _ unreadable h)

past_set : (ps : List Page) (f : ℕ) (y : Page) → length ps ≤ f → set ps f y ≡ ps
past_set [] f y h = refl
past_set (p ∷ ps) zero y h = absurd (omega arith)
past_set (p ∷ ps) (suc f) y h = ap (λ (zs : List Page). p ∷ zs) (past_set ps f y (omega arith))

pub label_data : (ps : List Page) (f x : ℕ) (d : List ℕ) → label_at (put ps f (a_data d)) x ≡ label_at ps x
label_data ps f x d = go (cases_eq x f) (cases_lt f (length ps))
  where
    go : (x ≡ f) ⊎ (x ≡ f → ⊥) → (f < length ps) ⊎ (length ps ≤ f) → label_at (put ps f (a_data d)) x ≡ label_at ps x
    go (inr n) h = label_other ps f x (a_data d) n
    go (inl e) (inl h) = ap (λ (y : ℕ). label_at (put ps f (a_data d)) y) e ∙ (ap (λ (y : Page). y.label) (get_or-set_same ps f _ unreadable h) ∙ ap (label_at ps) (sym e))
    go (inl e) (inr h) = ap (λ (zs : List Page). label_at zs x) (past_set ps f _ h)

-- Two packs with the same labels along a chain, where what a page names also joins the same.
kept_same : (t u : ℕ → Bool) (o : Option ℕ) → ((p : ℕ) → o ≡ Some p → t p ≡ u p) → kept_if t o ≡ kept_if u o
kept_same t u None h = refl
kept_same t u (Some p) h = ap (λ (b : Bool). cond b (Some p) None) (h p refl)

pub follower_same : (name : Naming) (ps qs : List Page) (x : ℕ) → label_at qs x ≡ label_at ps x → ((p : ℕ) → points name (label_at ps x) ≡ Some p → joins (label_at ps x) (label_at qs p) ≡ joins (label_at ps x) (label_at ps p)) → follower name qs x ≡ follower name ps x
follower_same name ps qs x e h =
    ap (λ (a : Option Label). kept_if (λ p. joins a (label_at qs p)) (points name a)) e
    ∙ kept_same (λ p. joins (label_at ps x) (label_at qs p)) (λ p. joins (label_at ps x) (label_at ps p)) (points name (label_at ps x)) h

walk_same : (f g : ℕ → Option ℕ) (x : ℕ) (ys : List ℕ) → ((z : ℕ) → In z (x ∷ ys) → g z ≡ f z) → Links f x ys → Links g x ys
walk_same f g x [] h l = h x (inl refl) ∙ l
walk_same f g x (y ∷ ys) h l = (h x (inl refl) ∙ l.0, walk_same f g y ys (λ z i. h z (inr i)) l.1)

pub chain_same : (name : Naming) (ps qs : List Page) (q : ℕ) → ((x : ℕ) → In x (chain name ps q) → follower name qs x ≡ follower name ps x) → chain name qs q ≡ chain name ps q
chain_same name ps qs q h = ap (λ (zs : List ℕ). q ∷ zs) (rest_is name qs q (rest name ps q) (walk_same (follower name ps) (follower name qs) q (rest name ps q) h (links name ps q)))

-- A data write.
data_there : (name : Naming) (ps : List Page) (f : ℕ) (d : List ℕ) → SameChains name ps (put ps f (a_data d))
data_there name ps f d = record {
  leaders = λ q. ap (λ (o : Option Label). ltb 0 q && leads o) (label_data ps f q d);
  chains = λ q k. chain_same name ps (put ps f (a_data d)) q (λ x i. follower_same name ps (put ps f (a_data d)) x (label_data ps f x d) (λ p e. ap (joins (label_at ps x)) (label_data ps f p d)));
}

-- A label on a page that is in no chain.
leaders_elsewhere : (ps qs : List Page) (f : ℕ) → ((q : ℕ) → (q ≡ f → ⊥) → label_at qs q ≡ label_at ps q) → is_leader qs f ≡ is_leader ps f → (q : ℕ) → is_leader qs q ≡ is_leader ps q
leaders_elsewhere ps qs f other same q = go (cases_eq q f)
  where
    go : (q ≡ f) ⊎ (q ≡ f → ⊥) → is_leader qs q ≡ is_leader ps q
    go (inl e) = ap (is_leader qs) e ∙ (same ∙ ap (is_leader ps) (sym e))
    go (inr d) = ap (λ (o : Option Label). ltb 0 q && leads o) (other q d)

not_leading : (name : Naming) (ps : List Page) (f : ℕ) → Unchained name ps f → is_leader ps f ≡ false
not_leading name ps f un = go (is_leader ps f) refl
  where
    go : (b : Bool) → is_leader ps f ≡ b → is_leader ps f ≡ false
    go false e = e
    go true e = absurd (un f (leader_is ps f e) (inl refl))

apart : (name : Naming) (ps : List Page) (f q x : ℕ) → Unchained name ps f → Leader ps q → In x (chain name ps q) → x ≡ f → ⊥
apart name ps f q x un k i e = un q k (subst (λ (y : ℕ). In y (chain name ps q)) e i)

elsewhere : (name : Naming) (ps : List Page) (f : ℕ) (l : Label) → Unchained name ps f → Unnamed name ps f → is_leader (put ps f (a_label l)) f ≡ false → SameChains name ps (put ps f (a_label l))
elsewhere name ps f l un no_name new = record {
  leaders = leaders_elsewhere ps (put ps f (a_label l)) f (λ q d. label_other ps f q (a_label l) d) (new ∙ sym (not_leading name ps f un));
  chains = λ q k. chain_same name ps (put ps f (a_label l)) q (λ x i. follower_same name ps (put ps f (a_label l)) x (label_other ps f x (a_label l) (apart name ps f q x un k i))
      (λ p e. ap (joins (label_at ps x)) (label_other ps f p (a_label l) (λ s. no_name q x k i (e ∙ ap {B = Option ℕ} Some s)))));
}

-- The free label joins nothing.
pub free_joins : (a : Option Label) → joins a (Some free_label) ≡ false
free_joins None = refl
free_joins (Some l) = refl

freeing_one : (name : Naming) (ps : List Page) (f : ℕ) → Unchained name ps f → SameChains name ps (put ps f (a_label free_label))
freeing_one name ps f un = go (cases_lt f (length ps))
  where
    qs : List Page
    qs = put ps f (a_label free_label)

    go : (f < length ps) ⊎ (length ps ≤ f) → SameChains name ps (put ps f (a_label free_label))
    go (inr h) = subst (λ (zs : List Page). SameChains name ps zs) (sym (past_set ps f _ h)) (record { leaders = λ q. refl; chains = λ q k. refl })
    go (inl h) = record {
      leaders = leaders_elsewhere ps (put ps f (a_label free_label)) f (λ q d. label_other ps f q (a_label free_label) d) (ap (λ (o : Option Label). ltb 0 f && leads o) (label_there ps f free_label h) ∙ (none (ltb 0 f) ∙ sym (not_leading name ps f un)));
      chains = λ q k. chain_same name ps (put ps f (a_label free_label)) q (λ x i. follower_same name ps (put ps f (a_label free_label)) x (label_other ps f x (a_label free_label) (apart name ps f q x un k i))
          (λ p e. at q x k i p e (cases_eq p f)));
    }
      where
        none : (b : Bool) → (b && false) ≡ false
        none true = refl
        none false = refl

        at : (q x : ℕ) → Leader ps q → In x (chain name ps q) → (p : ℕ) → points name (label_at ps x) ≡ Some p → (p ≡ f) ⊎ (p ≡ f → ⊥) → joins (label_at ps x) (label_at (put ps f (a_label free_label)) p) ≡ joins (label_at ps x) (label_at ps p)
        at q x k i p e (inr d) = ap (joins (label_at ps x)) (label_other ps f p (a_label free_label) d)
        at q x k i p e (inl s) =
            ap (λ (y : ℕ). joins (label_at ps x) (label_at (put ps f (a_label free_label)) y)) s ∙ (ap (joins (label_at ps x)) (label_there ps f free_label h) ∙ (free_joins (label_at ps x) ∙ sym (unjoined (joins (label_at ps x) (label_at ps p)) refl)))
          where
            unjoined : (b : Bool) → joins (label_at ps x) (label_at ps p) ≡ b → joins (label_at ps x) (label_at ps p) ≡ false
            unjoined false j = j
            unjoined true j = absurd (un q k (subst (λ (y : ℕ). In y (chain name ps q)) s (next_in_chain name ps q x p i (rw e (rw j)))))

-- The previous link plays no part.
file_previous : (w : ℕ) (l : Label) → is_file (with_previous w l) ≡ is_file l
file_previous w l = file_plain (with_previous w l) ∙ sym (file_plain l)

joins_second : (a : Option Label) (w : ℕ) (l : Label) → joins a (Some (with_previous w l)) ≡ joins a (Some l)
joins_second None w l = refl
joins_second (Some k) w l = ap (λ (b : Bool). b && (same_id k l && eqb l.number (k.number + 1))) (file_previous w l)

joins_first : (w : ℕ) (l : Label) (b : Option Label) → joins (Some (with_previous w l)) b ≡ joins (Some l) b
joins_first w l None = refl
joins_first w l (Some m) = refl

-- A label up to its previous link.
record Alike (a b : Option Label) : Type 0 where
  leading : leads b ≡ leads a
  pointing : (name : Naming) → points name b ≡ points name a
  before : (c : Option Label) → joins b c ≡ joins a c
  behind : (c : Option Label) → joins c b ≡ joins c a

alike_same : (a : Option Label) → Alike a a
alike_same a = record { leading = refl; pointing = λ n. refl; before = λ c. refl; behind = λ c. refl }

alike_previous : (w : ℕ) (l : Label) → Alike (Some l) (Some (with_previous w l))
alike_previous w l = record {
  leading = ap (λ (b : Bool). b && (eqb l.number 0 && eqb l.characters 512)) (file_previous w l);
  pointing = λ n. refl;
  before = joins_first w l;
  behind = λ c. joins_second c w l;
}

follower_alike : (name : Naming) (ps qs : List Page) → ((x : ℕ) → Alike (label_at ps x) (label_at qs x)) → (x : ℕ) → follower name qs x ≡ follower name ps x
follower_alike name ps qs h x =
    ap (kept_if (λ p. joins (label_at qs x) (label_at qs p))) ((h x).pointing name)
    ∙ kept_same (λ p. joins (label_at qs x) (label_at qs p)) (λ p. joins (label_at ps x) (label_at ps p)) (points name (label_at ps x)) (λ p e. (h x).before (label_at qs p) ∙ (h p).behind (label_at ps x))

previous_one : (name : Naming) (ps : List Page) (f w : ℕ) (l : Label) → label_at ps f ≡ Some l → SameChains name ps (put ps f (a_label (with_previous w l)))
previous_one name ps f w l e = record {
  leaders = λ q. ap (λ (b : Bool). ltb 0 q && b) (same q).leading;
  chains = λ q k. chain_same name ps (put ps f (a_label (with_previous w l))) q (λ x i. follower_alike name ps (put ps f (a_label (with_previous w l))) same x);
}
  where
    at : (x : ℕ) → (x ≡ f) ⊎ (x ≡ f → ⊥) → Alike (label_at ps x) (label_at (put ps f (a_label (with_previous w l))) x)
    at x (inr d) = subst (λ (o : Option Label). Alike (label_at ps x) o) (sym (label_other ps f x (a_label (with_previous w l)) d)) (alike_same (label_at ps x))
    at x (inl s) =
        subst (λ (y : ℕ). Alike (label_at ps y) (label_at (put ps f (a_label (with_previous w l))) y)) (sym s)
        (subst (λ (o : Option Label). Alike o (label_at (put ps f (a_label (with_previous w l))) f)) (sym e)
        (subst (λ (o : Option Label). Alike (Some l) o) (sym (label_there ps f (with_previous w l) (has_label ps f l e))) (alike_previous w l)))

    same : (x : ℕ) → Alike (label_at ps x) (label_at (put ps f (a_label (with_previous w l))) x)
    same x = at x (cases_eq x f)

pub frame_laws : (name : Naming) (ps : List Page) → FrameLaws name ps
frame_laws name ps = record {
  data_write_there = data_there name ps;
  label_elsewhere = elsewhere name ps;
  previous_alone = λ f w l e. previous_one name ps f w l e;
  freed = freeing_one name ps;
}
