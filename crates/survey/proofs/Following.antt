-- What follows what, and the chains that come of it.
use Rattle.std.proofs.Common.{◌≡◌, ℕ, ◌+◌, ◌<◌, ◌≤◌, Bool, true, false, cond, not, ◌&&◌, eqb, ltb, leb, ◌⊎◌, List, [], ◌∷◌, length, get_or, Some, None, Option, sym, refl, ap, ◌∙◌, subst, inl, inr, arith}
use Rattle.std.proofs.lemmas.Bool.{cases_lt, eqb-true, eq-eqb, ltb-true, lt-ltb, and_parts, and_from}
use Rattle.std.proofs.lemmas.List.{get_or_past}
use Rattle.disk.specs.declared.label.Label.{Label}
use Rattle.disk.specs.declared.label.FileId.{FileId}
use Rattle.disk.specs.Labels.{is_file, is_free, random_mark, id_of}
use Rattle.disk.specs.Media.{Page, label_at, unreadable}
use Rattle.survey.specs.Chains.{Naming, same_file, same_id, leads, is_leader, kept_if, points, joins, follower, rest, chain}
use Rattle.survey.specs.Laws.{In, Distinct, Follows, Leader}
use Rattle.survey.proofs.Walks.{Steps, Links, links_next, steps, distinct, number_at, kept_along, stepped_to, all_below, pigeonhole, is_behind, enough}

pub never : {X : Type 0} {A : Type 0} (o : Option A) (x : A) → o ≡ None → o ≡ Some x → X
never o x a b = let z : ◌≡◌ {A = ℕ} 0 1 = cc in absurd (omega arith)

pub not_true : {X : Type 0} (b : Bool) → b ≡ false → b ≡ true → X
not_true b h k = let z : ◌≡◌ {A = ℕ} 0 1 = cc in absurd (omega arith)

pub kept_some : (t : ℕ → Bool) (o : Option ℕ) (p : ℕ) → kept_if t o ≡ Some p → (o ≡ Some p) × (t p ≡ true)
kept_some t None p e = never None p refl e
kept_some t (Some x) p e = go (t x) refl e
  where
    go : (b : Bool) → t x ≡ b → cond b (Some x) None ≡ Some p → (Some x ≡ Some p) × (t p ≡ true)
    go true h k = (k, let s : x ≡ p = cc in rw s at h)
    go false h k = never None p refl k

pub kept_from : (t : ℕ → Bool) (o : Option ℕ) (p : ℕ) → o ≡ Some p → t p ≡ true → kept_if t o ≡ Some p
kept_from t o p e h = rw (e, h)

-- The free label bears the random mark, so a label without it is not the free one.
seventh : (a b c d e f g h : Bool) → (a && (b && (c && (d && (e && (f && (g && h))))))) ≡ true → g ≡ true
seventh a b c d e f g h t = (and_parts g h (and_parts f _ (and_parts e _ (and_parts d _ (and_parts c _ (and_parts b _ (and_parts a _ t).1).1).1).1).1).1).0

pub file_plain : (l : Label) → is_file l ≡ (not (random_mark (id_of l)) && leb l.characters 512)
file_plain l = go (is_free l) refl
  where
    go : (b : Bool) → is_free l ≡ b → (not b && (not (random_mark (id_of l)) && leb l.characters 512)) ≡ (not (random_mark (id_of l)) && leb l.characters 512)
    go false e = refl
    go true e =
        let h : l.serial1 ≡ 65535 = eqb-true l.serial1 65535 (seventh (eqb l.next.word 0) (eqb l.previous.word 0) (eqb l.blank 0) (eqb l.characters 0) (eqb l.number 0) (eqb l.version 65535) (eqb l.serial1 65535) (eqb l.serial2 65535) e) in
        rw h

pub file_not_free : (l : Label) → is_file l ≡ true → is_free l ≡ false
file_not_free l h = go (is_free l) refl (and_parts (not (is_free l)) (not (random_mark (id_of l)) && leb l.characters 512) h).0
  where
    go : (b : Bool) → is_free l ≡ b → not b ≡ true → is_free l ≡ false
    go false e k = e
    go true e k = not_true (not true) refl k

pub file_same : (f g : FileId) → same_file f g ≡ true → f ≡ g
file_same f g h =
    let v = and_parts (eqb f.version g.version) (eqb f.serial1 g.serial1 && eqb f.serial2 g.serial2) h in
    let s = and_parts (eqb f.serial1 g.serial1) (eqb f.serial2 g.serial2) v.1 in
    rw (eqb-true f.version g.version v.0, eqb-true f.serial1 g.serial1 s.0, eqb-true f.serial2 g.serial2 s.1)

pub file_from : (f g : FileId) → f ≡ g → same_file f g ≡ true
file_from f g e =
    and_from (eqb f.version g.version) (eqb f.serial1 g.serial1 && eqb f.serial2 g.serial2) (eq-eqb f.version g.version (ap (λ (h : FileId). h.version) e))
    (and_from (eqb f.serial1 g.serial1) (eqb f.serial2 g.serial2) (eq-eqb f.serial1 g.serial1 (ap (λ (h : FileId). h.serial1) e)) (eq-eqb f.serial2 g.serial2 (ap (λ (h : FileId). h.serial2) e)))

pub id_same : (l m : Label) → same_id l m ≡ true → id_of l ≡ id_of m
id_same l m h = file_same (id_of l) (id_of m) h

pub same_from : (l m : Label) → id_of l ≡ id_of m → same_id l m ≡ true
same_from l m e = file_from (id_of l) (id_of m) e

-- The computed follower says what it should, and back.
pub follows : (name : Naming) (ps : List Page) (q p : ℕ) → follower name ps q ≡ Some p → Follows name ps q p
follows name ps q p e = go (label_at ps q) refl (label_at ps p) refl (kept_some (λ x. joins (label_at ps q) (label_at ps x)) (points name (label_at ps q)) p e).0 (kept_some (λ x. joins (label_at ps q) (label_at ps x)) (points name (label_at ps q)) p e).1
  where
    pointed : (l : Label) (b : Bool) → eqb l.characters 512 ≡ b → cond b (kept_if (ltb 0) (name l.next.word)) None ≡ Some p → (l.characters ≡ 512) × (kept_if (ltb 0) (name l.next.word) ≡ Some p)
    pointed l true e h = (eqb-true l.characters 512 e, h)
    pointed l false e h = never None p refl h

    go : (a : Option Label) → label_at ps q ≡ a → (b : Option Label) → label_at ps p ≡ b → points name (label_at ps q) ≡ Some p → joins (label_at ps q) (label_at ps p) ≡ true → Follows name ps q p
    go None ea b eb h k = never None p refl (rw ea at h)
    go (Some l) ea None eb h k = let k2 : false ≡ true = rw (ea, eb) at k in not_true false refl k2
    go (Some l) ea (Some m) eb h k =
        let k2 : joins (Some l) (Some m) ≡ true = rw (ea, eb) at k in
        let h2 : points name (Some l) ≡ Some p = rw ea at h in
        let f = and_parts (is_file m) (same_id l m && eqb m.number (l.number + 1)) k2 in
        let i = and_parts (same_id l m) (eqb m.number (l.number + 1)) f.1 in
        let pt = pointed l (eqb l.characters 512) refl h2 in
        let pk = kept_some (ltb 0) (name l.next.word) p pt.1 in
        record { from = l; to = m; at_q = ea; at_p = eb; full = pt.0; named = pk.0; above = ltb-true 0 p pk.1; file = f.0; same_file = id_same l m i.0; one_higher = eqb-true m.number (l.number + 1) i.1 }

pub follower_from : (name : Naming) (ps : List Page) (q p : ℕ) → Follows name ps q p → follower name ps q ≡ Some p
follower_from name ps q p k =
    kept_from (λ x. joins (label_at ps q) (label_at ps x)) (points name (label_at ps q)) p
    (rw (k.at_q, k.full) (kept_from (ltb 0) (name k.from.next.word) p k.named (lt-ltb 0 p k.above)))
    (rw (k.at_q, k.at_p) (and_from (is_file k.to) (same_id k.from k.to && eqb k.to.number (k.from.number + 1)) k.file
    (and_from (same_id k.from k.to) (eqb k.to.number (k.from.number + 1)) (same_from k.from k.to k.same_file) (eq-eqb k.to.number (k.from.number + 1) k.one_higher))))

-- The same of leaders.
pub leader_is : (ps : List Page) (q : ℕ) → is_leader ps q ≡ true → Leader ps q
leader_is ps q h = go (label_at ps q) refl (and_parts (ltb 0 q) (leads (label_at ps q)) h).1
  where
    go : (a : Option Label) → label_at ps q ≡ a → leads (label_at ps q) ≡ true → Leader ps q
    go None e k = let k2 : false ≡ true = rw e at k in not_true false refl k2
    go (Some l) e k =
        let k2 : leads (Some l) ≡ true = rw e at k in
        let f = and_parts (is_file l) (eqb l.number 0 && eqb l.characters 512) k2 in
        let n = and_parts (eqb l.number 0) (eqb l.characters 512) f.1 in
        record { label = l; at_q = e; above = ltb-true 0 q (and_parts (ltb 0 q) (leads (label_at ps q)) h).0; file = f.0; first = eqb-true l.number 0 n.0; full = eqb-true l.characters 512 n.1 }

pub leader_from : (ps : List Page) (q : ℕ) → Leader ps q → is_leader ps q ≡ true
leader_from ps q k =
    and_from (ltb 0 q) (leads (label_at ps q)) (lt-ltb 0 q k.above)
    (rw k.at_q (and_from (is_file k.label) (eqb k.label.number 0 && eqb k.label.characters 512) k.file (and_from (eqb k.label.number 0) (eqb k.label.characters 512) (eq-eqb k.label.number 0 k.first) (eq-eqb k.label.characters 512 k.full))))

-- A page with a label is a page of the pack.
pub has_label : (ps : List Page) (p : ℕ) (l : Label) → label_at ps p ≡ Some l → p < length ps
has_label ps p l e = go (cases_lt p (length ps))
  where
    go : (p < length ps) ⊎ (length ps ≤ p) → p < length ps
    go (inl h) = h
    go (inr h) = never (label_at ps p) l (ap (λ (x : Page). x.label) (get_or_past ps p unreadable h)) e

unfoldable pub number : Option Label → ℕ
number None = 0
number (Some l) = l.number

up : (name : Naming) (ps : List Page) (x y : ℕ) → follower name ps x ≡ Some y → number (label_at ps y) ≡ number (label_at ps x) + 1
unfolding number
up name ps x y e = let t = follows name ps x y e in rw (t.at_q, t.at_p) t.one_higher

pub below : (name : Naming) (ps : List Page) (x y : ℕ) → follower name ps x ≡ Some y → y < length ps
below name ps x y e = let t = follows name ps x y e in has_label ps y t.to t.at_p

-- The pages behind a page: linked, and to the end.
pub links : (name : Naming) (ps : List Page) (q : ℕ) → Links (follower name ps) q (rest name ps q)
unfolding rest
links name ps q = enough (follower name ps) (λ x. number (label_at ps x)) (up name ps) (length ps) (below name ps) q

pub rest_is : (name : Naming) (ps : List Page) (q : ℕ) (ys : List ℕ) → Links (follower name ps) q ys → rest name ps q ≡ ys
unfolding rest
rest_is name ps q ys l =
    let st = steps (follower name ps) q ys l in
    is_behind (follower name ps) q ys l (length ps)
    (pigeonhole (length ps) ys (all_below (follower name ps) (length ps) (below name ps) q ys st) (distinct (follower name ps) (λ x. number (label_at ps x)) (up name ps) q ys st).1)

pub rest_step : (name : Naming) (ps : List Page) (x y : ℕ) → follower name ps x ≡ Some y → rest name ps x ≡ y ∷ rest name ps y
rest_step name ps x y e = rest_is name ps x (y ∷ rest name ps y) (e, links name ps y)

pub rest_stop : (name : Naming) (ps : List Page) (x : ℕ) → follower name ps x ≡ None → rest name ps x ≡ []
rest_stop name ps x e = rest_is name ps x [] e

pub chain_steps : (name : Naming) (ps : List Page) (q : ℕ) → Steps (follower name ps) q (rest name ps q)
chain_steps name ps q = steps (follower name ps) q (rest name ps q) (links name ps q)

pub no_repeats : (name : Naming) (ps : List Page) (q : ℕ) → Distinct (chain name ps q)
no_repeats name ps q = distinct (follower name ps) (λ x. number (label_at ps x)) (up name ps) q (rest name ps q) (chain_steps name ps q)

pub numbered_from : (name : Naming) (ps : List Page) (q k : ℕ) → k < length (chain name ps q) → number (label_at ps (get_or (chain name ps q) k 0)) ≡ number (label_at ps q) + k
numbered_from name ps q k h = number_at (follower name ps) (λ x. number (label_at ps x)) (up name ps) q (rest name ps q) (chain_steps name ps q) k 0 h

pub next_in_chain : (name : Naming) (ps : List Page) (q x y : ℕ) → In x (chain name ps q) → follower name ps x ≡ Some y → In y (chain name ps q)
next_in_chain name ps q x y i e = inr (links_next (follower name ps) q (rest name ps q) (links name ps q) x y i e)

-- Every page behind another follows some page, so it has a file label and is above 0.
pub behind_follows : (name : Naming) (ps : List Page) (q p : ℕ) → In p (rest name ps q) → (w : ℕ) × Follows name ps w p
behind_follows name ps q p i = let t = stepped_to (follower name ps) q (rest name ps q) (chain_steps name ps q) p i in (t.0, follows name ps t.0 p t.1)

-- All pages of a chain have one file id.
unfoldable pub id_at : Option Label → FileId
id_at None = record { version = 0; serial1 = 0; serial2 = 0 }
id_at (Some l) = id_of l

pub one_id : (name : Naming) (ps : List Page) (q p : ℕ) → In p (chain name ps q) → id_at (label_at ps q) ≡ id_at (label_at ps p)
unfolding id_at
one_id name ps q p i =
    kept_along (follower name ps) (λ u v. id_at (label_at ps u) ≡ id_at (label_at ps v)) (λ u. refl)
    (λ u v w e k. (let t = follows name ps u v e in rw (t.at_q, t.at_p) t.same_file) ∙ k)
    q (rest name ps q) (chain_steps name ps q) p i

-- A page of a leader's chain has a file label and lies above 0.
pub record Member (ps : List Page) (p : ℕ) : Type 0 where
  pub label : Label
  pub at_p : label_at ps p ≡ Some label
  pub above : 0 < p
  pub file : is_file label ≡ true

pub member : (name : Naming) (ps : List Page) (q p : ℕ) → Leader ps q → In p (chain name ps q) → Member ps p
member name ps q p k (inl e) = subst (λ (x : ℕ). Member ps x) (sym e) (record { label = k.label; at_p = k.at_q; above = k.above; file = k.file })
member name ps q p k (inr i) = let t = behind_follows name ps q p i in record { label = t.1.to; at_p = t.1.at_p; above = t.1.above; file = t.1.file }
