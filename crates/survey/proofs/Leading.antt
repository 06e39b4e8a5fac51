-- The first page that passes a test; the leader of a page; rivals.
use Rattle.std.proofs.Common.{◌≡◌, ℕ, zero, suc, ◌+◌, ◌-◌, ◌<◌, ◌≤◌, Bool, true, false, cond, not, ◌&&◌, eqb, ltb, ◌⊎◌, List, length, Some, None, Option, sym, refl, ap, ◌∙◌, inl, inr, arith}
use Rattle.std.specs.List.{range_with_len}
use Rattle.std.proofs.lemmas.Bool.{cases_eq, eq-eqb, ne_eqb, ltb-true, lt-ltb, and_parts, and_from}
use Rattle.disk.specs.declared.label.Label.{Label}
use Rattle.disk.specs.Media.{Page, label_at}
use Rattle.survey.specs.Chains.{Naming, is_leader, chain, is_in, first_of, pages_above, leader_of, one_file, are_rivals, rival_of, rivalled}
use Rattle.survey.specs.Laws.{In, Leader}
use Rattle.survey.proofs.Walks.{in_is_in, is_in_in}
use Rattle.survey.proofs.Following.{not_true, id_same, same_from, leader_is, leader_from, has_label, one_id, id_at}

pub first_is : (t : ℕ → Bool) (a n p : ℕ) → a ≤ p → p < a + n → t p ≡ true → ((q : ℕ) → a ≤ q → q < p → t q ≡ false) → first_of t (range_with_len a n) ≡ p
first_is t a zero p h k e low = absurd (omega arith)
first_is t a (suc n) p h k e low = go (cases_eq a p) (λ l. first_is t (a + 1) n p l (omega arith) e (λ q u v. low q (omega arith) v))
  where
    go : (a ≡ p) ⊎ (a ≡ p → ⊥) → (a + 1 ≤ p → first_of t (range_with_len (a + 1) n) ≡ p) → cond (t a) a (first_of t (range_with_len (a + 1) n)) ≡ p
    go (inl s) more = let x : t a ≡ true = ap t s ∙ e in rw x s
    go (inr s) more = let x : t a ≡ false = low a (omega arith) (omega arith) in rw x (more (omega arith))

pub first_none : (t : ℕ → Bool) (a n : ℕ) → ((q : ℕ) → a ≤ q → q < a + n → t q ≡ false) → first_of t (range_with_len a n) ≡ 0
first_none t a zero low = refl
first_none t a (suc n) low = let x : t a ≡ false = low a (omega arith) (omega arith) in rw x (first_none t (a + 1) n (λ q u v. low q (omega arith) (omega arith)))

pub record First (t : ℕ → Bool) (a n p : ℕ) : Type 0 where
  pub passes : t p ≡ true
  pub from : a ≤ p
  pub to : p < a + n
  pub least : (q : ℕ) → a ≤ q → q < p → t q ≡ false

-- What the first one is, where there is one.
pub first_found : (t : ℕ → Bool) (a n : ℕ) → 0 < first_of t (range_with_len a n) → First t a n (first_of t (range_with_len a n))
first_found t a zero h = absurd (omega arith)
first_found t a (suc n) h = go (t a) refl (λ k. first_found t (a + 1) n k) h
  where
    go : (b : Bool) → t a ≡ b → (0 < first_of t (range_with_len (a + 1) n) → First t (a + 1) n (first_of t (range_with_len (a + 1) n))) → 0 < cond b a (first_of t (range_with_len (a + 1) n)) → First t a (suc n) (cond b a (first_of t (range_with_len (a + 1) n)))
    go true e more k = record { passes = e; from = omega arith; to = omega arith; least = λ q u v. absurd (omega arith) }
    go false e more k =
        let m = more k in
        let f = m.from in
        let g = m.to in
        record { passes = m.passes; from = omega arith; to = omega arith; least = λ q u v. early q u v m (cases_eq q a) }
      where
        early : (q : ℕ) → a ≤ q → q < first_of t (range_with_len (a + 1) n) → First t (a + 1) n (first_of t (range_with_len (a + 1) n)) → (q ≡ a) ⊎ (q ≡ a → ⊥) → t q ≡ false
        early q u v m (inl s) = ap t s ∙ e
        early q u v m (inr s) = m.least q (omega arith) v

-- Where one passes, there is a first one.
pub first_there : (t : ℕ → Bool) (a n q : ℕ) → 0 < a → a ≤ q → q < a + n → t q ≡ true → 0 < first_of t (range_with_len a n)
first_there t a zero q z h k e = absurd (omega arith)
first_there t a (suc n) q z h k e = go (t a) refl (λ l. first_there t (a + 1) n q (omega arith) l (omega arith) e)
  where
    go : (b : Bool) → t a ≡ b → (a + 1 ≤ q → 0 < first_of t (range_with_len (a + 1) n)) → 0 < cond b a (first_of t (range_with_len (a + 1) n))
    go true s more = z
    go false s more = more (after (cases_eq a q))
      where
        after : (a ≡ q) ⊎ (a ≡ q → ⊥) → a + 1 ≤ q
        after (inl u) = not_true (t a) s (ap t u ∙ e)
        after (inr u) = omega arith

-- A leader is a page of the pack.
in_pack : (ps : List Page) (q : ℕ) → Leader ps q → q < length ps
in_pack ps q k = has_label ps q k.label k.at_q

-- The leader of a page.
pub record Led (name : Naming) (ps : List Page) (q p : ℕ) : Type 0 where
  pub leader : Leader ps q
  pub inside : In p (chain name ps q)

pub leader_of_is : (name : Naming) (ps : List Page) (p : ℕ) → 0 < leader_of name ps p → Led name ps (leader_of name ps p) p
unfolding leader_of
leader_of_is name ps p h =
    let t = λ (q : ℕ). is_leader ps q && is_in p (chain name ps q) in
    let f = first_found t 1 (length ps - 1) h in
    let q = first_of t (pages_above ps) in
    let b = and_parts (is_leader ps q) (is_in p (chain name ps q)) f.passes in
    record { leader = leader_is ps q b.0; inside = is_in_in p (chain name ps q) b.1 }

pub leader_of_there : (name : Naming) (ps : List Page) (q p : ℕ) → Led name ps q p → 0 < leader_of name ps p
unfolding leader_of
leader_of_there name ps q p l =
    let i = in_pack ps q l.leader in
    first_there (λ q. is_leader ps q && is_in p (chain name ps q)) 1 (length ps - 1) q (omega arith) l.leader.above (omega arith)
    (and_from (is_leader ps q) (is_in p (chain name ps q)) (leader_from ps q l.leader) (in_is_in p (chain name ps q) l.inside))

-- Rivals.
pub record Rival (ps : List Page) (p q : ℕ) : Type 0 where
  pub apart : p ≡ q → ⊥
  pub one : Leader ps p
  pub two : Leader ps q
  pub same : id_at (label_at ps p) ≡ id_at (label_at ps q)

one_file_is : (a b : Option Label) → one_file a b ≡ true → id_at a ≡ id_at b
unfolding id_at
one_file_is None b h = not_true false refl h
one_file_is (Some l) None h = not_true false refl h
one_file_is (Some l) (Some m) h = id_same l m h

one_file_from : (l m : Label) (a b : Option Label) → a ≡ Some l → b ≡ Some m → id_at a ≡ id_at b → one_file a b ≡ true
unfolding id_at
one_file_from l m a b ea eb e = rw (ea, eb) (same_from l m (rw (ea, eb) at e))

pub rivals_are : (ps : List Page) (p q : ℕ) → are_rivals ps p q ≡ true → Rival ps p q
rivals_are ps p q h =
    let a = and_parts (not (eqb p q)) (is_leader ps p && (is_leader ps q && one_file (label_at ps p) (label_at ps q))) h in
    let b = and_parts (is_leader ps p) (is_leader ps q && one_file (label_at ps p) (label_at ps q)) a.1 in
    let c = and_parts (is_leader ps q) (one_file (label_at ps p) (label_at ps q)) b.1 in
    record {
      apart = λ e. not_true (not (eqb p q)) (ap not (eq-eqb p q e)) a.0;
      one = leader_is ps p b.0;
      two = leader_is ps q c.0;
      same = one_file_is (label_at ps p) (label_at ps q) c.1;
    }

pub rivals_from : (ps : List Page) (p q : ℕ) → Rival ps p q → are_rivals ps p q ≡ true
rivals_from ps p q r =
    and_from (not (eqb p q)) (is_leader ps p && (is_leader ps q && one_file (label_at ps p) (label_at ps q))) (ap not (ne_eqb p q r.apart))
    (and_from (is_leader ps p) (is_leader ps q && one_file (label_at ps p) (label_at ps q)) (leader_from ps p r.one)
    (and_from (is_leader ps q) (one_file (label_at ps p) (label_at ps q)) (leader_from ps q r.two) (one_file_from r.one.label r.two.label (label_at ps p) (label_at ps q) r.one.at_q r.two.at_q r.same)))

pub rival_back : (ps : List Page) (p q : ℕ) → Rival ps p q → Rival ps q p
rival_back ps p q r = record { apart = λ e. r.apart (sym e); one = r.two; two = r.one; same = sym r.same }

-- A page that has a rival is known by the number of its lowest one.
pub rival_there : (ps : List Page) (p q : ℕ) → Rival ps p q → 0 < rival_of ps p
rival_there ps p q r =
    let i = in_pack ps q r.two in
    first_there (are_rivals ps p) 1 (length ps - 1) q (omega arith) r.two.above (omega arith) (rivals_from ps p q r)

pub rival_is : (ps : List Page) (p : ℕ) → 0 < rival_of ps p → Rival ps p (rival_of ps p)
rival_is ps p h = rivals_are ps p (rival_of ps p) (first_found (are_rivals ps p) 1 (length ps - 1) h).passes

pub rivalled_there : (ps : List Page) (p q : ℕ) → Rival ps p q → 0 < rivalled ps
unfolding rivalled
rivalled_there ps p q r =
    let i = in_pack ps p r.one in
    first_there (λ x. ltb 0 (rival_of ps x)) 1 (length ps - 1) p (omega arith) r.one.above (omega arith) (lt-ltb 0 (rival_of ps p) (rival_there ps p q r))

pub rivalled_is : (ps : List Page) → 0 < rivalled ps → Rival ps (rivalled ps) (rival_of ps (rivalled ps))
unfolding rivalled
rivalled_is ps h = rival_is ps (rivalled ps) (ltb-true 0 (rival_of ps (rivalled ps)) (first_found (λ x. ltb 0 (rival_of ps x)) 1 (length ps - 1) h).passes)

-- Without rivals a page has one leader at most.
pub one_leader : (name : Naming) (ps : List Page) → rivalled ps ≡ 0 → (a b p : ℕ) → Led name ps a p → Led name ps b p → a ≡ b
one_leader name ps none a b p x y = go (cases_eq a b)
  where
    go : (a ≡ b) ⊎ (a ≡ b → ⊥) → a ≡ b
    go (inl e) = e
    go (inr d) = let h = rivalled_there ps a b (record { apart = d; one = x.leader; two = y.leader; same = one_id name ps a p x.inside ∙ sym (one_id name ps b p y.inside) }) in absurd (omega arith)

pub leader_only : (name : Naming) (ps : List Page) → rivalled ps ≡ 0 → (q p : ℕ) → Led name ps q p → leader_of name ps p ≡ q
leader_only name ps none q p l = one_leader name ps none (leader_of name ps p) q p (leader_of_is name ps p (leader_of_there name ps q p l)) l
