-- The laws of chains and verdicts.
use Rattle.std.proofs.Common.{◌≡◌, ℕ, ◌+◌, ◌-◌, ◌<◌, ◌≤◌, Bool, true, false, cond, ltb, ◌⊎◌, List, [], ◌∷◌, length, get_or, Some, None, Option, sym, refl, ap, ◌∙◌, subst, inl, inr, add-one, arith}
use Rattle.std.proofs.lemmas.Bool.{cases_lt, lt-ltb, ltb-true}
use Rattle.disk.specs.declared.label.Label.{Label}
use Rattle.disk.specs.Labels.{is_free}
use Rattle.disk.specs.Media.{Page, label_at}
use Rattle.survey.specs.declared.table.Record.{Record}
use Rattle.survey.specs.declared.table.Verdict.{Verdict}
use Rattle.survey.specs.declared.table.Verdict.TheVariants.{Reserved, Free, Chained, Stray, Aside}
use Rattle.survey.specs.Chains.{Naming, follower, rest, chain, leader_of, are_rivals, rival_of, rivalled}
use Rattle.survey.specs.Verdicts.{verdict_number, bare, filed, owned, judged, record_by, record_of, table_of, totals}
use Rattle.survey.specs.Laws.{In, Leader, Reached, here, onto, RivalsStand, NamedPair, SoundChain, InOneChain, all_of, SurveyLaws}
use Rattle.survey.proofs.Walks.{Steps, links_at}
use Rattle.survey.proofs.Following.{not_true, follows, follower_from, links, no_repeats, numbered_from, number, next_in_chain, chain_steps, member, id_at}
use Rattle.survey.proofs.Leading.{first_found, Led, leader_of_is, leader_of_there, leader_only, Rival, rival_there, rivals_from, rivalled_is, rivalled_there}
use Rattle.survey.proofs.Marking.{chained_record}
use Rattle.survey.proofs.Counting.{sum_counted}
use Rattle.survey.proofs.Finding.{length_table}

pub stands : (ps : List Page) (p q : ℕ) → Rival ps p q → RivalsStand ps p q
unfolding id_at
stands ps p q r = record { apart = r.apart; one = r.one; two = r.two; same_file = sym (ap id_at r.one.at_q) ∙ (r.same ∙ ap id_at r.two.at_q) }

pub rival : (ps : List Page) (p q : ℕ) → RivalsStand ps p q → Rival ps p q
unfolding id_at
rival ps p q r = record { apart = r.apart; one = r.one; two = r.two; same = ap id_at r.one.at_q ∙ (r.same_file ∙ sym (ap id_at r.two.at_q)) }

sound_chain : (name : Naming) (ps : List Page) (q : ℕ) → Leader ps q → SoundChain name ps q
unfolding number
sound_chain name ps q d = record {
  linked = λ k h. follows name ps (get_or (chain name ps q) k 0) (get_or (chain name ps q) (k + 1) 0)
      (links_at (follower name ps) q (rest name ps q) (links name ps q) k (rw (add-one) at h) ∙ ap (λ (x : ℕ). Some (get_or (chain name ps q) x 0)) (sym (add-one k)));
  to_its_end = λ p x i f. next_in_chain name ps q p x i (follower_from name ps p x f);
  numbered = λ k l h e. sym (ap number e) ∙ (numbered_from name ps q k h ∙ (ap (λ (x : ℕ). x + k) (ap number d.at_q ∙ d.first) ∙ omega arith));
  once = no_repeats name ps q;
}

named_pair : (ps : List Page) → 0 < rivalled ps → NamedPair ps
unfolding rivalled
named_pair ps h = record {
  stands = stands ps (rivalled ps) (rival_of ps (rivalled ps)) (rivalled_is ps h);
  lowest = λ p q r. low p q r (cases_lt p (rivalled ps));
  lowest_rival = λ q r. near q r (cases_lt q (rival_of ps (rivalled ps)));
}
  where
    low : (p q : ℕ) → RivalsStand ps p q → (p < rivalled ps) ⊎ (rivalled ps ≤ p) → rivalled ps ≤ p
    low p q r (inl u) = not_true (ltb 0 (rival_of ps p)) ((first_found (λ x. ltb 0 (rival_of ps x)) 1 (length ps - 1) h).least p r.one.above u) (lt-ltb 0 (rival_of ps p) (rival_there ps p q (rival ps p q r)))
    low p q r (inr u) = u

    near : (q : ℕ) → RivalsStand ps (rivalled ps) q → (q < rival_of ps (rivalled ps)) ⊎ (rival_of ps (rivalled ps) ≤ q) → rival_of ps (rivalled ps) ≤ q
    near q r (inl u) = not_true (are_rivals ps (rivalled ps) q) ((first_found (are_rivals ps (rivalled ps)) 1 (length ps - 1) (rival_there ps (rivalled ps) q (rival ps (rivalled ps) q r))).least q r.two.above u) (rivals_from ps (rivalled ps) q (rival ps (rivalled ps) q r))
    near q r (inr u) = u

-- Only a page with a leader is chained.
other : {X : Type 0} (v : Verdict) (k : ℕ) → verdict_number v ≡ k → (k ≡ 2 → ⊥) → v ≡ Chained → X
other v k e d c = absurd (d (sym e ∙ ap verdict_number c))

pub chained_led : (ps : List Page) (q p : ℕ) → (record_by ps q p).verdict ≡ Chained → (0 < q) × ((record_by ps q p).leader.page ≡ q)
chained_led ps q p = above (ltb 0 p)
  where
    led : (l : Label) (b : Bool) → ltb 0 q ≡ b → (cond b (filed Chained q l) (filed Stray 0 l)).verdict ≡ Chained → (0 < q) × ((cond b (filed Chained q l) (filed Stray 0 l)).leader.page ≡ q)
    led l true e c = (ltb-true 0 q e, refl)
    led l false e c = other Stray 3 refl (λ z. omega arith) c

    free : (l : Label) (b : Bool) → (cond b (bare Free) (owned q l)).verdict ≡ Chained → (0 < q) × ((cond b (bare Free) (owned q l)).leader.page ≡ q)
    free l true c = other Free 1 refl (λ z. omega arith) c
    free l false c = led l (ltb 0 q) refl c

    labelled : (o : Option Label) → (judged q o).verdict ≡ Chained → (0 < q) × ((judged q o).leader.page ≡ q)
    labelled None c = other Aside 4 refl (λ z. omega arith) c
    labelled (Some l) c = free l (is_free l) c

    above : (b : Bool) → (cond b (judged q (label_at ps p)) (bare Reserved)).verdict ≡ Chained → (0 < q) × ((cond b (judged q (label_at ps p)) (bare Reserved)).leader.page ≡ q)
    above true c = labelled (label_at ps p) c
    above false c = other Reserved 0 refl (λ z. omega arith) c

pub led_chained : (name : Naming) (ps : List Page) (q p : ℕ) → Led name ps q p → (record_of name ps p).verdict ≡ Chained
led_chained name ps q p l =
    let h = leader_of_there name ps q p l in
    ap (λ (r : Record). r.verdict) (chained_record ps (leader_of name ps p) p h (member name ps q p l.leader l.inside))

one_chain : (name : Naming) (ps : List Page) → rivalled ps ≡ 0 → (p : ℕ) → (record_of name ps p).verdict ≡ Chained → InOneChain name ps p
one_chain name ps none p c =
    let h = chained_led ps (leader_of name ps p) p c in
    let l = leader_of_is name ps p h.0 in
    record { leader = leader_of name ps p; told = h.1; leads = l.leader; inside = l.inside; only = λ q d i. sym (leader_only name ps none q p (record { leader = d; inside = i })) }

-- Reached and in the chain are one.
walked : (name : Naming) (ps : List Page) (q x : ℕ) (ys : List ℕ) → Reached name ps q x → Steps (follower name ps) x ys → (p : ℕ) → In p (x ∷ ys) → Reached name ps q p
walked name ps q x ys r s p (inl e) = subst (λ (y : ℕ). Reached name ps q y) (sym e) r
walked name ps q x [] r s p (inr i) = absurd i
walked name ps q x (y ∷ ys) r s p (inr i) = walked name ps q y ys (onto r (follows name ps x y s.0)) s.1 p i

in_chain : (name : Naming) (ps : List Page) (q p : ℕ) → Reached name ps q p → In p (chain name ps q)
in_chain name ps q p here = inl refl
in_chain name ps q p (onto r f) = next_in_chain name ps q _ p (in_chain name ps q _ r) (follower_from name ps _ p f)

all_counted : (rs : List Record) → all_of (totals rs) ≡ length rs
all_counted [] = refl
all_counted (r ∷ rs) = sum_counted r.verdict (totals rs) ∙ (let e = all_counted rs in omega arith)

pub survey_laws : (name : Naming) (ps : List Page) → SurveyLaws name ps
survey_laws name ps = record {
  chains = sound_chain name ps;
  pair = named_pair ps;
  no_rivals = λ e p q r. let h = rivalled_there ps p q (rival ps p q r) in omega arith;
  one_chain = one_chain name ps;
  reached = λ p c. let q = leader_of name ps p in let l = leader_of_is name ps p (chained_led ps q p c).0 in (q, l.leader, walked name ps q q (rest name ps q) here (chain_steps name ps q) p l.inside);
  reaches = λ p q d r. led_chained name ps q p (record { leader = d; inside = in_chain name ps q p r });
  adds_up = all_counted (table_of name ps) ∙ length_table name ps;
}
