-- The pages of a chain, marked one after the other.
use Rattle.std.proofs.Common.{◌≡◌, ℕ, ◌+◌, ◌<◌, ◌≤◌, true, ◌⊎◌, List, [], ◌∷◌, ◌++◌, length, get_or, set, Some, None, Option, All, sym, refl, ap, ◌∙◌, subst, inl, inr, ⊎_elim, arith}
use Rattle.std.specs.Option.{ForSome}
use Rattle.std.proofs.lemmas.Bool.{cases_Bool, cases_eq, lt-ltb}
use Rattle.std.proofs.lemmas.List.{get_or-set_same, get_or-set_other, get_or_append_left, get_or_push, length_push}
use Rattle.std.proofs.lemmas.List.Elements.{All-push}
use Rattle.disk.specs.declared.address.PageAddress.{PageAddress}
use Rattle.disk.specs.declared.label.Label.{Label}
use Rattle.disk.specs.Media.{Page, label_at}
use Rattle.survey.specs.declared.table.Record.{Record}
use Rattle.survey.specs.declared.table.Verdict.TheVariants.{Chained}
use Rattle.survey.specs.declared.trace.Link.{Link}
use Rattle.survey.specs.Chains.{Naming, is_leader, is_in, points, joins, kept_if, follower, rest, chain, rivalled}
use Rattle.survey.specs.Verdicts.{filed, record_by}
use Rattle.survey.specs.Laws.{In, Leader}
use Rattle.survey.specs.Steps.{no_record, Marked, MarkedAll, Linked}
use Rattle.survey.proofs.Walks.{in_is_in, is_in_in}
use Rattle.survey.proofs.Following.{never, not_true, file_not_free, has_label, rest_step, rest_stop, leader_is, Member, member, next_in_chain}
use Rattle.survey.proofs.Leading.{one_leader}

-- The pages from a link of a chain on.
abbrev pub ahead : Naming → List Page → Option Link → List ℕ
ahead name ps None = []
ahead name ps (Some s) = chain name ps s.page.page

-- A link of the chain of q.
pub record Inside (name : Naming) (ps : List Page) (q : ℕ) (s : Link) : Type 0 where
  pub at : label_at ps s.page.page ≡ Some s.label
  pub inside : In s.page.page (chain name ps q)

-- On the way along the chain of q, before the link `next`: what is marked, and what lies ahead.
pub record Walking (name : Naming) (ps : List Page) (q : ℕ) (next : Option Link) (old new : List Record) : Type 0 where
  pub link : ForSome next (Inside name ps q)
  pub chained : (p : ℕ) → In p (chain name ps q) → (get_or new p no_record ≡ record_by ps q p) ⊎ In p (ahead name ps next)
  pub others : (p : ℕ) → (In p (chain name ps q) → ⊥) → get_or new p no_record ≡ get_or old p no_record

-- The record of a page of a chain.
pub chained_record : (ps : List Page) (q p : ℕ) → 0 < q → (m : Member ps p) → record_by ps q p ≡ filed Chained q m.label
chained_record ps q p h m = rw (lt-ltb 0 p m.above, m.at_p) (rw (file_not_free m.label m.file, lt-ltb 0 q h))

-- Whether a page is in a list.
decide_in : (p : ℕ) (qs : List ℕ) → In p qs ⊎ (In p qs → ⊥)
decide_in p qs = ⊎_elim (λ e. inl (is_in_in p qs e)) (λ e. inr (λ i. not_true (is_in p qs) e (in_is_in p qs i))) (cases_Bool (is_in p qs))

-- One link further, with the page at hand marked.
module _ (name : Naming) (ps : List Page) (q : ℕ) (s : Link) (old new : List Record) (k : Leader ps q) (room : length ps ≤ length new) (w : Walking name ps q (Some s) old new) where
  x : ℕ
  x = s.page.page

  here : Inside name ps q s
  here = w.link s refl

  marked : List Record
  marked = set new x (filed Chained q s.label)

  is_marked : get_or marked x no_record ≡ record_by ps q x
  unfolding marked x
  is_marked =
      let m = member name ps q x k here.inside in
      let e : m.label ≡ s.label = cc (m.at_p, here.at) in
      let lt = has_label ps x s.label here.at in
      get_or-set_same new x (filed Chained q s.label) no_record (omega arith) ∙ sym (chained_record ps q x k.above m ∙ ap (filed Chained q) e)

  chained : (p : ℕ) → In p (chain name ps q) → (get_or marked p no_record ≡ record_by ps q p) ⊎ In p (rest name ps x)
  unfolding marked x
  chained p i = at (cases_eq p x) (w.chained p i)
    where
      at : (p ≡ x) ⊎ (p ≡ x → ⊥) → (get_or new p no_record ≡ record_by ps q p) ⊎ In p (chain name ps x) → (get_or marked p no_record ≡ record_by ps q p) ⊎ In p (rest name ps x)
      at (inl e) o = inl (subst (λ (y : ℕ). get_or marked y no_record ≡ record_by ps q y) (sym e) is_marked)
      at (inr d) (inl o) = inl (get_or-set_other new x p (filed Chained q s.label) no_record d ∙ o)
      at (inr d) (inr (inl e)) = absurd (d e)
      at (inr d) (inr (inr i)) = inr i

  others : (p : ℕ) → (In p (chain name ps q) → ⊥) → get_or marked p no_record ≡ get_or old p no_record
  unfolding marked x
  others p d = get_or-set_other new x p (filed Chained q s.label) no_record (λ e. d (subst (λ (y : ℕ). In y (chain name ps q)) (sym e) here.inside)) ∙ w.others p d

  -- The follower, from what was read.
  follower_by : (o : Option ℕ) → kept_if (λ p. joins (Some s.label) (label_at ps p)) (points name (Some s.label)) ≡ o → follower name ps x ≡ o
  unfolding x
  follower_by o e = ap (λ (a : Option Label). kept_if (λ p. joins a (label_at ps p)) (points name a)) here.at ∙ e

  pub walking_on : (n : Option Link) → Linked name ps s.label n → Walking name ps q n old (set new s.page.page (filed Chained q s.label))
  unfolding marked x
  walking_on None e =
      let r = rest_stop name ps x (follower_by None e) in
      record {
        link = λ t u. never None t refl u;
        chained = λ y i. ⊎_elim inl (λ v. absurd (subst (λ (ys : List ℕ). In y ys) r v)) (chained y i);
        others = others;
      }
  walking_on (Some t) e =
      let f = follower_by (Some t.page.page) e.0 in
      let r = rest_step name ps x t.page.page f in
      let i : Inside name ps q t = record { at = e.1; inside = next_in_chain name ps q x t.page.page here.inside f } in
      record {
        link = λ u v. let z : t ≡ u = cc in subst (Inside name ps q) z i;
        chained = λ y i. ⊎_elim inl (λ v. inr (subst (λ (ys : List ℕ). In y ys) r v)) (chained y i);
        others = others;
      }

  pub shorter : (n : Option Link) → Linked name ps s.label n → length (ahead name ps n) < length (ahead name ps (Some s))
  unfolding x
  shorter None e = omega arith
  shorter (Some t) e = let r = ap length (rest_step name ps x t.page.page (follower_by (Some t.page.page) e.0)) in omega arith

-- The same with the records as the code has them.
pub record Turn (name : Naming) (ps : List Page) (q : ℕ) (next now : Option Link) (old new : List Record) : Type 0 where
  pub walking : Walking name ps q now old new
  pub shorter : length (ahead name ps now) < length (ahead name ps next)

pub turn : (name : Naming) (ps : List Page) (q : ℕ) (next now : Option Link) (old new : List Record) (s : Link) (r : Record) → is_leader ps q ≡ true → length ps ≤ length new → Walking name ps q next old new → next ≡ Some s → r ≡ filed Chained q s.label → Linked name ps s.label now → Turn name ps q next now old (set new s.page.page r)
turn name ps q next now old new s r k room w e f n =
    let d = leader_is ps q k in
    let v : Walking name ps q (Some s) old new = subst (λ (o : Option Link). Walking name ps q o old new) e w in
    rw (e, f) (record { walking = walking_on name ps q s old new d room v now n; shorter = shorter name ps q s old new d room v now n })

-- One chain more, on a pack without rivals.
pub marked_push : (name : Naming) (ps : List Page) (ls : List PageAddress) (a : PageAddress) (old mid new : List Record) → rivalled ps ≡ 0 → All (λ b. is_leader ps b.page ≡ true) ls → is_leader ps a.page ≡ true → MarkedAll name ps ls old mid → Marked name ps a.page mid new → MarkedAll name ps (ls ++ a ∷ []) old new
marked_push name ps ls a old mid new none leaders lead all m = record {
  chained = λ p. All-push (λ b. In p (chain name ps b.page) → get_or new p no_record ≡ record_by ps b.page p) ls a (λ k d h i. at p k d h i (decide_in p (chain name ps a.page))) (m.chained p);
  others = λ p d. m.others p (last p d) ∙ all.others p (λ k e h. front p d k e h);
}
  where
    n : length (ls ++ a ∷ []) ≡ length ls + 1
    n = length_push ls a

    at : (p k : ℕ) (d : PageAddress) → k < length ls → In p (chain name ps (get_or ls k d).page) → In p (chain name ps a.page) ⊎ (In p (chain name ps a.page) → ⊥) → get_or new p no_record ≡ record_by ps (get_or ls k d).page p
    at p k d h i (inl u) =
        let b = (get_or ls k d).page in
        let e : a.page ≡ b = one_leader name ps none a.page b p (record { leader = leader_is ps a.page lead; inside = u }) (record { leader = leader_is ps b (leaders k d h); inside = i }) in
        m.chained p u ∙ ap (λ (y : ℕ). record_by ps y p) e
    at p k d h i (inr v) = m.others p v ∙ all.chained p k d h i

    last : (p : ℕ) → All (λ b. In p (chain name ps b.page) → ⊥) (ls ++ a ∷ []) → In p (chain name ps a.page) → ⊥
    last p d = subst (λ (b : PageAddress). In p (chain name ps b.page) → ⊥) (get_or_push ls a a (length ls) refl) (d (length ls) a (let m = n in omega arith))

    front : (p : ℕ) → All (λ b. In p (chain name ps b.page) → ⊥) (ls ++ a ∷ []) → All (λ b. In p (chain name ps b.page) → ⊥) ls
    front p d k e h = subst (λ (b : PageAddress). In p (chain name ps b.page) → ⊥) (get_or_append_left ls (a ∷ []) e k h) (d k e (let m = n in omega arith))
