-- Moving pages about a pack changes no verdict and no file.
use Rattle.std.proofs.Common.{◌≡◌, ℕ, ◌+◌, ◌*◌, ◌<◌, ◌≤◌, Bool, true, false, cond, not, ◌&&◌, eqb, ltb, leb, List, ◌∷◌, map, length, get_or, Some, None, Option, sym, refl, ap, ◌∙◌, subst, ⊎_elim, arith}
use Rattle.std.specs.Option.{option_map}
use Rattle.std.proofs.lemmas.List.FromFn.{length-map-range_with_len, get_or-map-range_with_len}
use Rattle.std.proofs.lemmas.Bool.{cases_eq, cases_lt, eq-eqb, ne_eqb, lt-ltb, ltb-true}
use Rattle.disk.specs.declared.label.Label.{Label}
use Rattle.disk.specs.Addresses.{page_named, real_address, Conversion}
use Rattle.disk.specs.Labels.{is_free, is_file, random_mark, id_of}
use Rattle.disk.specs.Media.{Page, label_at, unreadable}
use Rattle.survey.specs.declared.table.Verdict.TheVariants.{Reserved, Free, Chained, Stray, Aside}
use Rattle.survey.specs.Chains.{Naming, same_id, leads, is_leader, kept_if, points, joins, follower, behind, rest, chain, leader_of, rival_of, rivalled}
use Rattle.survey.specs.Verdicts.{bare, filed, judged, record_of}
use Rattle.survey.specs.Laws.{In, Leader}
use Rattle.survey.specs.Moves.{Move, renamed, relink, relabel, moved_page, moved, moved_record, MovedLaw, MovesChangeNothing}
use Rattle.survey.proofs.Walks.{moved_behind, in_map, map_in}
use Rattle.survey.proofs.Following.{never, not_true, below, leader_is, leader_from, has_label, member, id_at}
use Rattle.survey.proofs.Leading.{Led, leader_of_is, leader_of_there, leader_only, Rival, rivalled_is, rivalled_there}
use Rattle.survey.proofs.Lawful.{stands}

-- What a move needs of the naming of n pages.
pub record Names (name : Naming) (real : ℕ → ℕ) (n : ℕ) : Type 0 where
  pub there : (p : ℕ) → p < n → name (real p) ≡ Some p
  pub inside : (w p : ℕ) → name w ≡ Some p → p < n
  pub nought : name 0 ≡ Some 0
  pub some : 0 < n

kept_moved : (t u : ℕ → Bool) (s : ℕ → ℕ) (o : Option ℕ) → ((p : ℕ) → o ≡ Some p → u (s p) ≡ t p) → kept_if u (option_map s o) ≡ option_map s (kept_if t o)
kept_moved t u s None h = refl
kept_moved t u s (Some p) h = rw (h p refl) (go (t p))
  where
    go : (b : Bool) → cond b (Some (s p)) None ≡ option_map s (cond b (Some p) None)
    go true = refl
    go false = refl

module _ (name : Naming) (real : ℕ → ℕ) (ps : List Page) (ns : Names name real (length ps)) (m : Move (length ps)) where
  n : ℕ
  n = length ps

  link : ℕ → ℕ
  link = relink name real m.to

  qs : List Page
  qs = moved name real ps m

  length_moved : length qs ≡ length ps
  unfolding qs moved
  length_moved = length-map-range_with_len (λ p. moved_page (relink name real m.to) (get_or ps (m.from p) unreadable)) 0 (length ps)

  label_moved : (p : ℕ) → p < length ps → label_at qs (m.to p) ≡ option_map (relabel link) (label_at ps p)
  unfolding qs moved link
  label_moved p h =
      ap (λ (x : Page). x.label) (get_or-map-range_with_len (λ p. moved_page (relink name real m.to) (get_or ps (m.from p) unreadable)) 0 (length ps) (m.to p) (m.to p) unreadable (m.to_inside p h) (omega arith))
      ∙ ap (λ (x : ℕ). option_map (relabel (relink name real m.to)) (label_at ps x)) (m.from_to p h)

  -- Only page 0 goes to 0.
  only_zero : (p : ℕ) → p < length ps → m.to p ≡ 0 → p ≡ 0
  only_zero p h e = sym (m.from_to p h) ∙ (ap m.from (e ∙ sym m.zero_stays) ∙ m.from_to 0 ns.some)

  above : (p : ℕ) → p < length ps → ltb 0 (m.to p) ≡ ltb 0 p
  above p h = ⊎_elim (λ (e : p ≡ 0). rw (e, m.zero_stays)) (λ (e : p ≡ 0 → ⊥). let k : m.to p ≡ 0 → ⊥ = λ u. e (only_zero p h u) in lt-ltb 0 (m.to p) (omega arith) ∙ sym (lt-ltb 0 p (omega arith))) (cases_eq p 0)

  -- What a link names after the move.
  link_names : (w : ℕ) → name (link w) ≡ option_map m.to (name w)
  unfolding link
  link_names w = go (name w) refl
    where
      go : (o : Option ℕ) → name w ≡ o → name (renamed real m.to w o) ≡ option_map m.to o
      go None e = e
      go (Some p) e = way (ltb 0 p) refl
        where
          way : (b : Bool) → ltb 0 p ≡ b → name (cond b (real (m.to p)) w) ≡ Some (m.to p)
          way true h = ns.there (m.to p) (m.to_inside p (ns.inside w p e))
          way false h = let z : p ≡ 0 = ⊎_elim (λ (u : 0 < p). not_true (ltb 0 p) h (lt-ltb 0 p u)) (λ (u : p ≤ 0). omega arith) (cases_lt 0 p) in e ∙ ap {B = Option ℕ} Some (z ∙ sym m.zero_stays ∙ ap m.to (sym z))

  -- A link is 0 after the move just where it was before.
  link_zero : (w : ℕ) → eqb (link w) 0 ≡ eqb w 0
  unfolding link
  link_zero w = ⊎_elim (λ (e : w ≡ 0). eq-eqb (link w) 0 (stays e) ∙ sym (eq-eqb w 0 e)) (λ (e : w ≡ 0 → ⊥). ne_eqb (link w) 0 (λ u. e (was u)) ∙ sym (ne_eqb w 0 e)) (cases_eq w 0)
    where
      stays : w ≡ 0 → link w ≡ 0
      stays e = rw (e, ns.nought)

      was : link w ≡ 0 → w ≡ 0
      was u = go (name w) refl u
        where
          go : (o : Option ℕ) → name w ≡ o → renamed real m.to w o ≡ 0 → w ≡ 0
          go None e k = k
          go (Some p) e k = way (ltb 0 p) refl k
            where
              way : (b : Bool) → ltb 0 p ≡ b → cond b (real (m.to p)) w ≡ 0 → w ≡ 0
              way false h k = k
              way true h k =
                  let i = ns.inside w p e in
                  let a : Some (m.to p) ≡ Some 0 = sym (ns.there (m.to p) (m.to_inside p i)) ∙ (ap name k ∙ ns.nought) in
                  let z : p ≡ 0 = only_zero p i (cc) in
                  let b = ltb-true 0 p h in
                  absurd (omega arith)

  free_moved : (l : Label) → is_free (relabel link l) ≡ is_free l
  free_moved l = rw (link_zero l.next.word, link_zero l.previous.word)

  file_moved : (l : Label) → is_file (relabel link l) ≡ is_file l
  file_moved l = ap (λ (b : Bool). not b && (not (random_mark (id_of l)) && leb l.characters 512)) (free_moved l)

  leads_moved : (o : Option Label) → leads (option_map (relabel link) o) ≡ leads o
  leads_moved None = refl
  leads_moved (Some l) = ap (λ (b : Bool). b && (eqb l.number 0 && eqb l.characters 512)) (file_moved l)

  joins_moved : (a b : Option Label) → joins (option_map (relabel link) a) (option_map (relabel link) b) ≡ joins a b
  joins_moved None b = refl
  joins_moved (Some l) None = refl
  joins_moved (Some l) (Some k) = ap (λ (b : Bool). b && (same_id l k && eqb k.number (l.number + 1))) (file_moved k)

  points_moved : (o : Option Label) → points name (option_map (relabel link) o) ≡ option_map m.to (points name o)
  points_moved None = refl
  points_moved (Some l) = rw (link_names l.next.word, kept_moved (ltb 0) (ltb 0) m.to (name l.next.word) (λ p e. above p (ns.inside l.next.word p e))) (go (eqb l.characters 512))
    where
      go : (b : Bool) → cond b (option_map m.to (kept_if (ltb 0) (name l.next.word))) None ≡ option_map m.to (cond b (kept_if (ltb 0) (name l.next.word)) None)
      go true = refl
      go false = refl

  pointed_inside : (o : Option Label) (p : ℕ) → points name o ≡ Some p → p < length ps
  pointed_inside None p e = never None p refl e
  pointed_inside (Some l) p e = go (eqb l.characters 512) (name l.next.word) refl e
    where
      go : (b : Bool) (o : Option ℕ) → name l.next.word ≡ o → cond b (kept_if (ltb 0) o) None ≡ Some p → p < length ps
      go false o a e = never None p refl e
      go true None a e = never None p refl e
      go true (Some x) a e = way (ltb 0 x) e
        where
          way : (b : Bool) → cond b (Some x) None ≡ Some p → p < length ps
          way true e = ns.inside l.next.word p (a ∙ e)
          way false e = never None p refl e

  follower_moved : (u : ℕ) → u < length ps → follower name qs (m.to u) ≡ option_map m.to (follower name ps u)
  follower_moved u h =
      rw (label_moved u h, points_moved (label_at ps u))
      (kept_moved (λ p. joins (label_at ps u) (label_at ps p)) (λ p. joins (option_map (relabel link) (label_at ps u)) (label_at qs p)) m.to (points name (label_at ps u))
      (λ p e. rw (label_moved p (pointed_inside (label_at ps u) p e)) (joins_moved (label_at ps u) (label_at ps p))))

  chain_moved : (q : ℕ) → q < length ps → chain name qs (m.to q) ≡ map m.to (chain name ps q)
  unfolding rest
  chain_moved q h = ap (λ (zs : List ℕ). m.to q ∷ zs)
      (ap (λ (k : ℕ). behind (follower name qs) k (m.to q)) length_moved ∙ moved_behind (follower name ps) (follower name qs) m.to (length ps) (below name ps) follower_moved (length ps) q h)

  leader_moved : (q : ℕ) → q < length ps → is_leader qs (m.to q) ≡ is_leader ps q
  leader_moved q h = rw (above q h, label_moved q h) (ap (λ (b : Bool). ltb 0 q && b) (leads_moved (label_at ps q)))

  in_pack : (q : ℕ) → Leader ps q → q < length ps
  in_pack q d = has_label ps q d.label d.at_q

  leads_there : (q : ℕ) → Leader ps q → Leader qs (m.to q)
  leads_there q d = leader_is qs (m.to q) (leader_moved q (in_pack q d) ∙ leader_from ps q d)

  -- Every leader there is one that came from here.
  record Came (r : ℕ) : Type 0 where
    was : ℕ
    inside : was < length ps
    leads : Leader ps was
    is : r ≡ m.to was

  came : (r : ℕ) → Leader qs r → Came r
  came r d =
      let h : r < length ps = let a = has_label qs r d.label d.at_q in let b = length_moved in omega arith in
      let e : m.to (m.from r) ≡ r = m.to_from r h in
      let i = m.from_inside r h in
      record { was = m.from r; inside = i; leads = leader_is ps (m.from r) (sym (leader_moved (m.from r) i) ∙ (ap (is_leader qs) e ∙ leader_from qs r d)); is = sym e }

  one_to_one : (p q : ℕ) → p < length ps → q < length ps → m.to p ≡ m.to q → p ≡ q
  one_to_one p q h k e = sym (m.from_to p h) ∙ (ap m.from e ∙ m.from_to q k)

  id_moved : (p : ℕ) → p < length ps → id_at (label_at qs (m.to p)) ≡ id_at (label_at ps p)
  unfolding id_at
  id_moved p h = rw (label_moved p h) (go (label_at ps p))
    where
      go : (o : Option Label) → id_at (option_map (relabel link) o) ≡ id_at o
      go None = refl
      go (Some l) = refl

  -- Rivals go with the pages.
  rivals_there : (p q : ℕ) → Rival ps p q → Rival qs (m.to p) (m.to q)
  rivals_there p q r =
      let h = in_pack p r.one in
      let k = in_pack q r.two in
      record { apart = λ e. r.apart (one_to_one p q h k e); one = leads_there p r.one; two = leads_there q r.two; same = id_moved p h ∙ (r.same ∙ sym (id_moved q k)) }

  rivals_here : (p q : ℕ) → Rival qs p q → (a : ℕ) × (b : ℕ) × Rival ps a b
  rivals_here p q r =
      let x = came p r.one in
      let y = came q r.two in (
        x.was,
        y.was,
        record {
          apart = λ e. r.apart (x.is ∙ (ap m.to e ∙ sym y.is));
          one = x.leads;
          two = y.leads;
          same = sym (id_moved x.was x.inside) ∙ (ap (λ (z : ℕ). id_at (label_at qs z)) (sym x.is) ∙ (r.same ∙ (ap (λ (z : ℕ). id_at (label_at qs z)) y.is ∙ id_moved y.was y.inside)));
        },
      )

  none_there : rivalled ps ≡ 0 → rivalled qs ≡ 0
  none_there e = ⊎_elim (λ (h : 0 < rivalled qs). let r = rivals_here (rivalled qs) (rival_of qs (rivalled qs)) (rivalled_is qs h) in let k = rivalled_there ps r.0 r.1 r.2 in absurd (omega arith)) (λ (h : rivalled qs ≤ 0). omega arith) (cases_lt 0 (rivalled qs))

  -- The leader of a page goes with it.
  led_there : (q p : ℕ) → Led name ps q p → Led name qs (m.to q) (m.to p)
  led_there q p l = record {
    leader = leads_there q l.leader;
    inside = subst (λ (zs : List ℕ). In (m.to p) zs) (sym (chain_moved q (in_pack q l.leader))) (map_in m.to p (chain name ps q) l.inside);
  }

  member_inside : (q p : ℕ) → Led name ps q p → p < length ps
  member_inside q p l = let x = member name ps q p l.leader l.inside in has_label ps p x.label x.at_p

  led_here : (r p : ℕ) → p < length ps → Led name qs r (m.to p) → (q : ℕ) × Led name ps q p
  led_here r p h l =
      let x = came r l.leader in
      let i : In (m.to p) (map m.to (chain name ps x.was)) = subst (λ (zs : List ℕ). In (m.to p) zs) (chain_moved x.was x.inside) (subst (λ (z : ℕ). In (m.to p) (chain name qs z)) x.is l.inside) in
      let y = in_map m.to (m.to p) (chain name ps x.was) i in
      let k = member_inside x.was y.0 (record { leader = x.leads; inside = y.1 }) in
      let e : y.0 ≡ p = sym (one_to_one p y.0 h k y.2) in
      (x.was, record { leader = x.leads; inside = subst (λ (z : ℕ). In z (chain name ps x.was)) e y.1 })

  leader_of_moved : rivalled ps ≡ 0 → (p : ℕ) → p < length ps → leader_of name qs (m.to p) ≡ m.to (leader_of name ps p)
  leader_of_moved none p h = ⊎_elim
      (λ (u : 0 < leader_of name ps p). leader_only name qs (none_there none) (m.to (leader_of name ps p)) (m.to p) (led_there (leader_of name ps p) p (leader_of_is name ps p u)))
      (λ (u : leader_of name ps p ≤ 0). ⊎_elim
      (λ (v : 0 < leader_of name qs (m.to p)). let r = led_here (leader_of name qs (m.to p)) p h (leader_of_is name qs (m.to p) v) in let k = leader_of_there name ps r.0 p r.1 in absurd (omega arith))
      (λ (v : leader_of name qs (m.to p) ≤ 0). let a : leader_of name qs (m.to p) ≡ 0 = omega arith in let b : leader_of name ps p ≡ 0 = omega arith in a ∙ (sym m.zero_stays ∙ ap m.to (sym b)))
      (cases_lt 0 (leader_of name qs (m.to p))))
      (cases_lt 0 (leader_of name ps p))

  judged_moved : (q : ℕ) → q < length ps → (o : Option Label) → judged (m.to q) (option_map (relabel link) o) ≡ moved_record m.to (judged q o)
  judged_moved q h None = ap (λ (x : ℕ). record { verdict = Aside; leader = record { page = x }; id = record { version = 0; serial1 = 0; serial2 = 0 }; number = 0 }) (sym m.zero_stays)
  judged_moved q h (Some l) = rw (free_moved l, above q h) (go (is_free l) (ltb 0 q))
    where
      go : (a b : Bool) → cond a (bare Free) (cond b (filed Chained (m.to q) (relabel link l)) (filed Stray 0 (relabel link l))) ≡ moved_record m.to (cond a (bare Free) (cond b (filed Chained q l) (filed Stray 0 l)))
      go true b = ap (λ (x : ℕ). record { verdict = Free; leader = record { page = x }; id = record { version = 0; serial1 = 0; serial2 = 0 }; number = 0 }) (sym m.zero_stays)
      go false true = refl
      go false false = ap (λ (x : ℕ). filed Stray x l) (sym m.zero_stays)

  leader_inside : (p : ℕ) → leader_of name ps p < length ps
  leader_inside p = ⊎_elim (λ (u : 0 < leader_of name ps p). in_pack (leader_of name ps p) (leader_of_is name ps p u).leader) (λ (u : leader_of name ps p ≤ 0). let s = ns.some in omega arith) (cases_lt 0 (leader_of name ps p))

  record_moved : rivalled ps ≡ 0 → (p : ℕ) → p < length ps → record_of name qs (m.to p) ≡ moved_record m.to (record_of name ps p)
  record_moved none p h =
      rw (above p h, label_moved p h, leader_of_moved none p h) (rw (judged_moved (leader_of name ps p) (leader_inside p) (label_at ps p)) (go (ltb 0 p)))
    where
      go : (b : Bool) → cond b (moved_record m.to (judged (leader_of name ps p) (label_at ps p))) (bare Reserved) ≡ moved_record m.to (cond b (judged (leader_of name ps p) (label_at ps p)) (bare Reserved))
      go true = refl
      go false = ap (λ (x : ℕ). record { verdict = Reserved; leader = record { page = x }; id = record { version = 0; serial1 = 0; serial2 = 0 }; number = 0 }) (sym m.zero_stays)

  pub moved_law : MovedLaw name real ps m
  unfolding qs
  moved_law = record {
    none = none_there;
    same = λ e. record { records = record_moved e; chains = chain_moved };
    rivals = λ h.
        let r = rivalled_is ps h in
        let k = rivalled_there qs (m.to (rivalled ps)) (m.to (rival_of ps (rivalled ps))) (rivals_there (rivalled ps) (rival_of ps (rivalled ps)) r) in
        record { here = stands ps (rivalled ps) (rival_of ps (rivalled ps)) r; there = k; there_too = stands qs (rivalled qs) (rival_of qs (rivalled qs)) (rivalled_is qs k) };
  }

pub moves_change_nothing : (c : ℕ) (ps : List Page) → Conversion c → length ps ≡ 24 * c → 1 ≤ c → MovesChangeNothing (page_named c) real_address ps
moves_change_nothing c ps k e h m = moved_law (page_named c) real_address ps names m
  where
    names : Names (page_named c) real_address (length ps)
    names = record {
      there = λ p l. k.there p (omega arith);
      inside = λ w p l. let i = k.inside w p l in omega arith;
      nought = ap (page_named c) (sym k.nought) ∙ k.there 0 (omega arith);
      some = omega arith;
    }
