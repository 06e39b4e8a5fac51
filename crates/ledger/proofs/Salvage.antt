-- What is read off pages that are partly or wholly mended.
use Rattle.std.proofs.Common.{◌≡◌, ℕ, ◌+◌, ◌-◌, ◌<◌, ◌≤◌, Bool, true, false, cond, not, ◌&&◌, eqb, ltb, leb, ◌⊎◌, List, [], ◌∷◌, map, length, Some, None, Option, sym, refl, ap, ◌∙◌, subst, inl, inr, ⊎_elim, arith}
use Rattle.std.specs.List.{range_with_len}
use Rattle.std.proofs.lemmas.Bool.{cases_Bool, cases_lt, eq-eqb, ne_eqb, and_parts, and_from}
use Rattle.disk.specs.declared.label.Label.{Label}
use Rattle.disk.specs.Labels.{is_file, is_free, free_label, id_of}
use Rattle.disk.specs.Media.{Page, label_at}
use Rattle.survey.specs.Chains.{Naming, is_leader, follower, chain, rest, is_in, first_of, pages_above, leader_of, rivalled, rival_of}
use Rattle.survey.specs.Laws.{In, Leader}
use Rattle.survey.proofs.Walks.{Steps, rise}
use Rattle.survey.proofs.Following.{next_in_chain, leader_from, leader_is, has_label, follows, number, id_at, chain_steps}
use Rattle.survey.proofs.Leading.{first_is, first_none, one_leader, Rival, rivalled_there, rivalled_is}
use Rattle.ledger.specs.Mends.{is_chained, page_after, page_before, page_or_none}
use Rattle.ledger.specs.Ledgers.{id_on, count_on, located_page, located_file, located_at, located, is_directory, counts, file_at, files, unlocated, directory_words, all_words, entries, entries_of, LocatedFile}
use Rattle.ledger.proofs.Mending.{Names, Between, chained_led, led_chained, leader_chained, chained_member, follower_kept, leaders_kept, chain_kept, read_kept}

-- Two tests that agree have the same first page.
first_same : (t u : ℕ → Bool) (xs : List ℕ) → ((x : ℕ) → t x ≡ u x) → first_of t xs ≡ first_of u xs
first_same t u [] h = refl
first_same t u (x ∷ xs) h = ap (λ (b : Bool). cond b x (first_of t xs)) (h x) ∙ ap (λ (n : ℕ). cond (u x) x n) (first_same t u xs h)

and_same : (a b c d : Bool) → a ≡ b → (b ≡ true → c ≡ d) → (a && c) ≡ (b && d)
and_same a true c d e h = rw e (h refl)
and_same a false c d e h = rw e

map_same : {B : Type 0} (f g : ℕ → B) (xs : List ℕ) → ((x : ℕ) → In x xs → f x ≡ g x) → map f xs ≡ map g xs
map_same f g [] h = refl
map_same f g (x ∷ xs) h = let a = h x (inl refl) in let b = map_same f g xs (λ z i. h z (inr i)) in cc

map_all : {B : Type 0} (f g : ℕ → B) (xs : List ℕ) → ((x : ℕ) → f x ≡ g x) → map f xs ≡ map g xs
map_all f g xs h = map_same f g xs (λ x i. h x)

-- No page has two that it follows: on a pack without rivals the chained page before it is one.
by_number : (f : ℕ → Option ℕ) (num : ℕ → ℕ) → ((x y : ℕ) → f x ≡ Some y → num y ≡ num x + 1) → (x : ℕ) (ys : List ℕ) → Steps f x ys → (u v : ℕ) → In u (x ∷ ys) → In v (x ∷ ys) → num u ≡ num v → u ≡ v
by_number f num up x ys s u v (inl a) (inl b) e = a ∙ sym b
by_number f num up x ys s u v (inl a) (inr j) e = let h = rise f num up x ys s v j in let k : num u ≡ num x = ap num a in absurd (omega arith)
by_number f num up x ys s u v (inr i) (inl b) e = let h = rise f num up x ys s u i in let k : num v ≡ num x = ap num b in absurd (omega arith)
by_number f num up x [] s u v (inr i) (inr j) e = absurd i
by_number f num up x (y ∷ ys) s u v (inr i) (inr j) e = by_number f num up y ys s.1 u v i j e

higher : (name : Naming) (ps : List Page) (x y : ℕ) → follower name ps x ≡ Some y → number (label_at ps y) ≡ number (label_at ps x) + 1
unfolding number
higher name ps x y e = let t = follows name ps x y e in rw (t.at_q, t.at_p) t.one_higher

pub one_before : (name : Naming) (ps : List Page) → rivalled ps ≡ 0 → (u v p : ℕ) → is_chained name ps u ≡ true → is_chained name ps v ≡ true → follower name ps u ≡ Some p → follower name ps v ≡ Some p → u ≡ v
one_before name ps none u v p cu cv eu ev =
    let a = leader_of name ps u in
    let b = leader_of name ps v in
    let lu = chained_led name ps u cu in
    let lv = chained_led name ps v cv in
    let o : a ≡ b = one_leader name ps none a b p (record { leader = lu.leader; inside = next_in_chain name ps a u p lu.inside eu }) (record { leader = lv.leader; inside = next_in_chain name ps b v p lv.inside ev }) in
    let nu = higher name ps u p eu in
    let nv = higher name ps v p ev in
    by_number (follower name ps) (λ x. number (label_at ps x)) (higher name ps) b (rest name ps b) (chain_steps name ps b) u v (subst (λ (x : ℕ). In u (chain name ps x)) o lu.inside) lv.inside (omega arith)

-- The page before.
pub before_is : (name : Naming) (ps : List Page) → rivalled ps ≡ 0 → (u p : ℕ) → is_chained name ps u ≡ true → follower name ps u ≡ Some p → page_before name ps p ≡ u
unfolding page_before page_after
before_is name ps none u p c e =
    let m = chained_member name ps u c in
    let inside = has_label ps u m.label m.at_p in
    let t = λ (q : ℕ). is_chained name ps q && eqb (page_after name ps q) p in
    first_is t 1 (length ps - 1) u m.above (omega arith)
    (and_from (is_chained name ps u) (eqb (page_after name ps u) p) c (eq-eqb (page_after name ps u) p (ap page_or_none e)))
    (λ q a b. earlier q b (cases_Bool (is_chained name ps q)) (follower name ps q) refl)
  where
    above : 0 < p
    above = (follows name ps u p e).above

    earlier : (q : ℕ) → q < u → (is_chained name ps q ≡ true) ⊎ (is_chained name ps q ≡ false) → (o : Option ℕ) → follower name ps q ≡ o → (is_chained name ps q && eqb (page_or_none (follower name ps q)) p) ≡ false
    earlier q b (inr k) o f = rw k
    earlier q b (inl k) None f = rw (k, f) (ne_eqb 0 p (λ z. let h = above in omega arith))
    earlier q b (inl k) (Some y) f = rw (k, f) (ne_eqb y p (λ z. let s : q ≡ u = one_before name ps none q u p k c (f ∙ ap {B = Option ℕ} Some z) e in omega arith))

pub before_none : (name : Naming) (ps : List Page) (p : ℕ) → 0 < p → ((u : ℕ) → is_chained name ps u ≡ true → follower name ps u ≡ Some p → ⊥) → page_before name ps p ≡ 0
unfolding page_before page_after
before_none name ps p above h = first_none (λ (q : ℕ). is_chained name ps q && eqb (page_after name ps q) p) 1 (length ps - 1) (λ q a b. at q (cases_Bool (is_chained name ps q)) (follower name ps q) refl)
  where
    at : (q : ℕ) → (is_chained name ps q ≡ true) ⊎ (is_chained name ps q ≡ false) → (o : Option ℕ) → follower name ps q ≡ o → (is_chained name ps q && eqb (page_or_none (follower name ps q)) p) ≡ false
    at q (inr k) o f = rw k
    at q (inl k) None f = rw (k, f) (ne_eqb 0 p (λ z. omega arith))
    at q (inl k) (Some y) f = rw (k, f) (ne_eqb y p (λ z. h q k (f ∙ ap {B = Option ℕ} Some z)))

-- A leader follows no page.
pub before_leader : (name : Naming) (ps : List Page) (q : ℕ) → Leader ps q → page_before name ps q ≡ 0
before_leader name ps q k = before_none name ps q k.above (λ u c e. let t = follows name ps u q e in let same : Some t.to ≡ Some k.label = sym t.at_p ∙ k.at_q in let is : t.to.number ≡ k.label.number = ap (λ (o : Option Label). number_of o) same in let z = t.one_higher in let y = k.first in omega arith)
  where
    number_of : Option Label → ℕ
    number_of None = 0
    number_of (Some l) = l.number

-- A list made of each page, by its pages one by one.
unless_same : {B : Type 0} (a b : Bool) (x y : B) → a ≡ b → (b ≡ true → x ≡ y) → cond a (Some x) None ≡ cond b (Some y) None
unless_same a true x y e h = rw e (ap {B = Option _} Some (h refl))
unless_same a false x y e h = rw e

module _ (name : Naming) (real : ℕ → ℕ) (ps qs : List Page) (names : Names name real (length ps)) (w : Between name real ps qs) where
  -- The same leader of each page.
  pub leader_of_kept : (p : ℕ) → leader_of name qs p ≡ leader_of name ps p
  unfolding leader_of
  leader_of_kept p =
      ap (λ (n : ℕ). first_of (λ q. is_leader qs q && is_in p (chain name qs q)) (range_with_len 1 (n - 1))) w.count
      ∙ first_same (λ q. is_leader qs q && is_in p (chain name qs q)) (λ q. is_leader ps q && is_in p (chain name ps q)) (pages_above ps)
      (λ q. and_same (is_leader qs q) (is_leader ps q) (is_in p (chain name qs q)) (is_in p (chain name ps q)) (leaders_kept name real ps qs names w q) (λ e. ap (is_in p) (chain_kept name real ps qs names w q e)))

  pub chained_kept : (p : ℕ) → is_chained name qs p ≡ is_chained name ps p
  chained_kept p = ap (ltb 0) (leader_of_kept p)

  pub after_kept : (p : ℕ) → is_chained name ps p ≡ true → page_after name qs p ≡ page_after name ps p
  unfolding page_after
  after_kept p c = ap page_or_none (follower_kept name real ps qs names w p c)

  pub before_kept : (p : ℕ) → page_before name qs p ≡ page_before name ps p
  unfolding page_before
  before_kept p =
      ap (λ (n : ℕ). first_of (λ q. is_chained name qs q && eqb (page_after name qs q) p) (range_with_len 1 (n - 1))) w.count
      ∙ first_same (λ q. is_chained name qs q && eqb (page_after name qs q) p) (λ q. is_chained name ps q && eqb (page_after name ps q) p) (pages_above ps)
      (λ q. and_same (is_chained name qs q) (is_chained name ps q) (eqb (page_after name qs q) p) (eqb (page_after name ps q) p) (chained_kept q) (λ e. ap (λ (x : ℕ). eqb x p) (after_kept q e)))

  -- No rivals come up.
  ids_kept : (q : ℕ) → is_chained name ps q ≡ true → id_at (label_at qs q) ≡ id_at (label_at ps q)
  unfolding id_at
  ids_kept q c = read_kept name real ps qs names w id_at (λ n b l. refl) q c

  leader_back : (q : ℕ) → Leader qs q → Leader ps q
  leader_back q k = leader_is ps q (sym (leaders_kept name real ps qs names w q) ∙ leader_from qs q k)

  pub rivals_kept : rivalled ps ≡ 0 → rivalled qs ≡ 0
  rivals_kept none = ⊎_elim (λ (h : 0 < rivalled qs). absurd (has (rivalled_is qs h))) (λ (h : rivalled qs ≤ 0). omega arith) (cases_lt 0 (rivalled qs))
    where
      has : Rival qs (rivalled qs) (rival_of qs (rivalled qs)) → ⊥
      has r =
          let a = rivalled qs in
          let b = rival_of qs (rivalled qs) in
          let la = leader_back a r.one in
          let lb = leader_back b r.two in
          let h = rivalled_there ps a b (record { apart = r.apart; one = la; two = lb; same = sym (ids_kept a (leader_chained name ps a (leader_from ps a la))) ∙ (r.same ∙ ids_kept b (leader_chained name ps b (leader_from ps b lb))) }) in
          omega arith

  -- The same files.
  in_rest : (q x : ℕ) → is_leader ps q ≡ true → In x (rest name ps q) → is_chained name ps x ≡ true
  in_rest q x e i = led_chained name ps q x (record { leader = leader_is ps q e; inside = inr i })

  rest_kept : (q : ℕ) → is_leader ps q ≡ true → rest name qs q ≡ rest name ps q
  rest_kept q e = ap tail (chain_kept name real ps qs names w q e)
    where
      tail : List ℕ → List ℕ
      tail [] = []
      tail (x ∷ xs) = xs

  pub file_kept : (q : ℕ) → is_leader ps q ≡ true → located_file name qs q ≡ located_file name ps q
  file_kept q e =
      let i : id_on (label_at qs q) ≡ id_on (label_at ps q) = read_kept name real ps qs names w id_on (λ n b l. refl) q (leader_chained name ps q e) in
      let d = w.words q in
      let m : map (located_page qs) (rest name qs q) ≡ map (located_page ps) (rest name ps q) =
      ap (map (located_page qs)) (rest_kept q e) ∙ map_same (located_page qs) (located_page ps) (rest name ps q)
      (λ x k. let a = w.words x in let b : count_on (label_at qs x) ≡ count_on (label_at ps x) = read_kept name real ps qs names w count_on (λ n b l. refl) x (in_rest q x e k) in cc) in
      cc

  located_kept_at : (q : ℕ) → located_at name qs q ≡ located_at name ps q
  located_kept_at q = unless_same (is_leader qs q) (is_leader ps q) (located_file name qs q) (located_file name ps q) (leaders_kept name real ps qs names w q) (file_kept q)

  pub located_kept : located name qs ≡ located name ps
  unfolding located
  located_kept = ap (λ (n : ℕ). map (located_at name qs) (range_with_len 0 n)) w.count ∙ map_all (located_at name qs) (located_at name ps) (range_with_len 0 (length ps)) located_kept_at

  directory_kept : (q : ℕ) → is_leader ps q ≡ true → is_directory qs q ≡ is_directory ps q
  directory_kept q e = read_kept name real ps qs names w (λ o. eqb q 1 && Rattle.disk.specs.Labels.directory_mark (id_on o)) (λ n b l. refl) q (leader_chained name ps q e)

  counts_kept : (q : ℕ) → counts qs q ≡ counts ps q
  counts_kept q = and_same (is_leader qs q) (is_leader ps q) (not (is_directory qs q)) (not (is_directory ps q)) (leaders_kept name real ps qs names w q) (λ e. ap not (directory_kept q e))

  leads_first : (q : ℕ) → counts ps q ≡ true → is_leader ps q ≡ true
  leads_first q e = (and_parts (is_leader ps q) (not (is_directory ps q)) e).0

  file_kept_at : (q : ℕ) → file_at name qs q ≡ file_at name ps q
  file_kept_at q = unless_same (counts qs q) (counts ps q) (unlocated (located_file name qs q)) (unlocated (located_file name ps q)) (counts_kept q) (λ e. ap unlocated (file_kept q (leads_first q e)))

  pub files_kept : files name qs ≡ files name ps
  unfolding files
  files_kept = ap (λ (n : ℕ). map (file_at name qs) (range_with_len 0 n)) w.count ∙ map_all (file_at name qs) (file_at name ps) (range_with_len 0 (length ps)) file_kept_at

  if_same : {B : Type 0} (a b : Bool) (x y z : B) → a ≡ b → (b ≡ true → x ≡ y) → cond a x z ≡ cond b y z
  if_same a true x y z e h = rw e (h refl)
  if_same a false x y z e h = rw e

  loads_kept : (is_leader qs 1 && (is_directory qs 1 && leb (length (rest name qs 1)) 32)) ≡ (is_leader ps 1 && (is_directory ps 1 && leb (length (rest name ps 1)) 32))
  loads_kept = and_same (is_leader qs 1) (is_leader ps 1) (is_directory qs 1 && leb (length (rest name qs 1)) 32) (is_directory ps 1 && leb (length (rest name ps 1)) 32) (leaders_kept name real ps qs names w 1)
      (λ e. and_same (is_directory qs 1) (is_directory ps 1) (leb (length (rest name qs 1)) 32) (leb (length (rest name ps 1)) 32) (directory_kept 1 e) (λ d. ap (λ (xs : List ℕ). leb (length xs) 32) (rest_kept 1 e)))

  pub words_kept : directory_words name qs ≡ directory_words name ps
  words_kept = if_same (is_leader qs 1 && (is_directory qs 1 && leb (length (rest name qs 1)) 32)) (is_leader ps 1 && (is_directory ps 1 && leb (length (rest name ps 1)) 32)) (all_words (unlocated (located_file name qs 1)).pages) (all_words (unlocated (located_file name ps 1)).pages) None
      loads_kept (λ e. ap (λ (f : LocatedFile). all_words (unlocated f).pages) (file_kept 1 (and_parts (is_leader ps 1) (is_directory ps 1 && leb (length (rest name ps 1)) 32) e).0))

  pub entries_kept : entries name qs ≡ entries name ps
  unfolding entries
  entries_kept = ap entries_of words_kept
