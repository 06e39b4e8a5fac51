-- What the scan, the search for rivals and the walks come to.
use Rattle.std.proofs.Common.{◌≡◌, ℕ, zero, suc, ◌-◌, ◌<◌, ◌≤◌, Bool, true, false, ltb, ◌⊎◌, List, [], ◌∷◌, ◌++◌, length, get_or, drop, replicate, Some, None, Ok, Err, Option, Result, sym, refl, ap, ◌∙◌, subst, inl, inr, ⊎_elim, arith}
use Rattle.std.specs.List.{find, position_or_len, slice_get}
use Rattle.std.proofs.lemmas.List.FromFn.{length-map-range_with_len, get_or-map-range_with_len, fill_by_all}
use Rattle.std.proofs.lemmas.Bool.{cases_Bool, cases_eq, cases_lt, ltb-true, lt-ltb, le-ltb}
use Rattle.std.proofs.lemmas.List.{get_or_default}
use Rattle.std.proofs.lemmas.List.Folds.{find_at}
use Rattle.std.proofs.lemmas.List.Sums.{fails_before_first, passes_at_first}
use Rattle.std.proofs.lemmas.Option.{slice_get-get_or, slice_get_within, get_or_from_slice_get}
use Rattle.disk.specs.declared.address.PageAddress.{PageAddress}
use Rattle.disk.specs.declared.refusal.Refusal.{Refusal}
use Rattle.disk.specs.declared.refusal.Reason.TheVariants.{Rivals}
use Rattle.disk.specs.declared.refusal.Place.TheVariants.{Pack}
use Rattle.disk.specs.Refusals.{refusal_of_two}
use Rattle.disk.specs.Media.{Page, label_at}
use Rattle.survey.specs.declared.table.Record.{Record}
use Rattle.survey.specs.declared.table.Totals.{Totals}
use Rattle.survey.specs.declared.table.Verdict.TheVariants.{Chained, Reserved}
use Rattle.survey.specs.Chains.{Naming, is_leader, chain, leader_of, are_rivals, rival_of, rivalled}
use Rattle.survey.specs.Verdicts.{bare, filed, record_by, record_of, table_of, totals, survey_answer, survey_table}
use Rattle.survey.specs.Laws.{In, Leader}
use Rattle.survey.specs.Steps.{no_record, judged_at, first_record, Scanned, Listed, id_in, has_id, pair_or, pair_of, MarkedAll}
use Rattle.survey.proofs.Following.{never, not_true, file_not_free, file_same, file_from, leader_is, leader_from, has_label, id_at}
use Rattle.survey.proofs.Leading.{first_is, Led, leader_of_is, leader_of_there, Rival, rivals_are, rivals_from, rival_back, rival_there, rival_is, rivalled_is}

-- Where no element passes a test.
find_none : {X : Type 0} (t : X → Bool) (xs : List X) (d : X) → find t xs ≡ None → (h : ℕ) → h < length xs → t (get_or xs h d) ≡ false
find_none t xs d e h l =
    let p = position_or_len t xs in
    ⊎_elim (λ (u : h < p). fails_before_first t xs h d u) (λ (u : p ≤ h). never (slice_get xs p) (get_or xs p d) (sym (find_at t xs) ∙ e) (slice_get-get_or xs p d (omega arith))) (cases_lt h p)

-- The pages of a list by their places, and whether two of them have one file id in the table.
abbrev at : List PageAddress → ℕ → PageAddress
at ls i = get_or ls i (record { page = 0 })

abbrev nth : List PageAddress → ℕ → ℕ
nth ls i = (at ls i).page

abbrev alike : List Record → List PageAddress → ℕ → ℕ → Bool
alike ts ls i j = has_id ts (id_in ts (at ls i)) (at ls j)

-- The first two pages of a list that are alike, by their places.
record Pair (ts : List Record) (ls : List PageAddress) (a b : PageAddress) : Type 0 where
  i : ℕ
  j : ℕ
  is_a : at ls i ≡ a
  is_b : at ls j ≡ b
  after : i < j
  inside : j < length ls
  like : alike ts ls i j ≡ true
  first : (h : ℕ) → i < h → h < j → alike ts ls i h ≡ false
  none_before : (g h : ℕ) → g < i → g < h → h < length ls → alike ts ls g h ≡ false

-- What an answer of the search for them says.
abbrev Paired : List Record → List PageAddress → Option (PageAddress × PageAddress) → Type 0
Paired ts ls None = (g h : ℕ) → g < h → h < length ls → alike ts ls g h ≡ false
Paired ts ls (Some (a, b)) = Pair ts ls a b

paired : (ts : List Record) (ls : List PageAddress) → Paired ts ls (pair_of ts ls)
paired ts [] = λ g h u v. absurd (omega arith)
paired ts (x ∷ xs) = go (find (has_id ts (id_in ts x)) xs) refl (pair_of ts xs) (paired ts xs)
  where
    none : find (has_id ts (id_in ts x)) xs ≡ None → (h : ℕ) → h < length xs → alike ts (x ∷ xs) 0 (suc h) ≡ false
    none f h l = find_none (has_id ts (id_in ts x)) xs (record { page = 0 }) f h l

    go : (o : Option PageAddress) → find (has_id ts (id_in ts x)) xs ≡ o → (r : Option (PageAddress × PageAddress)) → Paired ts xs r → Paired ts (x ∷ xs) (pair_or x r o)
    go (Some b) f r p =
        let j = position_or_len (has_id ts (id_in ts x)) xs in
        let at_j : slice_get xs j ≡ Some b = sym (find_at (has_id ts (id_in ts x)) xs) ∙ f in
        let inside = slice_get_within xs j b at_j in
        record {
          i = 0;
          j = suc j;
          is_a = refl;
          is_b = get_or_from_slice_get xs j b (record { page = 0 }) at_j;
          after = omega arith;
          inside = omega arith;
          like = passes_at_first (has_id ts (id_in ts x)) xs (record { page = 0 }) inside;
          first = near;
          none_before = λ g h u v k. absurd (omega arith);
        }
      where
        near : (h : ℕ) → 0 < h → h < suc (position_or_len (has_id ts (id_in ts x)) xs) → alike ts (x ∷ xs) 0 h ≡ false
        near zero u v = absurd (omega arith)
        near (suc h) u v = fails_before_first (has_id ts (id_in ts x)) xs h (record { page = 0 }) (omega arith)
    go None f None p = before
      where
        before : (g h : ℕ) → g < h → h < suc (length xs) → alike ts (x ∷ xs) g h ≡ false
        before g zero u v = absurd (omega arith)
        before zero (suc h) u v = none f h (omega arith)
        before (suc g) (suc h) u v = p g h (omega arith) (omega arith)
    go None f (Some (a, b)) p = record {
      i = suc p.i;
      j = suc p.j;
      is_a = p.is_a;
      is_b = p.is_b;
      after = let h = p.after in omega arith;
      inside = let h = p.inside in omega arith;
      like = p.like;
      first = near;
      none_before = before;
    }
      where
        near : (h : ℕ) → suc p.i < h → h < suc p.j → alike ts (x ∷ xs) (suc p.i) h ≡ false
        near zero u v = absurd (omega arith)
        near (suc h) u v = p.first h (omega arith) (omega arith)

        before : (g h : ℕ) → g < suc p.i → g < h → h < suc (length xs) → alike ts (x ∷ xs) g h ≡ false
        before g zero u v k = absurd (omega arith)
        before zero (suc h) u v k = none f h (omega arith)
        before (suc g) (suc h) u v k = p.none_before g h (omega arith) (omega arith) (omega arith)

-- The record that the scan gives a leader.
leader_record : (ps : List Page) (q : ℕ) → is_leader ps q ≡ true → (k : Leader ps q) → first_record ps q ≡ filed Chained q k.label
leader_record ps q e k = rw e (rw (lt-ltb 0 q k.above, k.at_q) (rw (file_not_free k.label k.file, lt-ltb 0 q k.above)))

-- The first pair that is alike is the lowest leader with a rival, and its lowest one.
pub record Lowest (ps : List Page) (a b : ℕ) : Type 0 where
  pub one : rivalled ps ≡ a
  pub two : rival_of ps a ≡ b
  pub above : 0 < a

-- Whether two listed leaders are rivals can be seen in the table.
module _ (ps : List Page) (ts : List Record) (ls : List PageAddress) (s : Scanned ps (length ps) ts) (l : Listed ps (length ps) ls) where
  leader_at : (j : ℕ) → j < length ls → Leader ps (nth ls j)
  leader_at j h = leader_is ps (nth ls j) (l.leaders j (record { page = 0 }) h)

  rising : (i j : ℕ) → i < j → j < length ls → nth ls i < nth ls j
  rising i j h k = l.rising i j (record { page = 0 }) h k

  listed_id : (j : ℕ) → j < length ls → id_in ts (at ls j) ≡ id_at (label_at ps (nth ls j))
  unfolding id_at
  listed_id j h =
      let k = leader_at j h in
      ap (λ (r : Record). r.id) (s (nth ls j) (l.below j (record { page = 0 }) h) ∙ leader_record ps (nth ls j) (l.leaders j (record { page = 0 }) h) k) ∙ sym (ap id_at k.at_q)

  alike_rivals : (i j : ℕ) → i < j → j < length ls → alike ts ls i j ≡ true → Rival ps (nth ls i) (nth ls j)
  alike_rivals i j h k e = record {
    apart = λ u. let r = rising i j h k in omega arith;
    one = leader_at i (omega arith);
    two = leader_at j k;
    same = sym (listed_id i (omega arith)) ∙ (sym (file_same (id_in ts (at ls j)) (id_in ts (at ls i)) e) ∙ listed_id j k);
  }

  rivals_alike : (i j : ℕ) → i < length ls → j < length ls → Rival ps (nth ls i) (nth ls j) → alike ts ls i j ≡ true
  rivals_alike i j h k r = file_from (id_in ts (at ls j)) (id_in ts (at ls i)) (listed_id j k ∙ (sym r.same ∙ sym (listed_id i h)))

  -- The place of a leader in the list, and that lower leaders come first.
  place : (q : ℕ) → Leader ps q → (j : ℕ) × (j < length ls) × (nth ls j ≡ q)
  place q d =
      let b = has_label ps q d.label d.at_q in
      let (j, x, h, e, r) = l.complete q b (leader_from ps q d) in
      (j, h, ap (λ (a : PageAddress). a.page) (get_or_default ls j (record { page = 0 }) x h ∙ e) ∙ r)

  earlier : (g i : ℕ) → g < length ls → i < length ls → nth ls g < nth ls i → g < i
  earlier g i a b h = ⊎_elim (λ (u : g < i). u) (λ (u : i ≤ g). late u (cases_eq i g)) (cases_lt g i)
    where
      late : i ≤ g → (i ≡ g) ⊎ (i ≡ g → ⊥) → g < i
      late u (inl e) = let x : nth ls i ≡ nth ls g = ap (nth ls) e in absurd (omega arith)
      late u (inr d) = let x = rising i g (omega arith) a in absurd (omega arith)

  -- No two listed leaders below place i are alike with any: then none of them has a rival.
  none_rival : (i : ℕ) → ((g h : ℕ) → g < i → g < h → h < length ls → alike ts ls g h ≡ false) → (g : ℕ) → g < i → g < length ls → (r : ℕ) → Rival ps (nth ls g) r → ⊥
  none_rival i none g u v r d = there (place r d.two)
    where
      there : (h : ℕ) × (h < length ls) × (nth ls h ≡ r) → ⊥
      there (h, k, e) = way (cases_lt g h) (cases_eq g h)
        where
          is : Rival ps (nth ls g) (nth ls h)
          is = subst (λ (x : ℕ). Rival ps (nth ls g) x) (sym e) d

          way : (g < h) ⊎ (h ≤ g) → (g ≡ h) ⊎ (g ≡ h → ⊥) → ⊥
          way (inl x) y = not_true (alike ts ls g h) (none g h u x k) (rivals_alike g h v k is)
          way (inr x) (inl y) = is.apart (ap (nth ls) y)
          way (inr x) (inr y) = not_true (alike ts ls h g) (none h g (omega arith) (omega arith) v) (rivals_alike h g k v (rival_back ps (nth ls g) (nth ls h) is))

  pub no_pair : (r : Option (PageAddress × PageAddress)) → r ≡ pair_of ts ls → r ≡ None → rivalled ps ≡ 0
  no_pair r f e = ⊎_elim (λ (u : 0 < rivalled ps). absurd (has u)) (λ (u : rivalled ps ≤ 0). omega arith) (cases_lt 0 (rivalled ps))
    where
      has : 0 < rivalled ps → ⊥
      has u = there (place (rivalled ps) (rivalled_is ps u).one)
        where
          there : (g : ℕ) × (g < length ls) × (nth ls g ≡ rivalled ps) → ⊥
          there (g, v, z) = none_rival (length ls) (λ x y h. subst (Paired ts ls) (sym f ∙ e) (paired ts ls) x y) g v v (rival_of ps (rivalled ps)) (subst (λ (x : ℕ). Rival ps x (rival_of ps (rivalled ps))) (sym z) (rivalled_is ps u))

  pub pair_lowest : (o : Option (PageAddress × PageAddress)) (a b : PageAddress) → o ≡ pair_of ts ls → o ≡ Some (a, b) → Lowest ps a.page b.page
  unfolding rivalled
  pair_lowest o a b f e = record {
    one = first_is (λ x. ltb 0 (rival_of ps x)) 1 (length ps - 1) a.page r.one.above (let w = has_label ps a.page r.one.label r.one.at_q in omega arith) (lt-ltb 0 (rival_of ps a.page) (rival_there ps a.page b.page r)) lower;
    two = first_is (are_rivals ps a.page) 1 (length ps - 1) b.page r.two.above (let w = has_label ps b.page r.two.label r.two.at_q in omega arith) (rivals_from ps a.page b.page r) nearer;
    above = r.one.above;
  }
    where
      p : Pair ts ls a b
      p = subst (Paired ts ls) (sym f ∙ e) (paired ts ls)

      i<k : p.i < length ls
      i<k = let x = p.after in let y = p.inside in omega arith

      is_a : nth ls p.i ≡ a.page
      is_a = ap (λ (x : PageAddress). x.page) p.is_a

      is_b : nth ls p.j ≡ b.page
      is_b = ap (λ (x : PageAddress). x.page) p.is_b

      r : Rival ps a.page b.page
      r = subst (λ (x : ℕ). Rival ps x b.page) is_a (subst (λ (x : ℕ). Rival ps (nth ls p.i) x) is_b (alike_rivals p.i p.j p.after p.inside p.like))

      lower : (q : ℕ) → 1 ≤ q → q < a.page → ltb 0 (rival_of ps q) ≡ false
      lower q h k = ⊎_elim (λ u. absurd (rivalry u)) (λ (u : ltb 0 (rival_of ps q) ≡ false). u) (cases_Bool (ltb 0 (rival_of ps q)))
        where
          rivalry : ltb 0 (rival_of ps q) ≡ true → ⊥
          rivalry u = there (place q d.one)
            where
              d : Rival ps q (rival_of ps q)
              d = rival_is ps q (ltb-true 0 (rival_of ps q) u)

              there : (g : ℕ) × (g < length ls) × (nth ls g ≡ q) → ⊥
              there (g, v, z) =
                  let w : nth ls g < nth ls p.i = let x = is_a in omega arith in
                  none_rival p.i p.none_before g (earlier g p.i v i<k w) v (rival_of ps q) (subst (λ (x : ℕ). Rival ps x (rival_of ps q)) (sym z) d)

      nearer : (q : ℕ) → 1 ≤ q → q < b.page → are_rivals ps a.page q ≡ false
      nearer q h k = ⊎_elim (λ u. absurd (rivalry u)) (λ (u : are_rivals ps a.page q ≡ false). u) (cases_Bool (are_rivals ps a.page q))
        where
          rivalry : are_rivals ps a.page q ≡ true → ⊥
          rivalry u = there (place q d.two)
            where
              d : Rival ps a.page q
              d = rivals_are ps a.page q u

              there : (g : ℕ) × (g < length ls) × (nth ls g ≡ q) → ⊥
              there (g, v, z) = way (cases_lt g p.i) (cases_eq g p.i)
                where
                  is : Rival ps (nth ls p.i) (nth ls g)
                  is = subst (λ (x : ℕ). Rival ps x (nth ls g)) (sym is_a) (subst (λ (x : ℕ). Rival ps a.page x) (sym z) d)

                  before_j : g < p.j
                  before_j = earlier g p.j v p.inside (let x = is_b in omega arith)

                  way : (g < p.i) ⊎ (p.i ≤ g) → (g ≡ p.i) ⊎ (g ≡ p.i → ⊥) → ⊥
                  way (inl x) y = none_rival p.i p.none_before g x v (nth ls p.i) (rival_back ps (nth ls p.i) (nth ls g) is)
                  way (inr x) (inl y) = is.apart (ap (nth ls) (sym y))
                  way (inr x) (inr y) = not_true (alike ts ls p.i g) (p.first g (omega arith) before_j) (rivals_alike p.i g i<k v is)

  -- The table once the chains of all listed leaders are marked, on a pack without rivals.
  module _ (name : Naming) (new : List Record) (none : rivalled ps ≡ 0) (m : MarkedAll name ps ls ts new) where
    by_list : (q p : ℕ) → Led name ps q p → get_or new p no_record ≡ record_by ps q p
    by_list q p d = there (place q d.leader)
      where
        there : (j : ℕ) × (j < length ls) × (nth ls j ≡ q) → get_or new p no_record ≡ record_by ps q p
        there (j, h, e) = m.chained p j (record { page = 0 }) h (subst (λ (x : ℕ). In p (chain name ps x)) (sym e) d.inside) ∙ ap (λ (x : ℕ). record_by ps x p) e

    -- a page that no leader has
    unled : (p : ℕ) → leader_of name ps p ≡ 0 → get_or new p no_record ≡ get_or ts p no_record
    unled p e = m.others p (λ j d h i. let x = leader_of_there name ps (get_or ls j d).page p (record { leader = leader_is ps (get_or ls j d).page (l.leaders j d h); inside = i }) in omega arith)

    not_leading : (p : ℕ) → leader_of name ps p ≡ 0 → is_leader ps p ≡ false
    not_leading p e = ⊎_elim (λ u. absurd (let x = leader_of_there name ps p p (record { leader = leader_is ps p u; inside = inl refl }) in omega arith)) (λ (u : is_leader ps p ≡ false). u) (cases_Bool (is_leader ps p))

    each : (p : ℕ) → p < length ps → get_or new p no_record ≡ record_of name ps p
    each p h = ⊎_elim (λ (u : 0 < leader_of name ps p). by_list (leader_of name ps p) p (leader_of_is name ps p u)) (λ (u : leader_of name ps p ≤ 0). alone (omega arith)) (cases_lt 0 (leader_of name ps p))
      where
        alone : leader_of name ps p ≡ 0 → get_or new p no_record ≡ record_of name ps p
        alone e = unled p e ∙ (s p h ∙ (ap (λ (b : Bool). judged_at p (label_at ps p) b) (not_leading p e) ∙ ap (λ (x : ℕ). record_by ps x p) (sym e)))

    pub table_filled : length new ≡ length ps → new ≡ table_of name ps
    unfolding table_of
    table_filled h = fill_by_all (record_of name ps) new (length ps) no_record h each

-- The table at the end.
pub length_table : (name : Naming) (ps : List Page) → length (table_of name ps) ≡ length ps
unfolding table_of
length_table name ps = length-map-range_with_len (record_of name ps) 0 (length ps)

pub at_table : (name : Naming) (ps : List Page) (p : ℕ) → p < length ps → get_or (table_of name ps) p no_record ≡ record_of name ps p
unfolding table_of
at_table name ps p h = get_or-map-range_with_len (record_of name ps) 0 (length ps) p p no_record h (omega arith)

-- The answer and the table, by what was found.
module _ (name : Naming) (ps : List Page) (old : List Record) (room : length ps ≤ length old) where
  enough : ltb (length old) (length ps) ≡ false
  enough = le-ltb (length old) (length ps) room

  pub answer_rivals : (a b : ℕ) → Lowest ps a b → Err (refusal_of_two Rivals Pack a b) ≡ survey_answer name ps (length old)
  answer_rivals a b l = sym (rw enough (rw (l.one, lt-ltb 0 a l.above, l.two)))

  pub table_rivals : (a b : ℕ) → Lowest ps a b → replicate (length ps) (bare Reserved) ++ drop (length ps) old ≡ survey_table name ps old
  table_rivals a b l = sym (rw enough (rw (l.one, lt-ltb 0 a l.above)))

  pub answer_found : (t : Totals) → rivalled ps ≡ 0 → t ≡ totals (table_of name ps) → Ok t ≡ survey_answer name ps (length old)
  answer_found t none e = ap {B = Result Totals Refusal} Ok e ∙ sym (rw enough (rw none))

  pub table_found : rivalled ps ≡ 0 → table_of name ps ++ drop (length ps) old ≡ survey_table name ps old
  table_found none = sym (rw enough (rw none))
