-- Runs of planned writes: joined, parted, and as loops and walks make them.
use Rattle.std.proofs.Common.{◌≡◌, ℕ, ◌+◌, ◌<◌, ◌≤◌, true, false, ◌⊎◌, List, [], ◌∷◌, ◌++◌, length, get_or, take, drop, IsErrAnd, Ok, Err, Result, sym, refl, ap, ◌∙◌, subst, inl, inr, ⊎_elim, arith, length-set}
use Rattle.std.proofs.lemmas.List.{take_more, take-append-drop, take_all}
use Rattle.disk.specs.declared.refusal.Refusal.{Refusal}
use Rattle.disk.specs.Media.{Page, Medium, Part, a_label, a_data, Write, put, after, Ignored, Torn, Cut, Written}
use Rattle.disk.proofs.Tearing.{torn_old}
use Rattle.survey.proofs.Following.{not_true}
use Rattle.ledger.specs.Runs.{applied, Through, Stopped, Ran, whole, Whole, Inside, Value, Split, Kept, BothThrough, SecondStopped, NothingDone, RunLaws}

-- One write is a run.
pub ran_one : (w : Write) (m : Medium) (r : Result (Unit {0}) Refusal) (t : Medium) → Written w m r t → Ran (w ∷ []) m r t
ran_one w m (Ok a) t h = (h.goes, h.is)
ran_one w m (Err e) t h = inl h

pub one_ran : (w : Write) (m : Medium) (r : Result (Unit {0}) Refusal) (t : Medium) → Ran (w ∷ []) m r t → Written w m r t
one_ran w m (Ok a) t h = record { goes = h.0; is = h.1 }
one_ran w m (Err e) t (inl h) = h
one_ran w m (Err e) t (inr h) = absurd h.1

-- A run, and then another one.
pub through_then : (ws vs : List Write) (m n t : Medium) → Through ws m n → Through vs n t → Through (ws ++ vs) m t
through_then [] vs m n t h k = rw h at k
through_then (w ∷ ws) vs m n t h k = (h.0, through_then ws vs (after w m) n t h.1 k)

pub stopped_then : (ws vs : List Write) (m n : Medium) (e : Refusal) (t : Medium) → Through ws m n → Stopped vs n e t → Stopped (ws ++ vs) m e t
stopped_then [] vs m n e t h k = rw h at k
stopped_then (w ∷ ws) vs m n e t h k = inr (h.0, stopped_then ws vs (after w m) n e t h.1 k)

pub stopped_early : (ws vs : List Write) (m : Medium) (e : Refusal) (t : Medium) → Stopped ws m e t → Stopped (ws ++ vs) m e t
stopped_early [] vs m e t h = absurd h
stopped_early (w ∷ ws) vs m e t (inl h) = inl h
stopped_early (w ∷ ws) vs m e t (inr h) = inr (h.0, stopped_early ws vs (after w m) e t h.1)

pub ran_then : {A : Type 0} (ws vs : List Write) (m n : Medium) (r : Result A Refusal) (t : Medium) → Through ws m n → Ran vs n r t → Ran (ws ++ vs) m r t
ran_then ws vs m n (Ok a) t h k = through_then ws vs m n t h k
ran_then ws vs m n (Err e) t h k = stopped_then ws vs m n e t h k

-- A run of two lists, parted.
pub through_parts : (ws vs : List Write) (m t : Medium) → Through (ws ++ vs) m t → BothThrough ws vs m t
through_parts [] vs m t h = record { between = m; first = refl; second = h }
through_parts (w ∷ ws) vs m t h =
    let k = through_parts ws vs (after w m) t h.1 in
    record { between = k.between; first = (h.0, k.first); second = k.second }

pub stopped_parts : (ws vs : List Write) (m : Medium) (e : Refusal) (t : Medium) → Stopped (ws ++ vs) m e t → Stopped ws m e t ⊎ SecondStopped ws vs m e t
stopped_parts [] vs m e t h = inr (record { between = m; first = refl; second = h })
stopped_parts (w ∷ ws) vs m e t (inl h) = inl (inl h)
stopped_parts (w ∷ ws) vs m e t (inr h) =
    ⊎_elim (λ (k : Stopped ws (after w m) e t). inl (inr (h.0, k)))
    (λ (k : SecondStopped ws vs (after w m) e t). inr (record { between = k.between; first = (h.0, k.first); second = k.second }))
    (stopped_parts ws vs (after w m) e t h.1)

-- What no write alters.
pub length_put : (ps : List Page) (p : ℕ) (x : Part) → length (put ps p x) ≡ length ps
length_put ps p (a_label l) = simp length-set
length_put ps p (a_data d) = simp length-set

pub length_torn : (ps : List Page) (p : ℕ) (x : Part) (qs : List Page) → Torn ps p x qs → length qs ≡ length ps
length_torn ps p (a_label l) qs (inl h) = ap length h
length_torn ps p (a_label l) qs (inr h) = ap length h ∙ length_put ps p (a_label l)
length_torn ps p (a_data d) qs (inl (inl h)) = ap length h
length_torn ps p (a_data d) qs (inl (inr h)) = ap length h ∙ length_put ps p (a_data d)
length_torn ps p (a_data d) qs (inr h) = ap length h ∙ simp length-set

pub length_applied : (ws : List Write) (ps : List Page) → length (applied ws ps) ≡ length ps
length_applied [] ps = refl
length_applied (w ∷ ws) ps = length_applied ws (put ps w.page w.part) ∙ length_put ps w.page w.part

pub applied_then : (ws vs : List Write) (ps : List Page) → applied (ws ++ vs) ps ≡ applied vs (applied ws ps)
applied_then [] vs ps = refl
applied_then (w ∷ ws) vs ps = applied_then ws vs (put ps w.page w.part)

-- The value of a run that went through.
pub through_whole : (ws : List Write) (m t : Medium) → Through ws m t → Whole ws m t
through_whole [] m t h = h
through_whole (w ∷ ws) m t h = through_whole ws (after w m) t h.1

-- Inside a pack of as many pages.
pub inside_same : (ws : List Write) (m n : Medium) → length n.pages ≡ length m.pages → Inside ws n → Inside ws m
inside_same ws m n e a = rw e at a

pub through_inside : (ws : List Write) (m t : Medium) → Through ws m t → Inside ws m
through_inside [] m t h = tt
through_inside (w ∷ ws) m t h = (h.0.inside, inside_same ws m (after w m) (length_put m.pages w.page w.part) (through_inside ws (after w m) t h.1))

pub through_on : (w : Write) (ws : List Write) (m t : Medium) → Through (w ∷ ws) m t → (m.on ≡ true) × (t.on ≡ true)
through_on w ws m t h = (h.0.on, ap (λ (x : Medium). x.on) (through_whole (w ∷ ws) m t h) ∙ h.0.on)

pub through_goes : (ws : List Write) (m : Medium) → m.on ≡ true → Inside ws m → Through ws m (whole ws m)
through_goes [] m on a = refl
through_goes (w ∷ ws) m on a = (record { on = on; inside = a.0 }, through_goes ws (after w m) on (inside_same ws (after w m) m (sym (length_put m.pages w.page w.part)) a.1))

pub refused_kept : (w : Write) (m : Medium) (e : Refusal) (t : Medium) → Written w m (Err e) t → Kept m t
refused_kept w m e t h = ⊎_elim
    (λ (i : Ignored w m t). record { count = ap (λ (x : Medium). length x.pages) i.same; cylinders = ap (λ (x : Medium). x.cylinders) i.same; steady = ap (λ (x : Medium). x.steady) i.same })
    (λ (c : Cut w m t). record { count = length_torn m.pages w.page w.part t.pages c.torn; cylinders = ap (λ (x : Medium). x.cylinders) c.is; steady = ap (λ (x : Medium). x.steady) c.is })
    h.1

after_kept : (w : Write) (m t : Medium) → Kept (after w m) t → Kept m t
after_kept w m t k = record { count = k.count ∙ length_put m.pages w.page w.part; cylinders = k.cylinders; steady = k.steady }

pub through_kept : (ws : List Write) (m t : Medium) → Through ws m t → Kept m t
through_kept [] m t h = record { count = ap (λ (x : Medium). length x.pages) h; cylinders = ap (λ (x : Medium). x.cylinders) h; steady = ap (λ (x : Medium). x.steady) h }
through_kept (w ∷ ws) m t h = after_kept w m t (through_kept ws (after w m) t h.1)

pub stopped_kept : (ws : List Write) (m : Medium) (e : Refusal) (t : Medium) → Stopped ws m e t → Kept m t
stopped_kept [] m e t h = absurd h
stopped_kept (w ∷ ws) m e t (inl h) = refused_kept w m e t h
stopped_kept (w ∷ ws) m e t (inr h) = after_kept w m t (stopped_kept ws (after w m) e t h.1)

pub ran_kept : {A : Type 0} (ws : List Write) (m : Medium) (r : Result A Refusal) (t : Medium) → Ran ws m r t → Kept m t
ran_kept ws m (Ok a) t h = through_kept ws m t h
ran_kept ws m (Err e) t h = stopped_kept ws m e t h

-- Where a run stopped.
pub refused_torn : (w : Write) (m : Medium) (e : Refusal) (t : Medium) → Written w m (Err e) t → Torn m.pages w.page w.part t.pages
refused_torn w m e t h = ⊎_elim
    (λ (i : Ignored w m t). torn_old m.pages t.pages w.page w.part (ap (λ (x : Medium). x.pages) i.same))
    (λ (c : Cut w m t). c.torn)
    h.1

pub stopped_split : (ws : List Write) (m : Medium) (e : Refusal) (t : Medium) → Stopped ws m e t → Split ws m e t
stopped_split [] m e t h = absurd h
stopped_split (w ∷ ws) m e t (inl h) = record { done = []; at = w; later = ws; plan = refl; before = m; through = refl; refused = h; names = h.0; pages = refused_torn w m e t h }
stopped_split (w ∷ ws) m e t (inr h) =
    let k = stopped_split ws (after w m) e t h.1 in
    record { done = w ∷ k.done; at = k.at; later = k.later; plan = ap (λ (us : List Write). w ∷ us) k.plan; before = k.before; through = (h.0, k.through); refused = k.refused; names = k.names; pages = k.pages }

pub split_stopped : (ws : List Write) (m : Medium) (e : Refusal) (t : Medium) → Split ws m e t → Stopped ws m e t
split_stopped ws m e t k = subst (λ (us : List Write). Stopped us m e t) (sym k.plan) (stopped_then k.done (k.at ∷ k.later) m k.before e t k.through (inl k.refused))

-- A drive that is off.
pub off_stopped : (w : Write) (ws : List Write) (m : Medium) (e : Refusal) (t : Medium) → m.on ≡ false → Stopped (w ∷ ws) m e t → NothingDone w m e t
off_stopped w ws m e t off (inl h) = record { names = h.0; same = ⊎_elim (λ (i : Ignored w m t). i.same) (λ (c : Cut w m t). not_true m.on off c.goes.on) h.1 }
off_stopped w ws m e t off (inr h) = not_true m.on off h.0.on

-- A steady drive that is on stops at no write inside.
pub steady_on : (ws : List Write) (m : Medium) (e : Refusal) (t : Medium) → m.steady ≡ true → m.on ≡ true → Inside ws m → Stopped ws m e t → ⊥
steady_on [] m e t st on a h = h
steady_on (w ∷ ws) m e t st on a (inl h) = ⊎_elim
    (λ (i : Ignored w m t). ⊎_elim (λ (k : length m.pages ≤ w.page). let q = a.0 in omega arith) (λ (k : m.on ≡ false). not_true m.on k on) i.why)
    (λ (c : Cut w m t). not_true m.steady c.not_steady st)
    h.1
steady_on (w ∷ ws) m e t st on a (inr h) = steady_on ws (after w m) e t st on (inside_same ws (after w m) m (sym (length_put m.pages w.page w.part)) a.1) h.1

pub steady_value : {A : Type 0} (ws : List Write) (m : Medium) (r : Result A Refusal) (t : Medium) → Ran ws m r t → Value ws m r t
steady_value ws m (Ok a) t h st on k = (refl, through_whole ws m t h)
steady_value ws m (Err e) t h st on k = absurd (steady_on ws m e t st on k h)

pub steady_stop : (ws : List Write) (m : Medium) (e : Refusal) (t : Medium) → m.steady ≡ true → (k : Split ws m e t) → t ≡ whole k.done m
steady_stop ws m e t st k =
    ⊎_elim (λ (i : Ignored k.at k.before t). i.same) (λ (c : Cut k.at k.before t). not_true k.before.steady c.not_steady ((through_kept k.done m k.before k.through).steady ∙ st)) k.refused.1
    ∙ through_whole k.done m k.before k.through

-- A drive that was on, and has the pages, stops by turning off.
pub stopped_off : (ws : List Write) (m : Medium) (e : Refusal) (t : Medium) → m.on ≡ true → Inside ws m → Stopped ws m e t → t.on ≡ false
stopped_off [] m e t on a h = absurd h
stopped_off (w ∷ ws) m e t on a (inl h) = ⊎_elim
    (λ (i : Ignored w m t). ⊎_elim (λ (k : length m.pages ≤ w.page). let q = a.0 in absurd (omega arith)) (λ (k : m.on ≡ false). not_true m.on k on) i.why)
    (λ (c : Cut w m t). ap (λ (x : Medium). x.on) c.is)
    h.1
stopped_off (w ∷ ws) m e t on a (inr h) = stopped_off ws (after w m) e t on (inside_same ws (after w m) m (sym (length_put m.pages w.page w.part)) a.1) h.1

-- The exit of a `?`.
pub broke : {A : Type 0} (ws : List Write) (m : Medium) (r : Result A Refusal) (e : Refusal) (t : Medium) → IsErrAnd r (λ y. y ≡ e) → Stopped ws m e t → Ran ws m r t
broke ws m (Ok a) e t h k = absurd h
broke ws m (Err y) e t h k = rw h k

pub broke_early : {A : Type 0} (ws vs : List Write) (m : Medium) (r : Result A Refusal) (e : Refusal) (t : Medium) → IsErrAnd r (λ y. y ≡ e) → Stopped ws m e t → Ran (ws ++ vs) m r t
broke_early ws vs m r e t h k = broke (ws ++ vs) m r e t h (stopped_early ws vs m e t k)

pub broke_then : {A : Type 0} (ws vs : List Write) (m n : Medium) (r : Result A Refusal) (e : Refusal) (t : Medium) → IsErrAnd r (λ y. y ≡ e) → Through ws m n → Stopped vs n e t → Ran (ws ++ vs) m r t
broke_then ws vs m n r e t h k l = broke (ws ++ vs) m r e t h (stopped_then ws vs m n e t k l)

-- A loop over a plan, in which the first i went through: one more, cut here, all done.
pub more_at : (ws : List Write) (i : ℕ) (w : Write) (m n t : Medium) → i < length ws → get_or ws i w ≡ w → Through (take i ws) m n → Through (w ∷ []) n t → Through (take (i + 1) ws) m t
more_at ws i w m n t l is h k = rw (take_more ws i w l, is) (through_then (take i ws) (w ∷ []) m n t h k)

pub cut_at : (ws : List Write) (i : ℕ) (w : Write) (m n : Medium) (e : Refusal) (t : Medium) → i < length ws → get_or ws i w ≡ w → Through (take i ws) m n → Stopped (w ∷ []) n e t → Stopped ws m e t
cut_at ws i w m n e t l is h k =
    let a : Stopped (take (i + 1) ws) m e t = rw (take_more ws i w l, is) (stopped_then (take i ws) (w ∷ []) m n e t h k) in
    subst (λ (us : List Write). Stopped us m e t) (take-append-drop (i + 1) ws) (stopped_early (take (i + 1) ws) (drop (i + 1) ws) m e t a)

pub all_at : (ws : List Write) (i : ℕ) (m t : Medium) → length ws ≤ i → Through (take i ws) m t → Through ws m t
all_at ws i m t l h = rw (take_all i ws l) at h

-- A walk that knows what is left of its plan: vs from n on leads to ws from m on.
abbrev pub Leads : List Write → Medium → List Write → Medium → Type 0
Leads ws m vs n =
    ((t : Medium) → Through vs n t → Through ws m t) × ((e : Refusal) (t : Medium) → Stopped vs n e t → Stopped ws m e t)

pub leads_same : (ws : List Write) (m : Medium) → Leads ws m ws m
leads_same ws m = (λ t h. h, λ e t h. h)

pub leads_ran : {A : Type 0} (ws : List Write) (m : Medium) (vs : List Write) (n : Medium) (r : Result A Refusal) (t : Medium) → Leads ws m vs n → Ran vs n r t → Ran ws m r t
leads_ran ws m vs n (Ok a) t l h = l.0 t h
leads_ran ws m vs n (Err e) t l h = l.1 e t h

-- One write more, or several, and cut at one of them.
pub leads_through : (ws : List Write) (m : Medium) (us vs : List Write) (n t : Medium) → Leads ws m (us ++ vs) n → Through us n t → Leads ws m vs t
leads_through ws m us vs n t l h = (λ u k. l.0 u (through_then us vs n t u h k), λ e u k. l.1 e u (stopped_then us vs n t e u h k))

pub leads_stopped : (ws : List Write) (m : Medium) (us vs : List Write) (n : Medium) (e : Refusal) (t : Medium) → Leads ws m (us ++ vs) n → Stopped us n e t → Stopped ws m e t
leads_stopped ws m us vs n e t l h = l.1 e t (stopped_early us vs n e t h)

pub leads_more : (ws : List Write) (m : Medium) (w : Write) (vs : List Write) (n t : Medium) → Leads ws m (w ∷ vs) n → Through (w ∷ []) n t → Leads ws m vs t
leads_more ws m w vs n t l h = leads_through ws m (w ∷ []) vs n t l h

pub leads_cut : (ws : List Write) (m : Medium) (w : Write) (vs : List Write) (n : Medium) (e : Refusal) (t : Medium) → Leads ws m (w ∷ vs) n → Stopped (w ∷ []) n e t → Stopped ws m e t
leads_cut ws m w vs n e t l h = leads_stopped ws m (w ∷ []) vs n e t l h

pub leads_done : (ws : List Write) (m n : Medium) → Leads ws m [] n → Through ws m n
leads_done ws m n l = l.0 n refl

-- All of it.
pub run_laws : RunLaws
run_laws = record {
  none = λ m. refl;
  none_same = λ m t h. h;
  none_stops = λ m e t h. h;
  one = ran_one;
  one_back = one_ran;
  in_front = λ w ws m n r t h k. ran_then (w ∷ []) ws m n r t (h.goes, h.is) k;
  front_refused = λ w ws m e t h. inl h;
  at_end = λ ws w m n r t h k. ran_then ws (w ∷ []) m n r t h (ran_one w n r t k);
  join_through = through_then;
  join_stopped = stopped_then;
  join_early = stopped_early;
  part_through = through_parts;
  part_stopped = stopped_parts;
  split = stopped_split;
  unsplit = split_stopped;
  goes = through_goes;
  went = through_whole;
  went_inside = through_inside;
  went_on = through_on;
  off = off_stopped;
  off_through = λ w ws m t o h. not_true m.on o h.0.on;
  steady = steady_on;
  value = λ ws m r t h. steady_value ws m r t h;
  steady_stop = steady_stop;
  stop_off = stopped_off;
  kept = λ ws m r t h. ran_kept ws m r t h;
}
