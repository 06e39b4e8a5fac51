-- Lists of planned writes, and how a run of them on a drive may end.
use Rattle.std.specs.Prelude.{◌≡◌, ℕ, ◌-◌, ◌<◌, true, false, ◌⊎◌, List, [], ◌∷◌, ◌++◌, map, length, is_ok, Ok, Err, Result}
use Rattle.std.specs.List.{range_with_len, AllByRecursion}
use Rattle.disk.specs.declared.refusal.Refusal.{Refusal}
use Rattle.disk.specs.Refusals.{hardware}
use Rattle.disk.specs.Labels.{free_label}
use Rattle.disk.specs.Media.{Page, Medium, Write, label_write, put, after, Goes, Torn, Written}

-- The pages after each of the writes, in order.
abbrev pub applied : List Write → List Page → List Page
applied [] ps = ps
applied (w ∷ ws) ps = applied ws (put ps w.page w.part)

-- All of the writes go through, one after the other.
abbrev pub Through : List Write → Medium → Medium → Type 0
Through [] m t = t ≡ m
Through (w ∷ ws) m t = Goes w m × Through ws (after w m) t

-- One of them is refused, with that refusal. Those before it went through, those behind it are not tried.
abbrev pub Stopped : List Write → Medium → Refusal → Medium → Type 0
Stopped [] m e t = ⊥
Stopped (w ∷ ws) m e t = Written w m (Err e) t ⊎ (Goes w m × Stopped ws (after w m) e t)

-- What a run of the writes does to a drive, by its answer.
abbrev pub Ran : {A : Type 0} → List Write → Medium → Result A Refusal → Medium → Type 0
Ran ws m (Ok _) t = Through ws m t
Ran ws m (Err e) t = Stopped ws m e t

-- The medium with all of the writes applied to its pages, and nothing else new.
abbrev pub whole : List Write → Medium → Medium
whole ws m = record { cylinders = m.cylinders; pages = applied ws m.pages; on = m.on; steady = m.steady }

abbrev pub Whole : List Write → Medium → Medium → Type 0
Whole ws m t = t ≡ whole ws m

-- The drive has the page of each write.
abbrev pub Inside : List Write → Medium → Type 0
Inside ws m = AllByRecursion (λ w. w.page < length m.pages) ws

-- On a steady drive that is on and has all of the pages a run is a value: it ends well and does everything.
abbrev pub Value : {A : Type 0} → List Write → Medium → Result A Refusal → Medium → Type 0
Value ws m r t = m.steady ≡ true → m.on ≡ true → Inside ws m → (is_ok r ≡ true) × Whole ws m t

-- Where a run stopped: what was done, the write that was refused, and what was not tried. Page for
-- page there stands what was done, and at most the one part of the refused write is torn.
pub record Split (ws : List Write) (m : Medium) (e : Refusal) (t : Medium) : Type 0 where
  pub done : List Write
  pub at : Write
  pub later : List Write
  pub plan : ws ≡ done ++ at ∷ later
  pub before : Medium
  pub through : Through done m before
  pub refused : Written at before (Err e) t
  pub names : e ≡ hardware at.page
  pub pages : Torn (applied done m.pages) at.page at.part t.pages

-- What no write alters.
pub record Kept (m t : Medium) : Type 0 where
  pub count : length t.pages ≡ length m.pages
  pub cylinders : t.cylinders ≡ m.cylinders
  pub steady : t.steady ≡ m.steady

-- A run of two lists that went through, or stopped, in two parts.
pub record BothThrough (ws vs : List Write) (m t : Medium) : Type 0 where
  pub between : Medium
  pub first : Through ws m between
  pub second : Through vs between t

pub record SecondStopped (ws vs : List Write) (m : Medium) (e : Refusal) (t : Medium) : Type 0 where
  pub between : Medium
  pub first : Through ws m between
  pub second : Stopped vs between e t

-- A drive that is off refuses the first write, and nothing changes.
pub record NothingDone (w : Write) (m : Medium) (e : Refusal) (t : Medium) : Type 0 where
  pub names : e ≡ hardware w.page
  pub same : t ≡ m

pub record RunLaws : Type 0 where
  -- no writes: they go through, never stop, and change nothing
  pub none : (m : Medium) → Through [] m m
  pub none_same : (m t : Medium) → Through [] m t → t ≡ m
  pub none_stops : (m : Medium) (e : Refusal) (t : Medium) → Stopped [] m e t → ⊥
  -- one write: the write rule
  pub one : (w : Write) (m : Medium) (r : Result (Unit {0}) Refusal) (t : Medium) → Written w m r t → Ran (w ∷ []) m r t
  pub one_back : (w : Write) (m : Medium) (r : Result (Unit {0}) Refusal) (t : Medium) → Ran (w ∷ []) m r t → Written w m r t
  -- one write more, in front and at the end
  pub in_front : (w : Write) (ws : List Write) (m n : Medium) (r : Result (Unit {0}) Refusal) (t : Medium) → Written w m (Ok tt) n → Ran ws n r t → Ran (w ∷ ws) m r t
  pub front_refused : (w : Write) (ws : List Write) (m : Medium) (e : Refusal) (t : Medium) → Written w m (Err e) t → Stopped (w ∷ ws) m e t
  pub at_end : (ws : List Write) (w : Write) (m n : Medium) (r : Result (Unit {0}) Refusal) (t : Medium) → Through ws m n → Written w n r t → Ran (ws ++ w ∷ []) m r t
  -- two runs joined
  pub join_through : (ws vs : List Write) (m n t : Medium) → Through ws m n → Through vs n t → Through (ws ++ vs) m t
  pub join_stopped : (ws vs : List Write) (m n : Medium) (e : Refusal) (t : Medium) → Through ws m n → Stopped vs n e t → Stopped (ws ++ vs) m e t
  pub join_early : (ws vs : List Write) (m : Medium) (e : Refusal) (t : Medium) → Stopped ws m e t → Stopped (ws ++ vs) m e t
  -- and a run of two lists parted, so that there is no other way
  pub part_through : (ws vs : List Write) (m t : Medium) → Through (ws ++ vs) m t → BothThrough ws vs m t
  pub part_stopped : (ws vs : List Write) (m : Medium) (e : Refusal) (t : Medium) → Stopped (ws ++ vs) m e t → Stopped ws m e t ⊎ SecondStopped ws vs m e t
  -- where a run stopped
  pub split : (ws : List Write) (m : Medium) (e : Refusal) (t : Medium) → Stopped ws m e t → Split ws m e t
  pub unsplit : (ws : List Write) (m : Medium) (e : Refusal) (t : Medium) → Split ws m e t → Stopped ws m e t
  -- a run that went through is the list applied; with a write in it the drive was on and still is
  pub goes : (ws : List Write) (m : Medium) → m.on ≡ true → Inside ws m → Through ws m (whole ws m)
  pub went : (ws : List Write) (m t : Medium) → Through ws m t → Whole ws m t
  pub went_inside : (ws : List Write) (m t : Medium) → Through ws m t → Inside ws m
  pub went_on : (w : Write) (ws : List Write) (m t : Medium) → Through (w ∷ ws) m t → (m.on ≡ true) × (t.on ≡ true)
  -- a drive that is off does nothing
  pub off : (w : Write) (ws : List Write) (m : Medium) (e : Refusal) (t : Medium) → m.on ≡ false → Stopped (w ∷ ws) m e t → NothingDone w m e t
  pub off_through : (w : Write) (ws : List Write) (m t : Medium) → m.on ≡ false → Through (w ∷ ws) m t → ⊥
  -- a steady drive that is on and has the pages stops at none, and a run on it is a value; where a
  -- steady drive stops, what was done stands whole
  pub steady : (ws : List Write) (m : Medium) (e : Refusal) (t : Medium) → m.steady ≡ true → m.on ≡ true → Inside ws m → Stopped ws m e t → ⊥
  pub value : (ws : List Write) (m : Medium) (r : Result (Unit {0}) Refusal) (t : Medium) → Ran ws m r t → Value ws m r t
  pub steady_stop : (ws : List Write) (m : Medium) (e : Refusal) (t : Medium) → m.steady ≡ true → (k : Split ws m e t) → t ≡ whole k.done m
  -- where the drive was on and has the pages, a run that stopped leaves it off
  pub stop_off : (ws : List Write) (m : Medium) (e : Refusal) (t : Medium) → m.on ≡ true → Inside ws m → Stopped ws m e t → t.on ≡ false
  -- what no run alters
  pub kept : (ws : List Write) (m : Medium) (r : Result (Unit {0}) Refusal) (t : Medium) → Ran ws m r t → Kept m t

-- The label of page p written free, and that of each page above 0 of a pack of n pages.
abbrev pub freeing : ℕ → Write
freeing p = label_write p free_label

abbrev pub freed_all : ℕ → List Write
freed_all n = map freeing (range_with_len 1 (n - 1))
