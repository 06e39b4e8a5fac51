-- Walks along any step function from numbers to numbers.
use Rattle.std.proofs.Common.{◌≡◌, ℕ, zero, suc, ◌+◌, ◌<◌, ◌≤◌, Bool, true, false, ◌||◌, eqb, ◌⊎◌, List, [], ◌∷◌, map, length, get_or, Some, None, Option, sym, refl, ap, ◌∙◌, subst, inl, inr, arith}
use Rattle.std.specs.Option.{option_map}
use Rattle.std.specs.List.{AllByRecursion, IsDistinct, list_any}
use Rattle.std.proofs.lemmas.Bool.{eqb-true, ne_eqb, eq-eqb}
use Rattle.std.proofs.lemmas.Map.Steps.{length-le_from_distinct_below}
use Rattle.survey.specs.Chains.{onward, behind, is_in}
use Rattle.survey.specs.Laws.{In, Distinct}

-- The steps of a walk, and the steps of one that has come to its end.
abbrev pub Steps : (ℕ → Option ℕ) → ℕ → List ℕ → Type 0
Steps f x [] = Unit {0}
Steps f x (y ∷ ys) = (f x ≡ Some y) × Steps f y ys

abbrev pub Links : (ℕ → Option ℕ) → ℕ → List ℕ → Type 0
Links f x [] = f x ≡ None
Links f x (y ∷ ys) = (f x ≡ Some y) × Links f y ys

pub steps : (f : ℕ → Option ℕ) (x : ℕ) (ys : List ℕ) → Links f x ys → Steps f x ys
steps f x [] l = tt
steps f x (y ∷ ys) l = (l.0, steps f y ys l.1)

-- Behind each page of a walk to the end, the page that its step gives.
pub links_next : (f : ℕ → Option ℕ) (z : ℕ) (ys : List ℕ) → Links f z ys → (x y : ℕ) → In x (z ∷ ys) → f x ≡ Some y → In y ys
links_next f z [] l x y (inl e) h = let w : f z ≡ Some y = ap f (sym e) ∙ h in let n : ◌≡◌ {A = ℕ} 0 1 = cc in absurd (omega arith)
links_next f z [] l x y (inr i) h = absurd i
links_next f z (v ∷ vs) l x y (inl e) h = let w : f z ≡ Some y = ap f (sym e) ∙ h in inl (cc (l.0, w))
links_next f z (v ∷ vs) l x y (inr i) h = inr (links_next f v vs l.1 x y i h)

pub links_at : (f : ℕ → Option ℕ) (x : ℕ) (ys : List ℕ) → Links f x ys → (k : ℕ) → suc k < length (x ∷ ys) → f (get_or (x ∷ ys) k 0) ≡ Some (get_or (x ∷ ys) (suc k) 0)
links_at f x [] l k h = absurd (omega arith)
links_at f x (y ∷ ys) l zero h = l.0
links_at f x (y ∷ ys) l (suc k) h = links_at f y ys l.1 k (omega arith)

-- Membership as a test.
pub in_is_in : (p : ℕ) (qs : List ℕ) → In p qs → is_in p qs ≡ true
in_is_in p [] i = absurd i
in_is_in p (q ∷ qs) (inl e) = ap (λ (b : Bool). b || is_in p qs) (eq-eqb p q e)
in_is_in p (q ∷ qs) (inr i) = either (eqb p q) (in_is_in p qs i)
  where
    either : (a : Bool) {b : Bool} → b ≡ true → (a || b) ≡ true
    either true h = refl
    either false h = h

pub is_in_in : (p : ℕ) (qs : List ℕ) → is_in p qs ≡ true → In p qs
is_in_in p [] h = let z : ◌≡◌ {A = ℕ} 0 1 = cc in absurd (omega arith)
is_in_in p (q ∷ qs) h = go (eqb p q) refl (λ k. is_in_in p qs k) h
  where
    go : (b : Bool) → eqb p q ≡ b → (is_in p qs ≡ true → In p qs) → (b || is_in p qs) ≡ true → (p ≡ q) ⊎ In p qs
    go true e again k = inl (eqb-true p q e)
    go false e again k = inr (again k)

-- Where a number rises with every step, no step comes back.
pub rise : (f : ℕ → Option ℕ) (num : ℕ → ℕ) → ((x y : ℕ) → f x ≡ Some y → num y ≡ num x + 1) → (x : ℕ) (ys : List ℕ) → Steps f x ys → (z : ℕ) → In z ys → num x < num z
rise f num up x [] l z i = absurd i
rise f num up x (y ∷ ys) l z (inl e) = rw e (omega (arith, up x y l.0))
rise f num up x (y ∷ ys) l z (inr i) = omega (arith, up x y l.0, rise f num up y ys l.1 z i)

pub distinct : (f : ℕ → Option ℕ) (num : ℕ → ℕ) → ((x y : ℕ) → f x ≡ Some y → num y ≡ num x + 1) → (x : ℕ) (ys : List ℕ) → Steps f x ys → Distinct (x ∷ ys)
distinct f num up x [] l = (λ i. i, tt)
distinct f num up x (y ∷ ys) l = (λ i. omega (arith, rise f num up x (y ∷ ys) l x i), distinct f num up y ys l.1)

pub number_at : (f : ℕ → Option ℕ) (num : ℕ → ℕ) → ((x y : ℕ) → f x ≡ Some y → num y ≡ num x + 1) → (x : ℕ) (ys : List ℕ) → Steps f x ys → (k d : ℕ) → k < length (x ∷ ys) → num (get_or (x ∷ ys) k d) ≡ num x + k
number_at f num up x ys l zero d h = omega arith
number_at f num up x [] l (suc k) d h = absurd (omega arith)
number_at f num up x (y ∷ ys) l (suc k) d h = let e = number_at f num up y ys l.1 k d (omega arith) in omega (arith, up x y l.0)

-- What each step hands on holds between the start and every page of the walk.
pub kept_along : (f : ℕ → Option ℕ) (P : ℕ → ℕ → Type 0) → ((x : ℕ) → P x x) → ((x y z : ℕ) → f x ≡ Some y → P y z → P x z) → (x : ℕ) (ys : List ℕ) → Steps f x ys → (z : ℕ) → In z (x ∷ ys) → P x z
kept_along f P same on x ys l z (inl e) = rw e (same x)
kept_along f P same on x [] l z (inr i) = absurd i
kept_along f P same on x (y ∷ ys) l z (inr i) = on x y z l.0 (kept_along f P same on y ys l.1 z i)

-- Every page of a walk but its start is one that some step gave.
pub stepped_to : (f : ℕ → Option ℕ) (x : ℕ) (ys : List ℕ) → Steps f x ys → (z : ℕ) → In z ys → (w : ℕ) × (f w ≡ Some z)
stepped_to f x [] l z i = absurd i
stepped_to f x (y ∷ ys) l z (inl e) = (x, l.0 ∙ ap {B = Option ℕ} Some (sym e))
stepped_to f x (y ∷ ys) l z (inr i) = stepped_to f y ys l.1 z i

pub all_below : (f : ℕ → Option ℕ) (n : ℕ) → ((x y : ℕ) → f x ≡ Some y → y < n) → (x : ℕ) (ys : List ℕ) → Steps f x ys → AllByRecursion (λ y. y < n) ys
all_below f n below x [] l = tt
all_below f n below x (y ∷ ys) l = (below x y l.0, all_below f n below y ys l.1)

-- A list without repeats of numbers below n has at most n.
differ_from : (x : ℕ) (xs : List ℕ) → (In x xs → ⊥) → AllByRecursion (λ y. eqb x y ≡ false) xs
differ_from x [] h = tt
differ_from x (y ∷ ys) h = (ne_eqb x y (λ e. h (inl e)), differ_from x ys (λ i. h (inr i)))

differ : (xs : List ℕ) → Distinct xs → IsDistinct eqb xs
unfolding IsDistinct
differ [] d = tt
differ (x ∷ xs) d = (differ_from x xs d.0, differ xs d.1)

lies_below : (n : ℕ) (xs : List ℕ) → AllByRecursion (λ x. x < n) xs → (q : ℕ) → In q xs → q < n
lies_below n [] a q i = absurd i
lies_below n (x ∷ xs) a q (inl e) = let t = a.0 in omega arith
lies_below n (x ∷ xs) a q (inr i) = lies_below n xs a.1 q i

pub pigeonhole : (n : ℕ) (xs : List ℕ) → AllByRecursion (λ x. x < n) xs → Distinct xs → length xs ≤ n
pigeonhole n xs a d = length-le_from_distinct_below xs n (differ xs d) (λ q h. lies_below n xs a q (is_in_in q xs (any_is_in q xs ∙ h)))
  where
    any_is_in : (q : ℕ) (ys : List ℕ) → is_in q ys ≡ list_any (eqb q) ys
    any_is_in q [] = refl
    any_is_in q (y ∷ ys) = ap (λ (b : Bool). eqb q y || b) (any_is_in q ys)

-- The computed walk.
pub behind_steps : (f : ℕ → Option ℕ) (n x : ℕ) → Steps f x (behind f n x)
behind_steps f zero x = tt
behind_steps f (suc n) x = go (f x) refl (λ y. behind_steps f n y)
  where
    go : (o : Option ℕ) → f x ≡ o → ((y : ℕ) → Steps f y (behind f n y)) → Steps f x (onward (behind f n) o)
    go None e again = tt
    go (Some y) e again = (e, again y)

not_used_up : (f : ℕ → Option ℕ) (n x : ℕ) → length (behind f n x) < n → Links f x (behind f n x)
not_used_up f zero x h = absurd (omega arith)
not_used_up f (suc n) x h = go (f x) refl (λ y. not_used_up f n y) h
  where
    go : (o : Option ℕ) → f x ≡ o → ((y : ℕ) → length (behind f n y) < n → Links f y (behind f n y)) → length (onward (behind f n) o) < suc n → Links f x (onward (behind f n) o)
    go None e again k = e
    go (Some y) e again k = (e, again y (omega arith))

-- A walk that has come to its end is what enough fuel gives.
pub is_behind : (f : ℕ → Option ℕ) (x : ℕ) (ys : List ℕ) → Links f x ys → (n : ℕ) → length ys ≤ n → behind f n x ≡ ys
is_behind f x [] l zero h = refl
is_behind f x [] l (suc n) h = rw l
is_behind f x (y ∷ ys) l zero h = absurd (omega arith)
is_behind f x (y ∷ ys) l (suc n) h = rw l.0 (ap (λ zs. y ∷ zs) (is_behind f y ys l.1 n (omega arith)))

-- With n pages, fuel n comes to the end.
pub enough : (f : ℕ → Option ℕ) (num : ℕ → ℕ) → ((x y : ℕ) → f x ≡ Some y → num y ≡ num x + 1) → (n : ℕ) → ((x y : ℕ) → f x ≡ Some y → y < n) → (x : ℕ) → Links f x (behind f n x)
enough f num up n below x =
    let st = behind_steps f (suc n) x in
    let short : length (behind f (suc n) x) ≤ n = pigeonhole n (behind f (suc n) x) (all_below f n below x (behind f (suc n) x) st) (distinct f num up x (behind f (suc n) x) st).1 in
    let w = not_used_up f (suc n) x (omega arith) in
    let same : behind f n x ≡ behind f (suc n) x = is_behind f x (behind f (suc n) x) w n short in
    subst (λ (ys : List ℕ). Links f x ys) (sym same) w

-- A walk elsewhere, step for step, among the numbers below n.
pub moved_behind : (f g : ℕ → Option ℕ) (s : ℕ → ℕ) (n : ℕ) → ((u v : ℕ) → f u ≡ Some v → v < n) → ((u : ℕ) → u < n → g (s u) ≡ option_map s (f u)) → (k x : ℕ) → x < n → behind g k (s x) ≡ map s (behind f k x)
moved_behind f g s n below h zero x l = refl
moved_behind f g s n below h (suc k) x l = rw (h x l) (go (f x) refl (λ y m. moved_behind f g s n below h k y m))
  where
    go : (o : Option ℕ) → f x ≡ o → ((y : ℕ) → y < n → behind g k (s y) ≡ map s (behind f k y)) → onward (behind g k) (option_map s o) ≡ map s (onward (behind f k) o)
    go None e again = refl
    go (Some y) e again = ap (λ zs. s y ∷ zs) (again y (below x y e))

pub in_map : (s : ℕ → ℕ) (z : ℕ) (ys : List ℕ) → In z (map s ys) → (y : ℕ) × (In y ys) × (z ≡ s y)
in_map s z [] i = absurd i
in_map s z (y ∷ ys) (inl e) = (y, inl refl, e)
in_map s z (y ∷ ys) (inr i) = let r = in_map s z ys i in (r.0, inr r.1, r.2)

pub map_in : (s : ℕ → ℕ) (y : ℕ) (ys : List ℕ) → In y ys → In (s y) (map s ys)
map_in s y [] i = absurd i
map_in s y (z ∷ zs) (inl e) = inl (ap s e)
map_in s y (z ∷ zs) (inr i) = inr (map_in s y zs i)
