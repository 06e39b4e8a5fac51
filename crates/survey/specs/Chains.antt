-- Leaders, rivals, what follows what, and chains: functions of the pages of a pack and of the
-- naming of its pages by real addresses.
use Rattle.std.specs.Prelude.{ℕ, zero, suc, ◌+◌, ◌-◌, Bool, false, cond, not, ◌&&◌, ◌||◌, List, [], ◌∷◌, length, Some, None, Option, ◌==◌, nat_lt}
use Rattle.std.specs.List.{range_with_len}
use Rattle.disk.specs.declared.label.Label.{Label}
use Rattle.disk.specs.declared.label.FileId.{FileId}
use Rattle.disk.specs.Labels.{is_file, id_of}
use Rattle.disk.specs.Media.{Page, label_at}

-- Which page a word of a label names, if any.
abbrev pub Naming : Type 0
Naming = ℕ → Option ℕ

-- One file id: all three words agree.
abbrev pub same_file : FileId → FileId → Bool
same_file f g = f.version == g.version && (f.serial1 == g.serial1 && f.serial2 == g.serial2)

abbrev pub same_id : Label → Label → Bool
same_id l m = same_file (id_of l) (id_of m)

-- The label of a leader: a file label with page number 0 and 512 characters.
abbrev pub leads : Option Label → Bool
leads None = false
leads (Some l) = is_file l && (l.number == 0 && l.characters == 512)

-- A leader: a page above 0 with such a label.
abbrev pub is_leader : List Page → ℕ → Bool
is_leader ps p = nat_lt 0 p && leads (label_at ps p)

-- A page that passes a test, or none.
abbrev pub kept_if : (ℕ → Bool) → Option ℕ → Option ℕ
kept_if test None = None
kept_if test (Some p) = cond (test p) (Some p) None

-- The page that a label names as its next, by itself: none unless it has 512 characters and its
-- next names a page above 0.
abbrev pub points : Naming → Option Label → Option ℕ
points name None = None
points name (Some l) = cond (l.characters == 512) (kept_if (nat_lt 0) (name l.next.word)) None

-- Whether a page with the second label goes on where one with the first ends: a file label of the
-- same file id with a page number one higher.
abbrev pub joins : Option Label → Option Label → Bool
joins None m = false
joins (Some l) None = false
joins (Some l) (Some m) = is_file m && (same_id l m && m.number == l.number + 1)

-- The page that follows page q.
abbrev pub follower : Naming → List Page → ℕ → Option ℕ
follower name ps q = kept_if (λ p. joins (label_at ps q) (label_at ps p)) (points name (label_at ps q))

-- At most n pages that are come to from page q, one after the other, by a step function.
abbrev pub onward : (ℕ → List ℕ) → Option ℕ → List ℕ
onward more None = []
onward more (Some p) = p ∷ more p

abbrev pub behind : (ℕ → Option ℕ) → ℕ → ℕ → List ℕ
behind next zero q = []
behind next (suc n) q = onward (behind next n) (next q)

-- The pages behind page q: the one that follows it, and so on. There are fewer than the pack has.
unfoldable pub rest : Naming → List Page → ℕ → List ℕ
rest name ps q = behind (follower name ps) (length ps) q

-- The chain of the leader q.
abbrev pub chain : Naming → List Page → ℕ → List ℕ
chain name ps q = q ∷ rest name ps q

abbrev pub is_in : ℕ → List ℕ → Bool
is_in p [] = false
is_in p (q ∷ qs) = p == q || is_in p qs

-- The first number of a list that passes a test, or 0.
abbrev pub first_of : (ℕ → Bool) → List ℕ → ℕ
first_of test [] = 0
first_of test (p ∷ ps) = cond (test p) p (first_of test ps)

-- The pages above 0.
abbrev pub pages_above : List Page → List ℕ
pages_above ps = range_with_len 1 (length ps - 1)

-- The leader in whose chain page p is, or 0 where it is in none.
unfoldable pub leader_of : Naming → List Page → ℕ → ℕ
leader_of name ps p = first_of (λ q. is_leader ps q && is_in p (chain name ps q)) (pages_above ps)

-- Two labels of one file id.
abbrev pub one_file : Option Label → Option Label → Bool
one_file None m = false
one_file (Some l) None = false
one_file (Some l) (Some m) = same_id l m

-- Two leaders of one file id are rivals.
abbrev pub are_rivals : List Page → ℕ → ℕ → Bool
are_rivals ps p q = not (p == q) && (is_leader ps p && (is_leader ps q && one_file (label_at ps p) (label_at ps q)))

-- The lowest rival of page p, and the lowest page that has one; 0 where there is none.
abbrev pub rival_of : List Page → ℕ → ℕ
rival_of ps p = first_of (are_rivals ps p) (pages_above ps)

unfoldable pub rivalled : List Page → ℕ
rivalled ps = first_of (λ p. nat_lt 0 (rival_of ps p)) (pages_above ps)
