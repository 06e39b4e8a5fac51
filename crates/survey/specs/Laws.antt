-- What is proved of chains and verdicts, in the subject's words.
use Rattle.std.specs.Prelude.{◌≡◌, ◌≢◌, ℕ, ◌+◌, ◌<◌, ◌≤◌, true, ◌⊎◌, List, [], ◌∷◌, length, Some, slice_index}
use Rattle.disk.specs.declared.label.Label.{Label}
use Rattle.disk.specs.Labels.{is_file, id_of}
use Rattle.disk.specs.Media.{Page, label_at}
use Rattle.survey.specs.declared.table.Totals.{Totals}
use Rattle.survey.specs.declared.table.Verdict.TheVariants.{Chained}
use Rattle.survey.specs.Chains.{Naming, chain, rivalled, rival_of}
use Rattle.survey.specs.Verdicts.{record_of, table_of, totals}

abbrev pub In : ℕ → List ℕ → Type 0
In p [] = ⊥
In p (q ∷ qs) = (p ≡ q) ⊎ In p qs

-- No number stands in the list twice.
abbrev pub Distinct : List ℕ → Type 0
Distinct [] = Unit {0}
Distinct (p ∷ ps) = (In p ps → ⊥) × Distinct ps

-- Page q is a leader.
pub record Leader (ps : List Page) (q : ℕ) : Type 0 where
  pub label : Label
  pub at_q : label_at ps q ≡ Some label
  pub above : 0 < q
  pub file : is_file label ≡ true
  pub first : label.number ≡ 0
  pub full : label.characters ≡ 512

-- Page p follows page q.
pub record Follows (name : Naming) (ps : List Page) (q p : ℕ) : Type 0 where
  pub from : Label
  pub to : Label
  pub at_q : label_at ps q ≡ Some from
  pub at_p : label_at ps p ≡ Some to
  pub full : from.characters ≡ 512
  pub named : name from.next.word ≡ Some p
  pub above : 0 < p
  pub file : is_file to ≡ true
  pub same_file : id_of from ≡ id_of to
  pub one_higher : to.number ≡ from.number + 1

-- Page p can be reached from page q by "follows".
pub data Reached (name : Naming) (ps : List Page) (q : ℕ) : ℕ → Type 0 where
  here : Reached name ps q q
  onto : {x y : ℕ} → Reached name ps q x → Follows name ps x y → Reached name ps q y

-- Two leaders of one file id.
pub record RivalsStand (ps : List Page) (p q : ℕ) : Type 0 where
  pub apart : p ≢ q
  pub one : Leader ps p
  pub two : Leader ps q
  pub same_file : id_of one.label ≡ id_of two.label

-- The pair that a survey names, where there is one: it stands there, and it is the lowest.
pub record NamedPair (ps : List Page) : Type 0 where
  pub stands : RivalsStand ps (rivalled ps) (rival_of ps (rivalled ps))
  pub lowest : (p q : ℕ) → RivalsStand ps p q → rivalled ps ≤ p
  pub lowest_rival : (q : ℕ) → RivalsStand ps (rivalled ps) q → rival_of ps (rivalled ps) ≤ q

-- The chain of a leader: linked, to its end, numbered from 0 without a gap, no page twice.
pub record SoundChain (name : Naming) (ps : List Page) (q : ℕ) : Type 0 where
  pub linked : (k : ℕ) → k + 1 < length (chain name ps q) → Follows name ps (slice_index (chain name ps q) k) (slice_index (chain name ps q) (k + 1))
  pub to_its_end : (p x : ℕ) → In p (chain name ps q) → Follows name ps p x → In x (chain name ps q)
  pub numbered : (k : ℕ) (l : Label) → k < length (chain name ps q) → label_at ps (slice_index (chain name ps q) k) ≡ Some l → l.number ≡ k
  pub once : Distinct (chain name ps q)

-- A page that a survey finds chained is in the chain of its leader, and in no other.
pub record InOneChain (name : Naming) (ps : List Page) (p : ℕ) : Type 0 where
  pub leader : ℕ
  pub told : (record_of name ps p).leader.page ≡ leader
  pub leads : Leader ps leader
  pub inside : In p (chain name ps leader)
  pub only : (q : ℕ) → Leader ps q → In p (chain name ps q) → q ≡ leader

abbrev pub all_of : Totals → ℕ
all_of t = t.reserved + t.free + t.chained + t.stray + t.aside

pub record SurveyLaws (name : Naming) (ps : List Page) : Type 0 where
  pub chains : (q : ℕ) → Leader ps q → SoundChain name ps q
  pub pair : 0 < rivalled ps → NamedPair ps
  pub no_rivals : rivalled ps ≡ 0 → (p q : ℕ) → RivalsStand ps p q → ⊥
  pub one_chain : rivalled ps ≡ 0 → (p : ℕ) → (record_of name ps p).verdict ≡ Chained → InOneChain name ps p
  -- chained is just what can be reached from a leader
  pub reached : (p : ℕ) → (record_of name ps p).verdict ≡ Chained → (q : ℕ) × Leader ps q × Reached name ps q p
  pub reaches : (p q : ℕ) → Leader ps q → Reached name ps q p → (record_of name ps p).verdict ≡ Chained
  pub adds_up : all_of (totals (table_of name ps)) ≡ length ps
