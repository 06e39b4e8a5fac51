-- Records counted and cleared.
use Rattle.std.proofs.Common.{◌≡◌, ℕ, ◌+◌, ◌<◌, ◌≤◌, List, [], ◌∷◌, ◌++◌, length, get_or, take, drop, replicate, refl, ap, ◌∙◌, arith}
use Rattle.std.proofs.lemmas.Bool.{le-ltb}
use Rattle.std.proofs.lemmas.List.{take_more}
use Rattle.survey.specs.declared.table.Record.{Record}
use Rattle.survey.specs.declared.table.Verdict.{Verdict}
use Rattle.survey.specs.declared.table.Verdict.TheVariants.{Reserved, Free, Chained, Stray, Aside}
use Rattle.survey.specs.declared.table.Totals.{Totals}
use Rattle.survey.specs.Verdicts.{counted, totals, cleared}
use Rattle.survey.specs.Laws.{all_of}
use Rattle.survey.specs.Steps.{no_record}

-- A table that is long enough.
pub cleared_is : (n : ℕ) (ts : List Record) → n ≤ length ts → cleared n ts ≡ replicate n no_record ++ drop n ts
cleared_is n ts h = rw (le-ltb (length ts) n h)

-- Which of two records is counted first makes no difference.
counted_swap : (v w : Verdict) (t : Totals) → counted v (counted w t) ≡ counted w (counted v t)
counted_swap v w t = grind arith

totals_push : (ts : List Record) (r : Record) → totals (ts ++ r ∷ []) ≡ counted r.verdict (totals ts)
totals_push [] r = refl
totals_push (t ∷ ts) r = ap (counted t.verdict) (totals_push ts r) ∙ counted_swap t.verdict r.verdict (totals ts)

pub totals_more : (ts : List Record) (i : ℕ) (d : Record) → i < length ts → totals (take (i + 1) ts) ≡ counted (get_or ts i d).verdict (totals (take i ts))
totals_more ts i d h = ap totals (take_more ts i d h) ∙ totals_push (take i ts) (get_or ts i d)

pub sum_counted : (v : Verdict) (t : Totals) → all_of (counted v t) ≡ all_of t + 1
sum_counted Reserved t = omega arith
sum_counted Free t = omega arith
sum_counted Chained t = omega arith
sum_counted Stray t = omega arith
sum_counted Aside t = omega arith
