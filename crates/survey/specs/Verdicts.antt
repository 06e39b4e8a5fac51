-- Verdicts, the survey's table and its answer.
use Rattle.std.specs.Prelude.{ℕ, ◌+◌, cond, List, [], ◌∷◌, ◌++◌, map, length, drop, replicate, Some, None, Ok, Err, Option, Result, nat_lt}
use Rattle.std.specs.List.{range_with_len}
use Rattle.disk.specs.declared.label.Label.{Label}
use Rattle.disk.specs.declared.refusal.Refusal.{Refusal}
use Rattle.disk.specs.declared.refusal.Reason.TheVariants.{TooSmall, Rivals}
use Rattle.disk.specs.declared.refusal.Place.TheVariants.{Pack}
use Rattle.disk.specs.Labels.{is_free, id_of}
use Rattle.disk.specs.Refusals.{refusal, refusal_of_two}
use Rattle.disk.specs.Media.{Page, label_at}
use Rattle.survey.specs.declared.table.Verdict.{Verdict}
use Rattle.survey.specs.declared.table.Verdict.TheVariants.{Reserved, Free, Chained, Stray, Aside}
use Rattle.survey.specs.declared.table.Record.{Record}
use Rattle.survey.specs.declared.table.Totals.{Totals}
use Rattle.survey.specs.Chains.{Naming, leader_of, rivalled, rival_of}

-- The number of each verdict.
abbrev pub verdict_number : Verdict → ℕ
verdict_number Reserved = 0
verdict_number Free = 1
verdict_number Chained = 2
verdict_number Stray = 3
verdict_number Aside = 4

-- A record with no file: of page 0, of a free page and of one whose label cannot be read.
abbrev pub bare : Verdict → Record
bare v = record { verdict = v; leader = record { page = 0 }; id = record { version = 0; serial1 = 0; serial2 = 0 }; number = 0 }

-- A record with a file id and a page number: of a chained page and of a stray.
abbrev pub filed : Verdict → ℕ → Label → Record
filed v q l = record { verdict = v; leader = record { page = q }; id = id_of l; number = l.number }

-- The record of a page above 0 by its label and by its leader, or 0 for none.
abbrev pub owned : ℕ → Label → Record
owned q l = cond (nat_lt 0 q) (filed Chained q l) (filed Stray 0 l)

abbrev pub judged : ℕ → Option Label → Record
judged q None = bare Aside
judged q (Some l) = cond (is_free l) (bare Free) (owned q l)

-- The record of page p, where q is its leader.
abbrev pub record_by : List Page → ℕ → ℕ → Record
record_by ps q p = cond (nat_lt 0 p) (judged q (label_at ps p)) (bare Reserved)

abbrev pub record_of : Naming → List Page → ℕ → Record
record_of name ps p = record_by ps (leader_of name ps p) p

-- The survey's table: a record a page.
unfoldable pub table_of : Naming → List Page → List Record
table_of name ps = map (record_of name ps) (range_with_len 0 (length ps))

-- How many records have each verdict.
abbrev pub counted : Verdict → Totals → Totals
counted Reserved t = record { reserved = t.reserved + 1; free = t.free; chained = t.chained; stray = t.stray; aside = t.aside }
counted Free t = record { reserved = t.reserved; free = t.free + 1; chained = t.chained; stray = t.stray; aside = t.aside }
counted Chained t = record { reserved = t.reserved; free = t.free; chained = t.chained + 1; stray = t.stray; aside = t.aside }
counted Stray t = record { reserved = t.reserved; free = t.free; chained = t.chained; stray = t.stray + 1; aside = t.aside }
counted Aside t = record { reserved = t.reserved; free = t.free; chained = t.chained; stray = t.stray; aside = t.aside + 1 }

abbrev pub none : Totals
none = record { reserved = 0; free = 0; chained = 0; stray = 0; aside = 0 }

abbrev pub totals : List Record → Totals
totals [] = none
totals (r ∷ rs) = counted r.verdict (totals rs)

-- A table with the records of the first n pages zero; one that is shorter is not touched.
abbrev pub cleared : ℕ → List Record → List Record
cleared n ts = cond (nat_lt (length ts) n) ts (replicate n (bare Reserved) ++ drop n ts)

-- The answer where the table is long enough, and p is the lowest page that has a rival, or 0.
abbrev pub found : Naming → List Page → ℕ → Result Totals Refusal
found name ps p = cond (nat_lt 0 p) (Err (refusal_of_two Rivals Pack p (rival_of ps p))) (Ok (totals (table_of name ps)))

-- The answer of a survey into a table of k records: too few are refused first, then rivals.
abbrev pub survey_answer : Naming → List Page → ℕ → Result Totals Refusal
survey_answer name ps k = cond (nat_lt k (length ps)) (Err (refusal TooSmall Pack 0)) (found name ps (rivalled ps))

-- The table after it, in the same case: records past the pages are not touched; with rivals the
-- others are zero.
abbrev pub filled : Naming → List Page → ℕ → List Record → List Record
filled name ps p ts = cond (nat_lt 0 p) (replicate (length ps) (bare Reserved)) (table_of name ps) ++ drop (length ps) ts

-- The table after a survey: a table of too few records is not touched at all.
abbrev pub survey_table : Naming → List Page → List Record → List Record
survey_table name ps ts = cond (nat_lt (length ts) (length ps)) ts (filled name ps (rivalled ps) ts)
