-- Packs whose pages were moved.
use Rattle.std.specs.Prelude.{◌≡◌, ℕ, ◌<◌, cond, List, map, length, Some, None, Option, nat_lt, slice_index_or}
use Rattle.std.specs.List.{range_with_len}
use Rattle.std.specs.Option.{option_map}
use Rattle.disk.specs.declared.label.Label.{Label}
use Rattle.disk.specs.Media.{Page, unreadable}
use Rattle.survey.specs.declared.table.Record.{Record}
use Rattle.survey.specs.Chains.{Naming, chain, rivalled, rival_of}
use Rattle.survey.specs.Verdicts.{record_of}
use Rattle.survey.specs.Laws.{RivalsStand}

-- A move on a pack of n pages: where each page goes, and which page comes to each address. No two
-- go to one address, and page 0 stays.
pub record Move (n : ℕ) : Type 0 where
  pub to : ℕ → ℕ
  pub from : ℕ → ℕ
  pub to_inside : (p : ℕ) → p < n → to p < n
  pub from_inside : (p : ℕ) → p < n → from p < n
  pub from_to : (p : ℕ) → p < n → from (to p) ≡ p
  pub to_from : (p : ℕ) → p < n → to (from p) ≡ p
  pub zero_stays : to 0 ≡ 0

-- A link word after the move: one that names a page above 0 becomes the real address of where that
-- page went, every other word stays.
abbrev pub renamed : (ℕ → ℕ) → (ℕ → ℕ) → ℕ → Option ℕ → ℕ
renamed real to w None = w
renamed real to w (Some p) = cond (nat_lt 0 p) (real (to p)) w

abbrev pub relink : Naming → (ℕ → ℕ) → (ℕ → ℕ) → ℕ → ℕ
relink name real to w = renamed real to w (name w)

abbrev pub relabel : (ℕ → ℕ) → Label → Label
relabel link l = record { next = record { word = link l.next.word }; previous = record { word = link l.previous.word }; blank = l.blank; characters = l.characters; number = l.number; version = l.version; serial1 = l.serial1; serial2 = l.serial2 }

abbrev pub moved_page : (ℕ → ℕ) → Page → Page
moved_page link page = record { label = option_map (relabel link) page.label; words = page.words }

-- The pack after the move.
unfoldable pub moved : Naming → (ℕ → ℕ) → (ps : List Page) → Move (length ps) → List Page
moved name real ps m = map (λ p. moved_page (relink name real m.to) (slice_index_or ps (m.from p) unreadable)) (range_with_len 0 (length ps))

-- A record after the move: the leader's new address, and all else the same.
abbrev pub moved_record : (ℕ → ℕ) → Record → Record
moved_record to r = record { verdict = r.verdict; leader = record { page = to r.leader.page }; id = r.id; number = r.number }

-- Two surveys that tell the same of each page and of each file.
pub record SameSurvey (name : Naming) (to : ℕ → ℕ) (ps qs : List Page) : Type 0 where
  pub records : (p : ℕ) → p < length ps → record_of name qs (to p) ≡ moved_record to (record_of name ps p)
  pub chains : (q : ℕ) → q < length ps → chain name qs (to q) ≡ map to (chain name ps q)

pub record BothRivalled (ps qs : List Page) : Type 0 where
  pub here : RivalsStand ps (rivalled ps) (rival_of ps (rivalled ps))
  pub there : 0 < rivalled qs
  pub there_too : RivalsStand qs (rivalled qs) (rival_of qs (rivalled qs))

-- Moving pages about a pack changes no verdict and no file: without rivals the survey of the moved
-- pack tells the same; with rivals both are refused, each for two that stand there.
pub record MovedLaw (name : Naming) (real : ℕ → ℕ) (ps : List Page) (m : Move (length ps)) : Type 0 where
  pub none : rivalled ps ≡ 0 → rivalled (moved name real ps m) ≡ 0
  pub same : rivalled ps ≡ 0 → SameSurvey name m.to ps (moved name real ps m)
  pub rivals : 0 < rivalled ps → BothRivalled ps (moved name real ps m)

abbrev pub MovesChangeNothing : Naming → (ℕ → ℕ) → List Page → Type 0
MovesChangeNothing name real ps = (m : Move (length ps)) → MovedLaw name real ps m
