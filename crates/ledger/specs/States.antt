-- Packs in order, and records that fit them.
use Rattle.std.specs.Prelude.{◌≡◌, ℕ, ◌+◌, ◌<◌, ◌≤◌, cond, ◌⊎◌, List, [], length, Some, Option, ◌≢◌, slice_index}
use Rattle.disk.specs.declared.label.Label.{Label}
use Rattle.disk.specs.Labels.{free_label, id_of, serial_number}
use Rattle.disk.specs.Media.{Page, label_at}
use Rattle.bits.specs.Bits.{page_bit}
use Rattle.survey.specs.declared.table.Verdict.TheVariants.{Chained, Stray}
use Rattle.survey.specs.Chains.{Naming, chain, rivalled}
use Rattle.survey.specs.Verdicts.{record_of}
use Rattle.survey.specs.Laws.{Leader, SoundChain, InOneChain}
use Rattle.ledger.specs.declared.kept.PackRecord.{PackRecord}
use Rattle.ledger.specs.Searches.{free_label_at}
use Rattle.ledger.specs.Mends.{mend_writes}

-- The chain of a leader is linked both ways: each page's next is the page behind it, each page's previous
-- the page before it, and 0 at either end. (Past its end a list of pages reads 0, and the real address of
-- page 0 is 0.)
pub record LinkedBothWays (name : Naming) (real : ℕ → ℕ) (ps : List Page) (q : ℕ) : Type 0 where
  pub next : (k : ℕ) (l : Label) → k < length (chain name ps q) → label_at ps (slice_index (chain name ps q) k) ≡ Some l → l.next.word ≡ real (slice_index (chain name ps q) (k + 1))
  pub previous : (k : ℕ) (l : Label) → k + 1 < length (chain name ps q) → label_at ps (slice_index (chain name ps q) (k + 1)) ≡ Some l → l.previous.word ≡ real (slice_index (chain name ps q) k)
  pub first : (l : Label) → label_at ps q ≡ Some l → l.previous.word ≡ 0

-- Every page above 0 whose label can be read is free or in exactly one chain; each chain is numbered from
-- 0 without a gap and linked both ways.
pub record InOrder (name : Naming) (real : ℕ → ℕ) (ps : List Page) : Type 0 where
  pub no_rivals : rivalled ps ≡ 0
  pub placed : (p : ℕ) (l : Label) → 0 < p → label_at ps p ≡ Some l → (l ≡ free_label) ⊎ InOneChain name ps p
  pub chains : (q : ℕ) → Leader ps q → SoundChain name ps q
  pub both_ways : (q : ℕ) → Leader ps q → LinkedBothWays name real ps q

-- The bit that a page's label asks for: 0 where it is free.
abbrev pub bit_for : Option Label → ℕ
bit_for o = cond (free_label_at o) 0 1

-- The pages are in order, and the record fits them: what format and scavenge establish and every call
-- that writes keeps.
pub record KeptState (name : Naming) (real : ℕ → ℕ) (ps : List Page) (k : PackRecord) : Type 0 where
  pub order : InOrder name real ps
  pub no_stray : (p : ℕ) → (record_of name ps p).verdict ≢ Stray
  pub nothing_to_mend : mend_writes name real ps ≡ []
  pub bits : (p : ℕ) → 0 < p → p < length ps → page_bit k.bits.words p ≡ bit_for (label_at ps p)
  pub highest : (p : ℕ) (l : Label) → (record_of name ps p).verdict ≡ Chained → label_at ps p ≡ Some l → serial_number (id_of l) ≤ k.highest
