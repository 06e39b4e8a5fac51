-- What is kept of a pack, and claims on its free pages.
use Rattle.std.specs.Prelude.{ℕ, cond, List, Some, None, Ok, Err, Option, Result, nat_lt}
use Rattle.disk.specs.declared.address.PageAddress.{PageAddress}
use Rattle.disk.specs.declared.refusal.Refusal.{Refusal}
use Rattle.disk.specs.declared.refusal.Reason.{Reason}
use Rattle.disk.specs.declared.refusal.Reason.TheVariants.{NoFreePage, LabelNotFree}
use Rattle.disk.specs.declared.refusal.Place.TheVariants.{Pack}
use Rattle.disk.specs.Refusals.{refusal}
use Rattle.disk.specs.Media.{Page, label_at}
use Rattle.ledger.specs.declared.kept.PackRecord.{PackRecord}
use Rattle.ledger.specs.Plans.{unready}
use Rattle.ledger.specs.Searches.{free_label_at, with_taken, with_freed}
use Rattle.pack.specs.declared.claim.Claim.{Claim}

-- A refusal of the pack itself, at none of its pages.
abbrev pub pack_refusal : Reason → Refusal
pack_refusal r = refusal r Pack 0

-- The record after a claim was given back; no pack has a page from 9,744 up.
abbrev pub returned : PackRecord → ℕ → PackRecord
returned k p = cond (nat_lt p 9744) (with_freed k p) k

-- What a claim answers, and the record after it: none is free by the bits; or the page that was found
-- is claimed, if it has the free label; or it has not, and the record is not to be trusted.
abbrev pub claim_answer : List Page → Option ℕ → Result ℕ Refusal
claim_answer ps None = Err (refusal NoFreePage Pack 0)
claim_answer ps (Some p) = cond (free_label_at (label_at ps p)) (Ok p) (Err (refusal LabelNotFree Pack p))

abbrev pub claim_record : List Page → PackRecord → Option ℕ → PackRecord
claim_record ps k None = k
claim_record ps k (Some p) = cond (free_label_at (label_at ps p)) (with_taken k p) (unready k)

-- The page of a claim.
abbrev pub page_claimed : Result Claim Refusal → Result ℕ Refusal
page_claimed (Ok c) = Ok c.page.page
page_claimed (Err e) = Err e

-- The record after one write: not ready where it was refused.
abbrev pub placed_record : {A : Type 0} → PackRecord → Result A Refusal → PackRecord
placed_record k (Ok _) = k
placed_record k (Err e) = unready k

-- The record after a survey: not ready where there are rivals, whose refusal has two pages.
abbrev pub two_pages : PackRecord → Option PageAddress → PackRecord
two_pages k None = k
two_pages k (Some p) = unready k

abbrev pub surveyed_record : {A : Type 0} → PackRecord → Result A Refusal → PackRecord
surveyed_record k (Ok _) = k
surveyed_record k (Err e) = two_pages k e.other
