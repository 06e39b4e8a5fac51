-- The scan: one page more.
use Rattle.std.proofs.Common.{◌≡◌, ℕ, ◌+◌, ◌<◌, Bool, true, false, ◌⊎◌, List, [], ◌∷◌, ◌++◌, length, get_or, set, sym, refl, ap, ◌∙◌, inl, inr, arith, Any}
use Rattle.std.proofs.lemmas.Bool.{cases_eq}
use Rattle.std.proofs.lemmas.List.{get_or-set_same, get_or-set_other, get_or_append_left, length_push}
use Rattle.std.proofs.lemmas.List.Elements.{All-push}
use Rattle.std.proofs.lemmas.List.Quantifiers.{Any-push, all_pairs_push}
use Rattle.disk.specs.declared.address.PageAddress.{PageAddress}
use Rattle.disk.specs.Media.{Page, label_at}
use Rattle.survey.specs.declared.table.Record.{Record}
use Rattle.survey.specs.declared.table.Verdict.TheVariants.{Chained}
use Rattle.survey.specs.Chains.{is_leader}
use Rattle.survey.specs.Steps.{no_record, judged_at, first_record, Scanned, Listed}
use Rattle.survey.proofs.Following.{not_true, leader_is}
use Rattle.survey.proofs.Marking.{chained_record}
use Rattle.survey.proofs.Lawful.{chained_led}

pub scanned_more : (ps : List Page) (i : ℕ) (ts : List Record) (x : Record) → i < length ts → x ≡ first_record ps i → Scanned ps i ts → Scanned ps (i + 1) (set ts i x)
scanned_more ps i ts x h e s p k = at (cases_eq p i)
  where
    at : (p ≡ i) ⊎ (p ≡ i → ⊥) → get_or (set ts i x) p no_record ≡ first_record ps p
    at (inl u) = ap (λ (q : ℕ). get_or (set ts i x) q no_record) u ∙ (get_or-set_same ts i x no_record h ∙ (e ∙ ap (first_record ps) (sym u)))
    at (inr d) = get_or-set_other ts i p x no_record d ∙ s p (omega arith)

-- The first record of a page says Chained where the page is a leader, and nowhere else.
pub first_chained : (ps : List Page) (p : ℕ) → is_leader ps p ≡ true → (first_record ps p).verdict ≡ Chained
first_chained ps p e =
    let l = leader_is ps p e in
    rw e (ap (λ (r : Record). r.verdict) (chained_record ps p p l.above (record { label = l.label; at_p = l.at_q; above = l.above; file = l.file })))

pub first_led : (ps : List Page) (p : ℕ) → (first_record ps p).verdict ≡ Chained → is_leader ps p ≡ true
first_led ps p = go (is_leader ps p)
  where
    go : (b : Bool) → (judged_at p (label_at ps p) b).verdict ≡ Chained → b ≡ true
    go true c = refl
    go false c = absurd (let h = (chained_led ps 0 p c).0 in omega arith)

pub listed_skip : (ps : List Page) (i : ℕ) (ls : List PageAddress) → is_leader ps i ≡ false → Listed ps i ls → Listed ps (i + 1) ls
listed_skip ps i ls e l = let f = l.few in record {
  few = omega arith;
  leaders = l.leaders;
  below = λ k d h. let b = l.below k d h in omega arith;
  rising = l.rising;
  complete = λ q h t. found q h t (cases_eq q i);
}
  where
    found : (q : ℕ) → q < i + 1 → is_leader ps q ≡ true → (q ≡ i) ⊎ (q ≡ i → ⊥) → Any (λ (a : PageAddress). a.page ≡ q) ls
    found q h t (inl u) = not_true (is_leader ps i) e (ap (is_leader ps) (sym u) ∙ t)
    found q h t (inr d) = l.complete q (omega arith) t

pub listed_push : (ps : List Page) (a : PageAddress) (ls : List PageAddress) → is_leader ps a.page ≡ true → Listed ps a.page ls → Listed ps (a.page + 1) (ls ++ a ∷ [])
listed_push ps a ls e l = let f = l.few in record {
  few = let n = length_push ls a in omega arith;
  leaders = All-push (λ b. is_leader ps b.page ≡ true) ls a l.leaders e;
  below = All-push (λ b. b.page < a.page + 1) ls a (λ k d h. let b = l.below k d h in omega arith) (omega arith);
  rising = all_pairs_push (λ b c. b.page < c.page) ls a l.rising l.below;
  complete = λ q h t. found q h t (cases_eq q a.page);
}
  where
    kept : (q : ℕ) → Any (λ (b : PageAddress). b.page ≡ q) ls → Any (λ (b : PageAddress). b.page ≡ q) (ls ++ a ∷ [])
    kept q (k, x, h, e, r) = (k, x, let n = length_push ls a in omega arith, get_or_append_left ls (a ∷ []) x k h ∙ e, r)

    found : (q : ℕ) → q < a.page + 1 → is_leader ps q ≡ true → (q ≡ a.page) ⊎ (q ≡ a.page → ⊥) → Any (λ (b : PageAddress). b.page ≡ q) (ls ++ a ∷ [])
    found q h t (inl u) = Any-push (λ (b : PageAddress). b.page ≡ q) ls a (sym u)
    found q h t (inr d) = kept q (l.complete q (omega arith) t)
