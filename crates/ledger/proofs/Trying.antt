-- Calls, cuts, traces and books on a small pack: the proofs.
use Rattle.std.proofs.Common.{◌≡◌, ℕ, Bool, true, false, ◌&&◌, ltb, ◌⊎◌, List, [], ◌∷◌, length, replicate, Err, refl, ap, ◌∙◌, inl, inr}
use Rattle.std.proofs.lemmas.Bool.{and_parts, ltb-true}
use Rattle.disk.specs.Addresses.{page_named, real_address}
use Rattle.disk.specs.Refusals.{hardware}
use Rattle.disk.specs.Media.{Medium, unreadable, Write, Goes}
use Rattle.bits.specs.Bits.{page_bit, taken, freed, free_all, none_free, first_free, round_free}
use Rattle.survey.specs.Chains.{rest, leader_of, rivalled}
use Rattle.survey.specs.Verdicts.{table_of}
use Rattle.ledger.specs.Runs.{Inside}
use Rattle.ledger.specs.Plans.{unready}
use Rattle.ledger.specs.Formats.{format_writes, new_record}
use Rattle.ledger.specs.Mends.{page_after, page_before, mended_label, mend_at, mend_writes, mended_record}
use Rattle.ledger.specs.Ledgers.{Ledger, files, entries}
use Rattle.ledger.specs.Books.{State, a_create, Does, Formatted, Trace, new, more, Entered, opening, created}
use Rattle.ledger.specs.Examples.{one_cylinder, new_state, cut_old, cut_new, with_first, EitherWay, NewExamples, CreateExamples, CallExamples, DirectoryExamples, BookExamples}
use Rattle.ledger.proofs.Running.{through_goes}

-- That writes lie inside a pack, as a test.
abbrev within : List Write → ℕ → Bool
within [] n = true
within (w ∷ ws) n = ltb w.page n && within ws n

inside : (ws : List Write) (m : Medium) → within ws (length m.pages) ≡ true → Inside ws m
inside [] m h = tt
inside (w ∷ ws) m h = let b = and_parts (ltb w.page (length m.pages)) (within ws (length m.pages)) h in (ltb-true w.page (length m.pages) b.0, inside ws m b.1)

-- The drive before its format.
abbrev blank : State
blank = record { medium = record { cylinders = 1; pages = replicate 24 unreadable; on = false; steady = false }; kept = unready (new_record 24) }

formatting : Formatted blank new_state
formatting = (refl, (through_goes (format_writes 24) (one_cylinder (replicate 24 unreadable)) refl (inside (format_writes 24) (one_cylinder (replicate 24 unreadable)) refl), refl))

new_trace : Trace new_state
new_trace = new blank formatting

-- A create that failed at its label.
goes_3 : (w : Write) (m : Medium) → m.on ≡ true → ltb w.page (length m.pages) ≡ true → Goes w m
goes_3 w m on h = record { on = on; inside = ltb-true w.page (length m.pages) h }

does_old : Does (a_create 0 5) new_state (Err (hardware 3)) cut_old
unfolding page_bit freed free_all none_free first_free round_free real_address
does_old = (inr (goes_3 _ _ refl refl, inl (refl, inr (record { goes = goes_3 _ _ refl refl; not_steady = refl; torn = inl refl; is = refl }))), refl)

does_new : Does (a_create 0 5) new_state (Err (hardware 3)) cut_new
unfolding page_bit freed free_all none_free first_free round_free real_address
does_new = (inr (goes_3 _ _ refl refl, inl (refl, inr (record { goes = goes_3 _ _ refl refl; not_steady = refl; torn = inr refl; is = refl }))), refl)

failed_create : (t : State) → Does (a_create 0 5) new_state (Err (hardware 3)) t → EitherWay t (opening 24) with_first
unfolding new_trace
failed_create t d = record {
  trace = more new_trace (a_create 0 5) (Err (hardware 3)) d;
  one = (opening 24, (refl, inl refl));
  other = (opening 24, (refl, inr (refl, refl)));
  only = λ x b. entered x b.0 b.1.0 b.1.1;
}
  where
    entered : (x a : Ledger) → a ≡ opening 24 → Entered (a_create 0 5) (Err (hardware 3)) a x → (x ≡ opening 24) ⊎ (x ≡ with_first)
    entered x a e (inl h) = inl (h ∙ e)
    entered x a e (inr h) = inr (h.1 ∙ ap (created 0 5 3) e)

new_examples : NewExamples
unfolding new_trace files entries rest page_named real_address leader_of rivalled table_of page_after page_before mended_label mend_at mend_writes mended_record
new_examples = record {
  sure = record { trace = new_trace; book = refl; only = λ x b. b };
  ledger = refl;
  no_writes = refl;
  totals = refl;
  kept = refl;
  step = refl;
}

directory_examples : DirectoryExamples
unfolding entries rest page_named real_address
directory_examples = record {
  new = refl;
  empty = refl;
  a_file = refl;
  no_size = refl;
  past_the_end = refl;
  type_3 = refl;
  small_for_its_name = refl;
  no_name = refl;
  too_small = refl;
  odd_count = refl;
  even_count = refl;
  unread = refl;
  unled = refl;
}

create_examples : CreateExamples
unfolding files entries rest page_named real_address leader_of rivalled table_of page_after page_before mended_label mend_at mend_writes mended_record page_bit freed free_all none_free first_free round_free
create_examples = record {
  writes = refl;
  answer = refl;
  highest = refl;
  old = failed_create cut_old does_old;
  new = failed_create cut_new does_new;
  old_files = refl;
  old_entries = refl;
  new_files = refl;
  new_entries = refl;
  old_mended = refl;
  new_mended = refl;
}

call_examples : CallExamples
unfolding files entries rest page_named real_address leader_of rivalled table_of page_after page_before mended_label mend_at mend_writes mended_record page_bit taken freed free_all none_free first_free round_free
call_examples = record {
  steps = refl;
  nothing_to_mend = refl;
  append = refl;
  append_spoilt = refl;
  append_more = refl;
  replace = refl;
  truncate = refl;
  delete = refl;
  highest_then = refl;
}

pub book_examples : BookExamples
book_examples = record { new = new_examples; create = create_examples; calls = call_examples; directory = directory_examples }
