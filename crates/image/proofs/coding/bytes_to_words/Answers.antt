use Rattle.std.proofs.Common.{◌≡◌, ℕ, ◌*◌, ◌<◌, ◌++◌, length, get_or, take, drop, set, sym, ap, ◌∙◌, arith, length-drop}
use Rattle.std.specs.Iterator.Adapters.{enumerate_source, enumerate_count}
use Rattle.std.specs.Slice.Iter.{chunks_exact_rest}
use Rattle.image.specs.Bytes.{words_of_bytes}
use Rattle.image.proofs.Pairs.{pair_next, word_more, words_all, bytes_back}
use Rattle.image.proofs.coding.bytes_to_words.Goals as goal

pub returns-then-words-n-clause-inverse : goal.returns-then-words-n-clause-inverse
returns-then-words-n-clause-inverse c =
    let small : (i : ℕ) → get_or c.args.bytes.now i 0 < 256 = λ i. omega (arith, c.type_inv.bytes i) in
    bytes_back c.args.bytes.now small

pub loop-i-preserved : goal.loop-i-preserved
loop-i-preserved c =
    let bs = c.args.bytes.now in
    let old = c.args.words.now in
    let l = c.loop-i.invariant in
    let i = enumerate_count c.loop-i.i-iterator in
    let pair = c.in-Some.pair.now in
    let rest = chunks_exact_rest (enumerate_source c.next.new.self) in
    let s = c.in-Some.ensures.steps in
    let two : length pair ≡ 2 = s.0.1.1 ∙ l.size in
    let front : drop (2 * i) bs ≡ pair ++ rest = sym l.rest ∙ s.0.1.0 in
    let n = pair_next bs i pair rest front two in
    record {
      size = s.0.0 ∙ l.size;
      rest = n.0 ∙ ap (λ k. drop (2 * k) bs) (sym s.2);
      inside = omega (arith, n.1, s.2);
      words = ap (λ k. set c.loop-i.words k c.from_be_bytes.result) s.1
          ∙ (word_more bs old c.loop-i.words i c.from_be_bytes.result pair rest front two c.from_be_bytes.ensures l.words (omega (arith, n.1))
          ∙ ap (λ k. take k (words_of_bytes bs) ++ drop k old) (sym s.2));
    }

pub returns-clause-words : goal.returns-clause-words
returns-clause-words c =
    let bs = c.args.bytes.now in
    let l = c.loop-i.invariant in
    words_all bs c.args.words.now c.loop-i.words (enumerate_count c.loop-i.i-iterator) _ l.words (omega (arith, l.size, ap length l.rest, length-drop (2 * enumerate_count c.loop-i.i-iterator) bs, c.in-None.ensures.steps.0.1.0)) (omega arith)

pub returns-clause-inverse : goal.returns-clause-inverse
returns-clause-inverse c =
    let small : (i : ℕ) → get_or c.args.bytes.now i 0 < 256 = λ i. omega (arith, c.type_inv.bytes i) in
    bytes_back c.args.bytes.now small
