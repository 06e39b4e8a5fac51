-- Words and their bytes.
use Rattle.std.proofs.Common.{◌≡◌, ℕ, zero, suc, ◌+◌, ◌*◌, ◌/◌, ◌%◌, ◌<◌, ◌≤◌, List, [], ◌∷◌, ◌++◌, length, get_or, take, drop, set, sym, refl, ap, ◌∙◌, add-zero, arith}
use Rattle.std.proofs.Math.Seq.{drop-append_seam}
use Rattle.std.proofs.lemmas.List.{append_assoc, set_at, length-take-le, take_more, drop_more, take_all, drop-drop, get_or-drop, get_or_append_left, length-drop, length-append}
use Rattle.image.specs.Bytes.{words_of_bytes, bytes_of_words}

length_words : (bs : List ℕ) → length (words_of_bytes bs) ≡ length bs / 2
length_words [] = refl
length_words (a ∷ []) = refl
length_words (a ∷ b ∷ bs) = omega (arith, length_words bs)

length_bytes : (ws : List ℕ) → length (bytes_of_words ws) ≡ 2 * length ws
length_bytes [] = refl
length_bytes (w ∷ ws) = omega (arith, length_bytes ws)

twice_more : (i : ℕ) → 2 * suc i ≡ suc (suc (2 * i))
twice_more i = omega arith

twice_next : (i : ℕ) → 2 * suc i + 1 ≡ suc (suc (2 * i + 1))
twice_next i = omega arith

word_at : (bs : List ℕ) (i : ℕ) → 2 * i + 1 < length bs → get_or (words_of_bytes bs) i 0 ≡ 256 * get_or bs (2 * i) 0 + get_or bs (2 * i + 1) 0
word_at [] i h = absurd (omega arith)
word_at (a ∷ []) i h = absurd (omega arith)
word_at (a ∷ b ∷ bs) zero h = refl
word_at (a ∷ b ∷ bs) (suc i) h = rw (twice_next i, twice_more i) (word_at bs i (omega arith))

high_at : (ws : List ℕ) (i : ℕ) → get_or (bytes_of_words ws) (2 * i) 0 ≡ get_or ws i 0 / 256
high_at [] i = refl
high_at (w ∷ ws) zero = refl
high_at (w ∷ ws) (suc i) = rw (twice_more i) (high_at ws i)

low_at : (ws : List ℕ) (i : ℕ) → get_or (bytes_of_words ws) (2 * i + 1) 0 ≡ get_or ws i 0 % 256
low_at [] i = refl
low_at (w ∷ ws) zero = refl
low_at (w ∷ ws) (suc i) = rw (twice_next i) (low_at ws i)

-- One more of the new in place of one of the old.
fill : (new old now : List ℕ) (i : ℕ) → now ≡ take i new ++ drop i old → i < length new → i < length old → set now i (get_or new i 0) ≡ take (i + 1) new ++ drop (i + 1) old
fill new old now i e h k =
    let y : ℕ = get_or new i 0 in
    ap (λ z. set z i y) (e ∙ ap (λ z. take i new ++ z) (drop_more old i 0 k))
    ∙ (set_at (take i new) (get_or old i 0) (drop (i + 1) old) y i (length-take-le i new (omega arith))
    ∙ (sym (append_assoc (take i new) (y ∷ []) (drop (i + 1) old)) ∙ ap (λ z. z ++ drop (i + 1) old) (sym (take_more new i 0 h))))

-- One more pair of the bytes, which stand in front of those that are left.
pub pair_next : (bs : List ℕ) (i : ℕ) (pair rest : List ℕ) → drop (2 * i) bs ≡ pair ++ rest → length pair ≡ 2 → (rest ≡ drop (2 * (i + 1)) bs) × (2 * (i + 1) ≤ length bs)
pair_next bs i pair rest e h =
    let t : 2 * (i + 1) ≡ 2 * i + 2 = omega arith in
    let r : drop 2 (pair ++ rest) ≡ rest = ap (λ (k : ℕ). drop k (pair ++ rest)) (sym h) ∙ drop-append_seam pair rest in
    (sym r ∙ (ap (drop 2) (sym e) ∙ (drop-drop 2 (2 * i) bs ∙ ap (λ (k : ℕ). drop k bs) (sym t))), omega (arith, ap length e, length-drop (2 * i) bs, length-append pair rest))

pub word_more : (bs old now : List ℕ) (i x : ℕ) (pair rest : List ℕ) → drop (2 * i) bs ≡ pair ++ rest → length pair ≡ 2 → x ≡ get_or pair 0 0 * 256 + get_or pair 1 0 → now ≡ take i (words_of_bytes bs) ++ drop i old → i < length old → set now i x ≡ take (i + 1) (words_of_bytes bs) ++ drop (i + 1) old
word_more bs old now i x pair rest p l v e k =
    let h = (pair_next bs i pair rest p l).1 in
    let high : get_or bs (2 * i) 0 ≡ get_or pair 0 0 = ap (λ (j : ℕ). get_or bs j 0) (sym (add-zero (2 * i))) ∙ (sym (get_or-drop (2 * i) bs 0 0) ∙ (ap (λ (xs : List ℕ). get_or xs 0 0) p ∙ get_or_append_left pair rest 0 0 (omega arith))) in
    let low : get_or bs (2 * i + 1) 0 ≡ get_or pair 1 0 = sym (get_or-drop (2 * i) bs 1 0) ∙ (ap (λ (xs : List ℕ). get_or xs 1 0) p ∙ get_or_append_left pair rest 0 1 (omega arith)) in
    ap (λ y. set now i y) (omega (arith, word_at bs i (omega arith))) ∙ fill (words_of_bytes bs) old now i e (omega (arith, length_words bs)) k

pub bytes_more : (ws old now : List ℕ) (i high low : ℕ) → high ≡ get_or ws i 0 / 256 → low ≡ get_or ws i 0 % 256 → now ≡ take (2 * i) (bytes_of_words ws) ++ drop (2 * i) old → i < length ws → 2 * i + 1 < length old → set (set now (2 * i) high) (2 * i + 1) low ≡ take (2 * (i + 1)) (bytes_of_words ws) ++ drop (2 * (i + 1)) old
bytes_more ws old now i high low p q e h k =
    let new = bytes_of_words ws in
    let next : List ℕ = set now (2 * i) high in
    let a : next ≡ take (2 * i + 1) new ++ drop (2 * i + 1) old = ap (λ y. set now (2 * i) y) (p ∙ sym (high_at ws i)) ∙ fill new old now (2 * i) e (omega (arith, length_bytes ws)) (omega arith) in
    let b : set next (2 * i + 1) low ≡ take (2 * i + 1 + 1) new ++ drop (2 * i + 1 + 1) old = ap (λ y. set next (2 * i + 1) y) (q ∙ sym (low_at ws i)) ∙ fill new old next (2 * i + 1) a (omega (arith, length_bytes ws)) k in
    let t : 2 * i + 1 + 1 ≡ 2 * (i + 1) = omega arith in
    b ∙ ap (λ j. take j new ++ drop j old) t

pub words_all : (bs old now : List ℕ) (i n : ℕ) → now ≡ take i (words_of_bytes bs) ++ drop i old → i ≡ n → n ≡ length bs / 2 → now ≡ words_of_bytes bs ++ drop n old
words_all bs old now i n e h k = e ∙ (ap (λ j. take j (words_of_bytes bs) ++ drop j old) h ∙ ap (λ z. z ++ drop n old) (take_all n (words_of_bytes bs) (omega (arith, length_words bs))))

pub bytes_all : (ws old now : List ℕ) (i n : ℕ) → now ≡ take (2 * i) (bytes_of_words ws) ++ drop (2 * i) old → i ≡ n → n ≡ length ws → now ≡ bytes_of_words ws ++ drop (2 * n) old
bytes_all ws old now i n e h k = e ∙ (ap (λ j. take (2 * j) (bytes_of_words ws) ++ drop (2 * j) old) h ∙ ap (λ z. z ++ drop (2 * n) old) (take_all (2 * n) (bytes_of_words ws) (omega (arith, length_bytes ws))))

-- There and back.
high_back : (a b : ℕ) → b < 256 → (256 * a + b) / 256 ≡ a
high_back a b h = omega arith

low_back : (a b : ℕ) → b < 256 → (256 * a + b) % 256 ≡ b
low_back a b h = omega arith

whole_back : (w : ℕ) → 256 * (w / 256) + w % 256 ≡ w
whole_back w = omega arith

pub words_back : (ws : List ℕ) → words_of_bytes (bytes_of_words ws) ≡ ws
words_back [] = refl
words_back (w ∷ ws) = ap (λ x. x ∷ words_of_bytes (bytes_of_words ws)) (whole_back w) ∙ ap (λ xs. w ∷ xs) (words_back ws)

pub bytes_back : (bs : List ℕ) → ((i : ℕ) → get_or bs i 0 < 256) → length bs % 2 ≡ 0 → bytes_of_words (words_of_bytes bs) ≡ bs
bytes_back [] h e = refl
bytes_back (a ∷ []) h e = absurd (omega arith)
bytes_back (a ∷ b ∷ bs) h e =
    ap (λ x. x ∷ ((256 * a + b) % 256) ∷ bytes_of_words (words_of_bytes bs)) (high_back a b (h 1))
    ∙ (ap (λ x. a ∷ x ∷ bytes_of_words (words_of_bytes bs)) (low_back a b (h 1)) ∙ ap (λ xs. a ∷ b ∷ xs) (bytes_back bs (λ i. h (suc (suc i))) (omega arith)))
