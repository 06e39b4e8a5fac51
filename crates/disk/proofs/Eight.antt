-- Eight words and the label that they are.
use Rattle.std.proofs.Common.{◌≡◌, ℕ, List, [], ◌∷◌, length, refl, arith}
use Rattle.disk.specs.Labels.{words_of, label_of}

pub eight_back : (ws : List ℕ) → length ws ≡ 8 → words_of (label_of ws) ≡ ws
eight_back [] h = absurd (omega arith)
eight_back (a ∷ []) h = absurd (omega arith)
eight_back (a ∷ b ∷ []) h = absurd (omega arith)
eight_back (a ∷ b ∷ c ∷ []) h = absurd (omega arith)
eight_back (a ∷ b ∷ c ∷ d ∷ []) h = absurd (omega arith)
eight_back (a ∷ b ∷ c ∷ d ∷ e ∷ []) h = absurd (omega arith)
eight_back (a ∷ b ∷ c ∷ d ∷ e ∷ f ∷ []) h = absurd (omega arith)
eight_back (a ∷ b ∷ c ∷ d ∷ e ∷ f ∷ g ∷ []) h = absurd (omega arith)
eight_back (a ∷ b ∷ c ∷ d ∷ e ∷ f ∷ g ∷ i ∷ []) h = refl
eight_back (a ∷ b ∷ c ∷ d ∷ e ∷ f ∷ g ∷ i ∷ j ∷ ws) h = absurd (omega arith)
