-- What the steps of a read and a write say to each other.
use Rattle.std.specs.Prelude.{◌≡◌, ℕ, ◌+◌, ◌*◌, ◌<◌, true, List, length}
use Rattle.image.specs.Images.{count, is_shaped}

-- The places of the label, the data and the mark of page p, in words that have the page.
pub record Placed (ws : List ℕ) (p at_label at_words at_mark : ℕ) : Type 0 where
  pub shaped : is_shaped ws ≡ true
  pub inside : p < count ws
  pub long : length ws ≡ 3 + 265 * count ws
  pub label : at_label ≡ 1 + 8 * p
  pub words : at_words ≡ 2 + 8 * count ws + 256 * p
  pub mark : at_mark ≡ 3 + 264 * count ws + p
