-- The written object as one list of bytes: the file header, the sections that have a place with zeros before them where they are aligned, zeros up to the section headers, and
-- these.
use Rattle.std.specs.Prelude.{ℕ, ◌-◌, ◌≡◌, true, List, ◌++◌, length}
use Rattle.base_lists.specs.Ranges.{gather}
use Rattle.base_buffers.specs.Buffers.{zeros}
use Rattle.write_image.specs.Layout.{Layout, HEADER_END, HEADING_SIZE, end_before, start_of, headings_at}

-- front: the file header; content and heading: the bytes of section i, and of its header
module _ (l : Layout) (front : List ℕ) (content heading : ℕ → List ℕ) where
  unfoldable pub piece_of : ℕ → List ℕ
  piece_of i = zeros (start_of l i - end_before l i) ++ content i

  unfoldable pub image : List ℕ
  image = (front ++ gather l.placed piece_of l.many) ++ (zeros (headings_at l - end_before l l.many) ++ gather (λ i. true) heading l.many)

-- its parts have the lengths that the layout says
pub record Fits (l : Layout) (front : List ℕ) (content heading : ℕ → List ℕ) : Type 0 where
  pub front_long : length front ≡ HEADER_END
  pub content_long : (i : ℕ) → l.placed i ≡ true → length (content i) ≡ l.size i
  pub heading_long : (i : ℕ) → length (heading i) ≡ HEADING_SIZE
