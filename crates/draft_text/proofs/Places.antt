-- The padding of a line as the table of places has it, and where the end of its section goes. Assumes nothing.
use Prim.Native.Nat.{ℕ, ◌+◌, ◌-◌, ◌<◌}
use mathlib.Core.Path.{◌≡◌, sym, ap, ◌∙◌}
use mathlib.Core.Bool.{true, false}
use mathlib.Core.List.{List}
use native.Mathlib.Omega.{arith}
use lib.ListN.{length, get_or, set, replicate, length-set, length-replicate, get_or-replicate}
use lib.Seq.{get_or-set_same, get_or-set_other}
use lib.Dec.{eqb, ltb}
use borrow.Author.Tests.{lt-ltb, le-ltb, eqb-true, eqb-false}
use Rattle.base_lists.proofs.Ranges.{by-test, by-lt}
use Rattle.base_scope.specs.Codes.{LINES, line_code}
use Rattle.blocks_places.specs.Lines.{line_count, span_size}
use Rattle.blocks_places.specs.Places.{Place, taken, place, end_at}
use Rattle.blocks_places.specs.Table.{place_in, Laid}
use Rattle.blocks_places.proofs.Places.{end_none, end_other, end_moved, end_off}
use Rattle.blocks_places.proofs.Walk.{laid_taken, laid_place}
use Rattle.draft_text.specs.Draft.{gap, pad_text}
use Rattle.draft_text.specs.Pad.{pad_from}

-- a gap is there exactly where the end comes before the place
gap_test : (p e : ℕ) → ltb e p ≡ ltb 0 (p - e)
gap_test p e = by-lt e p
    (λ h. lt-ltb e p h ∙ sym (lt-ltb 0 (p - e) (omega arith)))
    (λ h. le-ltb e p h ∙ sym (le-ltb 0 (p - e) (omega arith)))

module _ (P : List Place) (B table places : List ℕ) (x : Laid P B table places) (j e : ℕ) (h : j < line_count B) (end : e ≡ end_at P B j (line_code j)) where
  pub pad_read : pad_from (place_in places j) (line_code j) e ≡ pad_text P B j
  unfolding pad_from pad_text gap
  pad_read = rw (laid_taken P B table places x j h, laid_place P B table places x j h, end, gap_test (place P j) (end_at P B j (line_code j)))

  -- the end moves behind a span that is taken, and stays otherwise
  pub end_read : (p s : ℕ) → (place_in places j).taken ≡ true → p ≡ (place_in places j).at → s ≡ span_size B j → p + s ≡ end_at P B (j + 1) (line_code j)
  end_read p s t a b =
      rw (a, b, laid_place P B table places x j h) (sym (end_moved P B j (sym (laid_taken P B table places x j h) ∙ t)))

  pub end_kept : (place_in places j).taken ≡ false → e ≡ end_at P B (j + 1) (line_code j)
  end_kept f = end ∙ sym (end_off P B j (line_code j) (sym (laid_taken P B table places x j h) ∙ f))

-- the ends of the sections of all codes (0 is no code) behind the first j lines
pub record SectionEnds (P : List Place) (B : List ℕ) (j : ℕ) (ends : List ℕ) : Type 0 where
  pub many : length ends ≡ LINES + 1
  pub each : (c : ℕ) → c < LINES + 1 → get_or ends c 0 ≡ end_at P B j c

module _ (P : List Place) (B : List ℕ) where
  pub ends_start : SectionEnds P B 0 (replicate 5 0)
  ends_start = record { many = length-replicate {A = ℕ} 5 0; each = λ c l. get_or-replicate {A = ℕ} 5 c 0 0 l ∙ sym (end_none P B c) }

  pub ends_at : (j c : ℕ) (ends : List ℕ) → SectionEnds P B j ends → c ≡ line_code j → get_or ends c 0 ≡ end_at P B j (line_code j)
  ends_at j c ends e is = rw is (e.each (line_code j) (omega arith))

  -- line j moves the end of its own code alone
  pub ends_next : (j c v : ℕ) (ends : List ℕ) → SectionEnds P B j ends → c ≡ line_code j → v ≡ end_at P B (j + 1) (line_code j) → SectionEnds P B (j + 1) (set ends c v)
  ends_next j c v ends e is h = record {
    many = simp length-set e.many;
    each = λ d l. by-test (eqb c d)
        (λ t. let q : c ≡ d = eqb-true c d t in
        rw (← q) (get_or-set_same ends c v 0 (omega (arith, e.many)) ∙ h ∙ ap (end_at P B (j + 1)) (sym is)))
        (λ t. let q : c ≡ d → ⊥ = eqb-false c d t in
        get_or-set_other ends c d v 0 (λ z. q (sym z)) ∙ e.each d l ∙ sym (end_other P B j d (λ z. q (is ∙ z))));
  }
