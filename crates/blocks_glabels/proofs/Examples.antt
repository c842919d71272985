-- Two blocks with the glabel g first, of which the second is switched off by an absent label behind its span in .text, by computing the definitions. Assumes nothing.
use Prim.Native.Nat.{ℕ}
use mathlib.Core.Path.{◌≡◌, refl}
use mathlib.Core.Bool.{true, false}
use mathlib.Core.List.{List, [], ◌∷◌}
use Rattle.base_scope.specs.Text.{text}
use Rattle.blocks_places.specs.Places.{Place, nowhere}
use Rattle.blocks_glabels.specs.Glabels.{glabel_count, glabel, is_glabel_at, is_glabel, gives_size, past_sized, glabel_size}
use Rattle.blocks_glabels.proofs.Everything.{everything}

abbrev file : List ℕ
file = text "desc=\ntext=a 4 0\ndata=\nrodata=\nbss=\nglabel=g\njtbl=0\nend=\ndesc=\ntext=b 8 0\ndata=gone 4 0\nrodata=\nbss=\nglabel=g\nglabel=h\njtbl=0\nend=\n"

abbrev taken : ℕ → Place
taken place = record { taken = true; at = place }

abbrev places : List Place
places = taken 0 ∷ nowhere ∷ nowhere ∷ nowhere ∷ taken 4 ∷ nowhere ∷ nowhere ∷ nowhere ∷ []

-- g is a glabel, since the first block stays on; its size is that of the second block, though that one is switched off
pub live_glabel : is_glabel places file (text "g") ≡ true
unfolding everything is_glabel is_glabel_at glabel_count glabel
live_glabel = refl

pub last_size : glabel_size places file (text "g") 0 ≡ 8
unfolding everything glabel_size past_sized gives_size glabel
last_size = refl

-- h is none, since the block that has it is switched off, and has no size, since it is not the first
pub off_glabel : is_glabel places file (text "h") ≡ false
unfolding everything is_glabel is_glabel_at glabel_count glabel
off_glabel = refl

pub own_size : glabel_size places file (text "h") 3 ≡ 3
unfolding everything glabel_size past_sized gives_size glabel
own_size = refl
