-- Of the code, not of document 01: what is in hand of the path.
use Rattle.std.specs.Prelude.{ℕ, ◌≤◌, List, ◌≡◌, length}
use Rattle.base_scope.specs.Limits.{PATH_LIMIT, HEAD_LIMIT}
use Rattle.statics_table.specs.Statics.{name_head}
use Rattle.merge_verdict.specs.of_symbols_stage.declared.Manner.{Manner}

-- it is short, and the mode puts `head` bytes of it in front of a static's name
pub record PathHeld (path : List ℕ) (w : Manner) : Type 0 where
  pub short : length path ≤ PATH_LIMIT
  pub head : w.head ≡ length (name_head w.mode path)
  pub few : w.head ≤ HEAD_LIMIT
