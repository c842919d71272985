-- The two words that are written are the bytes of the row. Assumes nothing.
use Rattle.base_scope.specs.Limits.{ID_ROW}
use Rattle.symbols_rows.specs.Rows.{id_row_bytes}
use Rattle.base_lists.specs.Records.{flat}
use Rattle.base_lists.specs.Windows.{spliced}
use Rattle.base_fields.specs.declared.ByteOrder.TheVariants.{Big}
use Rattle.base_fields.specs.Numbers.{encoded}
use Prim.Native.Nat.{ℕ, ◌*◌}
use mathlib.Core.Path.{ap, ◌∙◌}
use mathlib.Core.List.{[], ◌∷◌}
use Rattle.symbols_rows.proofs.write_id.Goals as goal

pub returns : goal.returns
unfolding id_row_bytes
returns c =
    let a = c.args in
    c.write_words.ensures
    ∙ ap (λ (k : ℕ). spliced a.rows.now (ID_ROW * a.i) (flat (encoded Big 4) (k ∷ a.row.value ∷ []))) c.kind_word.ensures
