-- The two words of the row; the first holds three bits, the binding and the section. Assumes nothing.
use Rattle.symbols_rows.specs.Rows.{id_row, id_taken, id_unnamed, id_gp_disp, id_binding, id_kind, id_section, id_value}
use lib.Dec.{eqb}
use Prim.Native.Nat.{◌/◌, ◌%◌}
use Rattle.symbols_rows.proofs.id_at.Goals as goal

pub returns : goal.returns
unfolding id_row id_taken id_unnamed id_gp_disp id_binding id_kind id_section id_value
returns c =
    let k = c.read32-kind.ensures in
    λ j. record {
      taken = eqb (k j % 2) 1;
      unnamed = eqb (k j / 2 % 2) 1;
      gp_disp = eqb (k j / 4 % 2) 1;
      binding = k j / 8 % 16;
      section = k j / 128;
      value = c.read32.ensures j;
    }
