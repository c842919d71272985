-- The byte layout of a record is the list of its fields' widths. Reading and writing follow that one list.
use Rattle.std.specs.Prelude.{ℕ, ◌+◌, List, [], ◌∷◌, ◌++◌}
use Rattle.base_fields.specs.declared.ByteOrder.{ByteOrder}
use Rattle.base_fields.specs.Numbers.{number, encoded}

-- the bytes of a whole record
unfoldable pub width_of : List ℕ → ℕ
width_of [] = 0
width_of (w ∷ ws) = w + width_of ws

-- the fields of the record at o, from the one that begins k bytes in
unfoldable pub fields_from : ByteOrder → List ℕ → List ℕ → ℕ → ℕ → List ℕ
fields_from order [] l o k = []
fields_from order (w ∷ ws) l o k = number order w l (o + k) ∷ fields_from order ws l o (k + w)

-- the fields of the record at o
abbrev pub fields_at : ByteOrder → List ℕ → List ℕ → ℕ → List ℕ
fields_at order ws l o = fields_from order ws l o 0

-- the bytes of a record, from its fields
unfoldable pub record_bytes : ByteOrder → List ℕ → List ℕ → List ℕ
record_bytes order [] vs = []
record_bytes order (w ∷ ws) [] = []
record_bytes order (w ∷ ws) (v ∷ vs) = encoded order w v ++ record_bytes order ws vs
