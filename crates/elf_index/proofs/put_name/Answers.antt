-- The hash put is that of the name. Assumes nothing.
use Rattle.base_lists.specs.Windows.{spliced}
use Rattle.base_fields.specs.Numbers.{encoded}
use Rattle.base_fields.specs.declared.ByteOrder.TheVariants.{Big}
use Rattle.base_index.specs.Index.{hash_place}
use Rattle.base_index.proofs.Hashes.{hash_low}
use Prim.Native.Nat.{ℕ}
use mathlib.Core.Path.{ap, ◌∙◌}
use borrow.Author.Rules.{rules}
use Rattle.elf_index.proofs.put_name.Goals as goal

pub put_hash-requires : goal.put_hash-requires
put_hash-requires c = (search rules, rw c.name_hash.ensures (hash_low _))

pub returns : goal.returns
returns c =
    let a = c.args in
    c.put_hash.ensures ∙ ap (λ (h : ℕ). spliced a.index.now (hash_place a.k) (encoded Big 2 h)) c.name_hash.ensures
