-- A RELA is a table; any other section is one where its type is REL. Assumes nothing.
use Rattle.elf_relocations.proofs.Relocations.{table_kind_rela, table_kind}
use Rattle.elf_relocations.proofs.is_table.Goals as goal

pub returns-then-kind-eq-SHT_RELA : goal.returns-then-kind-eq-SHT_RELA
returns-then-kind-eq-SHT_RELA c =
    let a = c.args in
    table_kind_rela a.order a.file.now a.i _ c.type_of-kind.ensures c.if-kind-eq-SHT_RELA.true

pub returns : goal.returns
returns c =
    let a = c.args in
    table_kind a.order a.file.now a.i _ c.type_of-kind.ensures c.if-kind-eq-SHT_RELA.false
