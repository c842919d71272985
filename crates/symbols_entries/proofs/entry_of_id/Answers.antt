-- The entry by its origin, finished by the flag of its name. Assumes nothing.
use Rattle.symbols_entries.proofs.Entries.{finished_read}
use Rattle.symbols_names.specs.declared.NameKind.{NameKind}
use Rattle.symbols_names.specs.Names.{kind_of}
use mathlib.Core.Path.{ap}
use Rattle.symbols_entries.proofs.entry_of_id.Goals as goal

pub name_kind-kind-requires : goal.name_kind-kind-requires
name_kind-kind-requires c =
    let q = c.requires in
    (q.0.names, q.1)

pub returns : goal.returns
unfolding kind_of
returns c = finished_read _ _ _ _ _ (ap (λ (k : NameKind). k.gp_disp) c.name_kind-kind.ensures) c.origin_entry-e.ensures c.finish.ensures
