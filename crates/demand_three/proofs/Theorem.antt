-- Demand 3 of every accepted merge: no reference is lost, doubled or redirected. Assumes nothing.
use Prim.Native.Nat.{ℕ}
use mathlib.Core.Path.{◌≡◌, sym, ap, ◌∙◌, subst}
use mathlib.Core.Bool.{true, false}
use mathlib.Core.List.{List}
use native.Mathlib.Omega.{arith}
use lib.ListN.{length}
use Rattle.base_lists.proofs.Ranges.{by-test}
use Rattle.base_fields.specs.declared.ByteOrder.{ByteOrder}
use Rattle.base_packed.specs.Packed.{symbol_of, kind_of}
use Rattle.base_packed.proofs.Packed.{symbol_join}
use Rattle.base_answers.specs.Answers.{accepted}
use Rattle.elf_records.specs.declared.relocation.RelocationEntry.{RelocationEntry}
use Rattle.elf_readers.specs.Readers.{order_of}
use Rattle.elf_relocations.specs.Relocations.{relocation}
use Rattle.blocks_places.specs.Places.{Place, places_of}
use Rattle.statics_table.specs.Statics.{name_head}
use Rattle.demand_bytes.specs.of_carry_entries.Entries.{Carrying, new_number, entry_symbol, carried_entry}
use Rattle.demand_bytes.specs.of_carry_entries.Carried.{carrying_c, carrying_a}
use Rattle.demand_bytes.specs.of_merge_verdict.Verdict.{merge_verdict, MergePassed}
use Rattle.demand_bytes.proofs.of_merge_verdict.Accepted.{merge_accepted}
use Rattle.demand_bytes.specs.of_demand_clauses.Reading.{Reference, reference_at, referred_symbol, all_entries, Bytes}
use Rattle.demand_bytes.specs.of_demand_clauses.TakenOver.{origins, is_compiled}
use Rattle.demand_bytes.specs.of_demand_clauses.Demand.{Leads, Same, DemandThree}
use Rattle.demand_reads.proofs.Accepted.{reads}
use Rattle.demand_reads.proofs.of_demand_symbols.Symbols.{symbols_kept}
use Rattle.demand_reads.proofs.of_demand_symbols.Leads.{leads_c, leads_a}
use Rattle.demand_bytes.proofs.of_demand_clauses.Owed.{owed_compiled, owed_assembled}
use Rattle.demand_order.proofs.Once.{owed_once}
use Rattle.demand_order.proofs.Goals.{kept_c, kept_a}
use Rattle.demand_order.proofs.Lost.{none_lost_c, none_lost_a}
use Rattle.demand_order.proofs.Pairs.{Paired, many_found, paired}
use Rattle.demand_order.proofs.Same.{type_kept, link_kept, target_kept, kind_kept, addend_kept, moved_kept, place_kept}
use Rattle.demand_words.proofs.Kept.{word_kept}
use Rattle.demand_bytes.proofs.Bytes.{bytes_kept}

-- the symbol that a carried entry names is the number that its own became
carried_symbol : (o : ByteOrder) (F : List ℕ) (w : Carrying) (t k : ℕ) → symbol_of (carried_entry o F w t k).r_info ≡ new_number (entry_symbol o F w t k)
unfolding carried_entry
carried_symbol o F w t k = symbol_join (new_number (entry_symbol o F w t k)) (kind_of (relocation o F t k).r_info) (omega arith)

module _ (C A B path : List ℕ) (flag mode : ℕ) (O : List ℕ) (p : MergePassed C A B path flag mode O) (compiled : Bytes C) (assembled : Bytes A) where
  abbrev o : ByteOrder
  o = order_of C

  abbrev P : List Place
  P = places_of (order_of C) C B

  abbrev w_c : Carrying
  w_c = carrying_c (order_of C) C A (places_of (order_of C) C B) B mode (length (name_head mode path))

  abbrev w_a : Carrying
  w_a = carrying_a (order_of C) C A (places_of (order_of C) C B) B mode (length (name_head mode path))

  module _ (r : Reference) (t k : ℕ) (q : Paired o C A P B path flag mode O r t k) where
    -- ---- its symbol: 20 says that it is in the result

    symbol_c : is_compiled o C A P B r ≡ true → Leads o C A P B path flag mode O r (referred_symbol o O t k)
    unfolding referred_symbol entry_symbol
    symbol_c y =
        let w = owed_compiled o C A P B r q.owed y in
        let here = (none_lost_c C A B path flag mode O p compiled r.table r.entry w.below w.table w.entry
        (sym (kept_c o C A P B mode (length (name_head mode path)) r.table r.entry) ∙ w.stays)).1 in
        let e : symbol_of (relocation o O t k).r_info ≡ new_number (entry_symbol o C w_c r.table r.entry)
        = ap (λ (x : RelocationEntry). symbol_of x.r_info) (q.compiled y).1 ∙ carried_symbol o C w_c r.table r.entry in
        subst (Leads o C A P B path flag mode O r) (sym e) (leads_c C A B path flag mode O p r y here)

    symbol_a : is_compiled o C A P B r ≡ false → Leads o C A P B path flag mode O r (referred_symbol o O t k)
    unfolding referred_symbol entry_symbol
    symbol_a f =
        let w = owed_assembled o C A P B r q.owed f in
        let here = (none_lost_a C A B path flag mode O p assembled r.table r.entry w.below w.table w.entry
        (kept_a o C A P B mode (length (name_head mode path)) r.table r.entry)).1 in
        let e : symbol_of (relocation o O t k).r_info ≡ new_number (entry_symbol o A w_a r.table r.entry)
        = ap (λ (x : RelocationEntry). symbol_of x.r_info) (q.assembled f).4 ∙ carried_symbol o A w_a r.table r.entry in
        subst (Leads o C A P B path flag mode O r) (sym e) (leads_a C A B path flag mode O p r f here)

    -- ---- a reference that is paired with an entry of the result is that entry

    same_kept : Same o C A P B path flag mode O r t k
    same_kept =
        let moved = moved_kept C A B path flag mode O p r t k q assembled in
        record {
          type = type_kept C A B path flag mode O p r t k q;
          link = link_kept C A B path flag mode O p r t k q;
          target = target_kept C A B path flag mode O p r t k q;
          moved = moved;
          place = place_kept C A B path flag mode O p r t k q assembled;
          kind = kind_kept C A B path flag mode O p r t k q;
          addend = addend_kept C A B path flag mode O p r t k q;
          word = λ room keeps. word_kept C A B path flag mode O p r q.owed moved room keeps;
          leads = by-test (is_compiled o C A P B r) symbol_c symbol_a;
        }

  pub passed_keeps : DemandThree C A B path flag mode O
  unfolding DemandThree
  passed_keeps = record {
    reads = reads C A B path flag mode O p;
    symbols = symbols_kept C A B path flag mode O p;
    once = owed_once o C A P B flag;
    many = many_found C A B path flag mode O p;
    same = λ j h. same_kept (reference_at (origins o C A P B flag) j) (reference_at (all_entries o O) j).table (reference_at (all_entries o O) j).entry
        (paired C A B path flag mode O p j h);
    bytes = bytes_kept C A B path flag mode O p;
  }

-- the theorem
pub no_reference_lost : (C A B path : List ℕ) (flag mode room table places steps index : ℕ) (O : List ℕ) → Bytes C → Bytes A
    → merge_verdict C A B path flag mode room table places steps index ≡ accepted O → DemandThree C A B path flag mode O
no_reference_lost C A B path flag mode room table places steps index O compiled assembled e =
    passed_keeps C A B path flag mode O (merge_accepted C A B path flag mode room table places steps index O e) compiled assembled
