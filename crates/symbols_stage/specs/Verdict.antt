-- Refusals 15 to 19 of a merge, behind its late step (document 01, "Order"): 15 and 16 of A's symbols; 17 of C's statics in a mode, which puts `head` bytes in front of a name;
-- 18 and 19 of the list.
use Rattle.std.specs.Prelude.{ℕ, List}
use Rattle.base_fields.specs.declared.ByteOrder.{ByteOrder}
use Rattle.base_scope.specs.Refusals.{STATICS}
use Rattle.base_answers.specs.Answers.{COMPILED}
use Rattle.base_answers.specs.Verdicts.{Verdict, also, finding_verdict}
use Rattle.blocks_places.specs.Places.{Place}
use Rattle.statics_walk.specs.Walk.{statics_fault}
use Rattle.symbols_merge.specs.Listed.{symbols_verdict}
use Rattle.symbols_table.specs.of_symbols_taken.Taken.{taken_verdict}
use Rattle.symbols_table.specs.of_symbols_ids.Ids.{merge_candidates}

module _ (o : ByteOrder) (C A : List ℕ) (P : List Place) (B : List ℕ) (mode head : ℕ) where
  unfoldable pub list_verdict : Verdict
  list_verdict = also (finding_verdict STATICS COMPILED (statics_fault o C mode head)) (symbols_verdict (merge_candidates o C A P B mode head))

  unfoldable pub symbol_stages_verdict : Verdict
  symbol_stages_verdict = also (taken_verdict o C A P B) list_verdict
