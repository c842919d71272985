-- Of the code, not of document 01: what is in hand while the merged object is written (crate write_plan: specs/Answer.antt has the answer, specs/Plan.antt the object).
use Rattle.std.specs.Prelude.{ℕ, ◌+◌, ◌≤◌, ◌<◌, ◌≡◌, Bool, true, cond, List, length, get_or}
use Rattle.base_lists.specs.Windows.{spliced}
use Rattle.base_fields.specs.declared.ByteOrder.{ByteOrder}
use Rattle.base_scope.specs.Elf.{SHT_RELA, SHT_REL}
use Rattle.base_answers.specs.Answers.{Answer}
use Rattle.elf_records.specs.declared.section.SectionHeader.{SectionHeader}
use Rattle.elf_readers.specs.Readers.{header, is_strtab}
use Rattle.write_image.specs.Layout.{end_before}
use Rattle.write_object.specs.Object.{Plan, layout_of}
use Rattle.write_planned.specs.of_write_plan.Plan.{merged_object}
use Rattle.write_planned.specs.of_write_plan.Answer.{merged_answer}
use Rattle.write_planned.specs.declared.Writing.{Writing}
use Rattle.write_planned.specs.Held.{held_places, PlanHeld, SpansOver, held_plan}

-- the header of a new section, of a type and a size of its entries
unfoldable pub opened_as : ℕ → ℕ → ℕ → ℕ → ℕ → SectionHeader
opened_as name kind link info entry = record {
  sh_name = name;
  sh_type = kind;
  sh_flags = 0;
  sh_addr = 0;
  sh_offset = 0;
  sh_size = 0;
  sh_link = link;
  sh_info = info;
  sh_addralign = 4;
  sh_entsize = entry;
}

-- with addends or without
unfoldable pub opened_with : ℕ → Bool → ℕ → ℕ → SectionHeader
opened_with name rela link info = opened_as name (cond rela SHT_RELA SHT_REL) link info (cond rela 12 8)

-- where the sections before section i of a plan end
unfoldable pub plan_end : Plan → ℕ → ℕ
plan_end p i = end_before (layout_of p) i

-- all that sections are written by, and that the section names are a string table
pub record MergedReady (C A B path : List ℕ) (x : Writing) (table places steps index : List ℕ) : Type 0 where
  pub held : PlanHeld C A B path x table places steps index
  pub names : is_strtab x.stage.inputs.order C (header x.stage.inputs.order C).e_shstrndx ≡ true

-- section i in hand, and the end of those before it
pub record MergedSection (C A B path : List ℕ) (x : Writing) (table places steps index : List ℕ) (i end : ℕ) : Type 0 where
  pub ready : MergedReady C A B path x table places steps index
  pub below : i < (held_plan C A B path x places).many
  pub from : end ≡ plan_end (held_plan C A B path x places) i

-- the first n sections of a plan measured: how many bytes each holds stands at its index
pub record Sized (p : Plan) (n : ℕ) (sizes : List ℕ) : Type 0 where
  pub long : n ≤ length sizes
  pub each : (i : ℕ) → i < n → get_or sizes i 0 ≡ length (p.content i)

-- a step of a pass over the sections wrote b at `at`, and the next section comes behind r
pub record MergedStep (p : Plan) (i : ℕ) (b : List ℕ) (at r : ℕ) (before after index index_after : List ℕ) : Type 0 where
  pub next : r ≡ plan_end p (i + 1)
  pub bytes : after ≡ spliced before at b
  pub spans : SpansOver index index_after

-- all sections of the plan in hand measured
abbrev pub held_sized : List ℕ → List ℕ → List ℕ → List ℕ → Writing → List ℕ → List ℕ → Type 0
held_sized C A B path x places sizes = Sized (held_plan C A B path x places) (held_plan C A B path x places).many sizes

-- the answer of the plan in hand
abbrev pub held_answer : List ℕ → List ℕ → List ℕ → List ℕ → Writing → List ℕ → ℕ → Answer
held_answer C A B path x places room = merged_answer x.stage.inputs.order C A (held_places B places) B path x.flag x.manner.mode room

abbrev pub held_object : List ℕ → List ℕ → List ℕ → List ℕ → Writing → List ℕ → List ℕ
held_object C A B path x places = merged_object x.stage.inputs.order C A (held_places B places) B path x.flag x.manner.mode
