-- The lines that a draft is made of (document 01, "Draft: 000's lines, each with LF").
use Rattle.std.specs.Prelude.{ℕ, zero, suc, ◌-◌, true, List, [], ◌++◌, length}
use Rattle.base_lists.specs.Ranges.{gather, pick_list}
use Rattle.base_scope.specs.Text.{text}
use Rattle.base_scope.specs.Codes.{code_name}
use Rattle.base_text.specs.Lines.{lined}
use Rattle.base_text.specs.Decimals.{decimal_text}
use Rattle.blocks_lines.specs.Lines.{next}
use Rattle.blocks_lines.specs.Keys.{is_key_line, value_at}

-- `.section .text` and so on
unfoldable pub section_line : ℕ → List ℕ
section_line c = lined (text ".section " ++ code_name c)

unfoldable pub nop_lines : ℕ → List ℕ
nop_lines n = gather (λ i. true) (λ i. lined (text "nop")) n

unfoldable pub space_line : ℕ → List ℕ
space_line n = lined (text ".space " ++ decimal_text n)

unfoldable pub label_line : List ℕ → List ℕ → List ℕ
label_line label suffix = lined (text "glabel " ++ (label ++ suffix))

-- the values of the lines of key k that stand at a, of at most n, each as a line
unfoldable pub lines_from : List ℕ → ℕ → ℕ → ℕ → List ℕ
lines_from B k a zero = []
lines_from B k a (suc n) = pick_list (is_key_line B k a) (lined (value_at B k a) ++ lines_from B k (next B a) n) []

-- of all of them: each line has at least its LF
unfoldable pub group_lines : List ℕ → ℕ → ℕ → List ℕ
group_lines B k a = lines_from B k a (length B - a)
