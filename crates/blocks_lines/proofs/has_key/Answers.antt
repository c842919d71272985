-- `blocks_lines::has_key` meets its contract: each arm of the match is a row of the table, and the call tests its name. Assumes nothing.
use Rattle.blocks_lines.specs.Keys.{key_name, keys}
use Rattle.base_scope.specs.Text.{text}
use Rattle.base_lists.specs.Strings.{prefixed}
use Rattle.blocks_lines.proofs.Keys.{past_four, last_key}
use Prim.Native.Nat.{ℕ}
use mathlib.Core.Path.{◌≡◌, sym, ap, ◌∙◌}
use Rattle.blocks_lines.proofs.has_key.Goals as goal

pub returns-in-0 : goal.returns-in-0
unfolding key_name keys text
returns-in-0 c =
    let e : c.args.k ≡ 0 = c.in-0.is in
    c.has_prefix.ensures ∙ ap (λ (j : ℕ). prefixed (key_name j) c.args.line.now) (sym e)

pub returns-in-1 : goal.returns-in-1
unfolding key_name keys text
returns-in-1 c =
    let e : c.args.k ≡ 1 = c.in-1.is in
    c.has_prefix-in-1.ensures ∙ ap (λ (j : ℕ). prefixed (key_name j) c.args.line.now) (sym e)

pub returns-in-2 : goal.returns-in-2
unfolding key_name keys text
returns-in-2 c =
    let e : c.args.k ≡ 2 = c.in-2.is in
    c.has_prefix-in-2.ensures ∙ ap (λ (j : ℕ). prefixed (key_name j) c.args.line.now) (sym e)

pub returns-in-3 : goal.returns-in-3
unfolding key_name keys text
returns-in-3 c =
    let e : c.args.k ≡ 3 = c.in-3.is in
    c.has_prefix-in-3.ensures ∙ ap (λ (j : ℕ). prefixed (key_name j) c.args.line.now) (sym e)

pub returns-in-4 : goal.returns-in-4
unfolding key_name keys text
returns-in-4 c =
    let e : c.args.k ≡ 4 = c.in-4.is in
    c.has_prefix-in-4.ensures ∙ ap (λ (j : ℕ). prefixed (key_name j) c.args.line.now) (sym e)

pub returns-in-5 : goal.returns-in-5
unfolding key_name keys text
returns-in-5 c =
    let e : c.args.k ≡ 5 = c.in-5.is in
    c.has_prefix-in-5.ensures ∙ ap (λ (j : ℕ). prefixed (key_name j) c.args.line.now) (sym e)

pub returns-in-6 : goal.returns-in-6
unfolding key_name keys text
returns-in-6 c =
    let e : c.args.k ≡ 6 = c.in-6.is in
    c.has_prefix-in-6.ensures ∙ ap (λ (j : ℕ). prefixed (key_name j) c.args.line.now) (sym e)

pub returns-in-7 : goal.returns-in-7
unfolding key_name keys text
returns-in-7 c =
    let e : c.args.k ≡ 7 = c.in-7.is in
    c.has_prefix-in-7.ensures ∙ ap (λ (j : ℕ). prefixed (key_name j) c.args.line.now) (sym e)

pub returns-in-8 : goal.returns-in-8
unfolding key_name keys text
returns-in-8 c =
    let e : c.args.k ≡ 8 = c.in-8.is in
    c.has_prefix-in-8.ensures ∙ ap (λ (j : ℕ). prefixed (key_name j) c.args.line.now) (sym e)

pub returns-in-9 : goal.returns-in-9
unfolding key_name keys text
returns-in-9 c =
    let e : c.args.k ≡ 9 = c.in-9.is in
    c.has_prefix-in-9.ensures ∙ ap (λ (j : ℕ). prefixed (key_name j) c.args.line.now) (sym e)

pub returns-in_default : goal.returns-in_default
unfolding key_name keys text
returns-in_default c =
    let r = c.in_default.in_default-own.rest in
    let k = c.args.k in
    let q = r.0.0.0.0.0 in
    let l = past_four k q.0.0.0.0.1 q.0.0.0.1 q.0.0.1 q.0.1 q.1 in
    let e : k ≡ 10 = last_key k c.requires l r.0.0.0.0.1 r.0.0.0.1 r.0.0.1 r.0.1 r.1 in
    c.has_prefix-in_default.ensures ∙ ap (λ (j : ℕ). prefixed (key_name j) c.args.line.now) (sym e)
