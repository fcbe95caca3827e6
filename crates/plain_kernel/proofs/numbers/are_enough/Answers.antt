use Rattle.std.proofs.Common.{◌≡◌, ◌+◌, ◌<◌, ◌≤◌, ℕ, ◌==◌, List, take, get_or, ap, ◌∙◌, arith}
use Rattle.std.specs.List.{sum_by}
use Rattle.std.proofs.lemmas.Bool.Decides.{Decides-eqb, Decides-like}
use Rattle.std.proofs.lemmas.List.{take_all}
use Rattle.std.proofs.lemmas.List.Sums.{sum_by_more, sum_by_more_le}
use Rattle.model.specs.Changes.{Edit, news}
use Rattle.plain_kernel.proofs.numbers.are_enough.Goals as goal

too_few : (count all left first new taken : ℕ) → count ≡ all → left + first ≡ count → first + new ≤ all → taken ≡ new → left < taken → ⊥
too_few count all left first new taken whole so_far more is short = omega arith

pub loop-edit-preserved : goal.loop-edit-preserved
loop-edit-preserved c =
    let xs : List Edit = c.args.edits.now in
    let i : ℕ = c.loop-edit.edit-index in
    let more : sum_by news (take (i + 1) xs) ≡ sum_by news (take i xs) + news (get_or xs i c.edit-item.result) = sum_by_more news xs i c.edit-item.result c.loop-edit-test.true in
    let taken : c.news-taken.result ≡ news (get_or xs i c.edit-item.result) = c.news-taken.ensures ∙ ap news c.edit-item.is in
    let so_far : c.loop-edit.left + sum_by news (take i xs) ≡ c.args.count = c.loop-edit.invariant in
    let enough : c.news-taken.result ≤ c.loop-edit.left = c.if-left-taken.false in
    omega (arith, more, taken, so_far, enough)

pub returns-then-left-taken : goal.returns-then-left-taken
returns-then-left-taken c =
    let xs : List Edit = c.args.edits.now in
    let i : ℕ = c.loop-edit.edit-index in
    let more : sum_by news (take i xs) + news (get_or xs i c.edit-item.result) ≤ sum_by news xs = sum_by_more_le news xs i c.edit-item.result c.loop-edit-test.true in
    let taken : c.news-taken.result ≡ news (get_or xs i c.edit-item.result) = c.news-taken.ensures ∙ ap news c.edit-item.is in
    let so_far : c.loop-edit.left + sum_by news (take i xs) ≡ c.args.count = c.loop-edit.invariant in
    let short : c.loop-edit.left < c.news-taken.result = c.if-left-taken.true in
    (λ told. absurd cc, λ whole. absurd (too_few c.args.count (sum_by news xs) c.loop-edit.left (sum_by news (take i xs)) (news (get_or xs i c.edit-item.result)) c.news-taken.result whole so_far more taken short))

pub returns : goal.returns
returns c =
    let xs : List Edit = c.args.edits.now in
    let i : ℕ = c.loop-edit.edit-index in
    let so_far : c.loop-edit.left + sum_by news (take i xs) ≡ c.args.count = c.loop-edit.invariant in
    let all : sum_by news (take i xs) ≡ sum_by news xs = ap (sum_by news) (take_all i xs c.loop-edit-test.false) in
    Decides-like (c.loop-edit.left == 0) (λ (zero : c.loop-edit.left ≡ 0). omega (arith, zero, so_far, all)) (λ (whole : c.args.count ≡ sum_by news xs). omega (arith, whole, so_far, all)) (Decides-eqb c.loop-edit.left 0)
