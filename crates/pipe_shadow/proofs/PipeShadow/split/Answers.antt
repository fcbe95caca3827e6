use Rattle.std.proofs.Common.{◌≡◌, ◌-◌, ℕ, List, ◌++◌, length, min, take, drop, sym, ap, ap₂, ◌∙◌, arith, length-drop}
use Rattle.std.proofs.lemmas.List.{drop_min, take_all}
use Rattle.objects.proofs.Laws.{drop_append}
use Rattle.pipe_shadow.specs.View.{PipeChanges, view_over}
use Rattle.pipe_shadow.proofs.PipeShadow.split.Goals as goal

pub returns-clause-view : goal.returns-clause-view
returns-clause-view c = λ xs len.
    let taken : ℕ = c.self.inside.taken in
    let own : List ℕ = c.self.inside.appended.items in
    let stable : c.min-stable.result ≡ min taken (length xs) = c.min-stable.ensures ∙ ap (min taken) (sym len) in
    let front : drop c.min-stable.result xs ≡ drop taken xs = ap (λ n. drop n xs) stable ∙ drop_min taken xs in
    let behind : taken - c.min-stable.result ≡ taken - length xs = omega (arith, stable) in
    let left : c.part-left.result.now ≡ drop (taken - c.min-stable.result) own =
    c.part-left.ensures.value ∙ ap (λ b. take (length c.as_slice-appended.result.now) (drop (taken - c.min-stable.result) b)) c.as_slice-appended.ensures.value
    ∙ take_all (length c.as_slice-appended.result.now) (drop (taken - c.min-stable.result) own) (let same : length (drop (taken - c.min-stable.result) own) ≡ length own - (taken - c.min-stable.result) = length-drop (taken - c.min-stable.result) own in let all : length c.as_slice-appended.result.now ≡ length own = ap length c.as_slice-appended.ensures.value in omega arith) in
    ap₂ (λ a b. a ++ b) front (left ∙ ap (λ n. drop n own) behind)
    ∙ sym (drop_append taken xs own)
    ∙ ap (λ (d : PipeChanges). view_over d xs) c.self.view_is
