use Rattle.std.proofs.Common.{◌≡◌, ◌-◌, ℕ, List, ◌++◌, length, take, drop, sym, ap, ◌∙◌}
use Rattle.objects.proofs.Laws.{drop_append, take_append}
use Rattle.pipe_shadow.specs.View.{PipeChanges, view_over}
use Rattle.pipe_shadow.proofs.PipeShadow.read.Goals as goal

pub returns : goal.returns
returns c =
    let taken : ℕ = c.self.inside.taken in
    let xs : List ℕ = c.args.pipe.now in
    let front : List ℕ = drop taken xs in
    let own : List ℕ = c.self.inside.appended.items in
    let read : c.in_ok-stored.stored ≡ take c.args.count front = c.in_ok-stored.ensures in
    let len : length c.as_slice.result.now ≡ length (take c.args.count front) = ap length (c.as_slice.ensures ∙ read) in
    let behind : c.saturating_sub-own.result ≡ taken - length xs = c.saturating_sub-own.ensures ∙ ap (λ n. taken - n) c.len.ensures.value in
    let rest : c.part.result.now ≡ take (c.args.count - length (take c.args.count front)) (drop (taken - length xs) own) =
    c.part.ensures.value ∙ ap (λ (b : List ℕ). take (c.args.count - length c.as_slice.result.now) (drop c.saturating_sub-own.result b)) c.as_slice-2.ensures.value
    ∙ ap (λ n. take (c.args.count - n) (drop c.saturating_sub-own.result own)) len ∙ ap (λ n. take (c.args.count - length (take c.args.count front)) (drop n own)) behind in
    c.in_ok-followed_by.ensures ∙ ap (λ (b : List ℕ). b ++ c.part.result.now) read ∙ ap (λ (b : List ℕ). take c.args.count front ++ b) rest
    ∙ sym (take_append c.args.count front (drop (taken - length xs) own))
    ∙ ap (take c.args.count) (sym (drop_append taken xs own))
    ∙ ap (λ (d : PipeChanges). take c.args.count (view_over d xs)) c.self.view_is
